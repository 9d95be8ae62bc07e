-- The parts of a list, gone through one by one.
use Rattle.std.proofs.Common.{◌≡◌, ℕ, ◌+◌, ◌<◌, ◌≤◌, true, false, nat_lt, ◌||◌, List, [], ◌∷◌, ◌++◌, length, drop, get_or, Option, Some, None, refl, sym, ap, ◌∙◌, arith, add-one, append_assoc, append-nil}
use Rattle.std.specs.Option.{option_map}
use Rattle.std.specs.FinMap.{get}
use Rattle.std.proofs.lemmas.List.{drop_all, length-drop}
use Rattle.std.proofs.Math.Seq.{drop-cons}
use Rattle.gate_base.specs.Maps.{Numbers}
use Rattle.s3_machine.specs.declared.items.PartItem.{PartItem}
use Rattle.s3_machine.specs.declared.operation.Listed.{Listed}
use Rattle.upload_texts.specs.declared.sealed.SealedPart.{SealedPart}
use Rattle.plan_uploads.specs.Completing.{has_small_chosen_part, listed_part, listed_parts, size_of_chosen_part}

-- what stands before the parts that are left
abbrev pub behind : List SealedPart → Option (List SealedPart) → Option (List SealedPart)
behind chosen rest = option_map (λ ps. chosen ++ ps) rest

abbrev pub part_with : Listed → ℕ → SealedPart
part_with l size = record { number = l.number; etag = l.etag; size = size }

-- so far these are chosen
abbrev pub Chosen : Numbers PartItem → List Listed → ℕ → List SealedPart → Type 0
Chosen parts list i chosen = listed_parts parts list ≡ behind chosen (listed_parts parts (drop i list))

pub chosen_none : (parts : Numbers PartItem) (list : List Listed) (chosen : List SealedPart) → chosen ≡ [] → Chosen parts list 0 chosen
chosen_none parts list chosen none = sym (ap (λ c. behind c (listed_parts parts list)) none ∙ by (listed_parts parts list))
  where
    by : (rest : Option (List SealedPart)) → behind [] rest ≡ rest
    by None = refl
    by (Some ps) = refl

module _ (parts : Numbers PartItem) (list : List Listed) (i : ℕ) (l : Listed) (below : i < length list) (is : l ≡ get_or list i l) where
  next : drop i list ≡ l ∷ drop (i + 1) list
  next = drop-cons list i l below ∙ (λ k. sym is k ∷ drop (sym (add-one i) k) list)

  left : listed_parts parts (drop i list) ≡ listed_part (size_of_chosen_part (get parts l.number) l.etag) l (listed_parts parts (drop (i + 1) list))
  unfolding listed_parts
  left = ap (listed_parts parts) next

  pub chosen_more : (chosen new : List SealedPart) (size : ℕ) → Chosen parts list i chosen → size_of_chosen_part (get parts l.number) l.etag ≡ Some size → new ≡ chosen ++ part_with l size ∷ [] → Chosen parts list (i + 1) new
  chosen_more chosen new size so there is_new =
      so ∙ ap (behind chosen) (left ∙ ap (λ o. listed_part o l (listed_parts parts (drop (i + 1) list))) there)
      ∙ by (listed_parts parts (drop (i + 1) list)) ∙ ap (λ c. behind c (listed_parts parts (drop (i + 1) list))) (sym is_new)
    where
      by : (rest : Option (List SealedPart)) → behind chosen (listed_part (Some size) l rest) ≡ behind (chosen ++ part_with l size ∷ []) rest
      by None = refl
      by (Some ps) = ap Some (sym (append_assoc chosen (part_with l size ∷ []) ps))

  pub chosen_lost : (chosen : List SealedPart) → Chosen parts list i chosen → size_of_chosen_part (get parts l.number) l.etag ≡ None → None ≡ listed_parts parts list
  chosen_lost chosen so none = sym (so ∙ ap (behind chosen) (left ∙ ap (λ o. listed_part o l (listed_parts parts (drop (i + 1) list))) none))

pub chosen_all : (parts : Numbers PartItem) (list : List Listed) (i : ℕ) (chosen : List SealedPart) → length list ≤ i → Chosen parts list i chosen → Some chosen ≡ listed_parts parts list
unfolding listed_parts
chosen_all parts list i chosen past so = sym (so ∙ ap (λ l. behind chosen (listed_parts parts l)) (drop_all i list past) ∙ ap Some (append-nil chosen))

-- ---- those that are too small

module _ (least : ℕ) where
  -- one of them is, if none of the first ones is
  abbrev pub SmallFrom : List SealedPart → ℕ → Type 0
  SmallFrom parts j = has_small_chosen_part least parts ≡ has_small_chosen_part least (drop j parts)

  before : (p : SealedPart) (rest : List SealedPart) → 0 < length rest → has_small_chosen_part least (p ∷ rest) ≡ (nat_lt p.size least || has_small_chosen_part least rest)
  before p [] some = absurd (omega (arith, some))
  before p (q ∷ rest) some = refl

  module _ (parts : List SealedPart) (j : ℕ) (p : SealedPart) (below : j + 1 < length parts) (is : p ≡ get_or parts j p) where
    here : has_small_chosen_part least (drop j parts) ≡ (nat_lt p.size least || has_small_chosen_part least (drop (j + 1) parts))
    here =
        let next : drop j parts ≡ p ∷ drop (j + 1) parts = drop-cons parts j p (omega (arith, below)) ∙ (λ k. sym is k ∷ drop (sym (add-one j) k) parts) in
        ap (has_small_chosen_part least) next ∙ before p (drop (j + 1) parts) (omega (arith, below, length-drop (j + 1) parts))

    pub small_here : SmallFrom parts j → nat_lt p.size least ≡ true → has_small_chosen_part least parts ≡ true
    small_here so small = so ∙ here ∙ ap (λ t. t || has_small_chosen_part least (drop (j + 1) parts)) small

    pub small_next : SmallFrom parts j → nat_lt p.size least ≡ false → SmallFrom parts (j + 1)
    small_next so large = so ∙ here ∙ ap (λ t. t || has_small_chosen_part least (drop (j + 1) parts)) large

  pub small_none : (parts : List SealedPart) (j : ℕ) → length parts ≤ j + 1 → SmallFrom parts j → has_small_chosen_part least parts ≡ false
  small_none parts j past so = so ∙ one (drop j parts) (omega (arith, past, length-drop j parts))
    where
      one : (rest : List SealedPart) → length rest ≤ 1 → has_small_chosen_part least rest ≡ false
      one [] few = refl
      one (p ∷ []) few = refl
      one (p ∷ (q ∷ rest)) few = absurd (omega (arith, few))
