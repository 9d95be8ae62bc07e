-- The parts that a completion lists, as the machine chooses them.
use Rattle.std.proofs.Common.{◌≡◌, ℕ, Bool, true, false, cond, nat_lt, ◌||◌, List, [], ◌∷◌, map, length, bytes_eq, Option, Some, None, refl, sym, ap, subst, ◌∙◌}
use Rattle.std.specs.List.{AllByRecursion}
use Rattle.std.specs.Option.{option_map}
use Rattle.std.specs.FinMap.{get}
use Rattle.std.proofs.lemmas.Slice.Eq.{bytes_eq-Decides}
use Rattle.gate_base.specs.Maps.{Numbers}
use Rattle.s3_machine.specs.State.{Part}
use Rattle.s3_machine.specs.Uploads.{chosen, chosen_two, etag_in, etag_listed, is_too_small, part_item}
use Rattle.s3_machine.specs.declared.items.PartItem.{PartItem}
use Rattle.s3_machine.specs.declared.operation.Listed.{Listed}
use Rattle.upload_records.specs.Native.{listed_of}
use Rattle.upload_texts.specs.declared.sealed.SealedPart.{SealedPart}
use Rattle.plan_uploads.specs.Completing.{by_number, has_small_chosen_part, listed_part, listed_parts, size_of_chosen_part}
use Rattle.plan_uploads.proofs.PartsListed.{part_with}

-- a part of a list, and the part of the upload that it names
abbrev pub Row : Type 0
Row = Listed × Part

abbrev pub listed_in : Row → Listed
listed_in row = row.0

abbrev pub part_in : Row → Part
part_in row = row.1

abbrev pub sealed_in : Row → SealedPart
sealed_in row = part_with row.0 (length row.1.bytes)

-- it is there with its ETag
pub record Names (parts : Numbers Part) (row : Row) : Type 0 where
  pub there : get parts row.0.number ≡ Some row.1
  pub same : row.1.etag ≡ row.0.etag

-- the parts of a list, as the machine takes them and as they are sealed
pub record Chooses (parts : Numbers Part) (list : List Listed) (ps : List Part) (sealed : List SealedPart) : Type 0 where
  pub rows : List Row
  pub names : AllByRecursion (Names parts) rows
  pub lists : list ≡ map listed_in rows
  pub takes : ps ≡ map part_in rows
  pub seals : sealed ≡ map sealed_in rows

-- ---- what the rows say

etags_in : (parts : Numbers Part) (rows : List Row) → AllByRecursion (Names parts) rows → map etag_in (map part_in rows) ≡ map etag_listed (map listed_in rows)
etags_in parts [] names = refl
etags_in parts (row ∷ rows) names = λ i. names.0.same i ∷ etags_in parts rows names.1 i

small_in : (least : ℕ) (rows : List Row) → is_too_small least (map part_in rows) ≡ has_small_chosen_part least (map sealed_in rows)
small_in least [] = refl
small_in least (row ∷ []) = refl
small_in least (row ∷ (next ∷ rows)) = ap (λ t. nat_lt (length row.1.bytes) least || t) (small_in least (next ∷ rows))

listed_back : (rows : List Row) → map listed_of (map sealed_in rows) ≡ map listed_in rows
listed_back [] = refl
listed_back (row ∷ rows) = ap (λ list. row.0 ∷ list) (listed_back rows)

sealed_etags : (rows : List Row) → map (λ (p : SealedPart). p.etag) (map sealed_in rows) ≡ map etag_listed (map listed_in rows)
sealed_etags [] = refl
sealed_etags (row ∷ rows) = ap (λ list. row.0.etag ∷ list) (sealed_etags rows)

module _ {parts : Numbers Part} {list : List Listed} {ps : List Part} {sealed : List SealedPart} (chooses : Chooses parts list ps sealed) where
  -- the ETags are those of the list
  pub same_etags : map etag_in ps ≡ map etag_listed list
  same_etags = ap (map etag_in) chooses.takes ∙ etags_in parts chooses.rows chooses.names ∙ ap (map etag_listed) (sym chooses.lists)

  pub sealed_have_etags : map (λ (p : SealedPart). p.etag) sealed ≡ map etag_listed list
  sealed_have_etags = ap (map (λ (p : SealedPart). p.etag)) chooses.seals ∙ sealed_etags chooses.rows ∙ ap (map etag_listed) (sym chooses.lists)

  pub same_small : (least : ℕ) → is_too_small least ps ≡ has_small_chosen_part least sealed
  same_small least = ap (is_too_small least) chooses.takes ∙ small_in least chooses.rows ∙ ap (has_small_chosen_part least) (sym chooses.seals)

  -- what is sealed lists the same
  pub same_list : map listed_of sealed ≡ list
  same_list = ap (map listed_of) chooses.seals ∙ listed_back chooses.rows ∙ sym chooses.lists

-- ---- the choice

module _ (parts : Numbers Part) (items : List PartItem) (found : (q : ℕ) → get (by_number items) q ≡ option_map (λ p. part_item (q, p)) (get parts q)) where
  abbrev Choice : List Listed → Option (List SealedPart) → Option (List Part) → Type 0
  Choice list None taken = taken ≡ None
  Choice list (Some sealed) taken = (ps : List Part) × (taken ≡ Some ps) × Chooses parts list ps sealed

  tested : (l : Listed) (list : List Listed) (p : Part) → get parts l.number ≡ Some p → (t : Bool) → bytes_eq p.etag l.etag ≡ t → (r : Option (List SealedPart)) (taken : Option (List Part)) → Choice list r taken
      → Choice (l ∷ list) (listed_part (cond t (Some (length p.bytes)) None) l r) (chosen_two (Some p) l.etag taken)
  tested l list p is true same None taken none = ap (chosen_two (Some p) l.etag) none
  tested l list p is false other None taken none = ap (chosen_two (Some p) l.etag) none
  tested l list p is true same (Some sealed) taken (ps, takes, chooses) = (
    p ∷ ps,
    ap (chosen_two (Some p) l.etag) takes ∙ ap (λ t. cond t (Some (p ∷ ps)) None) same,
    record {
      rows = (l, p) ∷ chooses.rows;
      names = (record { there = is; same = (bytes_eq-Decides p.etag l.etag).0 same }, chooses.names);
      lists = ap (λ rest. l ∷ rest) chooses.lists;
      takes = ap (λ rest. p ∷ rest) chooses.takes;
      seals = ap (λ rest. part_with l (length p.bytes) ∷ rest) chooses.seals;
    },
  )
  tested l list p is false other (Some sealed) taken (ps, takes, chooses) = ap (chosen_two (Some p) l.etag) takes ∙ ap (λ t. cond t (Some (p ∷ ps)) None) other

  one : (l : Listed) (list : List Listed) (v : Option Part) → get parts l.number ≡ v → (r : Option (List SealedPart)) (taken : Option (List Part)) → Choice list r taken
      → Choice (l ∷ list) (listed_part (size_of_chosen_part (option_map (λ p. part_item (l.number, p)) v) l.etag) l r) (chosen_two v l.etag taken)
  one l list None none r taken rest = refl
  one l list (Some p) is r taken rest = tested l list p is (bytes_eq p.etag l.etag) refl r taken rest

  choice : (list : List Listed) → Choice list (listed_parts (by_number items) list) (chosen parts list)
  unfolding listed_parts chosen
  choice [] = ([], refl, record { rows = []; names = tt; lists = refl; takes = refl; seals = refl })
  choice (l ∷ list) =
      subst (λ o. Choice (l ∷ list) (listed_part (size_of_chosen_part o l.etag) l (listed_parts (by_number items) list)) (chosen_two (get parts l.number) l.etag (chosen parts list))) (sym (found l.number))
      (one l list (get parts l.number) refl (listed_parts (by_number items) list) (chosen parts list) (choice list))

  -- where a part of the list isn't there, the machine finds none either
  pub chosen_missing : (list : List Listed) → listed_parts (by_number items) list ≡ None → chosen parts list ≡ None
  chosen_missing list none = subst (λ r. Choice list r (chosen parts list)) none (choice list)

  -- and else it takes the same
  pub chosen_found : (list : List Listed) (sealed : List SealedPart) → listed_parts (by_number items) list ≡ Some sealed → (ps : List Part) × (chosen parts list ≡ Some ps) × Chooses parts list ps sealed
  chosen_found list sealed some = subst (λ r. Choice list r (chosen parts list)) some (choice list)
