-- The sub-manifests among segments are counted one after the other.
use Rattle.std.specs.Prelude.{◌≡◌, ◌≤◌, ◌<◌, ◌+◌, ℕ, Bool, true, false, cond, List, [], ◌∷◌, ◌++◌, length, take, get_or}
use Rattle.std.specs.List.{filter}
use Rattle.std.proofs.Common.{sym, ap, ◌∙◌, arith}
use Rattle.std.proofs.lemmas.List.{take_all, take_more}
use Rattle.slo_manifest.specs.declared.Segment.{Segment}
use Rattle.leftovers.specs.Gathering.{sub_manifests_in}
use Rattle.leftovers.specs.Leftovers.{is_sub_manifest_name}

pub filter_append : {X : Type 0} (p : X → Bool) (xs ys : List X) → length (filter p (xs ++ ys)) ≡ length (filter p xs) + length (filter p ys)
filter_append p [] ys = omega arith
filter_append p (x ∷ xs) ys =
    let rest = filter_append p xs ys in
    elim (p x) as (λ t. length (cond t (x ∷ filter p (xs ++ ys)) (filter p (xs ++ ys))) ≡ length (cond t (x ∷ filter p xs) (filter p xs)) + length (filter p ys)) [ true ↦ omega (arith, rest) | false ↦ rest ]

-- one that is or isn't
pub subs_one : (s : Segment) (t : Bool) → is_sub_manifest_name s.name ≡ t → sub_manifests_in (s ∷ []) ≡ length (cond t (s ∷ []) [])
subs_one s t is = ap (λ b. length (cond b (s ∷ []) [])) is

module _ (segments : List Segment) (i : ℕ) (s : Segment) (within : i < length segments) (is : s ≡ get_or segments i s) where
  counted : sub_manifests_in (take (i + 1) segments) ≡ sub_manifests_in (take i segments) + sub_manifests_in (s ∷ [])
  counted = ap sub_manifests_in (take_more segments i s within ∙ ap (λ x. take i segments ++ x ∷ []) (sym is)) ∙ filter_append (λ (x : Segment). is_sub_manifest_name x.name) (take i segments) (s ∷ [])

  pub one_more : {count : ℕ} → count ≡ sub_manifests_in (take i segments) → is_sub_manifest_name s.name ≡ true → count + 1 ≡ sub_manifests_in (take (i + 1) segments)
  one_more tally so = omega (arith, tally, counted, subs_one s true so)

  pub one_past : {count : ℕ} → count ≡ sub_manifests_in (take i segments) → is_sub_manifest_name s.name ≡ false → count ≡ sub_manifests_in (take (i + 1) segments)
  one_past tally not = omega (arith, tally, counted, subs_one s false not)

pub all_counted : (segments : List Segment) (i : ℕ) {count : ℕ} → length segments ≤ i → count ≡ sub_manifests_in (take i segments) → count ≡ sub_manifests_in segments
all_counted segments i far tally = tally ∙ ap sub_manifests_in (take_all i segments far)
