-- What is found under the name of an entry, and what passes of a page.
use Rattle.std.specs.Prelude.{◌≡◌, ℕ, Bool, true, false, cond, ◌&&◌, T, List, [], ◌∷◌, map, Some}
use Rattle.std.specs.List.{All, filter, list_all}
use Rattle.std.specs.declared.cmp.Ordering.{Ordering}
use Rattle.std.specs.declared.cmp.Ordering.TheVariants.{Less, Equal, Greater}
use Rattle.std.specs.Ordering.{is_eq, is_lt, ordering_reverse}
use Rattle.std.specs.Cmp.{tied_itself}
use Rattle.std.specs.FinMap.{entries, entries_sorted, find, get, get-entries, is_sorted}
use Rattle.std.specs.FinMap.Entries.{below_all}
use Rattle.std.proofs.Common.{refl, ap, ◌∙◌}
use Rattle.std.proofs.lemmas.List.Elements.{All-nil, All-cons, All-head, All-tail, All-weaker, All-filter, All-map, All-take}
use Rattle.std.proofs.lemmas.List.Sums.{list_all-from_AllPass}
use Rattle.gate_base.specs.Maps.{Names, name_cmp}
use Rattle.gate_base.proofs.lemmas.Maps.{name_total}
use Rattle.swift_calls.specs.Step.{page}

front : (a b : Bool) → T (a && b) → T a
front true b p = tt
front false b p = p

back : (a b : Bool) → T (a && b) → T b
back true b p = p
back false b p = absurd p

lt_is : (o : Ordering) → T (is_lt o) → o ≡ Less
lt_is Less p = refl
lt_is Equal p = absurd p
lt_is Greater p = absurd p

module _ {X : Type 0} where
  abbrev IsFoundIn : List (List ℕ × X) → List ℕ × X → Type 0
  IsFoundIn es e = find name_cmp e.0 es ≡ Some e.1

  -- an entry behind one that is below it is found behind it
  behind : (e x : List ℕ × X) (es : List (List ℕ × X)) → name_cmp e.0 x.0 ≡ Less → IsFoundIn es x → IsFoundIn (e ∷ es) x
  behind e x es less found =
      ap (λ r. cond (is_eq r) (Some e.1) (find name_cmp x.0 es)) (name_total.antisymm x.0 e.0 ∙ ap ordering_reverse less) ∙ found

  all_behind : (e : List ℕ × X) (es xs : List (List ℕ × X)) → T (below_all name_cmp e.0 xs) → All (IsFoundIn es) xs → All (IsFoundIn (e ∷ es)) xs
  all_behind e es [] below found = All-nil (IsFoundIn (e ∷ es))
  all_behind e es (x ∷ xs) below found =
      All-cons (IsFoundIn (e ∷ es)) x xs
      (behind e x es (lt_is (name_cmp e.0 x.0) (front (is_lt (name_cmp e.0 x.0)) (below_all name_cmp e.0 xs) below)) (All-head (IsFoundIn es) x xs found))
      (all_behind e es xs (back (is_lt (name_cmp e.0 x.0)) (below_all name_cmp e.0 xs) below) (All-tail (IsFoundIn es) x xs found))

  all_found : (es : List (List ℕ × X)) → T (is_sorted name_cmp es) → All (IsFoundIn es) es
  all_found [] sorted = All-nil (IsFoundIn [])
  all_found (e ∷ es) sorted =
      All-cons (IsFoundIn (e ∷ es)) e es
      (ap (λ r. cond (is_eq r) (Some e.1) (find name_cmp e.0 es)) (tied_itself name_total e.0))
      (all_behind e es es (front (below_all name_cmp e.0 es) (is_sorted name_cmp es) sorted)
      (all_found es (back (below_all name_cmp e.0 es) (is_sorted name_cmp es) sorted)))

  abbrev pub IsEntry : Names X → List ℕ × X → Type 0
  IsEntry m e = get m e.0 ≡ Some e.1

  -- each entry is found under its name
  pub entries_found : (m : Names X) → All (IsEntry m) (entries m)
  entries_found m = All-weaker (IsFoundIn (entries m)) (IsEntry m) (λ e found. get-entries m e.0 ∙ found) (entries m) (all_found (entries m) (entries_sorted m))

-- what each thing gives passes, so a page of it does
pub page_passes : {A B : Type 0} (good : B → Bool) (limit : ℕ) (f : A → B) (test : A → Bool) (things : List A) → All (λ a. good (f a) ≡ true) things
    → list_all good (page limit f test things) ≡ true
unfolding page
page_passes good limit f test things all =
    list_all-from_AllPass good _
    (All-take (λ b. good b ≡ true) limit (map f (filter test things))
    (All-map (λ b. good b ≡ true) f (filter test things) (All-filter test (λ a. good (f a) ≡ true) things all)))
