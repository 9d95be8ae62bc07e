-- What stands in a map under a name that passes a test, as a test of its entries.
use Rattle.std.specs.Prelude.{◌≡◌, ◌||◌, ℕ, Bool, true, false, List, [], ◌∷◌, map, is_some}
use Rattle.std.specs.List.{AllByRecursion, list_any}
use Rattle.std.specs.Ordering.{eq_by_cmp}
use Rattle.std.specs.FinMap.{entries, get, get-entries}
use Rattle.std.specs.FinMap.Entries.{is_some-find}
use Rattle.std.proofs.Common.{refl, sym, ap, ◌∙◌, inl, inr}
use Rattle.std.proofs.lemmas.Bool.{or_cases}
use Rattle.gate_base.specs.Maps.{Names, name_cmp}
use Rattle.gate_base.proofs.lemmas.Maps.{by_name, same_key}
use Rattle.account_calls.proofs.lemmas.Markers.{IsEntry, entries_are}

or_first : (a b : Bool) → a ≡ true → (a || b) ≡ true
or_first true b e = refl
or_first false b e = cc

or_then : (a b : Bool) → b ≡ true → (a || b) ≡ true
or_then true b e = refl
or_then false b e = e

module _ {X : Type 0} (test : List ℕ → Bool) where
  passes_by : (name : List ℕ) → test name ≡ true → (es : List (List ℕ × X)) → list_any (eq_by_cmp name_cmp name) (map (λ e. e.0) es) ≡ true → list_any (λ e. test e.0) es ≡ true
  passes_by name is [] never = cc
  passes_by name is (e ∷ es) has = elim (or_cases (eq_by_cmp name_cmp name e.0) (list_any (eq_by_cmp name_cmp name) (map (λ e. e.0) es)) has) [
    | inl here ↦ or_first (test e.0) (list_any (λ e. test e.0) es) (elim (same_key by_name name e.0) [
      | inl same ↦ ap test (sym same) ∙ is
      | inr apart ↦ (let never : true ≡ false = sym here ∙ apart in cc)
    ])
    | inr later ↦ or_then (test e.0) (list_any (λ e. test e.0) es) (passes_by name is es later)
  ]

  -- what stands under such a name makes the test of the entries pass
  pub passes : (m : Names X) (name : List ℕ) → is_some (get m name) ≡ true → test name ≡ true → list_any (λ e. test e.0) (entries m) ≡ true
  passes m name there is = passes_by name is (entries m) (sym (is_some-find name_cmp name (entries m)) ∙ ap is_some (sym (get-entries m name)) ∙ there)

  -- an entry that passes the test
  pub record Passing (m : Names X) : Type 0 where
    pub name : List ℕ
    pub there : is_some (get m name) ≡ true
    pub is : test name ≡ true

  found_by : (m : Names X) (es : List (List ℕ × X)) → AllByRecursion (IsEntry m) es → list_any (λ e. test e.0) es ≡ true → Passing m
  found_by m [] are never = cc
  found_by m (e ∷ es) are has = elim (or_cases (test e.0) (list_any (λ e. test e.0) es) has) [
    | inl here ↦ record { name = e.0; there = ap is_some are.0; is = here }
    | inr later ↦ found_by m es are.1 later
  ]

  -- and where that passes, such a name is there
  pub found : (m : Names X) → list_any (λ e. test e.0) (entries m) ≡ true → Passing m
  found m has = found_by m (entries m) (entries_are m) has
