-- A table of names has just those that were put.
use Rattle.std.specs.Prelude.{◌≡◌, ◌≤◌, ◌<◌, ◌+◌, ℕ, Bool, true, false, ◌||◌, ◌⊎◌, List, [], ◌∷◌, ◌++◌, length, take, get_or, is_some}
use Rattle.std.specs.Ordering.{eq_by_cmp}
use Rattle.std.specs.FinMap.{empty, get, insert}
use Rattle.std.proofs.Common.{refl, sym, ap, subst, ◌∙◌, inl, inr}
use Rattle.std.proofs.lemmas.List.{take_all, take_more}
use Rattle.std.proofs.lemmas.List.Folds.{list_any-append}
use Rattle.gate_base.specs.Maps.{Names, name_cmp}
use Rattle.gate_base.proofs.lemmas.Maps.{at_insert, by_name, get_empty, key_itself, off_insert, same_key}
use Rattle.sweep.specs.Walk.{IsTableOf, is_among}
use Rattle.sweep.proofs.NamesSwept.{take_none}

or_end : (a : Bool) → (a || (false || false)) ≡ a
or_end true = refl
or_end false = refl

or_true : (a : Bool) → (a || (true || false)) ≡ true
or_true true = refl
or_true false = refl

pub tabled_none : (names : List (List ℕ)) → IsTableOf empty (take 0 names)
tabled_none names name = ap is_some (get_empty by_name name) ∙ ap (λ ns. is_among ns name) (sym (take_none names))

pub tabled_more : (now new : Names Bool) (names : List (List ℕ)) (i : ℕ) (name text : List ℕ) → text ≡ name → i < length names → name ≡ get_or names i name → IsTableOf now (take i names) → new ≡ insert now text true
    → IsTableOf new (take (i + 1) names)
tabled_more now new names i name text same within is tabled grown key =
    let more : take (i + 1) names ≡ take i names ++ name ∷ [] = take_more names i name within ∙ ap (λ x. take i names ++ x ∷ []) (sym is) in
    let parts : is_among (take i names ++ name ∷ []) key ≡ (is_among (take i names) key || (eq_by_cmp name_cmp key name || false)) = list_any-append (eq_by_cmp name_cmp key) (take i names) (name ∷ []) in
    ap (λ t. is_some (get t key)) (grown ∙ ap (λ t. insert now t true) same) ∙ by_key (same_key by_name key name) ∙ sym (ap (λ ns. is_among ns key) more ∙ parts)
  where
    by_key : (key ≡ name) ⊎ (eq_by_cmp name_cmp key name ≡ false) → is_some (get (insert now name true) key) ≡ (is_among (take i names) key || (eq_by_cmp name_cmp key name || false))
    by_key (inl e) =
        ap (λ k. is_some (get (insert now name true) k)) e ∙ ap is_some (at_insert by_name now name true)
        ∙ sym (ap (λ t. is_among (take i names) key || (t || false)) (ap (λ k. eq_by_cmp name_cmp k name) e ∙ key_itself by_name name) ∙ or_true (is_among (take i names) key))
    by_key (inr apart) =
        ap is_some (off_insert by_name now name true key apart) ∙ tabled key
        ∙ sym (ap (λ t. is_among (take i names) key || (t || false)) apart ∙ or_end (is_among (take i names) key))

pub tabled_all : (table : Names Bool) (names : List (List ℕ)) (i : ℕ) → length names ≤ i → IsTableOf table (take i names) → IsTableOf table names
tabled_all table names i far tabled = subst (IsTableOf table) (take_all i names far) tabled
