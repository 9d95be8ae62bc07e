-- The names that are signed, name after name.
use Rattle.std.proofs.Common.{◌≡◌, ℕ, zero, suc, ◌+◌, ◌<◌, Bool, true, false, ◌&&◌, ◌||◌, List, [], ◌∷◌, map, Result, Ok, Err, OnOk, take, length, get_or, bytes_eq, slice_get, slice_set, insert, refl, sym, ap, subst, ◌∙◌, true≢false}
use Rattle.std.specs.List.{list_any}
use Rattle.std.specs.Ordering.{is_lt}
use Rattle.std.specs.declared.cmp.Ordering.TheVariants.{Less, Equal, Greater}
use Rattle.std.proofs.lemmas.List.Folds.{list_any_more}
use Rattle.std.proofs.lemmas.Slice.Eq.{bytes_eq-Decides}
use Rattle.gate_base.specs.declared.page.Pair.{Pair}
use Rattle.gate_base.specs.Maps.{name_cmp}
use Rattle.gate_base.proofs.lemmas.Maps.{name_antisymmetric}
use Rattle.gate_base.specs.Named.{ascends, count_below, one_has_name, by_order, placed}
use Rattle.gate_base.proofs.lemmas.Named.{same_name, placed_over, placed_before, ascends_placed}
use Rattle.http_wire.specs.Headers.{has_name}
use Rattle.sigv4.specs.Authorization.{are_ascending}
use Rattle.sigv4.specs.Verdict.{is_among}
use Rattle.sign_cmd.specs.Names.{is_signed, has_signed, AreSigned, itself, AddsName}

swap : (a b : Bool) → (a || b) ≡ (b || a)
swap true true = refl
swap true false = refl
swap false true = refl
swap false false = refl

regroup : (a b c : Bool) → (a || (b || c)) ≡ ((a || b) || c)
regroup true b c = refl
regroup false b c = refl

again : (a b : Bool) → (a || b) ≡ ((a || b) || a)
again true b = refl
again false true = refl
again false false = refl

-- strictly ascending names in both spellings
ascending_is : (names : List (List ℕ)) → are_ascending names ≡ ascends (map itself names)
unfolding are_ascending
ascending_is [] = refl
ascending_is (name ∷ []) = refl
ascending_is (name ∷ next ∷ names) = ap (λ b. is_lt (name_cmp name next) && b) (ascending_is (next ∷ names))

-- a name in its place is one name more
placed_one : (name other : List ℕ) (names : List (List ℕ)) → is_among other (placed itself name names) ≡ (is_among other names || bytes_eq name other)
unfolding placed
placed_one name other [] = swap (bytes_eq name other) false
placed_one name other (next ∷ names) = elim (name_cmp name next) as (λ o. name_cmp name next ≡ o → is_among other (by_order o (name ∷ next ∷ names) (name ∷ names) (next ∷ placed itself name names)) ≡ (is_among other (next ∷ names) || bytes_eq name other)) [
  | Less ↦ λ e. swap (bytes_eq name other) (is_among other (next ∷ names))
  | Equal ↦ λ e. subst (λ (x : List ℕ). is_among other (name ∷ names) ≡ (is_among other (x ∷ names) || bytes_eq name other)) (name_antisymmetric name next e) (again (bytes_eq name other) (is_among other names))
  | Greater ↦ λ e. ap (λ b. bytes_eq next other || b) (placed_one name other names) ∙ regroup (bytes_eq next other) (is_among other names) (bytes_eq name other)
] refl

adds_placed : (name : List ℕ) (names : List (List ℕ)) → AddsName name names (placed itself name names)
adds_placed name names = record {
  ascending = λ h. ascending_is (placed itself name names) ∙ ascends_placed itself name names (sym (ascending_is names) ∙ h);
  one = λ other. placed_one name other names;
}

-- a name written over itself
set_same : (name : List ℕ) (names : List (List ℕ)) (at : ℕ) → one_has_name itself name (slice_get names at) ≡ true → slice_set names at name ≡ names
set_same name [] at h = absurd (true≢false (sym h))
set_same name (next ∷ names) zero h = ap (λ x. x ∷ names) (same_name name next h)
set_same name (next ∷ names) (suc at) h = ap (λ l. next ∷ l) (set_same name names at h)

-- where the name is there the names stay
pub adds_there : (name : List ℕ) (names seen again : List (List ℕ)) (at : ℕ) (has : Bool) → seen ≡ names → again ≡ names → at ≡ count_below itself name seen → has ≡ one_has_name itself name (slice_get again at) → has ≡ true → AddsName name names names
adds_there name names seen again at has first second place test there =
    let at_place : at ≡ count_below itself name names = place ∙ ap (λ (l : List (List ℕ)). count_below itself name l) first in
    let found : one_has_name itself name (slice_get names (count_below itself name names)) ≡ true =
    (λ i. one_has_name itself name (slice_get (sym second i) (sym at_place i))) ∙ sym test ∙ there in
    subst (λ (l : List (List ℕ)). AddsName name names l) (placed_over itself name names found ∙ set_same name names (count_below itself name names) found) (adds_placed name names)

-- else it is inserted
pub adds_inserted : {T E : Type 0} (result : Result T E) (name text : List ℕ) (names seen again new : List (List ℕ)) (at : ℕ) (has : Bool) → seen ≡ names → again ≡ names → at ≡ count_below itself name seen → has ≡ one_has_name itself name (slice_get again at) → has ≡ false → text ≡ name → OnOk result (new ≡ insert names at text) → OnOk result (AddsName name names new)
adds_inserted (Ok done) name text names seen again new at has first second place test there is put =
    let at_place : at ≡ count_below itself name names = place ∙ ap (λ (l : List (List ℕ)). count_below itself name l) first in
    let missing : one_has_name itself name (slice_get names (count_below itself name names)) ≡ false =
    (λ i. one_has_name itself name (slice_get (sym second i) (sym at_place i))) ∙ sym test ∙ there in
    subst (λ (l : List (List ℕ)). AddsName name names l) (placed_before itself name names missing ∙ (λ i. insert names (sym at_place i) (sym is i)) ∙ sym put) (adds_placed name names)
adds_inserted (Err fault) name text names seen again new at has first second place test there is put = put

-- ---- header after header

same_bytes : (xs ys : List ℕ) → bytes_eq xs ys ≡ true → xs ≡ ys
same_bytes xs ys = (bytes_eq-Decides xs ys).0

with_bool : (a s e : Bool) → (e ≡ true → s ≡ true) → ((a && s) || e) ≡ ((a || e) && s)
with_bool true true true h = refl
with_bool true true false h = refl
with_bool true false true h = sym (h refl)
with_bool true false false h = refl
with_bool false true true h = refl
with_bool false true false h = refl
with_bool false false true h = sym (h refl)
with_bool false false false h = refl

without_bool : (a s e : Bool) → (e ≡ true → s ≡ false) → (a && s) ≡ ((a || e) && s)
without_bool true s e h = refl
without_bool false true true h = sym (h refl)
without_bool false true false h = refl
without_bool false false true h = refl
without_bool false false false h = refl

more_headers : (headers : List Pair) (at : ℕ) (header : Pair) (name : List ℕ) → at < length headers → header ≡ get_or headers at header → has_signed (take (at + 1) headers) name ≡ ((list_any (has_name name) (take at headers) || bytes_eq header.name name) && is_signed name)
more_headers headers at header name within is =
    ap (λ b. b && is_signed name) (list_any_more (has_name name) headers at header within ∙ ap (λ (h : Pair). list_any (has_name name) (take at headers) || has_name name h) (sym is))

pub no_headers : AreSigned [] []
unfolding are_ascending
no_headers = record { ascending = refl; all = λ name. refl }

-- one more header whose name is signed
pub signed_more : (headers : List Pair) (at : ℕ) (header : Pair) (names new : List (List ℕ)) → at < length headers → header ≡ get_or headers at header → is_signed header.name ≡ true → AreSigned (take at headers) names → AddsName header.name names new → AreSigned (take (at + 1) headers) new
signed_more headers at header names new within is signed old adds = record {
  ascending = adds.ascending old.ascending;
  all = λ name.
      adds.one name
      ∙ ap (λ b. b || bytes_eq header.name name) (old.all name)
      ∙ with_bool (list_any (has_name name) (take at headers)) (is_signed name) (bytes_eq header.name name) (λ e. subst (λ (x : List ℕ). is_signed x ≡ true) (same_bytes header.name name e) signed)
      ∙ sym (more_headers headers at header name within is);
}

-- one more header, `authorization`
pub signed_same : (headers : List Pair) (at : ℕ) (header : Pair) (names : List (List ℕ)) → at < length headers → header ≡ get_or headers at header → is_signed header.name ≡ false → AreSigned (take at headers) names → AreSigned (take (at + 1) headers) names
signed_same headers at header names within is signed old = record {
  ascending = old.ascending;
  all = λ name.
      old.all name
      ∙ without_bool (list_any (has_name name) (take at headers)) (is_signed name) (bytes_eq header.name name) (λ e. subst (λ (x : List ℕ). is_signed x ≡ false) (same_bytes header.name name e) signed)
      ∙ sym (more_headers headers at header name within is);
}
