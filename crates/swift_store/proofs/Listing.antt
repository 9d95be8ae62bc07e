-- The loops that list names, and that a run of names is the page that is asked for.
use Rattle.std.specs.Prelude.{◌≡◌, ◌≢◌, ℕ, zero, suc, ◌-◌, ◌≤◌, Bool, true, false, cond, ◌&&◌, nat_eq, T, List, [], ◌∷◌, ◌++◌, map, length, take}
use Rattle.std.specs.Global.{Vec}
use Rattle.std.specs.List.{filter, starts_with}
use Rattle.std.specs.Ordering.{nat_cmp, is_le, is_lt, is_gt, ordering_then, ordering_reverse}
use Rattle.std.specs.Cmp.{nat_cmp_total}
use Rattle.std.specs.declared.cmp.Ordering.{Ordering}
use Rattle.std.specs.declared.cmp.Ordering.TheVariants.{Less, Equal, Greater}
use Rattle.std.specs.Cmp.Lexicographic.{slice_cmp}
use Rattle.std.specs.FinMap.{entries, entries_sorted, is_sorted}
use Rattle.std.specs.FinMap.Entries.{below_all}
use Rattle.std.specs.BTreeMap.Range.{is_from_start, range_contains, entries_between}
use Rattle.std.specs.Range.Bound.{bound_map}
use Rattle.std.specs.declared.ops.Bound.{Bound}
use Rattle.std.specs.declared.ops.Bound.TheVariants.{Included, Excluded, Unbounded}
use Rattle.std.specs.Map.{keys_of}
use Rattle.std.specs.List.Sorted.{IsStrictlySortedBy}
use Rattle.std.proofs.Common.{Bor, refl, sym, ap, subst, ◌∙◌, arith, append-nil, append_assoc, length-append, true≢false}
use Rattle.std.proofs.lemmas.Bool.{cond-true, cond-false, eqb-true, eq-eqb}
use Rattle.std.proofs.lemmas.Cmp.{tied_itself, upto}
use Rattle.gate_base.specs.Maps.{Names, name_cmp}
use Rattle.gate_base.proofs.lemmas.Maps.{name_total, number_antisymmetric}
use Rattle.gate_base.proofs.lemmas.Named.{both, first_of_two, second_of_two}
use Rattle.swift_calls.specs.Step.{page, is_listed}
use Rattle.name_table.specs.Table.{entry_of, names_of}
use Rattle.swift_calls.specs.Account.{SwiftObject}
use Rattle.swift_calls.specs.Bodies.{item_of}
use Rattle.swift_calls.specs.declared.heads.NameItem.{NameItem}
use Rattle.swift_store.specs.Listing.{leading, entries_from, object_run}
use Rattle.swift_store.specs.Shelf.{object_page}
use Rattle.name_table.proofs.lemmas.Ordered.{entries_are}

-- ---- runs

module _ {A B : Type 0} (f : A → B) (test : A → Bool) where
  leading_in : (n : ℕ) (a : A) (rest : List A) → test a ≡ true → leading f test (suc n) (a ∷ rest) ≡ f a ∷ leading f test n rest
  unfolding leading
  leading_in n a rest is = cond-true _ _ _ is

  leading_out : (n : ℕ) (a : A) (rest : List A) → test a ≡ false → leading f test n (a ∷ rest) ≡ []
  unfolding leading
  leading_out zero a rest is = refl
  leading_out (suc n) a rest is = cond-false _ _ _ is

  leading_none : (things : List A) → leading f test 0 things ≡ []
  unfolding leading
  leading_none things = refl

  leading_nil : (n : ℕ) → leading f test n [] ≡ []
  unfolding leading
  leading_nil zero = refl
  leading_nil (suc n) = refl

-- out is the run so far, and rest is left
pub record Led {A B : Type 0} (f : A → B) (test : A → Bool) (limit : ℕ) (all rest : List A) (out : List B) : Type 0 where
  pub so : out ++ leading f test (limit - length out) rest ≡ leading f test limit all
  pub within : length out ≤ limit

module _ {A B : Type 0} (f : A → B) (test : A → Bool) (limit : ℕ) (all : List A) where
  pub led_start : Led f test limit all all []
  led_start = record { so = ap (λ n. leading f test n all) (omega arith); within = omega arith }

  -- one more is listed
  pub led_more : (a : A) (rest : List A) (out : List B) → Led f test limit all (a ∷ rest) out → length out ≢ limit → test a ≡ true → Led f test limit all rest (out ++ f a ∷ [])
  led_more a rest out led room is =
      let near = led.within in
      let left : limit - length out ≡ suc (limit - length (out ++ f a ∷ [])) = omega (arith, length-append out (f a ∷ [])) in
      record {
        so =
            append_assoc out (f a ∷ []) _
            ∙ ap (λ l. out ++ l) (sym (leading_in f test _ a rest is))
            ∙ ap (λ n. out ++ leading f test n (a ∷ rest)) (sym left)
            ∙ led.so;
        within = omega (arith, length-append out (f a ∷ []));
      }

  -- the page is full
  pub led_full : (rest : List A) (out : List B) → Led f test limit all rest out → length out ≡ limit → out ≡ leading f test limit all
  led_full rest out led is =
      let none : limit - length out ≡ 0 = omega arith in
      sym (append-nil out) ∙ ap (λ l. out ++ l) (sym (leading_none f test rest)) ∙ ap (λ n. out ++ leading f test n rest) (sym none) ∙ led.so

  -- the next doesn't pass
  pub led_past : (a : A) (rest : List A) (out : List B) → Led f test limit all (a ∷ rest) out → test a ≡ false → out ≡ leading f test limit all
  led_past a rest out led is = sym (append-nil out) ∙ ap (λ l. out ++ l) (sym (leading_out f test _ a rest is)) ∙ led.so

  -- nothing is left
  pub led_end : (out : List B) → Led f test limit all [] out → out ≡ leading f test limit all
  led_end out led = sym (append-nil out) ∙ ap (λ l. out ++ l) (sym (leading_nil f test _)) ∙ led.so

module _ {A B C : Type 0} (f : B → C) (test : B → Bool) (g : A → B) where
  -- a run of what g makes of things
  pub leading_map : (n : ℕ) (things : List A) → leading f test n (map g things) ≡ leading (λ a. f (g a)) (λ a. test (g a)) n things
  unfolding leading
  leading_map zero things = refl
  leading_map (suc n) [] = refl
  leading_map (suc n) (a ∷ rest) = ap (λ l. cond (test (g a)) (f (g a) ∷ l) []) (leading_map n rest)

module _ {A B : Type 0} (f : A → B) (test : A → Bool) (limit : ℕ) (all : List A) where
  -- one more thing comes, and is listed
  pub led_next : (s rest : List A) (a : A) (out more : List B) (b : B) → Led f test limit all s out → s ≡ a ∷ rest → length out ≢ limit → test a ≡ true → more ≡ out ++ b ∷ [] → b ≡ f a → Led f test limit all rest more
  led_next s rest a out more b led comes room is pushed made =
      subst (Led f test limit all rest) (sym (pushed ∙ ap (λ x. out ++ x ∷ []) made)) (led_more f test limit all a rest out (subst (λ l. Led f test limit all l out) comes led) room is)

  -- one comes that doesn't pass
  pub led_stops : (s rest : List A) (a : A) (out : List B) → Led f test limit all s out → s ≡ a ∷ rest → test a ≡ false → out ≡ leading f test limit all
  led_stops s rest a out led comes is = led_past f test limit all a rest out (subst (λ l. Led f test limit all l out) comes led) is

  -- none comes
  pub led_ends : (s : List A) (out : List B) → Led f test limit all s out → s ≡ [] → out ≡ leading f test limit all
  led_ends s out led none = led_end f test limit all out (subst (λ l. Led f test limit all l out) none led)

-- ---- entries of a map from a place on

and_true : (b : Bool) → (b && true) ≡ b
and_true true = refl
and_true false = refl

abbrev pub key_cmp : Vec ℕ → Vec ℕ → Ordering
key_cmp x y = slice_cmp nat_cmp x.items y.items

abbrev pub seen_bound : Bound (Vec ℕ) → Bound (List ℕ)
seen_bound start = bound_map (λ (k : Vec ℕ). k.items) start

from_place : (start : Bound (Vec ℕ)) (k : Vec ℕ) → range_contains key_cmp start Unbounded k ≡ is_from_start name_cmp (seen_bound start) k.items
from_place (Included a) k = and_true _
from_place (Excluded a) k = and_true _
from_place Unbounded k = refl

pub seen_between : {X : Type 0} (start : Bound (Vec ℕ)) (es : List (Vec ℕ × X))
    → map entry_of (entries_between key_cmp start Unbounded es) ≡ filter (λ e. is_from_start name_cmp (seen_bound start) e.0) (map entry_of es)
seen_between start [] = refl
seen_between start (e ∷ es) =
    ap (λ b. map entry_of (cond b (e ∷ entries_between key_cmp start Unbounded es) (entries_between key_cmp start Unbounded es))) (from_place start e.0)
    ∙ elim (is_from_start name_cmp (seen_bound start) e.0.items) as (λ b. map entry_of (cond b (e ∷ entries_between key_cmp start Unbounded es) (entries_between key_cmp start Unbounded es))
    ≡ cond b (entry_of e ∷ filter (λ x. is_from_start name_cmp (seen_bound start) x.0) (map entry_of es)) (filter (λ x. is_from_start name_cmp (seen_bound start) x.0) (map entry_of es))) [
      | true ↦ ap (λ l. entry_of e ∷ l) (seen_between start es)
      | false ↦ seen_between start es
    ]

bound_twice : (start : Bound (Bor (Vec ℕ))) → seen_bound (bound_map (λ x. x.now) start) ≡ bound_map (λ x. x.now.items) start
bound_twice (Included a) = refl
bound_twice (Excluded a) = refl
bound_twice Unbounded = refl

module _ {X B : Type 0} (f : List ℕ × X → B) (prefix : List ℕ) (limit : ℕ) (es : List (Vec ℕ × X)) (m : Names X) (view : names_of es ≡ m) (sorted : IsStrictlySortedBy key_cmp (keys_of es)) where
  -- a run of a table's entries is one of the map's
  pub run_seen : (start : Bound (Vec ℕ)) (all : List (Vec ℕ × X)) → all ≡ entries_between key_cmp start Unbounded es
      → leading (λ e. f (entry_of e)) (λ e. starts_with nat_eq e.0.items prefix) limit all ≡ leading f (λ e. starts_with nat_eq e.0 prefix) limit (entries_from (seen_bound start) m)
  run_seen start all is =
      ap (leading (λ e. f (entry_of e)) (λ e. starts_with nat_eq e.0.items prefix) limit) is
      ∙ sym (leading_map f (λ e. starts_with nat_eq e.0 prefix) entry_of limit (entries_between key_cmp start Unbounded es))
      ∙ ap (leading f (λ e. starts_with nat_eq e.0 prefix) limit)
      (seen_between start es ∙ ap (filter (λ e. is_from_start name_cmp (seen_bound start) e.0)) (sym (entries_are es sorted) ∙ ap entries view))

  pub run_lent : (start : Bound (Bor (Vec ℕ))) (all : List (Vec ℕ × X)) → all ≡ entries_between key_cmp (bound_map (λ x. x.now) start) Unbounded es
      → leading (λ e. f (entry_of e)) (λ e. starts_with nat_eq e.0.items prefix) limit all ≡ leading f (λ e. starts_with nat_eq e.0 prefix) limit (entries_from (bound_map (λ x. x.now.items) start) m)
  run_lent start all is = run_seen (bound_map (λ x. x.now) start) all is ∙ ap (λ b. leading f (λ e. starts_with nat_eq e.0 prefix) limit (entries_from b m)) (bound_twice start)

-- ---- a run is a page

and_first : (a b : Bool) → T (a && b) → T a
and_first true b h = tt
and_first false b h = h

and_second : (a b : Bool) → T (a && b) → T b
and_second true b h = h
and_second false b h = absurd h

is_less : (o : Ordering) → T (is_lt o) → o ≡ Less
is_less Less h = refl
is_less Equal h = absurd h
is_less Greater h = absurd h

-- P is what the run begins with, S what its things pass, L what is listed
module _ {X B : Type 0} (f : List ℕ × X → B) (P S L : List ℕ → Bool) (same : (a : List ℕ) → L a ≡ (P a && S a)) (closed : (a b : List ℕ) → P a ≡ true → name_cmp a b ≡ Less → S a ≡ false → S b ≡ false) where
  out_of : (a : List ℕ) → S a ≡ false → L a ≡ false
  out_of a off = same a ∙ ap (λ b. P a && b) off ∙ and_false (P a)
    where
      and_false : (b : Bool) → (b && false) ≡ false
      and_false true = refl
      and_false false = refl

  none_listed : (a : List ℕ) (es : List (List ℕ × X)) → T (below_all name_cmp a es) → P a ≡ true → S a ≡ false → filter (λ e. L e.0) es ≡ []
  none_listed a [] below from out = refl
  none_listed a (e ∷ es) below from out =
      cond-false _ _ _ (out_of e.0 (closed a e.0 from (is_less _ (and_first _ _ below)) out)) ∙ none_listed a es (and_second _ _ below) from out

  abbrev run : ℕ → List (List ℕ × X) → List B
  run n es = leading f (λ e. S e.0) n (filter (λ e. P e.0) es)

  abbrev paged : ℕ → List (List ℕ × X) → List B
  paged n es = take n (map f (filter (λ e. L e.0) es))

  take_nil : (n : ℕ) → take n (map f []) ≡ []
  take_nil zero = refl
  take_nil (suc n) = refl

  in_run : (n : ℕ) (e : List ℕ × X) (es : List (List ℕ × X)) → S e.0 ≡ true → ((k : ℕ) → run k es ≡ paged k es)
      → leading f (λ x. S x.0) n (e ∷ filter (λ x. P x.0) es) ≡ take n (map f (e ∷ filter (λ x. L x.0) es))
  in_run zero e es is rest = leading_none f (λ x. S x.0) _
  in_run (suc n) e es is rest = leading_in f (λ x. S x.0) n e _ is ∙ ap (λ l. f e ∷ l) (rest n)

  from_here : (n : ℕ) (e : List ℕ × X) (es : List (List ℕ × X)) → T (is_sorted name_cmp (e ∷ es)) → P e.0 ≡ true → ((k : ℕ) → run k es ≡ paged k es) → run n (e ∷ es) ≡ paged n (e ∷ es)
  from_here n e es sorted p rest =
      ap (leading f (λ x. S x.0) n) (cond-true _ _ _ p)
      ∙ elim (S e.0) as (λ b. S e.0 ≡ b → leading f (λ x. S x.0) n (e ∷ filter (λ x. P x.0) es) ≡ paged n (e ∷ es)) [
        | true ↦ λ s. in_run n e es s rest ∙ sym (ap (λ l. take n (map f l)) (cond-true _ _ _ (same e.0 ∙ ap (λ b. b && S e.0) p ∙ s)))
        | false ↦ λ s.
            leading_out f (λ x. S x.0) n e _ s ∙ sym (take_nil n)
            ∙ sym (ap (λ l. take n (map f l)) (cond-false _ _ _ (out_of e.0 s) ∙ none_listed e.0 es (and_first _ _ sorted) p s))
      ] refl

  run_is : (n : ℕ) (es : List (List ℕ × X)) → T (is_sorted name_cmp es) → run n es ≡ paged n es
  run_is n [] sorted = leading_nil f (λ e. S e.0) n ∙ sym (take_nil n)
  run_is n (e ∷ es) sorted = elim (P e.0) as (λ b. P e.0 ≡ b → run n (e ∷ es) ≡ paged n (e ∷ es)) [
    | false ↦ λ p.
        ap (leading f (λ x. S x.0) n) (cond-false _ _ _ p) ∙ run_is n es (and_second _ _ sorted)
        ∙ sym (ap (λ l. take n (map f l)) (cond-false _ _ _ (same e.0 ∙ ap (λ b. b && S e.0) p)))
    | true ↦ λ p. from_here n e es sorted p (λ k. run_is k es (and_second _ _ sorted))
  ] refl

-- ---- names and prefixes

-- not above
abbrev UpTo : List ℕ → List ℕ → Type 0
UpTo a b = is_gt (name_cmp a b) ≡ false

-- a name that begins with a prefix isn't below it
prefix_first : (p a : List ℕ) → starts_with nat_eq a p ≡ true → UpTo p a
prefix_first [] [] is = refl
prefix_first [] (x ∷ a) is = refl
prefix_first (p ∷ ps) [] is = absurd (true≢false (sym is))
prefix_first (p ∷ ps) (x ∷ a) is =
    let head : p ≡ x = eqb-true p x (first_of_two _ _ is) in
    ap (λ o. is_gt (ordering_then o (name_cmp ps a))) (ap (nat_cmp p) (sym head) ∙ tied_itself nat_cmp_total p) ∙ prefix_first ps a (second_of_two _ _ is)

greater_less : Greater ≡ Less → ⊥
greater_less e = true≢false (ap is_gt e)

-- names that begin with a prefix stand together
together : (p a b : List ℕ) → UpTo p a → name_cmp a b ≡ Less → starts_with nat_eq b p ≡ true → starts_with nat_eq a p ≡ true
together [] a b from less is = refl
together (p ∷ ps) [] b from less is = absurd (true≢false from)
together (p ∷ ps) (x ∷ a) [] from less is = absurd (true≢false (sym is))
together (p ∷ ps) (x ∷ a) (y ∷ b) from less is =
    let same : p ≡ y = eqb-true p y (first_of_two _ _ is) in
    elim (nat_cmp p x) as (λ o. nat_cmp p x ≡ o → starts_with nat_eq (x ∷ a) (p ∷ ps) ≡ true) [
      | Less ↦ λ e.
          let above : nat_cmp x y ≡ Greater = ap (nat_cmp x) (sym same) ∙ nat_cmp_total.antisymm x p ∙ ap ordering_reverse e in
          absurd (greater_less (sym (ap (λ o. ordering_then o (name_cmp a b)) above) ∙ less))
      | Equal ↦ λ e.
          let head : p ≡ x = number_antisymmetric p x e in
          let tied : nat_cmp x y ≡ Equal = ap (λ v. nat_cmp v y) (sym head) ∙ ap (nat_cmp p) (sym same) ∙ tied_itself nat_cmp_total p in
          both _ _ (eq-eqb p x head)
          (together ps a b (sym (ap (λ o. is_gt (ordering_then o (name_cmp ps a))) e) ∙ from) (sym (ap (λ o. ordering_then o (name_cmp a b)) tied) ∙ less) (second_of_two _ _ is))
      | Greater ↦ λ e. absurd (true≢false (sym (ap (λ o. is_gt (ordering_then o (name_cmp ps a))) e) ∙ from))
    ] refl

apart : (p a b : List ℕ) → UpTo p a → name_cmp a b ≡ Less → starts_with nat_eq a p ≡ false → starts_with nat_eq b p ≡ false
apart p a b from less off = elim (starts_with nat_eq b p) as (λ s. starts_with nat_eq b p ≡ s → s ≡ false) [
  | true ↦ λ is. sym (together p a b from less is) ∙ off
  | false ↦ λ is. refl
] refl

not_above : (o : Ordering) → is_le o ≡ true → is_gt o ≡ false
not_above Less e = refl
not_above Equal e = refl
not_above Greater e = sym e

up_to : (o : Ordering) → is_gt o ≡ false → is_le o ≡ true
up_to Less e = refl
up_to Equal e = refl
up_to Greater e = sym e

below_not_above : (o : Ordering) → is_lt o ≡ true → is_gt o ≡ false
below_not_above Less e = refl
below_not_above Equal e = refl
below_not_above Greater e = sym e

gt_reverse : (o : Ordering) → is_gt (ordering_reverse o) ≡ is_lt o
gt_reverse Less = refl
gt_reverse Equal = refl
gt_reverse Greater = refl

and_same : (a b c : Bool) → (c ≡ true → a ≡ b) → (a && c) ≡ (b && c)
and_same a b true h = ap (λ x. x && true) (h refl)
and_same true true false h = refl
and_same true false false h = refl
and_same false true false h = refl
and_same false false false h = refl

-- what isn't below the prefix, which is above the marker
beyond : (prefix marker a : List ℕ) → is_gt (name_cmp prefix marker) ≡ true → UpTo prefix a → is_gt (name_cmp a marker) ≡ true
beyond prefix marker a above from = elim (is_gt (name_cmp a marker)) as (λ b. is_gt (name_cmp a marker) ≡ b → b ≡ true) [
  | true ↦ λ e. refl
  | false ↦ λ e. sym (upto name_total prefix a marker from e) ∙ above
] refl

module _ {X B : Type 0} (f : List ℕ × X → B) (limit : ℕ) (prefix marker : List ℕ) (m : Names X) where
  -- a run from the prefix on, where that is after the marker
  pub page_from_prefix : is_gt (name_cmp prefix marker) ≡ true
      → leading f (λ e. starts_with nat_eq e.0 prefix) limit (entries_from (Included prefix) m) ≡ page limit f (λ e. is_listed prefix marker e.0) (entries m)
  unfolding page
  page_from_prefix above =
      run_is f (λ a. is_le (name_cmp prefix a)) (λ a. starts_with nat_eq a prefix) (is_listed prefix marker)
      (λ a. and_same _ _ (starts_with nat_eq a prefix) (λ is.
      let from = prefix_first prefix a is in
      beyond prefix marker a above from ∙ sym (up_to _ from)))
      (λ a b from less off. apart prefix a b (not_above _ from) less off)
      limit (entries m) (entries_sorted m)

  -- a run from behind the marker on
  pub page_from_marker : is_gt (name_cmp prefix marker) ≡ false
      → leading f (λ e. starts_with nat_eq e.0 prefix) limit (entries_from (Excluded marker) m) ≡ page limit f (λ e. is_listed prefix marker e.0) (entries m)
  unfolding page
  page_from_marker before =
      run_is f (λ a. is_lt (name_cmp marker a)) (λ a. starts_with nat_eq a prefix) (is_listed prefix marker)
      (λ a. ap (λ b. b && starts_with nat_eq a prefix) (ap is_gt (name_total.antisymm a marker) ∙ gt_reverse (name_cmp marker a)))
      (λ a b from less off. apart prefix a b (upto name_total prefix marker a before (below_not_above _ from)) less off)
      limit (entries m) (entries_sorted m)

-- nothing is before the empty prefix
pub empty_first : (marker : List ℕ) → is_gt (name_cmp [] marker) ≡ false
empty_first [] = refl
empty_first (x ∷ marker) = refl

-- a run of the names of containers is a page of them
pub names_page : {X : Type 0} (limit : ℕ) (marker after : List ℕ) (m : Names X) → after ≡ marker
    → leading (λ e. e.0) (λ e. starts_with nat_eq e.0 []) limit (entries_from (Excluded after) m) ≡ page limit (λ e. e.0) (λ e. is_listed [] marker e.0) (entries m)
names_page limit marker after m is = ap (λ a. leading (λ e. e.0) (λ e. starts_with nat_eq e.0 []) limit (entries_from (Excluded a) m)) is ∙ page_from_marker (λ e. e.0) limit [] marker m (empty_first marker)

-- a run of objects is a page of them
pub items_from_prefix : (limit : ℕ) (prefix marker from : List ℕ) (m : Names SwiftObject) (items : List NameItem) → is_gt (name_cmp prefix marker) ≡ true → from ≡ prefix → items ≡ object_run limit prefix (Included from) m → items ≡ object_page limit prefix marker m
items_from_prefix limit prefix marker from m items above is run = run ∙ ap (λ a. object_run limit prefix (Included a) m) is ∙ page_from_prefix (λ e. item_of e.0 e.1) limit prefix marker m above

pub items_from_marker : (limit : ℕ) (prefix marker after : List ℕ) (m : Names SwiftObject) (items : List NameItem) → is_gt (name_cmp prefix marker) ≡ false → after ≡ marker → items ≡ object_run limit prefix (Excluded after) m → items ≡ object_page limit prefix marker m
items_from_marker limit prefix marker after m items before is run = run ∙ ap (λ a. object_run limit prefix (Excluded a) m) is ∙ page_from_marker (λ e. item_of e.0 e.1) limit prefix marker m before
