-- What is found in maps by names and by numbers after each change.
--     IsKeyOrder R, by_name, by_number      what these lemmas ask of an order of keys. Each takes it first: `at_insert by_name m k x`
--     same_key          a key is the given one or apart from it. That q is apart from k is `eq_by_cmp R q k ≡ false`
--     at_.., off_..     what is found after a change: at the key that is changed, at a key apart from it
--     same_at_and_off, same_change, same_names, same_numbers      maps in which the same is found are equal
--     insert_is, remove_is, and at names put_is, removed_is      what holds of each entry still does after a change
--     lookups           for `search` and `grind`: what is found after each change
use Rattle.std.specs.Prelude.{◌≡◌, ℕ, zero, suc, ◌<◌, ◌≤◌, Bool, true, false, cond, ◌&&◌, T, ◌≢◌, ◌⊎◌, List, [], ◌∷◌, Option, None, Some, is_some}
use Rattle.std.specs.Option.{option_map, option_and_then, unwrap_or}
use Rattle.std.specs.List.{cons_option, filter_map}
use Rattle.std.specs.declared.cmp.Ordering.{Ordering}
use Rattle.std.specs.declared.cmp.Ordering.TheVariants.{Less, Equal, Greater}
use Rattle.std.specs.Ordering.{is_eq, is_lt, eq_by_cmp, nat_cmp}
use Rattle.std.specs.Cmp.{IsTotalOrder, Equal-is, eq_by_cmp_equiv, nat_cmp_total}
use Rattle.std.specs.Cmp.Lexicographic.{nat_list_cmp_total}
use Rattle.std.specs.FinMap.{FinMap, IsAntisymmetric, nat_cmp-IsAntisymmetric, slice_cmp-IsAntisymmetric, entries, entries_sorted, empty, get, insert, remove, find, is_sorted, get-entries, get-empty, get-insert, get-remove, get-from_entries, same_map}
use Rattle.std.specs.FinMap.Entries.{below_all}
use Rattle.std.proofs.Common.{refl, sym, ap, subst, ◌∙◌, inl, inr, true≢false, zero-lt-suc, lt-suc_self, lt_trans, not-le_of_lt, eq-or-lt_of_le, eq-zero-or-pos, le_of_suc-le-suc, ne_of_lt}
use Rattle.std.proofs.lemmas.Option.{none-some, same_Some}
use Rattle.std.proofs.lemmas.Bool.{cases_Bool, cases_lt, cond-true, cond-false}
use Rattle.gate_base.specs.Maps.{name_cmp, Names, Numbers, adjust, pick_entry, picked, table}

-- ---- the orders of keys

-- both orders compare any two keys, and only equal keys tie
pub name_total : IsTotalOrder name_cmp
name_total = nat_list_cmp_total

pub name_antisymmetric : IsAntisymmetric name_cmp
name_antisymmetric = slice_cmp-IsAntisymmetric nat_cmp-IsAntisymmetric

pub number_total : IsTotalOrder nat_cmp
number_total = nat_cmp_total

pub number_antisymmetric : IsAntisymmetric nat_cmp
number_antisymmetric = nat_cmp-IsAntisymmetric

-- the two facts together, so that a law takes one argument for them
pub record IsKeyOrder {K : Type 0} (R : K → K → Ordering) : Type 0 where
  pub total : IsTotalOrder R
  pub antisymmetric : IsAntisymmetric R

pub by_name : IsKeyOrder name_cmp
by_name = record { total = name_total; antisymmetric = name_antisymmetric }

pub by_number : IsKeyOrder nat_cmp
by_number = record { total = number_total; antisymmetric = number_antisymmetric }

-- ---- values that may be missing

-- what is there has a value
pub some_value : {X : Type 0} (v : Option X) → is_some v ≡ true → (x : X) × (v ≡ Some x)
some_value None h = absurd (true≢false (sym h))
some_value (Some x) h = (x, refl)

each_value : {X : Type 0} (P : Option X → Type 0) (v : Option X) → P None → ((x : X) → v ≡ Some x → P (Some x)) → P v
each_value P None none some = none
each_value P (Some x) none some = some x refl

-- ---- keys

module _ {K : Type 0} {R : K → K → Ordering} (o : IsKeyOrder R) where
  -- a key ties with itself
  pub key_itself : (k : K) → eq_by_cmp R k k ≡ true
  key_itself k = (eq_by_cmp_equiv o.total).refl k

  -- a key is the given one or apart from it
  pub same_key : (q k : K) → (q ≡ k) ⊎ (eq_by_cmp R q k ≡ false)
  same_key q k = elim (cases_Bool (eq_by_cmp R q k)) [ inl t ↦ inl (o.antisymmetric q k ((Equal-is (R q k)).0 t)) | inr a ↦ inr a ]

  -- keys that are not equal are apart
  pub apart : (q k : K) → q ≢ k → eq_by_cmp R q k ≡ false
  apart q k n = elim (same_key q k) [ inl e ↦ absurd (n e) | inr a ↦ a ]

  -- keys that are apart are not equal
  pub not_same : (q k : K) → eq_by_cmp R q k ≡ false → q ≢ k
  not_same q k a e = true≢false (sym (key_itself k) ∙ ap (λ j. eq_by_cmp R j k) (sym e) ∙ a)

  -- keys that are apart are so in both directions
  pub apart_back : (q k : K) → eq_by_cmp R q k ≡ false → eq_by_cmp R k q ≡ false
  apart_back q k a = (eq_by_cmp_equiv o.total).symm k q ∙ a

-- ---- what is found after a change

module _ {K X : Type 0} {R : K → K → Ordering} (o : IsKeyOrder R) where
  -- nothing is found in the empty map
  pub get_empty : (q : K) → get (empty {X = X} {R = R}) q ≡ None
  get_empty q = get-empty R q

  -- an insert puts its value at the key
  pub at_insert : (m : FinMap R X) (k : K) (x : X) → get (insert m k x) k ≡ Some x
  at_insert m k x = get-insert o.total m k x k ∙ cond-true _ _ _ (key_itself o k)

  -- an insert changes nothing at a key apart
  pub off_insert : (m : FinMap R X) (k : K) (x : X) (q : K) → eq_by_cmp R q k ≡ false → get (insert m k x) q ≡ get m q
  off_insert m k x q a = get-insert o.total m k x q ∙ cond-false _ _ _ a

  -- a removal leaves nothing at the key
  pub at_remove : (m : FinMap R X) (k : K) → get (remove m k) k ≡ None
  at_remove m k = get-remove o.total m k k ∙ cond-true _ _ _ (key_itself o k)

  -- a removal changes nothing at a key apart
  pub off_remove : (m : FinMap R X) (k q : K) → eq_by_cmp R q k ≡ false → get (remove m k) q ≡ get m q
  off_remove m k q a = get-remove o.total m k q ∙ cond-false _ _ _ a

  -- a change puts the changed value at the key, where there is one
  pub at_adjust : (k : K) (f : X → X) (m : FinMap R X) → get (adjust k f m) k ≡ option_map f (get m k)
  unfolding adjust
  at_adjust k f m = elim (get m k) as (λ v. get m k ≡ v
      → get (unwrap_or (option_map (λ x. insert m k (f x)) v) m) k ≡ option_map f v) [ None ↦ λ none. none | Some x ↦ λ is. at_insert m k (f x) ] refl

  -- a change at a key changes nothing at a key apart
  pub off_adjust : (k : K) (f : X → X) (m : FinMap R X) (q : K) → eq_by_cmp R q k ≡ false → get (adjust k f m) q ≡ get m q
  unfolding adjust
  off_adjust k f m q a = elim (get m k) as (λ v. get (unwrap_or (option_map (λ x. insert m k (f x)) v) m) q ≡ get m q) [ None ↦ refl | Some x ↦ off_insert m k (f x) q a ]

  -- what is found after an insert is the new value or was there before, so P holds of it
  pub insert_is : (P : K → X → Type 0) (m : FinMap R X) (k : K) (x : X) (q : K) (y : X) → P k x → (get m q ≡ Some y → P q y)
      → get (insert m k x) q ≡ Some y → P q y
  insert_is P m k x q y new old found = elim (same_key o q k) [
    | inl e ↦ subst (λ j. P j y) (sym e) (subst (P k) (same_Some x y (sym (at_insert m k x) ∙ ap (get (insert m k x)) (sym e) ∙ found)) new)
    | inr a ↦ old (sym (off_insert m k x q a) ∙ found)
  ]

  -- what is found after a removal was there before, so P holds of it
  pub remove_is : (P : K → X → Type 0) (m : FinMap R X) (k q : K) (y : X) → (get m q ≡ Some y → P q y) → get (remove m k) q ≡ Some y → P q y
  remove_is P m k q y old found =
      let gone : q ≡ k → ⊥ = λ e. none-some y (sym (at_remove m k) ∙ ap (get (remove m k)) (sym e) ∙ found) in
      old (sym (off_remove m k q (apart o q k gone)) ∙ found)

  -- maps that agree at a key and apart from it are equal
  pub same_at_and_off : (m n : FinMap R X) (k : K) → get m k ≡ get n k → ((q : K) → eq_by_cmp R q k ≡ false → get m q ≡ get n q) → m ≡ n
  same_at_and_off m n k at off = same_map o.total o.antisymmetric m n (λ q. elim (same_key o q k) [
    | inl e ↦ ap (get m) e ∙ at
        ∙ ap (get n) (sym e)
    | inr a ↦ off q a
  ])

  -- two maps that agree at a key, and apart from it are as a third one, are equal
  pub same_change : (m n p : FinMap R X) (k : K) → get n k ≡ get p k → ((q : K) → eq_by_cmp R q k ≡ false → get n q ≡ get m q)
      → ((q : K) → eq_by_cmp R q k ≡ false → get p q ≡ get m q) → n ≡ p
  same_change m n p k at first second = same_at_and_off n p k at (λ q a. first q a ∙ sym (second q a))

-- ---- changes that come to one, or to none

module _ {K X : Type 0} {R : K → K → Ordering} (o : IsKeyOrder R) where
  -- of two inserts at a key the later one counts
  pub insert_again : (m : FinMap R X) (k : K) (x y : X) → insert (insert m k x) k y ≡ insert m k y
  insert_again m k x y = same_change o m _ _ k (at_insert o _ k y ∙ sym (at_insert o m k y)) (λ q a. off_insert o _ k y q a
      ∙ off_insert o m k x q a) (off_insert o m k y)

  -- to insert what is there changes nothing
  pub insert_there : (m : FinMap R X) (k : K) (x : X) → get m k ≡ Some x → insert m k x ≡ m
  insert_there m k x is = same_at_and_off o _ _ k (at_insert o m k x ∙ sym is) (off_insert o m k x)

  -- to insert after a removal is to insert
  pub insert_remove : (m : FinMap R X) (k : K) (x : X) → insert (remove m k) k x ≡ insert m k x
  insert_remove m k x = same_change o m _ _ k (at_insert o _ k x ∙ sym (at_insert o m k x)) (λ q a. off_insert o _ k x q a
      ∙ off_remove o m k q a) (off_insert o m k x)

  -- a second removal changes nothing
  pub remove_again : (m : FinMap R X) (k : K) → remove (remove m k) k ≡ remove m k
  remove_again m k = same_at_and_off o _ _ k (at_remove o _ k ∙ sym (at_remove o m k)) (off_remove o _ k)

  -- to remove what is not there changes nothing
  pub remove_missing : (m : FinMap R X) (k : K) → get m k ≡ None → remove m k ≡ m
  remove_missing m k none = same_at_and_off o _ _ k (at_remove o m k ∙ sym none) (off_remove o m k)

  -- to remove after an insert is to remove
  pub remove_insert : (m : FinMap R X) (k : K) (x : X) → remove (insert m k x) k ≡ remove m k
  remove_insert m k x = same_change o m _ _ k (at_remove o _ k ∙ sym (at_remove o m k)) (λ q a. off_remove o _ k q a
      ∙ off_insert o m k x q a) (off_remove o m k)

  -- two changes at a key are one
  pub adjust_again : (k : K) (f g : X → X) (m : FinMap R X) → adjust k f (adjust k g m) ≡ adjust k (λ x. f (g x)) m
  adjust_again k f g m =
      let twice = each_value (λ v. option_map f (option_map g v) ≡ option_map (λ x. f (g x)) v) (get m k) refl (λ x is. refl) in
      same_change o m _ _ k (at_adjust o k f _ ∙ ap (option_map f) (at_adjust o k g m) ∙ twice ∙ sym (at_adjust o k _ m)) (λ q a. off_adjust o k f _ q a
      ∙ off_adjust o k g m q a) (off_adjust o k _ m)

  -- changes that agree on the value there are the same
  pub adjust_same : (k : K) (f g : X → X) (m : FinMap R X) → ((x : X) → get m k ≡ Some x → f x ≡ g x) → adjust k f m ≡ adjust k g m
  adjust_same k f g m alike =
      let agree = each_value (λ v. option_map f v ≡ option_map g v) (get m k) refl (λ x is. ap Some (alike x is)) in
      same_change o m _ _ k (at_adjust o k f m ∙ agree ∙ sym (at_adjust o k g m)) (off_adjust o k f m) (off_adjust o k g m)

  -- a change that leaves the value there as it is changes nothing
  pub adjust_stays : (k : K) (f : X → X) (m : FinMap R X) → ((x : X) → get m k ≡ Some x → f x ≡ x) → adjust k f m ≡ m
  adjust_stays k f m stays =
      let kept = each_value (λ v. option_map f v ≡ v) (get m k) refl (λ x is. ap Some (stays x is)) in
      same_at_and_off o _ _ k (at_adjust o k f m ∙ kept) (off_adjust o k f m)

  -- a change where nothing is there changes nothing
  pub adjust_missing : (k : K) (f : X → X) (m : FinMap R X) → get m k ≡ None → adjust k f m ≡ m
  adjust_missing k f m none = adjust_stays k f m (λ x is. absurd (none-some x (sym none ∙ is)))

  -- a change of what is there is an insert
  pub adjust_there : (k : K) (f : X → X) (m : FinMap R X) (x : X) → get m k ≡ Some x → adjust k f m ≡ insert m k (f x)
  adjust_there k f m x is = same_change o m _ _ k (at_adjust o k f m ∙ ap (option_map f) is
      ∙ sym (at_insert o m k (f x))) (off_adjust o k f m) (off_insert o m k (f x))

  -- inserts at keys apart commute
  pub commute_insert : (m : FinMap R X) (k j : K) (x y : X) → eq_by_cmp R k j ≡ false → insert (insert m k x) j y ≡ insert (insert m j y) k x
  commute_insert m k j x y a =
      let off = λ (q : K) (b : eq_by_cmp R q k ≡ false). get-insert o.total _ j y q ∙ ap (cond (eq_by_cmp R q j) (Some y)) (off_insert o m k x q b)
      ∙ sym (get-insert o.total m j y q) in
      same_change o (insert m j y) _ _ k (off_insert o _ j y k a ∙ at_insert o m k x ∙ sym (at_insert o _ k x)) off (off_insert o _ k x)

-- ---- what a function takes over

both_hold : (a b : Bool) → T (a && b) → T a × T b
both_hold true b h = (tt, h)
both_hold false b h = absurd h

not_tied : (r : Ordering) → T (is_lt r) → is_eq r ≡ false
not_tied Less h = refl
not_tied Equal h = absurd h
not_tied Greater h = absurd h

-- past a key that ties with q, a list in order has no other one
none_past : {K X : Type 0} {R : K → K → Ordering} (o : IsTotalOrder R) (q k : K) → R q k ≡ Equal → (es : List (K × X)) → T (below_all R k es)
    → find R q es ≡ None
none_past o q k t [] h = refl
none_past {R = R} o q k t (e ∷ es) h =
    let parts = both_hold (is_lt (R k e.0)) _ h in
    cond-false _ _ _ (ap is_eq (o.congr q k e.0 t) ∙ not_tied (R k e.0) parts.0) ∙ none_past o q k t es parts.1

module _ {K Y : Type 0} (R : K → K → Ordering) (q k : K) where
  found_first : R q k ≡ Equal → (v : Option Y) (es : List (K × Y)) → find R q es ≡ None → find R q (cons_option (option_map (λ y. (k, y)) v) es) ≡ v
  found_first t None es none = none
  found_first t (Some y) es none = ap (λ r. cond (is_eq r) (Some y) (find R q es)) t

  found_later : eq_by_cmp R q k ≡ false → (v : Option Y) (es : List (K × Y)) → find R q (cons_option (option_map (λ y. (k, y)) v) es) ≡ find R q es
  found_later a None es = refl
  found_later a (Some y) es = cond-false _ _ _ a

module _ {K X Y : Type 0} {R : K → K → Ordering} (o : IsKeyOrder R) where
  find-picked : (f : K → X → Option Y) (q : K) (es : List (K × X)) → T (is_sorted R es)
      → find R q (filter_map (pick_entry f) es) ≡ option_and_then (f q) (find R q es)
  find-picked f q [] h = refl
  find-picked f q (e ∷ es) h =
      let parts = both_hold (below_all R e.0 es) _ h in
      let rest = find-picked f q es parts.1 in
      elim (same_key o q e.0) [
        | inl is ↦
            let tied = (Equal-is (R q e.0)).0 (ap (λ k. eq_by_cmp R q k) (sym is) ∙ key_itself o q) in
            let none = rest ∙ ap (option_and_then (f q)) (none_past o.total q e.0 tied es parts.0) in
            found_first R q e.0 tied (f e.0 e.1) _ none ∙ ap (λ k. f k e.1) (sym is)
            ∙ ap (λ r. option_and_then (f q) (cond (is_eq r) (Some e.1) (find R q es))) (sym tied)
        | inr a ↦ found_later R q e.0 a (f e.0 e.1) _ ∙ rest ∙ ap (option_and_then (f q)) (sym (cond-false _ _ _ a))
      ]

  -- what is picked at a key is what f takes over of what is found there
  pub get-picked : (f : K → X → Option Y) (m : FinMap R X) (q : K) → get (picked f m) q ≡ option_and_then (f q) (get m q)
  unfolding picked
  get-picked f m q = get-from_entries o.total _ q ∙ find-picked f q (entries m) (entries_sorted m) ∙ ap (option_and_then (f q)) (sym (get-entries m q))

  -- maps that agree at a key still do in what is picked
  pub picked_alike : (f : K → X → Option Y) (m n : FinMap R X) (q : K) → get m q ≡ get n q → get (picked f m) q ≡ get (picked f n) q
  picked_alike f m n q e = get-picked f m q ∙ ap (option_and_then (f q)) e ∙ sym (get-picked f n q)

  -- nothing is picked of the empty map
  pub picked_empty : (f : K → X → Option Y) → picked f (empty {R = R}) ≡ empty
  picked_empty f = same_map o.total o.antisymmetric _ _ (λ q. get-picked f empty q ∙ ap (option_and_then (f q)) (get_empty o q) ∙ sym (get_empty o q))

  at_picked_insert : (f : K → X → Option Y) (m : FinMap R X) (k : K) (x : X) → get (picked f (insert m k x)) k ≡ f k x
  at_picked_insert f m k x = get-picked f _ k ∙ ap (option_and_then (f k)) (at_insert o m k x)

  off_picked_insert : (f : K → X → Option Y) (m : FinMap R X) (k : K) (x : X) (q : K) → eq_by_cmp R q k ≡ false
      → get (picked f (insert m k x)) q ≡ get (picked f m) q
  off_picked_insert f m k x q a = picked_alike f _ _ q (off_insert o m k x q a)

  -- an entry that is taken over is put in its place
  pub picked_insert : (f : K → X → Option Y) (m : FinMap R X) (k : K) (x : X) (y : Y) → f k x ≡ Some y → picked f (insert m k x) ≡ insert (picked f m) k y
  picked_insert f m k x y is = same_change o (picked f m) _ _ k (at_picked_insert f m k x ∙ is
      ∙ sym (at_insert o _ k y)) (off_picked_insert f m k x) (off_insert o _ k y)

  -- an entry that is not taken over leaves nothing at its key
  pub picked_insert_none : (f : K → X → Option Y) (m : FinMap R X) (k : K) (x : X) → f k x ≡ None → picked f (insert m k x) ≡ remove (picked f m) k
  picked_insert_none f m k x none = same_change o (picked f m) _ _ k (at_picked_insert f m k x ∙ none
      ∙ sym (at_remove o _ k)) (off_picked_insert f m k x) (off_remove o _ k)

  -- an entry of which the same is taken over as before changes nothing
  pub picked_insert_same : (f : K → X → Option Y) (m : FinMap R X) (k : K) (x : X) → f k x ≡ get (picked f m) k → picked f (insert m k x) ≡ picked f m
  picked_insert_same f m k x is = same_at_and_off o _ _ k (at_picked_insert f m k x ∙ is) (off_picked_insert f m k x)

  -- what is removed is not picked
  pub picked_remove : (f : K → X → Option Y) (m : FinMap R X) (k : K) → picked f (remove m k) ≡ remove (picked f m) k
  picked_remove f m k =
      let at = get-picked f _ k ∙ ap (option_and_then (f k)) (at_remove o m k) in
      same_change o (picked f m) _ _ k (at ∙ sym (at_remove o _ k)) (λ q a. picked_alike f _ _ q (off_remove o m k q a)) (off_remove o _ k)

  -- a change h of an entry is the change g of what is taken over of it
  pub picked_adjust : (f : K → X → Option Y) (g : Y → Y) (k : K) (h : X → X) (m : FinMap R X)
      → ((x : X) → get m k ≡ Some x → f k (h x) ≡ option_map g (f k x)) → picked f (adjust k h m) ≡ adjust k g (picked f m)
  picked_adjust f g k h m along =
      let taken = each_value (λ v. option_and_then (f k) (option_map h v) ≡ option_map g (option_and_then (f k) v)) (get m k) refl along in
      let at = get-picked f _ k ∙ ap (option_and_then (f k)) (at_adjust o k h m) ∙ taken ∙ sym (at_adjust o k g _ ∙ ap (option_map g) (get-picked f m k)) in
      same_change o (picked f m) _ _ k at (λ q a. picked_alike f _ _ q (off_adjust o k h m q a)) (off_adjust o k g _)

  -- functions that agree on the entries pick the same
  pub picked_same : (f g : K → X → Option Y) (m : FinMap R X) → ((k : K) (x : X) → get m k ≡ Some x → f k x ≡ g k x) → picked f m ≡ picked g m
  picked_same f g m alike =
      let agree = λ (q : K). each_value (λ v. option_and_then (f q) v ≡ option_and_then (g q) v) (get m q) refl (alike q) in
      same_map o.total o.antisymmetric _ _ (λ q. get-picked f m q ∙ agree q ∙ sym (get-picked g m q))

-- ---- tables

module _ {X : Type 0} where
  -- a value inserted where there is one
  abbrev insert_some : Option X → ℕ → Numbers X → Numbers X
  insert_some v k m = unwrap_or (option_map (insert m k) v) m

  at_insert_some : (v : Option X) (k : ℕ) (m : Numbers X) → get m k ≡ None → get (insert_some v k m) k ≡ v
  at_insert_some None k m none = none
  at_insert_some (Some x) k m none = at_insert by_number m k x

  off_insert_some : (v : Option X) (k : ℕ) (m : Numbers X) (q : ℕ) → q ≢ k → get (insert_some v k m) q ≡ get m q
  off_insert_some None k m q n = refl
  off_insert_some (Some x) k m q n = off_insert by_number m k x q (apart by_number q k n)

  -- a table has nothing at 0
  pub table_zero : (f : ℕ → Option X) (n : ℕ) → get (table f n) 0 ≡ None
  unfolding table
  table_zero f zero = get_empty by_number 0
  table_zero f (suc n) = off_insert_some _ (suc n) _ 0 (ne_of_lt (zero-lt-suc n)) ∙ table_zero f n

  -- a table has nothing above its last number
  pub table_above : (f : ℕ → Option X) (n k : ℕ) → n < k → get (table f n) k ≡ None
  unfolding table
  table_above f zero k above = get_empty by_number k
  table_above f (suc n) k above = off_insert_some _ (suc n) _ k (λ e. ne_of_lt above (sym e)) ∙ table_above f n k (lt_trans (lt-suc_self n) above)

  -- at the numbers between, a table has the function's value
  pub table_within : (f : ℕ → Option X) (n k : ℕ) → 0 < k → k ≤ n → get (table f n) k ≡ f k
  unfolding table
  table_within f zero k low high = absurd (not-le_of_lt low high)
  table_within f (suc n) k low high = elim (eq-or-lt_of_le high) [
    | inl e ↦ ap (get (table f (suc n))) e ∙ at_insert_some _ (suc n) _ (table_above f n (suc n) (lt-suc_self n)) ∙ ap f (sym e)
    | inr l ↦ off_insert_some _ (suc n) _ k (ne_of_lt l) ∙ table_within f n k low (le_of_suc-le-suc l)
  ]

  -- tables of functions that agree at a number agree there
  pub table_alike : (f g : ℕ → Option X) (n q : ℕ) → (0 < q → q ≤ n → f q ≡ g q) → get (table f n) q ≡ get (table g n) q
  table_alike f g n q e = elim (eq-zero-or-pos q) [
    | inl z ↦ ap (get (table f n)) z ∙ table_zero f n ∙ sym (ap (get (table g n)) z ∙ table_zero g n)
    | inr low ↦ elim (cases_lt n q) [
      | inl above ↦ table_above f n q above ∙ sym (table_above g n q above)
      | inr high ↦ table_within f n q low high ∙ e low high ∙ sym (table_within g n q low high)
    ]
  ]

  -- functions that agree at 1 to n have the same table
  pub table_same : (f g : ℕ → Option X) (n : ℕ) → ((k : ℕ) → 0 < k → k ≤ n → f k ≡ g k) → table f n ≡ table g n
  table_same f g n alike = same_map number_total number_antisymmetric _ _ (λ q. table_alike f g n q (alike q))

  -- where the function changes at one number alone, its table has the new value inserted
  pub table_insert : (f g : ℕ → Option X) (n k : ℕ) (x : X) → 0 < k → k ≤ n → g k ≡ Some x → ((j : ℕ) → j ≢ k → g j ≡ f j) → table g n ≡ insert (table f n) k x
  table_insert f g n k x low high is others =
      let off = λ (q : ℕ) (a : eq_by_cmp nat_cmp q k ≡ false). table_alike g f n q (λ l h. others q (not_same by_number q k a)) in
      same_change by_number (table f n) _ _ k (table_within g n k low high ∙ is ∙ sym (at_insert by_number _ k x)) off (off_insert by_number _ k x)

-- ---- the same at names or at numbers

module _ {X : Type 0} where
  -- maps by names in which the same is found are equal
  pub same_names : (m n : Names X) → ((q : List ℕ) → get m q ≡ get n q) → m ≡ n
  same_names m n = same_map name_total name_antisymmetric m n

  -- and so are maps by numbers
  pub same_numbers : (m n : Numbers X) → ((q : ℕ) → get m q ≡ get n q) → m ≡ n
  same_numbers m n = same_map number_total number_antisymmetric m n

  -- what is found after x is put under n is x or was there before, so P holds of it
  pub put_is : (P : List ℕ → X → Type 0) (fs : Names X) (n : List ℕ) (x : X) (m : List ℕ) (f : X) → P n x → (get fs m ≡ Some f → P m f)
      → get (insert fs n x) m ≡ Some f → P m f
  put_is P fs n x m f = insert_is by_name P fs n x m f

  -- what is found after a removal was there before, so P holds of it
  pub removed_is : (P : List ℕ → X → Type 0) (fs : Names X) (n m : List ℕ) (f : X) → (get fs m ≡ Some f → P m f) → get (remove fs n) m ≡ Some f → P m f
  removed_is P fs n m f = remove_is by_name P fs n m f

pub ruleset lookups = (by_name, by_number, get_empty, at_insert, off_insert, at_remove, off_remove, at_adjust, off_adjust, get-picked, apart)
