-- The records beside the buckets of some names, and then of others, became what was to become of them.
use Rattle.std.specs.Prelude.{◌≡◌, ◌⊎◌, ◌≤◌, ◌<◌, ◌+◌, ◌||◌, ◌&&◌, ℕ, zero, suc, Bool, true, false, cond, bytes_eq, is_some, sum_by, List, [], ◌∷◌, ◌++◌, map, flat_map, length, take, drop, get_or, None, Some, IfOk, Result, Ok, Err}
use Rattle.std.specs.Result.{IsErrAnd}
use Rattle.std.specs.Option.{option_and_then}
use Rattle.std.specs.List.{AllByRecursion, filter}
use Rattle.std.specs.Ordering.{eq_by_cmp}
use Rattle.std.specs.FinMap.{entries, find, get, get-entries, keys, len}
use Rattle.std.proofs.Common.{refl, sym, ap, subst, ◌∙◌, inl, inr, arith, true≢false}
use Rattle.std.proofs.lemmas.Grind.{flat_map-append}
use Rattle.std.proofs.lemmas.List.{append-nil, length-append, take-append-drop, take_all, take_more}
use Rattle.std.proofs.lemmas.List.Concat.{flat_map-cons}
use Rattle.std.proofs.lemmas.List.Elements.{filter-append}
use Rattle.std.proofs.lemmas.List.Folds.{list_any-append}
use Rattle.std.proofs.lemmas.List.Sums.{sum_by-append, sum_by-cons}
use Rattle.std.proofs.lemmas.Map.Text.{is_eq-slice_cmp}
use Rattle.std.proofs.lemmas.Slice.Eq.{bytes_eq-Decides}
use Rattle.gate_base.specs.Maps.{Names, name_cmp}
use Rattle.s3_names.specs.Bucket.{is_bucket}
use Rattle.swift_calls.specs.Account.{SwiftAccount, SwiftObject, files, files_of}
use Rattle.swift_calls.specs.History.{History, budget, present}
use Rattle.upload_records.specs.Layout.{uploads_name}
use Rattle.upload_records.specs.Native.{record_at, record_of}
use Rattle.upload_records.proofs.lemmas.Sides.{uploads_uploads}
use Rattle.account_calls.specs.declared.fault.PlanFault.{PlanFault}
use Rattle.account_calls.specs.Calls.{Met}
use Rattle.account_calls.specs.Listing.{HasNames}
use Rattle.account_calls.proofs.lemmas.Markers.{IsKey, keys_are}
use Rattle.leftovers.specs.declared.fault.SweepFault.{SweepFault}
use Rattle.sweep.specs.declared.forget.Aged.{Aged}
use Rattle.sweep.specs.Aging.{Ages, AgesAll, AreDistinct, Forgetting, TellsAllAged, TellsBeside, aged, aging_calls, forget_calls, ids_beside, is_beside_one, is_in, is_old, names_forget_calls, old_beside, old_of, record_beside, undated_beside, undated_of}
use Rattle.sweep.specs.Containers.{HasContainer}
use Rattle.sweep.specs.Forgetting.{is_undated_since}
use Rattle.leftovers.specs.Segments.{HasSettled}
use Rattle.leftovers.specs.Sides.{is_uploads_of}
use Rattle.sweep.proofs.AgesMany.{AreApart, aged_again, apart_one, distinct_at, or_both, or_left, or_right}
use Rattle.sweep.proofs.AgesOne.{pair_with, same_name}
use Rattle.sweep.proofs.ForgetCalls.{Pairs, forgetting_failed, forgetting_idle, forgetting_then, forgetting_told, forgot_here, sound_here}
use Rattle.sweep.proofs.PageNames.{distinct_keys}

-- ---- what isn't under a name

none_found : {X : Type 0} (q : List ℕ) (es : List (List ℕ × X)) → is_in q (map (λ e. e.0) es) ≡ false → find name_cmp q es ≡ None
none_found q [] out = refl
none_found q (e ∷ es) out =
    ap (λ t. cond t (Some e.1) (find name_cmp q es)) (is_eq-slice_cmp q e.0 ∙ or_left (bytes_eq q e.0) (is_in q (map (λ x. x.0) es)) out) ∙ none_found q es (or_right (bytes_eq q e.0) (is_in q (map (λ x. x.0) es)) out)

pub no_entry : {X : Type 0} (m : Names X) (q : List ℕ) → is_in q (keys m) ≡ false → get m q ≡ None
no_entry m q out = get-entries m q ∙ none_found q (entries m) out

pub eq_apart : (x y : List ℕ) → bytes_eq x y ≡ false → eq_by_cmp name_cmp x y ≡ false
eq_apart x y e = is_eq-slice_cmp x y ∙ e

pub apart_eq : (x y : List ℕ) → eq_by_cmp name_cmp x y ≡ false → bytes_eq x y ≡ false
apart_eq x y e = sym (is_eq-slice_cmp x y) ∙ e

-- ---- one bucket

not_both : (s t : Bool) → s ≡ true → ((s && t) || false) ≡ false → t ≡ false
not_both true true is e = cc
not_both true false is e = refl
not_both false t is e = cc

module _ {before : ℕ} (bucket : List ℕ) {old new : SwiftAccount} (is : is_bucket bucket ≡ true) (ages : Ages before bucket (ids_beside bucket old) old new) where
  stays_here : (n : List ℕ) → is_some (get new n) ≡ is_some (get old n)
  stays_here n = by (bytes_eq n (uploads_name bucket)) refl
    where
      by : (t : Bool) → bytes_eq n (uploads_name bucket) ≡ t → is_some (get new n) ≡ is_some (get old n)
      by true e = subst (λ m. is_some (get new m) ≡ is_some (get old m)) (sym ((bytes_eq-Decides n (uploads_name bucket)).0 e)) ages.touches.stays
      by false e = ap is_some (ages.touches.others n e)

  fewer_here : (n : List ℕ) → len (files new n) ≤ len (files old n)
  fewer_here n = by (bytes_eq n (uploads_name bucket)) refl
    where
      by : (t : Bool) → bytes_eq n (uploads_name bucket) ≡ t → len (files new n) ≤ len (files old n)
      by true e = subst (λ m. len (files new m) ≤ len (files old m)) (sym ((bytes_eq-Decides n (uploads_name bucket)).0 e)) ages.fewer
      by false e = let same = ap (λ o. len (files_of o)) (ages.touches.others n e) in omega (arith, same)

  became_here : (id : List ℕ) → record_beside new bucket id ≡ aged before (record_beside old bucket id)
  became_here id = by (is_in id (ids_beside bucket old)) refl
    where
      by : (t : Bool) → is_in id (ids_beside bucket old) ≡ t → record_beside new bucket id ≡ aged before (record_beside old bucket id)
      by true here = ages.became id here
      by false out =
          let none : record_beside old bucket id ≡ None = ap (option_and_then record_of) (no_entry (files old (uploads_name bucket)) id out) in
          ap (option_and_then record_of) (ages.others id out) ∙ none ∙ sym (ap (aged before) none)

  pub ages_bucket : AgesAll before (bucket ∷ []) old new
  ages_bucket = record {
    stays = stays_here;
    others = λ n off. ages.touches.others n (not_both (is_bucket bucket) (bytes_eq n (uploads_name bucket)) is off);
    became = λ b id is_b here. subst (λ c. record_beside new c id ≡ aged before (record_beside old c id)) (sym (same_name bucket b here)) (became_here id);
    fewer = fewer_here;
  }

-- a container that isn't a bucket's
pub ages_other : (before : ℕ) (name : List ℕ) (tree : SwiftAccount) → is_bucket name ≡ false → AgesAll before (name ∷ []) tree tree
ages_other before name tree not = record {
  stays = λ n. refl;
  others = λ n off. refl;
  became = λ b id is_b here. absurd (true≢false (sym is_b ∙ ap is_bucket (same_name name b here) ∙ not));
  fewer = λ n. omega arith;
}

pub ages_no : (before : ℕ) (tree : SwiftAccount) → AgesAll before [] tree tree
ages_no before tree = record { stays = λ n. refl; others = λ n off. refl; became = λ b id is_b here. cc; fewer = λ n. omega arith }

-- ---- one after the other

off_both : (xs ys : List (List ℕ)) (n : List ℕ) → is_beside_one (xs ++ ys) n ≡ false → (is_beside_one xs n ≡ false) × (is_beside_one ys n ≡ false)
off_both xs ys n off =
    let e = sym (list_any-append (λ bucket. is_uploads_of bucket n) xs ys) ∙ off in
    (or_left (is_beside_one xs n) (is_beside_one ys n) e, or_right (is_beside_one xs n) (is_beside_one ys n) e)

and_no : (s t : Bool) → t ≡ false → (s && t) ≡ false
and_no true t e = e
and_no false t e = refl

-- the records of a bucket stand beside none of other ones
pub off_others : (bucket : List ℕ) (xs : List (List ℕ)) → is_in bucket xs ≡ false → is_beside_one xs (uploads_name bucket) ≡ false
off_others bucket [] out = refl
off_others bucket (x ∷ xs) out =
    or_both (is_uploads_of x (uploads_name bucket)) (is_beside_one xs (uploads_name bucket))
    (and_no (is_bucket x) (bytes_eq (uploads_name bucket) (uploads_name x)) (apart_eq (uploads_name bucket) (uploads_name x) (uploads_uploads bucket x (eq_apart bucket x (or_left (bytes_eq bucket x) (is_in bucket xs) out)))))
    (off_others bucket xs (or_right (bytes_eq bucket x) (is_in bucket xs) out))

module _ {before : ℕ} (xs : List (List ℕ)) {a b : SwiftAccount} (first : AgesAll before xs a b) where
  -- a bucket that isn't one of these has its records still
  pub records_stay : (bucket : List ℕ) → is_in bucket xs ≡ false → files b (uploads_name bucket) ≡ files a (uploads_name bucket)
  records_stay bucket out = ap files_of (first.others (uploads_name bucket) (off_others bucket xs out))

  module _ (ys : List (List ℕ)) {c : SwiftAccount} (then : AgesAll before ys b c) where
    became_by : (bucket id : List ℕ) → is_bucket bucket ≡ true → (s t : Bool) → is_in bucket xs ≡ s → is_in bucket ys ≡ t → (s || t) ≡ true → record_beside c bucket id ≡ aged before (record_beside a bucket id)
    became_by bucket id is true true e f so = then.became bucket id is f ∙ ap (aged before) (first.became bucket id is e) ∙ aged_again before (record_beside a bucket id)
    became_by bucket id is false true e f so = then.became bucket id is f ∙ ap (λ fs. aged before (record_at fs id)) (records_stay bucket e)
    became_by bucket id is true false e f so = ap (λ o. record_at (files_of o) id) (then.others (uploads_name bucket) (off_others bucket ys f)) ∙ first.became bucket id is e
    became_by bucket id is false false e f so = cc

    pub ages_all_then : AgesAll before (xs ++ ys) a c
    ages_all_then = record {
      stays = λ n. then.stays n ∙ first.stays n;
      others = λ n off. let parts = off_both xs ys n off in then.others n parts.1 ∙ first.others n parts.0;
      became = λ bucket id is here. became_by bucket id is (is_in bucket xs) (is_in bucket ys) refl refl (sym (list_any-append (bytes_eq bucket) xs ys) ∙ here);
      fewer = λ n. let one = first.fewer n in let other = then.fewer n in omega (arith, one, other);
    }

-- ---- what is counted

flat_same : (f g : List ℕ → Pairs) (zs : List (List ℕ)) → AllByRecursion (λ z. f z ≡ g z) zs → flat_map f zs ≡ flat_map g zs
flat_same f g [] h = refl
flat_same f g (z ∷ zs) h = flat_map-cons f z zs ∙ (λ i. h.0 i ++ flat_same f g zs h.1 i) ∙ sym (flat_map-cons g z zs)

sum_same : (f g : List ℕ → ℕ) (zs : List (List ℕ)) → AllByRecursion (λ z. f z ≡ g z) zs → sum_by f zs ≡ sum_by g zs
sum_same f g [] h = refl
sum_same f g (z ∷ zs) h = sum_by-cons f z zs ∙ (λ i. h.0 i + sum_same f g zs h.1 i) ∙ sym (sum_by-cons g z zs)

all_of : (P : List ℕ → Type 0) (p : List ℕ → Bool) (xs : List (List ℕ)) → AllByRecursion P xs → AllByRecursion P (filter p xs)
all_of P p [] h = tt
all_of P p (x ∷ xs) h = elim (p x) as (λ t. AllByRecursion P (cond t (x ∷ filter p xs) (filter p xs))) [ true ↦ (h.0, all_of P p xs h.1) | false ↦ all_of P p xs h.1 ]

pub old_of_append : (before : ℕ) (xs ys : List (List ℕ)) (tree : SwiftAccount) → old_of before (xs ++ ys) tree ≡ old_of before xs tree ++ old_of before ys tree
old_of_append before xs ys tree =
    let f : List ℕ → Pairs = λ bucket. old_beside before bucket tree in
    ap (flat_map f) (filter-append is_bucket xs ys) ∙ flat_map-append f (filter is_bucket xs) (filter is_bucket ys)

undated_of_append : (before : ℕ) (xs ys : List (List ℕ)) (tree : SwiftAccount) → undated_of before (xs ++ ys) tree ≡ undated_of before xs tree + undated_of before ys tree
undated_of_append before xs ys tree =
    let f : List ℕ → ℕ = λ bucket. undated_beside before bucket tree in
    ap (sum_by f) (filter-append is_bucket xs ys) ∙ sum_by-append f (filter is_bucket xs) (filter is_bucket ys)

module _ {before : ℕ} (xs : List (List ℕ)) {a b : SwiftAccount} (first : AgesAll before xs a b) where
  -- what is said of the records beside a bucket by their files
  abbrev olds_by : List ℕ → Names SwiftObject → Pairs
  olds_by bucket fs = map (pair_with bucket) (filter (λ id. is_old before (record_at fs id)) (keys fs))

  abbrev undated_by : Names SwiftObject → ℕ
  undated_by fs = length (filter (λ id. is_undated_since before (record_at fs id)) (keys fs))

  each_old : (ys : List (List ℕ)) → AreApart xs ys → AllByRecursion (λ y. old_beside before y b ≡ old_beside before y a) ys
  each_old [] apart = tt
  each_old (y ∷ ys) apart = (ap (olds_by y) (records_stay xs first y apart.0), each_old ys apart.1)

  each_undated : (ys : List (List ℕ)) → AreApart xs ys → AllByRecursion (λ y. undated_beside before y b ≡ undated_beside before y a) ys
  each_undated [] apart = tt
  each_undated (y ∷ ys) apart = (ap undated_by (records_stay xs first y apart.0), each_undated ys apart.1)

  pub old_of_join : (ys : List (List ℕ)) → AreApart xs ys → old_of before (xs ++ ys) a ≡ old_of before xs a ++ old_of before ys b
  old_of_join ys apart =
      old_of_append before xs ys a
      ∙ ap (λ l. old_of before xs a ++ l) (sym (flat_same (λ y. old_beside before y b) (λ y. old_beside before y a) (filter is_bucket ys) (all_of (λ y. old_beside before y b ≡ old_beside before y a) is_bucket ys (each_old ys apart))))

  undated_of_join : (ys : List (List ℕ)) → AreApart xs ys → undated_of before (xs ++ ys) a ≡ undated_of before xs a + undated_of before ys b
  undated_of_join ys apart =
      undated_of_append before xs ys a
      ∙ ap (λ n. undated_of before xs a + n) (sym (sum_same (λ y. undated_beside before y b) (λ y. undated_beside before y a) (filter is_bucket ys) (all_of (λ y. undated_beside before y b ≡ undated_beside before y a) is_bucket ys (each_undated ys apart))))

pub all_tells_then : {before : ℕ} (xs ys : List (List ℕ)) {a b c : SwiftAccount} {f m : ℕ} {told : Aged} → AreApart xs ys → TellsAllAged before xs a b (record { forgotten = f; migrated = m }) → TellsAllAged before ys b c told
    → TellsAllAged before (xs ++ ys) a c (record { forgotten = f + told.forgotten; migrated = m + told.migrated })
all_tells_then {before = before} xs ys {a = a} {b = b} apart first then = record {
  ages = ages_all_then xs first.ages ys then.ages;
  settled = then.settled;
  forgotten = (λ i. first.forgotten i + then.forgotten i) ∙ sym (ap length (old_of_join xs first.ages ys apart) ∙ length-append (old_of before xs a) (old_of before ys b));
  migrated = (λ i. first.migrated i + then.migrated i) ∙ sym (undated_of_join xs first.ages ys apart);
}

-- ---- the container of one name

one_bucket : {X : Type 0} (f : List (List ℕ) → X) (name : List ℕ) → is_bucket name ≡ true → f (filter is_bucket (name ∷ [])) ≡ f (name ∷ [])
one_bucket f name is = ap (λ t. f (cond t (name ∷ []) [])) is

no_bucket : {X : Type 0} (f : List (List ℕ) → X) (name : List ℕ) → is_bucket name ≡ false → f (filter is_bucket (name ∷ [])) ≡ f []
no_bucket f name not = ap (λ t. f (cond t (name ∷ []) [])) not

pub old_of_one : (before : ℕ) (name : List ℕ) (tree : SwiftAccount) → is_bucket name ≡ true → old_of before (name ∷ []) tree ≡ old_beside before name tree
old_of_one before name tree is =
    let f : List ℕ → Pairs = λ bucket. old_beside before bucket tree in
    one_bucket (flat_map f) name is ∙ flat_map-cons f name [] ∙ append-nil (old_beside before name tree)

undated_of_one : (before : ℕ) (name : List ℕ) (tree : SwiftAccount) → is_bucket name ≡ true → undated_of before (name ∷ []) tree ≡ undated_beside before name tree
undated_of_one before name tree is =
    let f : List ℕ → ℕ = λ bucket. undated_beside before bucket tree in
    let sum = sum_by-cons f name [] in
    one_bucket (sum_by f) name is ∙ omega (arith, sum)

calls_of_one : (name : List ℕ) (tree : SwiftAccount) → is_bucket name ≡ true → names_forget_calls (name ∷ []) tree ≡ forget_calls name tree
calls_of_one name tree is =
    let f : List ℕ → ℕ = λ bucket. forget_calls bucket tree in
    let sum = sum_by-cons f name [] in
    one_bucket (sum_by f) name is ∙ omega (arith, sum)

module _ {before : ℕ} (name : List ℕ) {a b : History} where
  pub bucket_aged : (result : Result Aged PlanFault) → is_bucket name ≡ true → Forgetting a b (HasSettled name) (old_beside before name) (TellsBeside before name) result → Forgetting a b (HasContainer name) (old_of before (name ∷ [])) (TellsAllAged before (name ∷ [])) result
  bucket_aged (Ok told) is forgets =
      forgetting_told {given = HasSettled name} {given' = HasContainer name} {xs = old_beside before name} {zs = old_of before (name ∷ [])} told (λ tree has. record { settled = has.settled; there = has.there }) forgets
      (λ old new sound has tells. old_of_one before name old is)
      (λ old new sound has tells. record {
        ages = ages_bucket name is tells.ages;
        settled = tells.settled;
        forgotten = tells.forgotten ∙ sym (ap length (old_of_one before name old is));
        migrated = tells.migrated ∙ sym (undated_of_one before name old is);
      })
  bucket_aged (Err f) is forgets =
      forgetting_failed {given = HasSettled name} {given' = HasContainer name} {xs = old_beside before name} {zs = old_of before (name ∷ [])} (λ tree has. record { settled = has.settled; there = has.there }) forgets
      (λ tree sound has. ([], old_of_one before name tree is ∙ sym (append-nil (old_beside before name tree)))) (Err f) refl

pub bucket_calls : (name : List ℕ) {a : History} {q : ℕ} → is_bucket name ≡ true → (Met (HasSettled name) a → q ≤ a.called + forget_calls name (present a)) → Met (HasContainer name) a → q ≤ a.called + names_forget_calls (name ∷ []) (present a)
bucket_calls name {a = a} is calls met =
    let few = calls (record { observable = met.observable; sound = met.sound; has = record { settled = met.has.settled; there = met.has.there } }) in
    omega (arith, few, calls_of_one name (present a) is)

pub other_aged : (before : ℕ) (name : List ℕ) (h : History) → is_bucket name ≡ false → Forgetting h h (HasContainer name) (old_of before (name ∷ [])) (TellsAllAged before (name ∷ [])) (Ok (record { forgotten = 0; migrated = 0 }))
other_aged before name h not =
    forgetting_idle {given = HasContainer name} {olds = old_of before (name ∷ [])} {P = TellsAllAged before (name ∷ [])} h (record { forgotten = 0; migrated = 0 })
    (λ tree sound has. no_bucket (flat_map (λ bucket. old_beside before bucket tree)) name not)
    (λ tree sound has. record {
      ages = ages_other before name tree not;
      settled = has.settled;
      forgotten = sym (ap length (no_bucket (flat_map (λ bucket. old_beside before bucket tree)) name not));
      migrated = sym (no_bucket (sum_by (λ bucket. undated_beside before bucket tree)) name not);
    })

-- ---- name by name

key_at : (tree : SwiftAccount) (names : List (List ℕ)) (i : ℕ) (name : List ℕ) → i < length names → name ≡ get_or names i name → AllByRecursion (IsKey tree) names → is_some (get tree name) ≡ true
key_at tree [] i name within is all = absurd (omega (arith, within))
key_at tree (x ∷ names) zero name within is all = ap (λ n. is_some (get tree n)) is ∙ ap is_some all.0.1
key_at tree (x ∷ names) (suc i) name within is all = key_at tree names i name (omega (arith, within)) is all.1

has_one : (names : List (List ℕ)) (i : ℕ) (name : List ℕ) (tree : SwiftAccount) → i < length names → name ≡ get_or names i name → HasNames names tree → is_some (get tree name) ≡ true
has_one names i name tree within is has = key_at tree names i name within is (subst (AllByRecursion (IsKey tree)) (sym has.all) (keys_are tree))

distinct_names : (names : List (List ℕ)) (tree : SwiftAccount) → HasNames names tree → AreDistinct names
distinct_names names tree has = subst AreDistinct (sym has.all) (distinct_keys tree)

take_no : (names : List (List ℕ)) → take 0 names ≡ []
take_no [] = refl
take_no (x ∷ names) = refl

fewer_calls : (n m : ℕ) → n ≤ m → aging_calls n ≤ aging_calls m
fewer_calls n m few = omega (arith, few)

names_calls_append : (xs ys : List (List ℕ)) (tree : SwiftAccount) → names_forget_calls (xs ++ ys) tree ≡ names_forget_calls xs tree + names_forget_calls ys tree
names_calls_append xs ys tree =
    let f : List ℕ → ℕ = λ bucket. forget_calls bucket tree in
    ap (sum_by f) (filter-append is_bucket xs ys) ∙ sum_by-append f (filter is_bucket xs) (filter is_bucket ys)

names_fewer : {before : ℕ} {xs : List (List ℕ)} {old new : SwiftAccount} (zs : List (List ℕ)) → AgesAll before xs old new → sum_by (λ bucket. forget_calls bucket new) zs ≤ sum_by (λ bucket. forget_calls bucket old) zs
names_fewer [] ages = omega arith
names_fewer {old = old} {new = new} (z ∷ zs) ages =
    let one = fewer_calls (len (files new (uploads_name z))) (len (files old (uploads_name z))) (ages.fewer (uploads_name z)) in
    let rest = names_fewer zs ages in
    omega (arith, one, rest, sum_by-cons (λ bucket. forget_calls bucket new) z zs, sum_by-cons (λ bucket. forget_calls bucket old) z zs)

pub record Naming (a b : History) (before : ℕ) (names : List (List ℕ)) (i f m : ℕ) : Type 0 where
  pub forgets : Forgetting a b (HasNames names) (old_of before (take i names)) (TellsAllAged before (take i names)) (Ok (record { forgotten = f; migrated = m }))
  pub counted : a.called + (f + m) ≤ b.called
  pub fits : f + m ≤ budget
  pub paid : Met (HasNames names) a → b.called ≤ a.called + names_forget_calls (take i names) (present a)

pub naming_none : (a : History) (before : ℕ) (names : List (List ℕ)) → Naming a a before names 0 0 0
naming_none a before names = record {
  forgets = forgetting_idle {given = HasNames names} {olds = old_of before (take 0 names)} {P = TellsAllAged before (take 0 names)} a (record { forgotten = 0; migrated = 0 })
      (λ tree sound has. ap (λ l. old_of before l tree) (take_no names))
      (λ tree sound has. subst (λ l. TellsAllAged before l tree tree (record { forgotten = 0; migrated = 0 })) (sym (take_no names)) (record { ages = ages_no before tree; settled = has.settled; forgotten = refl; migrated = refl }));
  counted = omega arith;
  fits = omega arith;
  paid = λ met. omega arith;
}

module _ {a b : History} {before : ℕ} (names : List (List ℕ)) {i f m : ℕ} (naming : Naming a b before names i f m) (name : List ℕ) (within : i < length names) (is : name ≡ get_or names i name) where
  more : take (i + 1) names ≡ take i names ++ name ∷ []
  more = take_more names i name within ∙ ap (λ n. take i names ++ n ∷ []) (sym is)

  apart_here : (tree : SwiftAccount) → HasNames names tree → AreApart (take i names) (name ∷ [])
  apart_here tree has = apart_one (take i names) name (distinct_at names i name (distinct_names names tree has) within is)

  container_here : (old new : SwiftAccount) → HasNames names old → TellsAllAged before (take i names) old new (record { forgotten = f; migrated = m }) → HasContainer name new
  container_here old new has told = record { settled = told.settled; there = told.ages.stays name ∙ has_one names i name old within is has }

  met_here : Met (HasNames names) a → Met (HasContainer name) b
  met_here met = record { observable = naming.forgets.on.observable met.observable; sound = sound_here naming.forgets met; has = container_here (present a) (present b) met.has (forgot_here naming.forgets met) }

  rest_of : (tree : SwiftAccount) → old_of before names tree ≡ old_of before (take (i + 1) names) tree ++ old_of before (drop (i + 1) names) tree
  rest_of tree = ap (λ l. old_of before l tree) (sym (take-append-drop (i + 1) names)) ∙ old_of_append before (take (i + 1) names) (drop (i + 1) names) tree

  paid_more : {q : ℕ} → (Met (HasContainer name) b → q ≤ b.called + names_forget_calls (name ∷ []) (present b)) → Met (HasNames names) a → q ≤ a.called + names_forget_calls (take (i + 1) names) (present a)
  paid_more calls met =
      let so_far = naming.paid met in
      let one = calls (met_here met) in
      let told = forgot_here naming.forgets met in
      let fewer = names_fewer (filter is_bucket (name ∷ [])) told.ages in
      let split = ap (λ l. names_forget_calls l (present a)) more ∙ names_calls_append (take i names) (name ∷ []) (present a) in
      omega (arith, so_far, one, fewer, split)

  pub calls_fault : {q : ℕ} → (Met (HasContainer name) b → q ≤ b.called + names_forget_calls (name ∷ []) (present b)) → Met (HasNames names) a → q ≤ a.called + names_forget_calls names (present a)
  calls_fault calls met =
      let paid = paid_more calls met in
      let split = ap (λ l. names_forget_calls l (present a)) (sym (take-append-drop (i + 1) names)) ∙ names_calls_append (take (i + 1) names) (drop (i + 1) names) (present a) in
      omega (arith, paid, split)

  module _ {c : History} where
    named_more : (result : Result Aged PlanFault) → Forgetting b c (HasContainer name) (old_of before (name ∷ [])) (TellsAllAged before (name ∷ [])) result
        → Forgetting a c (HasNames names) (old_of before (take (i + 1) names)) (λ old last (told : Aged). TellsAllAged before (take (i + 1) names) old last (record { forgotten = f + told.forgotten; migrated = m + told.migrated })) result
    named_more result one =
        forgetting_then {given = HasNames names} {rest = HasContainer name} {xs = old_of before (take i names)} {ys = old_of before (name ∷ [])} {zs = old_of before (take (i + 1) names)} naming.forgets one
        (λ old new sound has told. container_here old new has told)
        (λ old new sound after has told. ap (λ l. old_of before l old) more ∙ old_of_join (take i names) told.ages (name ∷ []) (apart_here old has))
        (λ old new last y sound has told next. subst (λ l. TellsAllAged before l old last (record { forgotten = f + y.forgotten; migrated = m + y.migrated })) (sym more) (all_tells_then (take i names) (name ∷ []) (apart_here old has) told next))

    pub naming_more : (told : Aged) → Forgetting b c (HasContainer name) (old_of before (name ∷ [])) (TellsAllAged before (name ∷ [])) (Ok told)
        → b.called + (told.forgotten + told.migrated) ≤ c.called → (told.forgotten + told.migrated ≡ 0) ⊎ (c.called ≤ budget)
        → (Met (HasContainer name) b → c.called ≤ b.called + names_forget_calls (name ∷ []) (present b)) → Naming a c before names (i + 1) (f + told.forgotten) (m + told.migrated)
    naming_more told one counted few calls = record {
      forgets = forgetting_told {given = HasNames names} {given' = HasNames names} {xs = old_of before (take (i + 1) names)} {zs = old_of before (take (i + 1) names)}
          (record { forgotten = f + told.forgotten; migrated = m + told.migrated }) (λ tree has. has) (named_more (Ok told) one) (λ old new sound has tells. refl) (λ old new sound has tells. tells);
      counted = let so_far = naming.counted in omega (arith, so_far, counted);
      fits = elim few [
        | inl none ↦ let so_far = naming.fits in omega (arith, so_far, none)
        | inr small ↦ let so_far = naming.counted in omega (arith, so_far, counted, small)
      ];
      paid = paid_more calls;
    }

    pub naming_fault : {fault : PlanFault} → Forgetting b c (HasContainer name) (old_of before (name ∷ [])) (TellsAllAged before (name ∷ [])) (Err fault)
        → (result : Result Aged PlanFault) → IsErrAnd result (λ e. e ≡ fault) → Forgetting a c (HasNames names) (old_of before names) (TellsAllAged before names) result
    naming_fault {fault = fault} one result gives =
        forgetting_failed {given = HasNames names} {given' = HasNames names} {xs = old_of before (take (i + 1) names)} {zs = old_of before names} (λ tree has. has) (named_more (Err fault) one)
        (λ tree sound has. (old_of before (drop (i + 1) names) tree, rest_of tree)) result gives

pub naming_all : {a b : History} {before : ℕ} (names : List (List ℕ)) {i f m : ℕ} → length names ≤ i → Naming a b before names i f m → Forgetting a b (HasNames names) (old_of before names) (TellsAllAged before names) (Ok (record { forgotten = f; migrated = m }))
naming_all {a = a} {b = b} {before = before} names {i = i} {f = f} {m = m} far naming =
    subst (λ l. Forgetting a b (HasNames names) (old_of before l) (TellsAllAged before l) (Ok (record { forgotten = f; migrated = m }))) (take_all i names far) naming.forgets

pub calls_all : {a b : History} {before : ℕ} (names : List (List ℕ)) {i f m : ℕ} → length names ≤ i → Naming a b before names i f m → Met (HasNames names) a → b.called ≤ a.called + names_forget_calls names (present a)
calls_all {a = a} {b = b} names far naming = subst (λ l. Met (HasNames names) a → b.called ≤ a.called + names_forget_calls l (present a)) (take_all _ names far) naming.paid

-- where some were counted, the calls are few
pub few_or : (p q : ℕ) (result : Result Aged SweepFault) → IfOk result (λ (told : Aged). (p + (told.forgotten + told.migrated) ≤ q) × (q ≤ budget))
    → IfOk result (λ (told : Aged). (p + (told.forgotten + told.migrated) ≤ q) × ((told.forgotten + told.migrated ≡ 0) ⊎ (q ≤ budget)))
few_or p q (Ok told) few = (few.0, inr few.1)
few_or p q (Err f) few = few
