-- The records of some names, and then of others, became what was to become of them.
use Rattle.std.specs.Prelude.{◌≡◌, ◌<◌, ◌+◌, ◌||◌, ℕ, zero, suc, nat_lt, Bool, true, false, cond, bytes_eq, List, [], ◌∷◌, ◌++◌, map, length, take, get_or, Option, None, Some}
use Rattle.std.specs.Option.{option_and_then, unwrap_or}
use Rattle.std.specs.List.{AllByRecursion, filter}
use Rattle.std.proofs.Common.{refl, sym, ap, ◌∙◌, arith, true≢false}
use Rattle.std.proofs.lemmas.List.{length-append, map-append}
use Rattle.std.proofs.lemmas.List.Elements.{filter-append}
use Rattle.std.proofs.lemmas.List.Folds.{list_any-append}
use Rattle.std.proofs.lemmas.Slice.Eq.{bytes_eq-Decides}
use Rattle.swift_calls.specs.Account.{SwiftAccount}
use Rattle.upload_texts.specs.declared.record.Record.{Record}
use Rattle.upload_texts.specs.declared.record.Record.TheVariants.{Open, Done}
use Rattle.upload_records.specs.Layout.{uploads_name}
use Rattle.upload_records.specs.Native.{record_of}
use Rattle.sweep.specs.declared.forget.Aged.{Aged}
use Rattle.sweep.specs.Aging.{Ages, AreDistinct, TellsAged, aged, is_in, is_old, old_among, record_beside, undated_among}
use Rattle.sweep.specs.Forgetting.{is_undated_since}
use Rattle.sweep.proofs.AgesOne.{pair_with}
use Rattle.leftovers.proofs.lemmas.Touched.{touches_none, touches_trans}

-- ---- what became of a record stays

again_by : (before : ℕ) (d : Record) (t : Bool) → aged before (Some d) ≡ Some d → aged before (cond t None (Some d)) ≡ cond t None (Some d)
again_by before d true same = refl
again_by before d false same = same

aged_done : (before moment : ℕ) (d : Record) (t : Bool) → nat_lt moment before ≡ t → aged before (Some d) ≡ cond (nat_lt moment before) None (Some d) → aged before (cond t None (Some d)) ≡ cond t None (Some d)
aged_done before moment d true same is = refl
aged_done before moment d false same is = is ∙ ap (λ t. cond t None (Some d)) same

pub aged_again : (before : ℕ) (told : Option Record) → aged before (aged before told) ≡ aged before told
aged_again before None = refl
aged_again before (Some (Open key content_type meta started)) = refl
aged_again before (Some (Done key list etag started moment)) =
    aged_done before (unwrap_or moment started) (Done key list etag started (Some (unwrap_or moment started))) (nat_lt (unwrap_or moment started) before) refl refl

-- ---- names

pub bytes_swap : (x y : List ℕ) → bytes_eq x y ≡ false → bytes_eq y x ≡ false
bytes_swap x y apart = by (bytes_eq y x) refl
  where
    by : (t : Bool) → bytes_eq y x ≡ t → bytes_eq y x ≡ false
    by true e = let same : y ≡ x = (bytes_eq-Decides y x).0 e in absurd (true≢false (sym ((bytes_eq-Decides x y).1 (sym same)) ∙ apart))
    by false e = e

pub or_left : (s t : Bool) → (s || t) ≡ false → s ≡ false
or_left true t e = cc
or_left false t e = refl

pub or_right : (s t : Bool) → (s || t) ≡ false → t ≡ false
or_right true t e = cc
or_right false t e = e

pub or_both : (s t : Bool) → s ≡ false → t ≡ false → (s || t) ≡ false
or_both s t e f = ap (λ x. x || t) e ∙ f

or_one : (s t : Bool) → (s || t) ≡ true → t ≡ false → s ≡ true
or_one true t e f = refl
or_one false t e f = let no : true ≡ false = sym e ∙ f in cc

apart_at : (y : List ℕ) (ys : List (List ℕ)) (i : ℕ) (name : List ℕ) → is_in y ys ≡ false → i < length ys → name ≡ get_or ys i name → bytes_eq y name ≡ false
apart_at y [] i name out within is = absurd (omega (arith, within))
apart_at y (x ∷ ys) zero name out within is = ap (bytes_eq y) is ∙ or_left (bytes_eq y x) (is_in y ys) out
apart_at y (x ∷ ys) (suc i) name out within is = apart_at y ys i name (or_right (bytes_eq y x) (is_in y ys) out) (omega (arith, within)) is

-- a name isn't among those before it
pub distinct_at : (names : List (List ℕ)) (i : ℕ) (name : List ℕ) → AreDistinct names → i < length names → name ≡ get_or names i name → is_in name (take i names) ≡ false
distinct_at [] i name d within is = absurd (omega (arith, within))
distinct_at (y ∷ ys) zero name d within is = refl
distinct_at (y ∷ ys) (suc i) name d within is =
    or_both (bytes_eq name y) (is_in name (take i ys)) (bytes_swap y name (apart_at y ys i name d.0 (omega (arith, within)) is)) (distinct_at ys i name d.1 (omega (arith, within)) is)

-- each of these isn't one of those
abbrev pub AreApart : List (List ℕ) → List (List ℕ) → Type 0
AreApart xs ys = AllByRecursion (λ y. is_in y xs ≡ false) ys

pub apart_one : (xs : List (List ℕ)) (name : List ℕ) → is_in name xs ≡ false → AreApart xs (name ∷ [])
apart_one xs name out = (out, tt)

apart_more : (x : List ℕ) (xs ys : List (List ℕ)) → is_in x ys ≡ false → AreApart xs ys → AreApart (x ∷ xs) ys
apart_more x xs [] out apart = tt
apart_more x xs (y ∷ ys) out apart =
    (or_both (bytes_eq y x) (is_in y xs) (bytes_swap x y (or_left (bytes_eq x y) (is_in x ys) out)) apart.0, apart_more x xs ys (or_right (bytes_eq x y) (is_in x ys) out) apart.1)

all_apart : (ys : List (List ℕ)) → AreApart [] ys
all_apart [] = tt
all_apart (y ∷ ys) = (refl, all_apart ys)

in_front : (x : List ℕ) (xs ys : List (List ℕ)) → is_in x (xs ++ ys) ≡ false → (is_in x xs ≡ false) × (is_in x ys ≡ false)
in_front x xs ys out = let e = sym (list_any-append (bytes_eq x) xs ys) ∙ out in (or_left (is_in x xs) (is_in x ys) e, or_right (is_in x xs) (is_in x ys) e)

-- of distinct names the first and the rest are apart, and each distinct
pub distinct_parts : (xs ys : List (List ℕ)) → AreDistinct (xs ++ ys) → AreDistinct xs × AreDistinct ys × AreApart xs ys
distinct_parts [] ys d = (tt, d, all_apart ys)
distinct_parts (x ∷ xs) ys d =
    let rest = distinct_parts xs ys d.1 in
    let out = in_front x xs ys d.0 in
    ((out.0, rest.0), rest.1, apart_more x xs ys out.1 rest.2)

-- ---- the accounts

pub ages_none : (before : ℕ) (bucket : List ℕ) (tree : SwiftAccount) → Ages before bucket [] tree tree
ages_none before bucket tree = record {
  touches = touches_none (uploads_name bucket) tree;
  became = λ id here. cc;
  others = λ id apart. refl;
  fewer = omega arith;
}

module _ {before : ℕ} {bucket : List ℕ} (xs ys : List (List ℕ)) {a b c : SwiftAccount} (first : Ages before bucket xs a b) (then : Ages before bucket ys b c) where
  in_both : (id : List ℕ) → is_in id (xs ++ ys) ≡ (is_in id xs || is_in id ys)
  in_both id = list_any-append (bytes_eq id) xs ys

  became_by : (id : List ℕ) (s t : Bool) → is_in id xs ≡ s → is_in id ys ≡ t → (s || t) ≡ true → record_beside c bucket id ≡ aged before (record_beside a bucket id)
  became_by id true true e f is = then.became id f ∙ ap (aged before) (first.became id e) ∙ aged_again before (record_beside a bucket id)
  became_by id false true e f is = then.became id f ∙ ap (aged before) (ap (option_and_then record_of) (first.others id e))
  became_by id true false e f is = ap (option_and_then record_of) (then.others id f) ∙ first.became id e
  became_by id false false e f is = cc

  pub ages_then : Ages before bucket (xs ++ ys) a c
  ages_then = record {
    touches = touches_trans first.touches then.touches;
    became = λ id here. became_by id (is_in id xs) (is_in id ys) refl refl (sym (in_both id) ∙ here);
    others = λ id apart.
        let out = in_front id xs ys apart in
        then.others id out.1 ∙ first.others id out.0;
    fewer = let one = first.fewer in let other = then.fewer in omega (arith, one, other);
  }

-- ---- what is counted

pub filter_same : (p q : List ℕ → Bool) (ys : List (List ℕ)) → AllByRecursion (λ y. p y ≡ q y) ys → filter p ys ≡ filter q ys
filter_same p q [] h = refl
filter_same p q (y ∷ ys) h = (λ i. cond (h.0 i) (y ∷ filter_same p q ys h.1 i) (filter_same p q ys h.1 i))

pub olds_append : (before : ℕ) (bucket : List ℕ) (xs ys : List (List ℕ)) (tree : SwiftAccount) → old_among before bucket (xs ++ ys) tree ≡ old_among before bucket xs tree ++ old_among before bucket ys tree
olds_append before bucket xs ys tree =
    let test : List ℕ → Bool = λ id. is_old before (record_beside tree bucket id) in
    ap (map (pair_with bucket)) (filter-append test xs ys) ∙ map-append (pair_with bucket) (filter test xs) (filter test ys)

undated_append : (before : ℕ) (bucket : List ℕ) (xs ys : List (List ℕ)) (tree : SwiftAccount) → undated_among before bucket (xs ++ ys) tree ≡ undated_among before bucket xs tree + undated_among before bucket ys tree
undated_append before bucket xs ys tree =
    let test : List ℕ → Bool = λ id. is_undated_since before (record_beside tree bucket id) in
    ap length (filter-append test xs ys) ∙ length-append (filter test xs) (filter test ys)

module _ {before : ℕ} {bucket : List ℕ} (xs : List (List ℕ)) {a b : SwiftAccount} (ages : Ages before bucket xs a b) where
  record_stays : (id : List ℕ) → is_in id xs ≡ false → record_beside b bucket id ≡ record_beside a bucket id
  record_stays id out = ap (option_and_then record_of) (ages.others id out)

  tests_same : (test : Option Record → Bool) (ys : List (List ℕ)) → AreApart xs ys → AllByRecursion (λ y. test (record_beside b bucket y) ≡ test (record_beside a bucket y)) ys
  tests_same test [] apart = tt
  tests_same test (y ∷ ys) apart = (ap test (record_stays y apart.0), tests_same test ys apart.1)

  -- of other names the same are old, and the same lack their moment
  pub olds_stay : (ys : List (List ℕ)) → AreApart xs ys → old_among before bucket ys b ≡ old_among before bucket ys a
  olds_stay ys apart = ap (map (pair_with bucket)) (filter_same (λ id. is_old before (record_beside b bucket id)) (λ id. is_old before (record_beside a bucket id)) ys (tests_same (is_old before) ys apart))

  undated_stay : (ys : List (List ℕ)) → AreApart xs ys → undated_among before bucket ys b ≡ undated_among before bucket ys a
  undated_stay ys apart = ap length (filter_same (λ id. is_undated_since before (record_beside b bucket id)) (λ id. is_undated_since before (record_beside a bucket id)) ys (tests_same (is_undated_since before) ys apart))

  pub olds_join : (ys : List (List ℕ)) → AreApart xs ys → old_among before bucket (xs ++ ys) a ≡ old_among before bucket xs a ++ old_among before bucket ys b
  olds_join ys apart = olds_append before bucket xs ys a ∙ ap (λ l. old_among before bucket xs a ++ l) (sym (olds_stay ys apart))

  pub undated_join : (ys : List (List ℕ)) → AreApart xs ys → undated_among before bucket (xs ++ ys) a ≡ undated_among before bucket xs a + undated_among before bucket ys b
  undated_join ys apart = undated_append before bucket xs ys a ∙ ap (λ n. undated_among before bucket xs a + n) (sym (undated_stay ys apart))

pub tells_then : {before : ℕ} {bucket : List ℕ} (xs ys : List (List ℕ)) {a b c : SwiftAccount} {f m : ℕ} {told : Aged} → AreApart xs ys → TellsAged before bucket xs a b (record { forgotten = f; migrated = m }) → TellsAged before bucket ys b c told
    → TellsAged before bucket (xs ++ ys) a c (record { forgotten = f + told.forgotten; migrated = m + told.migrated })
tells_then {before = before} {bucket = bucket} xs ys {a = a} {b = b} {c = c} {f = f} {m = m} {told = told} apart first then = record {
  ages = ages_then xs ys first.ages then.ages;
  settled = then.settled;
  forgotten = (λ i. first.forgotten i + then.forgotten i) ∙ sym (ap length (olds_join xs first.ages ys apart) ∙ length-append (old_among before bucket xs a) (old_among before bucket ys b));
  migrated = (λ i. first.migrated i + then.migrated i) ∙ sym (undated_join xs first.ages ys apart);
}
