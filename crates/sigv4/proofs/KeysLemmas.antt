-- The lines of a text of keys, one after the other.
use Rattle.std.proofs.Common.{◌≡◌, ℕ, ◌+◌, ◌<◌, Bool, true, false, cond, not, eqb, List, [], ◌∷◌, ◌++◌, length, map, find, slice_get, is_some, Option, Some, ◌||◌, suc, inl, inr, append_assoc, append-nil, refl, ap, sym, ◌∙◌, arith, length-drop, length-append}
use Rattle.std.specs.List.{list_all, list_any, position_or_len, before_first, after_first}
use Rattle.std.proofs.lemmas.Bool.{cases_Bool, and_from, and_parts, or_from, or_parts}
use Rattle.std.proofs.lemmas.Bool.Decides.{nat_tests}
use Rattle.std.proofs.lemmas.List.Folds.{list_all-append, list_any-append}
use Rattle.std.proofs.lemmas.Option.{slice_get_read}
use Rattle.std.proofs.Math.Seq.{get_or-append_seam, take-append_seam}
use Rattle.sigv4.specs.declared.keys.AccessKey.{AccessKey}
use Rattle.sigv4.specs.Keys.{is_newline, is_key, key_of, lines_of, begin_line, keys_of, has_id, ids_differ, are_keys, IsBadAt, IsTwiceAt}

lines_cons : (byte : ℕ) (text : List ℕ) → lines_of (byte ∷ text) ≡ cond (is_newline byte) ([] ∷ lines_of text) (begin_line byte (lines_of text))
unfolding lines_of
lines_cons byte text = refl

abbrev before : List ℕ → List ℕ
before text = before_first is_newline text

abbrev behind : List ℕ → List ℕ
behind text = after_first is_newline text

-- a text that begins with its newline
cut_at : (byte : ℕ) (text : List ℕ) → is_newline byte ≡ true → (before (byte ∷ text) ≡ []) × (behind (byte ∷ text) ≡ text)
cut_at byte text e =
    let none : position_or_len is_newline (byte ∷ text) ≡ 0 = ap (λ b. cond (not b) (1 + position_or_len is_newline text) 0) e in
    (rw none refl, rw none refl)

-- a text with a byte before its newline
cut_past : (byte : ℕ) (text : List ℕ) → is_newline byte ≡ false → (before (byte ∷ text) ≡ byte ∷ before text) × (behind (byte ∷ text) ≡ behind text)
cut_past byte text e =
    let next : position_or_len is_newline (byte ∷ text) ≡ suc (position_or_len is_newline text) = ap (λ b. cond (not b) (1 + position_or_len is_newline text) 0) e ∙ omega arith in
    let more : suc (position_or_len is_newline text) + 1 ≡ suc (position_or_len is_newline text + 1) = omega arith in
    (rw next refl, rw (next, more) refl)

-- a byte before the first line
begun : (byte : ℕ) (text : List ℕ) → (0 < length text → lines_of text ≡ before text ∷ lines_of (behind text)) → begin_line byte (lines_of text) ≡ (byte ∷ before text) ∷ lines_of (behind text)
unfolding lines_of
begun byte [] h = refl
begun byte (next ∷ text) h = ap (begin_line byte) (h (omega arith))

-- the first line and the others
pub lines_from : (text : List ℕ) → 0 < length text → lines_of text ≡ before_first is_newline text ∷ lines_of (after_first is_newline text)
lines_from [] full = absurd (omega arith)
lines_from (byte ∷ text) full =
    elim (cases_Bool (is_newline byte)) [
      | inl e ↦ let cuts = cut_at byte text e in rw (cuts.0, cuts.1) (lines_cons byte text ∙ ap (λ b. cond b ([] ∷ lines_of text) (begin_line byte (lines_of text))) e)
      | inr e ↦
          let cuts = cut_past byte text e in
          rw (cuts.0, cuts.1) (lines_cons byte text ∙ ap (λ b. cond b ([] ∷ lines_of text) (begin_line byte (lines_of text))) e ∙ begun byte text (lines_from text))
    ]

pub behind_is_shorter : (text : List ℕ) → 0 < length text → length (after_first is_newline text) < length text
behind_is_shorter text full = omega (arith, length-drop (position_or_len is_newline text + 1) text)

-- these keys of the text were read, good and with different ids, and this is left
pub record HasRead (text : List ℕ) (done : List AccessKey) (rest : List ℕ) : Type 0 where
  pub keys : keys_of text ≡ done ++ keys_of rest
  pub good : are_keys done ≡ true

pub has_read_nothing : (text : List ℕ) → HasRead text [] text
unfolding ids_differ
has_read_nothing text = record { keys = refl; good = refl }

next_key : (rest line back : List ℕ) (key : AccessKey) → 0 < length rest → line ≡ before_first is_newline rest → back ≡ after_first is_newline rest → key ≡ key_of line → keys_of rest ≡ key ∷ keys_of back
next_key rest line back key full front tail made = rw tail (rw made (rw front (ap (map key_of) (lines_from rest full))))

unless : (b : Bool) → not b ≡ true → b ≡ false
unless true h = sym h
unless false h = refl

-- one more key, with another id
differ_more : (keys : List AccessKey) (key : AccessKey) → ids_differ keys ≡ true → list_any (has_id key.id) keys ≡ false → ids_differ (keys ++ key ∷ []) ≡ true
unfolding ids_differ
differ_more [] key differ fresh = refl
differ_more (first ∷ keys) key differ fresh =
    let parts = and_parts _ (ids_differ keys) differ in
    let others = or_parts (has_id key.id first) (list_any (has_id key.id) keys) fresh in
    let later : list_any (λ other. has_id other.id first) (keys ++ key ∷ []) ≡ false = list_any-append (λ other. has_id other.id first) keys (key ∷ []) ∙ or_from _ _ (unless _ parts.0) (or_from _ _ others.0 refl) in
    and_from _ _ (ap not later) (differ_more keys key parts.1 others.1)

pub good_more : (keys : List AccessKey) (key : AccessKey) → are_keys keys ≡ true → is_key key ≡ true → list_any (has_id key.id) keys ≡ false → are_keys (keys ++ key ∷ []) ≡ true
good_more keys key good fit fresh =
    let parts = and_parts (list_all is_key keys) (ids_differ keys) good in
    and_from _ _ (list_all-append is_key keys (key ∷ []) ∙ and_from _ _ parts.0 (and_from _ _ fit refl)) (differ_more keys key parts.1 fresh)

pub has_read_more : (text : List ℕ) (done : List AccessKey) (rest line back : List ℕ) (key : AccessKey) (more : List AccessKey) → HasRead text done rest → 0 < length rest → line ≡ before_first is_newline rest → back ≡ after_first is_newline rest → key ≡ key_of line → is_key key ≡ true → list_any (has_id key.id) done ≡ false → more ≡ done ++ key ∷ [] → HasRead text more back
has_read_more text done rest line back key more h full front tail made fit fresh grown =
    rw grown (record {
      keys = rw append_assoc (h.keys ∙ ap (λ ks. done ++ ks) (next_key rest line back key full front tail made));
      good = good_more done key h.good fit fresh;
    })

pub has_read_all : (text : List ℕ) (done : List AccessKey) (rest : List ℕ) → HasRead text done rest → length rest ≡ 0 → (done ≡ keys_of text) × (are_keys (keys_of text) ≡ true)
unfolding lines_of
has_read_all text done [] h none =
    let all : keys_of text ≡ done = h.keys ∙ append-nil done in
    (sym all, rw all h.good)
has_read_all text done (x ∷ rest) h none = absurd (omega arith)

pub seam : (done : List AccessKey) (key : AccessKey) (more : List AccessKey) → slice_get (done ++ key ∷ more) (length done) ≡ Some key
seam done key more =
    let within : length done < length (done ++ key ∷ more) = omega (arith, length-append done (key ∷ more)) in
    slice_get_read (done ++ key ∷ more) (length (done ++ key ∷ more)) (length done) key refl within (sym (get_or-append_seam done key more key))

pub has_read_bad : (text : List ℕ) (done : List AccessKey) (rest line back : List ℕ) (key : AccessKey) → HasRead text done rest → 0 < length rest → line ≡ before_first is_newline rest → back ≡ after_first is_newline rest → key ≡ key_of line → is_key key ≡ false → IsBadAt (length done) (keys_of text)
has_read_bad text done rest line back key h full front tail made unfit =
    let all = h.keys ∙ ap (λ ks. done ++ ks) (next_key rest line back key full front tail made) in
    rw (all, take-append_seam done (key ∷ keys_of back), seam done key (keys_of back)) (h.good, unfit)

pub has_read_twice : (text : List ℕ) (done : List AccessKey) (rest line back : List ℕ) (key : AccessKey) → HasRead text done rest → 0 < length rest → line ≡ before_first is_newline rest → back ≡ after_first is_newline rest → key ≡ key_of line → is_key key ≡ true → list_any (has_id key.id) done ≡ true → IsTwiceAt (length done) (keys_of text)
has_read_twice text done rest line back key h full front tail made fit known =
    let all = h.keys ∙ ap (λ ks. done ++ ks) (next_key rest line back key full front tail made) in
    rw (all, take-append_seam done (key ∷ keys_of back), seam done key (keys_of back)) (h.good, (fit, known))

-- a list has what a test finds
pub finds : (test : AccessKey → Bool) (keys : List AccessKey) → is_some (find test keys) ≡ list_any test keys
finds test [] = refl
finds test (key ∷ keys) = by_test (test key) key (find test keys) (list_any test keys) (finds test keys)
  where
    by_test : (b : Bool) (key : AccessKey) (found : Option AccessKey) (there : Bool) → is_some found ≡ there → is_some (cond b (Some key) found) ≡ (b || there)
    by_test true key found there h = refl
    by_test false key found there h = h

pub found_by : (test : AccessKey → Bool) (keys : List AccessKey) (found : Option AccessKey) → found ≡ find test keys → is_some found ≡ list_any test keys
found_by test keys found h = ap is_some h ∙ finds test keys

pub filled_where : (n : ℕ) (empty : Bool) → empty ≡ eqb n 0 → empty ≡ false → 0 < n
filled_where n empty h e = grind (arith, nat_tests)

pub none_where : (n : ℕ) (empty : Bool) → empty ≡ eqb n 0 → empty ≡ true → n ≡ 0
none_where n empty h e = grind (arith, nat_tests)
