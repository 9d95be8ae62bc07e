-- The pieces of a query, one after the other.
use Rattle.std.proofs.Common.{◌≡◌, ℕ, ◌+◌, ◌<◌, ◌≤◌, Bool, true, false, cond, not, eqb, List, [], ◌∷◌, ◌++◌, length, filter, map, Ok, Err, append_assoc, append-nil, refl, ap, sym, ◌∙◌, inl, inr, arith, length-drop}
use Rattle.std.specs.List.{list_all, slice_split, position_or_len, before_first, after_first}
use Rattle.std.proofs.lemmas.Bool.{cases_lt, and_from, and_parts, and_left, and_right}
use Rattle.std.proofs.lemmas.Bool.Decides.{nat_tests}
use Rattle.std.proofs.lemmas.Grind.{common_steps}
use Rattle.std.proofs.lemmas.List.Folds.{list_all-append}
use Rattle.std.proofs.lemmas.List.Splits.{slice_split_first}
use Rattle.gate_base.specs.declared.page.Pair.{Pair}
use Rattle.s3_names.specs.declared.fault.NameFault.TheVariants.{NotUtf8}
use Rattle.s3_names.specs.Query.{is_ampersand, is_filled, pieces, pair_of, is_text_pair, text_pairs, is_named, without}
use Rattle.s3_names.proofs.lemmas.Dots.{slice_split_whole}

pub pieces_nil : pieces [] ≡ []
unfolding pieces
pieces_nil = refl

abbrev before : List ℕ → List ℕ
before text = before_first is_ampersand text

abbrev behind : List ℕ → List ℕ
behind text = after_first is_ampersand text

-- the pieces from the first on
pieces_from : (text : List ℕ) → 0 < length text → pieces text ≡ cond (is_filled (before text)) (before text ∷ pieces (behind text)) (pieces (behind text))
unfolding pieces
pieces_from text full =
    elim (cases_lt (position_or_len is_ampersand text) (length text)) [
      | inl within ↦ ap (filter is_filled) (slice_split_first is_ampersand text 0 within)
      | inr past ↦ whole text past
    ]
  where
    whole : (text : List ℕ) → length text ≤ position_or_len is_ampersand text → filter is_filled (slice_split is_ampersand text) ≡ cond (is_filled (before text)) (before text ∷ pieces (behind text)) (pieces (behind text))
    whole text past =
        let front : before text ≡ text = grind (arith, common_steps) in
        let rest : behind text ≡ [] = grind (arith, common_steps) in
        rw (slice_split_whole is_ampersand text past, front, rest) refl

pub pieces_skip : (text : List ℕ) → 0 < length text → length (before_first is_ampersand text) ≡ 0 → pieces text ≡ pieces (after_first is_ampersand text)
pieces_skip text full none =
    let unfilled : is_filled (before text) ≡ false = grind (arith, nat_tests) in
    pieces_from text full ∙ ap (λ b. cond b (before text ∷ pieces (behind text)) (pieces (behind text))) unfilled

pub pieces_more : (text : List ℕ) → 0 < length text → 0 < length (before_first is_ampersand text) → pieces text ≡ before_first is_ampersand text ∷ pieces (after_first is_ampersand text)
pieces_more text full some =
    let filled : is_filled (before text) ≡ true = grind (arith, nat_tests) in
    pieces_from text full ∙ ap (λ b. cond b (before text ∷ pieces (behind text)) (pieces (behind text))) filled

pub behind_is_shorter : (text : List ℕ) → 0 < length text → length (after_first is_ampersand text) < length text
behind_is_shorter text full = omega (arith, length-drop (position_or_len is_ampersand text + 1) text)

-- these pairs of the text were read, all of them texts, and this is left
pub record HasRead (text : List ℕ) (done : List Pair) (rest : List ℕ) : Type 0 where
  pub pairs : map pair_of (pieces text) ≡ done ++ map pair_of (pieces rest)
  pub texts : list_all is_text_pair done ≡ true

pub has_read_nothing : (text : List ℕ) → HasRead text [] text
has_read_nothing text = record { pairs = refl; texts = refl }

pub has_read_skip : (text : List ℕ) (done : List Pair) (rest piece back : List ℕ) → HasRead text done rest → 0 < length rest → piece ≡ before_first is_ampersand rest → back ≡ after_first is_ampersand rest → length piece ≡ 0 → HasRead text done back
has_read_skip text done rest piece back h full front tail none =
    record { pairs = h.pairs ∙ ap (λ ps. done ++ map pair_of ps) (pieces_skip rest full (sym (ap length front) ∙ none) ∙ ap pieces (sym tail)); texts = h.texts }

pieces_next : (rest piece back : List ℕ) → 0 < length rest → piece ≡ before_first is_ampersand rest → back ≡ after_first is_ampersand rest → 0 < length piece → pieces rest ≡ piece ∷ pieces back
pieces_next rest piece back full front tail some =
    pieces_more rest full (omega (arith, ap length front)) ∙ ap (λ x. x ∷ pieces (behind rest)) (sym front) ∙ ap (λ x. piece ∷ pieces x) (sym tail)

pub has_read_more : (text : List ℕ) (done : List Pair) (rest piece back : List ℕ) (pair : Pair) (more : List Pair) → HasRead text done rest → 0 < length rest → piece ≡ before_first is_ampersand rest → back ≡ after_first is_ampersand rest → 0 < length piece → pair ≡ pair_of piece → is_text_pair pair ≡ true → more ≡ done ++ pair ∷ [] → HasRead text more back
has_read_more text done rest piece back pair more h full front tail some made fit grown =
    let next = h.pairs ∙ ap (λ ps. done ++ map pair_of ps) (pieces_next rest piece back full front tail some) ∙ ap (λ p. done ++ p ∷ map pair_of (pieces back)) (sym made) in
    rw grown (record {
      pairs = rw append_assoc next;
      texts = list_all-append is_text_pair done (pair ∷ []) ∙ and_from _ _ h.texts (and_from _ _ fit refl);
    })

pub has_read_all : (text : List ℕ) (done : List Pair) (rest : List ℕ) → HasRead text done rest → length rest ≡ 0 → text_pairs (map pair_of (pieces text)) ≡ Ok done
has_read_all text done [] h none =
    let all : map pair_of (pieces text) ≡ done = h.pairs ∙ ap (λ ps. done ++ map pair_of ps) pieces_nil ∙ append-nil done in
    rw all (ap (λ b. cond b (Ok done) (Err NotUtf8)) h.texts)
has_read_all text done (x ∷ rest) h none = absurd (omega arith)

pub has_read_fault : (text : List ℕ) (done : List Pair) (rest piece back : List ℕ) (pair : Pair) → HasRead text done rest → 0 < length rest → piece ≡ before_first is_ampersand rest → back ≡ after_first is_ampersand rest → 0 < length piece → pair ≡ pair_of piece → is_text_pair pair ≡ false → text_pairs (map pair_of (pieces text)) ≡ Err NotUtf8
has_read_fault text done rest piece back pair h full front tail some made unfit =
    let next = h.pairs ∙ ap (λ ps. done ++ map pair_of ps) (pieces_next rest piece back full front tail some) ∙ ap (λ p. done ++ p ∷ map pair_of (pieces back)) (sym made) in
    let more = pair ∷ map pair_of (pieces back) in
    let bad : list_all is_text_pair (done ++ more) ≡ false = list_all-append is_text_pair done more ∙ and_right _ _ (and_left _ _ unfit) in
    rw next (ap (λ b. cond b (Ok (done ++ more)) (Err NotUtf8)) bad)

pub filled_where : (n : ℕ) (empty : Bool) → empty ≡ eqb n 0 → empty ≡ false → 0 < n
filled_where n empty h e = grind (arith, nat_tests)

pub none_where : (n : ℕ) (empty : Bool) → empty ≡ eqb n 0 → empty ≡ true → n ≡ 0
none_where n empty h e = grind (arith, nat_tests)

keeps_texts : (b : Bool) (pair : Pair) (kept : List Pair) → is_text_pair pair ≡ true → list_all is_text_pair kept ≡ true → list_all is_text_pair (cond (not b) (pair ∷ kept) kept) ≡ true
keeps_texts true pair kept text texts = texts
keeps_texts false pair kept text texts = and_from _ _ text texts

-- what is kept of a query's pairs are texts
pub kept_are_texts : (name : List ℕ) (pairs : List Pair) → list_all is_text_pair pairs ≡ true → list_all is_text_pair (without name pairs) ≡ true
kept_are_texts name [] texts = refl
kept_are_texts name (pair ∷ pairs) texts =
    let parts = and_parts (is_text_pair pair) (list_all is_text_pair pairs) texts in
    keeps_texts (is_named name pair) pair (without name pairs) parts.0 (kept_are_texts name pairs parts.1)
