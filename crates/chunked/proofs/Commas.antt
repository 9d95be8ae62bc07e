-- The pieces of a text between its commas.
use Rattle.std.proofs.Common.{◌≡◌, ℕ, ◌+◌, ◌<◌, ◌≤◌, suc, Bool, true, false, cond, not, nat_lt, List, [], ◌∷◌, ◌++◌, length, refl, sym, ◌∙◌, ap, arith, append_assoc, append-nil}
use Rattle.std.specs.Prelude.{flat_map}
use Rattle.std.specs.List.{position_or_len, before_first, after_first, slice_split, onto_first}
use Rattle.std.proofs.lemmas.Bool.{ltb-true, ltb-false, lt-ltb, le-ltb}
use Rattle.std.proofs.lemmas.List.{length-drop}
use Rattle.std.proofs.lemmas.List.Splits.{slice_split_first}
use Rattle.chunked.specs.Encoding.{is_comma, kept_piece}

-- a piece, and those behind the comma
pub pieces_more : (kept text : List ℕ) → nat_lt (position_or_len is_comma text) (length text) ≡ true
    → (kept ++ kept_piece (before_first is_comma text)) ++ flat_map kept_piece (slice_split is_comma (after_first is_comma text)) ≡ kept ++ flat_map kept_piece (slice_split is_comma text)
pieces_more kept text h =
    let split = slice_split_first is_comma text 0 (ltb-true (position_or_len is_comma text) (length text) h) in
    append_assoc kept (kept_piece (before_first is_comma text)) (flat_map kept_piece (slice_split is_comma (after_first is_comma text)))
    ∙ ap (λ ps. kept ++ flat_map kept_piece ps) (sym split)

pub behind_shorter : (text : List ℕ) → nat_lt (position_or_len is_comma text) (length text) ≡ true → length (after_first is_comma text) < length text
behind_shorter text h =
    let within : position_or_len is_comma text < length text = ltb-true (position_or_len is_comma text) (length text) h in
    omega (arith, length-drop (position_or_len is_comma text + 1) text, within)

-- without a comma the text is one piece
split_by : (b : ℕ) (text : List ℕ) (comma : Bool) → is_comma b ≡ comma → nat_lt (cond (not comma) (1 + position_or_len is_comma text) 0) (suc (length text)) ≡ false
    → (nat_lt (position_or_len is_comma text) (length text) ≡ false → slice_split is_comma text ≡ text ∷ []) → cond comma ([] ∷ slice_split is_comma text) (onto_first b (slice_split is_comma text)) ≡ (b ∷ text) ∷ []
split_by b text true is h rest = let k : false ≡ true = sym h ∙ lt-ltb 0 (suc (length text)) (omega arith) in cc
split_by b text false is h rest =
    let past : suc (length text) ≤ 1 + position_or_len is_comma text = ltb-false (1 + position_or_len is_comma text) (suc (length text)) h in
    ap (onto_first b) (rest (le-ltb (position_or_len is_comma text) (length text) (omega (arith, past))))

pub one_piece : (text : List ℕ) → nat_lt (position_or_len is_comma text) (length text) ≡ false → slice_split is_comma text ≡ text ∷ []
one_piece [] h = refl
one_piece (b ∷ text) h = split_by b text (is_comma b) refl h (one_piece text)

pub pieces_last : (kept text : List ℕ) → nat_lt (position_or_len is_comma text) (length text) ≡ false → kept ++ kept_piece text ≡ kept ++ flat_map kept_piece (slice_split is_comma text)
pieces_last kept text h = ap (λ t. kept ++ t) (sym (ap (flat_map kept_piece) (one_piece text h) ∙ append-nil (kept_piece text)))
