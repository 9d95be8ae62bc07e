-- Texts joined and read.
use Rattle.std.proofs.Common.{◌≡◌, ℕ, zero, suc, ◌+◌, ◌<◌, ◌≤◌, ◌^◌, Bool, true, false, cond, not, List, [], ◌∷◌, ◌++◌, length, take, drop, refl, ap, sym, ◌∙◌, arith, append_assoc, append-nil, length-drop, length-take, length-append, take_at, drop_at}
use Rattle.std.specs.Prelude.{◌&&◌, flat_map, decimal, nat_le, unwrap_or, Some, None}
use Rattle.std.specs.Str.Parse.{digits_value}
use Rattle.std.specs.List.{list_all, position_or_len, before_first, after_first}
use Rattle.std.proofs.lemmas.Bool.{and_parts, and_from}
use Rattle.std.proofs.lemmas.Bool.Decides.{nat_tests}
use Rattle.std.proofs.lemmas.Str.Parse.{digits_value_short}
use Rattle.gate_base.specs.Ascii.{is_digit}
use Rattle.text_forms.specs.Numbers.{is_number, number_of}
use Rattle.text_forms.proofs.lemmas.Decimals.{digits_model, decimal_digits, number_of_decimal}
use Rattle.object_rows.specs.Pieces.{piece_text, joined, is_dot, piece_size, first_piece, other_pieces, pieces_in, pieces_of, is_short}
use Rattle.object_rows.proofs.Cuts.{before_first_at, after_first_at}

-- the number that is read for a size fits into 19 digits
number_is_below : (text : List ℕ) → unwrap_or (number_of 19 text) 0 < 10 ^ 19
unfolding number_of
number_is_below text = by_test (is_number 19 text) refl
  where
    by_test : (b : Bool) → is_number 19 text ≡ b → unwrap_or (cond b (Some (digits_value 10 text)) None) 0 < 10 ^ 19
    by_test true h =
        let parts = and_parts (nat_le 1 (length text) && nat_le (length text) 19) (list_all is_digit text) h in
        let short = (and_parts (nat_le 1 (length text)) (nat_le (length text) 19) parts.0).1 in
        digits_value_short digits_model text 19 parts.1 (grind (arith, nat_tests, short))
    by_test false h = omega arith

-- what stands behind a piece is shorter
pub others_are_shorter : (text : List ℕ) → 0 < length text → length (other_pieces text) < length text
unfolding other_pieces
others_are_shorter text full =
    let sized = length-drop (position_or_len is_dot text + 1) text in
    let behind = length-drop (piece_size text) (after_first is_dot text) in
    omega arith

piece_turns : (m n : ℕ) (text : List ℕ) → length text ≤ m → length text ≤ n → pieces_in m text ≡ pieces_in n text
unfolding pieces_in
piece_turns zero zero text h k = refl
piece_turns zero (suc n) [] h k = refl
piece_turns zero (suc n) (byte ∷ text) h k = absurd (omega arith)
piece_turns (suc m) zero [] h k = refl
piece_turns (suc m) zero (byte ∷ text) h k = absurd (omega arith)
piece_turns (suc m) (suc n) [] h k = refl
piece_turns (suc m) (suc n) (byte ∷ text) h k =
    let less = others_are_shorter (byte ∷ text) (omega arith) in
    ap (λ pieces. first_piece (byte ∷ text) ∷ pieces) (piece_turns m n (other_pieces (byte ∷ text)) (omega arith) (omega arith))

-- the first piece and the others
pub pieces_from : (text : List ℕ) → 0 < length text → pieces_of text ≡ first_piece text ∷ pieces_of (other_pieces text)
unfolding pieces_of pieces_in
pieces_from [] full = absurd (omega arith)
pieces_from (byte ∷ text) full =
    let less = others_are_shorter (byte ∷ text) (omega arith) in
    ap (λ pieces. first_piece (byte ∷ text) ∷ pieces) (piece_turns (length text) (length (other_pieces (byte ∷ text))) (other_pieces (byte ∷ text)) (omega arith) (omega arith))

pub pieces_more : (text rest piece behind : List ℕ) (done more : List (List ℕ)) → pieces_of text ≡ done ++ pieces_of rest → 0 < length rest → piece ≡ first_piece rest → behind ≡ other_pieces rest → more ≡ done ++ piece ∷ [] → pieces_of text ≡ more ++ pieces_of behind
pieces_more text rest piece behind done more h full made left grown =
    rw (grown, left, made, append_assoc done (first_piece rest ∷ []) (pieces_of (other_pieces rest))) (h ∙ ap (λ pieces. done ++ pieces) (pieces_from rest full))

pub pieces_all : (text rest : List ℕ) (done : List (List ℕ)) → pieces_of text ≡ done ++ pieces_of rest → length rest ≡ 0 → done ≡ pieces_of text
unfolding pieces_of pieces_in
pieces_all text [] done h none = sym (h ∙ append-nil done)
pieces_all text (byte ∷ rest) done h none = absurd (omega arith)

pub filled_where : (n : ℕ) → (n ≡ 0 → ⊥) → 0 < n
filled_where n h = omega arith

-- ---- joined texts are read

weaken : (p q : ℕ → Bool) → ((byte : ℕ) → p byte ≡ true → q byte ≡ true) → (text : List ℕ) → list_all p text ≡ true → list_all q text ≡ true
weaken p q h [] all = refl
weaken p q h (byte ∷ text) all =
    let parts = and_parts (p byte) (list_all p text) all in
    and_from _ _ (h byte parts.0) (weaken p q h text parts.1)

digit_is_no_dot : (byte : ℕ) → is_digit byte ≡ true → not (is_dot byte) ≡ true
digit_is_no_dot byte h = grind (arith, nat_tests)

undotted : (n : ℕ) → n < 10 ^ 19 → list_all (λ byte. not (is_dot byte)) (decimal n) ≡ true
undotted n small = weaken is_digit (λ byte. not (is_dot byte)) digit_is_no_dot (decimal n) (decimal_digits n (omega arith))

regroup : (n piece rest : List ℕ) → ((n ++ 46 ∷ []) ++ piece) ++ rest ≡ n ++ 46 ∷ (piece ++ rest)
regroup n piece rest = simp append_assoc

-- a piece's text before a rest reads as the piece and the rest
pub record ReadsFirst (piece text rest : List ℕ) : Type 0 where
  pub first : first_piece text ≡ piece
  pub others : other_pieces text ≡ rest

reads_first : (piece rest : List ℕ) → is_short piece ≡ true → ReadsFirst piece (piece_text piece ++ rest) rest
unfolding first_piece other_pieces
reads_first piece rest h =
    let short : length piece < 10 ^ 19 = grind (arith, nat_tests, h) in
    let n = decimal (length piece) in
    let body = piece ++ rest in
    let text = piece_text piece ++ rest in
    let grouped : text ≡ n ++ 46 ∷ body = regroup n piece rest in
    let is_body : after_first is_dot text ≡ body = ap (after_first is_dot) grouped ∙ after_first_at is_dot n 46 body refl (undotted (length piece) short) in
    let is_size : piece_size text ≡ length piece =
    ap piece_size grouped ∙ ap (λ t. unwrap_or (number_of 19 t) 0) (before_first_at is_dot n 46 body refl (undotted (length piece) short)) ∙ ap (λ o. unwrap_or o 0) (number_of_decimal 19 (length piece) (omega arith) short (omega arith)) in
    let is_piece : take (piece_size text) (after_first is_dot text) ≡ piece =
    ap (λ k. take k (after_first is_dot text)) is_size ∙ ap (take (length piece)) is_body ∙ take_at piece rest (length piece) refl in
    let is_rest : drop (piece_size text) (after_first is_dot text) ≡ rest =
    ap (λ k. drop k (after_first is_dot text)) is_size ∙ ap (drop (length piece)) is_body ∙ drop_at piece rest (length piece) refl in
    record { first = is_piece; others = is_rest }

text_is_full : (piece rest : List ℕ) → 0 < length (piece_text piece ++ rest)
text_is_full piece rest =
    let n = decimal (length piece) in
    omega (arith, ap length (regroup n piece rest), length-append n (46 ∷ (piece ++ rest)))

pub pieces_read : (pieces : List (List ℕ)) → list_all is_short pieces ≡ true → pieces_of (joined pieces) ≡ pieces
unfolding pieces_of pieces_in
pieces_read [] h = refl
pieces_read (piece ∷ pieces) h =
    let parts = and_parts (is_short piece) (list_all is_short pieces) h in
    let rest = flat_map piece_text pieces in
    let reads = reads_first piece rest parts.0 in
    pieces_from (piece_text piece ++ rest) (text_is_full piece rest)
    ∙ ap (λ first. first ∷ pieces_of (other_pieces (piece_text piece ++ rest))) reads.first
    ∙ ap (λ text. piece ∷ pieces_of text) reads.others
    ∙ ap (λ others. piece ∷ others) (pieces_read pieces parts.1)

first_is_short : (text : List ℕ) → is_short (first_piece text) ≡ true
unfolding first_piece
first_is_short text =
    let body = after_first is_dot text in
    let small : length (take (piece_size text) body) < 10 ^ 19 = omega (arith, length-take (piece_size text) body, number_is_below (before_first is_dot text)) in
    grind (arith, nat_tests)

pieces_in_are_short : (turns : ℕ) (text : List ℕ) → list_all is_short (pieces_in turns text) ≡ true
unfolding pieces_in
pieces_in_are_short zero text = refl
pieces_in_are_short (suc turns) [] = refl
pieces_in_are_short (suc turns) (byte ∷ text) = and_from _ _ (first_is_short (byte ∷ text)) (pieces_in_are_short turns (other_pieces (byte ∷ text)))

pub pieces_are_short : (text : List ℕ) → list_all is_short (pieces_of text) ≡ true
unfolding pieces_of
pieces_are_short text = pieces_in_are_short (length text) text
