-- A text of 32 digits is the id that is read of it, and no other text is one.
use Rattle.std.specs.Prelude.{◌≡◌, ◌%◌, ◌^◌, ℕ, List, [], ◌∷◌, None, Some}
use Rattle.std.specs.Int.{byte_at, bytes_high_first}
use Rattle.std.proofs.Common.{sym, ap, ◌∙◌, arith}
use Rattle.std.proofs.lemmas.Option.{same_Some}
use Rattle.hex.specs.Hex.{encode_lower}
use Rattle.s3_names.specs.Id.{id_digits, id_of}
use Rattle.s3_names.proofs.lemmas.Ids.{id_reads_back}

-- 128 bits of a number are all that its bytes tell
bytes_same : (n : ℕ) → bytes_high_first 16 n ≡ bytes_high_first 16 (n % 2 ^ 128)
bytes_same n =
    let e0 : byte_at 0 n ≡ byte_at 0 (n % 2 ^ 128) = omega arith in
    let e1 : byte_at 1 n ≡ byte_at 1 (n % 2 ^ 128) = omega arith in
    let e2 : byte_at 2 n ≡ byte_at 2 (n % 2 ^ 128) = omega arith in
    let e3 : byte_at 3 n ≡ byte_at 3 (n % 2 ^ 128) = omega arith in
    let e4 : byte_at 4 n ≡ byte_at 4 (n % 2 ^ 128) = omega arith in
    let e5 : byte_at 5 n ≡ byte_at 5 (n % 2 ^ 128) = omega arith in
    let e6 : byte_at 6 n ≡ byte_at 6 (n % 2 ^ 128) = omega arith in
    let e7 : byte_at 7 n ≡ byte_at 7 (n % 2 ^ 128) = omega arith in
    let e8 : byte_at 8 n ≡ byte_at 8 (n % 2 ^ 128) = omega arith in
    let e9 : byte_at 9 n ≡ byte_at 9 (n % 2 ^ 128) = omega arith in
    let e10 : byte_at 10 n ≡ byte_at 10 (n % 2 ^ 128) = omega arith in
    let e11 : byte_at 11 n ≡ byte_at 11 (n % 2 ^ 128) = omega arith in
    let e12 : byte_at 12 n ≡ byte_at 12 (n % 2 ^ 128) = omega arith in
    let e13 : byte_at 13 n ≡ byte_at 13 (n % 2 ^ 128) = omega arith in
    let e14 : byte_at 14 n ≡ byte_at 14 (n % 2 ^ 128) = omega arith in
    let e15 : byte_at 15 n ≡ byte_at 15 (n % 2 ^ 128) = omega arith in
    λ i. e15 i ∷ e14 i ∷ e13 i ∷ e12 i ∷ e11 i ∷ e10 i ∷ e9 i ∷ e8 i ∷ e7 i ∷ e6 i ∷ e5 i ∷ e4 i ∷ e3 i ∷ e2 i ∷ e1 i ∷ e0 i ∷ []

digits_same : (id : ℕ) → id_digits id ≡ id_digits (id % 2 ^ 128)
unfolding id_digits
digits_same id = ap encode_lower (bytes_same id)

read_digits : (id : ℕ) → id_of (id_digits id) ≡ Some (id % 2 ^ 128)
read_digits id = ap id_of (digits_same id) ∙ id_reads_back (id % 2 ^ 128) (omega arith)

-- a text that reads as no id has the digits of none
pub none_reads : (text : List ℕ) → id_of text ≡ None → (id : ℕ) → text ≡ id_digits id → ⊥
none_reads text none id is = let never : Some (id % 2 ^ 128) ≡ None = sym (read_digits id) ∙ ap id_of (sym is) ∙ none in cc

-- nor one that has other digits than the id that it reads as
pub others_differ : (text : List ℕ) (found : ℕ) → id_of text ≡ Some found → (text ≡ id_digits found → ⊥) → (id : ℕ) → text ≡ id_digits id → ⊥
others_differ text found reads other id is =
    let same : id % 2 ^ 128 ≡ found = same_Some _ _ (sym (read_digits id) ∙ ap id_of (sym is) ∙ reads) in
    other (is ∙ digits_same id ∙ ap id_digits same)
