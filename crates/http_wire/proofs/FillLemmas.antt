-- Bytes that were read into the end of a buffer.
use Rattle.std.proofs.Common.{◌≡◌, ℕ, ◌+◌, ◌≤◌, List, ◌++◌, length, take, drop, sym, ap, ◌∙◌, append_assoc, length-append, length-take, take-append-drop, take_all, arith}
use Rattle.std.proofs.lemmas.List.{take-append-le}
use Rattle.std.proofs.Math.Seq.{take-append-add, take-append_seam}

-- the first of the first
take_short : (n m : ℕ) (bytes : List ℕ) → n ≤ m → n ≤ length bytes → take n (take m bytes) ≡ take n bytes
take_short n m bytes low within =
    sym (take-append-le n (take m bytes) (drop m bytes) (omega (arith, low, within, length-take m bytes)))
    ∙ ap (take n) (take-append-drop m bytes)

-- what was read into the room, where the room ends with the buffer
joined : (bytes read rest tail : List ℕ) (came : ℕ)
    → (take came bytes ++ (read ++ rest)) ++ tail ≡ take came bytes ++ (read ++ (rest ++ tail))
joined bytes read rest tail came =
    append_assoc (take came bytes) (read ++ rest) tail ∙ ap (λ v. take came bytes ++ v) (append_assoc read rest tail)

-- n bytes that were read into the room
pub filled : (bytes read rest tail : List ℕ) (came len n : ℕ) → came ≤ length bytes → n ≤ length read → came + n ≤ len
    → take (came + n) (take len ((take came bytes ++ (read ++ rest)) ++ tail)) ≡ take came bytes ++ take n read
filled bytes read rest tail came len n within some fits =
    let front : came ≡ length (take came bytes) = omega (arith, within, length-take came bytes) in
    let rest' : List ℕ = read ++ (rest ++ tail) in
    ap (λ v. take (came + n) (take len v)) (joined bytes read rest tail came)
    ∙ take_short (came + n) len (take came bytes ++ rest') fits
    (omega (arith, front, some, length-append (take came bytes) rest', length-append read (rest ++ tail)))
    ∙ ap (λ k. take (k + n) (take came bytes ++ rest')) front
    ∙ take-append-add (take came bytes) rest' n ∙ ap (λ v. take came bytes ++ v) (take-append-le n read (rest ++ tail) some)

-- the bytes before the room
pub unfilled : (bytes read rest tail : List ℕ) (came len : ℕ) → came ≤ length bytes → came ≤ len
    → take came (take len ((take came bytes ++ (read ++ rest)) ++ tail)) ≡ take came bytes
unfilled bytes read rest tail came len within fits =
    let front : came ≡ length (take came bytes) = omega (arith, within, length-take came bytes) in
    let rest' : List ℕ = read ++ (rest ++ tail) in
    ap (λ v. take came (take len v)) (joined bytes read rest tail came)
    ∙ take_short came len (take came bytes ++ rest') fits (omega (arith, front, length-append (take came bytes) rest'))
    ∙ ap (λ k. take k (take came bytes ++ rest')) front ∙ take-append_seam (take came bytes) rest'

-- a buffer that was given room
pub roomed : (old more new : List ℕ) (end : ℕ) → length old ≤ end → new ≡ take end old ++ more → take (length old) new ≡ old
roomed old more new end long is =
    ap (take (length old)) (is ∙ ap (λ v. v ++ more) (take_all end old long)) ∙ take-append_seam old more
