-- What the rows of a table say of a register, and how they are filled.
use Rattle.std.proofs.Common.{◌≡◌, ℕ, suc, ◌+◌, ◌-◌, ◌*◌, ◌/◌, ◌%◌, ◌^◌, ◌<◌, ◌≤◌, List, [], ◌∷◌, ◌++◌, length, get_or, set, drop, sym, ap, ap₂, ◌∙◌, arith, drop-cons, below_more, get_or-set_other, get_or-set_same, ◌≢◌}
use Rattle.std.specs.Int.Bits.{bit_xor, xor_assoc}
use Rattle.std.specs.Int.{byte_at}
use Rattle.checksums.specs.Rows.{behind_zeros, behind_zero_bytes, IsFilledTo, AreRows}
use Rattle.checksums.proofs.ShiftLemmas.{byte_split, bytes_add}

-- ---- a table

pub filled_none : (p : ℕ) (table : List ℕ) → IsFilledTo p 0 table
unfolding IsFilledTo
filled_none p table place h = absurd (omega arith)

pub filled_more : (p place value : ℕ) (table : List ℕ) → place < length table → IsFilledTo p place table
    → value ≡ behind_zero_bytes p (place / 256 + 1) (place % 256) → IsFilledTo p (place + 1) (set table place value)
unfolding IsFilledTo
filled_more p place value table within filled is =
    below_more _ _
    (λ k h. let other : k ≢ place = omega arith in get_or-set_other table place k value 0 other ∙ filled k h)
    (get_or-set_same table place value 0 within ∙ is)

-- the entry of a byte in a row
pub entry_is : (p row byte : ℕ) (table : List ℕ) → AreRows p table → row < 8 → byte < 256 → get_or table (256 * row + byte) 0 ≡ behind_zero_bytes p (row + 1) byte
unfolding IsFilledTo
entry_is p row byte table rows h b =
    let place : 256 * row + byte < 2048 = omega arith in
    let upper : (256 * row + byte) / 256 ≡ row = omega arith in
    let lower : (256 * row + byte) % 256 ≡ byte = omega arith in
    rows (256 * row + byte) place ∙ ap₂ (λ k x. behind_zero_bytes p (k + 1) x) upper lower

-- the first row's entry of a byte
pub first_entry : (p end byte : ℕ) (table : List ℕ) → IsFilledTo p end table → 256 ≤ end → byte < 256 → get_or table byte 0 ≡ behind_zero_bytes p 1 byte
unfolding IsFilledTo
first_entry p end byte table filled h b =
    let place : byte < end = omega arith in
    let upper : byte / 256 ≡ 0 = omega arith in
    let lower : byte % 256 ≡ byte = omega arith in
    filled byte place ∙ ap₂ (λ k x. behind_zero_bytes p (k + 1) x) upper lower

-- what is left of a register behind a byte, by the entry of its lowest byte
pub by_first_row : (p end v : ℕ) (table : List ℕ) → IsFilledTo p end table → 256 ≤ end → bit_xor (get_or table (v % 256) 0) (v / 256) ≡ behind_zero_bytes p 1 v
unfolding behind_zeros
by_first_row p end v table filled h =
    let low : v % 256 < 256 = omega arith in
    ap (λ x. bit_xor x (v / 256)) (first_entry p end (v % 256) table filled h low) ∙ sym (byte_split p 0 v)

-- a row follows from the one before it
pub next_entry : (p place : ℕ) (table : List ℕ) → IsFilledTo p place table → 256 ≤ place
    → bit_xor (get_or table (get_or table (place - 256) 0 % 256) 0) (get_or table (place - 256) 0 / 256) ≡ behind_zero_bytes p (place / 256 + 1) (place % 256)
unfolding IsFilledTo
next_entry p place table filled h =
    let above : place - 256 < place = omega arith in
    let row : (place - 256) / 256 + 1 ≡ place / 256 = omega arith in
    let byte : (place - 256) % 256 ≡ place % 256 = omega arith in
    by_first_row p place (get_or table (place - 256) 0) table filled h
    ∙ ap (behind_zero_bytes p 1) (filled (place - 256) above ∙ ap₂ (λ k x. behind_zero_bytes p k x) row byte)
    ∙ sym (bytes_add p (place / 256) 1 (place % 256))

-- ---- a word

-- the next byte is split off behind what was split off before it
split_more : (p n v rest sum : ℕ) → v / 256 ≡ rest
    → bit_xor sum (behind_zero_bytes p (n + 1) v) ≡ bit_xor (bit_xor sum (behind_zero_bytes p (n + 1) (v % 256))) (behind_zero_bytes p n rest)
split_more p n v rest sum e =
    ap (bit_xor sum) (byte_split p n v ∙ ap (λ x. bit_xor (behind_zero_bytes p (n + 1) (v % 256)) (behind_zero_bytes p n x)) e)
    ∙ sym (xor_assoc sum (behind_zero_bytes p (n + 1) (v % 256)) (behind_zero_bytes p n rest))

-- the first two, four and six of what is left of a word's bytes behind eight
abbrev pub sum_two : ℕ → ℕ → ℕ
sum_two p v = bit_xor (behind_zero_bytes p 8 (byte_at 0 v)) (behind_zero_bytes p 7 (byte_at 1 v))

abbrev pub sum_four : ℕ → ℕ → ℕ
sum_four p v = bit_xor (bit_xor (sum_two p v) (behind_zero_bytes p 6 (byte_at 2 v))) (behind_zero_bytes p 5 (byte_at 3 v))

abbrev pub sum_six : ℕ → ℕ → ℕ
sum_six p v = bit_xor (bit_xor (sum_four p v) (behind_zero_bytes p 4 (byte_at 4 v))) (behind_zero_bytes p 3 (byte_at 5 v))

abbrev pub sum_eight : ℕ → ℕ → ℕ
sum_eight p v = bit_xor (bit_xor (sum_six p v) (behind_zero_bytes p 2 (byte_at 6 v))) (behind_zero_bytes p 1 (byte_at 7 v))

module _ (p v : ℕ) where
  two_split : behind_zero_bytes p 8 v ≡ bit_xor (sum_two p v) (behind_zero_bytes p 6 (v / 65536))
  two_split = byte_split p 7 v ∙ split_more p 6 (v / 256) (v / 65536) (behind_zero_bytes p 8 (byte_at 0 v)) (omega arith)

  four_split : behind_zero_bytes p 8 v ≡ bit_xor (sum_four p v) (behind_zero_bytes p 4 (v / 4294967296))
  four_split =
      two_split ∙ split_more p 5 (v / 65536) (v / 16777216) (sum_two p v) (omega arith)
      ∙ split_more p 4 (v / 16777216) (v / 4294967296) (bit_xor (sum_two p v) (behind_zero_bytes p 6 (byte_at 2 v))) (omega arith)

  six_split : behind_zero_bytes p 8 v ≡ bit_xor (sum_six p v) (behind_zero_bytes p 2 (v / 281474976710656))
  six_split =
      four_split ∙ split_more p 3 (v / 4294967296) (v / 1099511627776) (sum_four p v) (omega arith)
      ∙ split_more p 2 (v / 1099511627776) (v / 281474976710656) (bit_xor (sum_four p v) (behind_zero_bytes p 4 (byte_at 4 v))) (omega arith)

  pub word_split : v < 2 ^ 64 → sum_eight p v ≡ behind_zero_bytes p 8 v
  word_split within =
      let last : v / 72057594037927936 ≡ byte_at 7 v = omega arith in
      sym (six_split ∙ split_more p 1 (v / 281474976710656) (v / 72057594037927936) (sum_six p v) (omega arith)
      ∙ ap (λ x. bit_xor (bit_xor (sum_six p v) (behind_zero_bytes p 2 (byte_at 6 v))) (behind_zero_bytes p 1 x)) last)

-- ---- eight bytes of a message

pub drop_next : (xs : List ℕ) (i j : ℕ) → i < length xs → i + 1 ≡ j → drop i xs ≡ get_or xs i 0 ∷ drop j xs
drop_next xs i j h e = let next : suc i ≡ j = omega arith in drop-cons xs i 0 h ∙ ap (λ k. get_or xs i 0 ∷ drop k xs) next

-- the eight bytes from a place on
abbrev pub eight_at : List ℕ → ℕ → List ℕ
eight_at xs i =
    get_or xs i 0 ∷ get_or xs (i + 1) 0 ∷ get_or xs (i + 2) 0 ∷ get_or xs (i + 3) 0 ∷ get_or xs (i + 4) 0 ∷ get_or xs (i + 5) 0
    ∷ get_or xs (i + 6) 0 ∷ get_or xs (i + 7) 0 ∷ []

pub drop_eight : (xs : List ℕ) (i : ℕ) → i + 8 ≤ length xs → drop i xs ≡ eight_at xs i ++ drop (i + 8) xs
drop_eight xs i h =
    drop_next xs i (i + 1) (omega arith) (omega arith)
    ∙ (λ k. get_or xs i 0 ∷ (drop_next xs (i + 1) (i + 2) (omega arith) (omega arith)
    ∙ (λ k. get_or xs (i + 1) 0 ∷ (drop_next xs (i + 2) (i + 3) (omega arith) (omega arith)
    ∙ (λ k. get_or xs (i + 2) 0 ∷ (drop_next xs (i + 3) (i + 4) (omega arith) (omega arith)
    ∙ (λ k. get_or xs (i + 3) 0 ∷ (drop_next xs (i + 4) (i + 5) (omega arith) (omega arith)
    ∙ (λ k. get_or xs (i + 4) 0 ∷ (drop_next xs (i + 5) (i + 6) (omega arith) (omega arith)
    ∙ (λ k. get_or xs (i + 5) 0 ∷ (drop_next xs (i + 6) (i + 7) (omega arith) (omega arith)
    ∙ (λ k. get_or xs (i + 6) 0 ∷ drop_next xs (i + 7) (i + 8) (omega arith) (omega arith) k)) k)) k)) k)) k)) k)) k)
