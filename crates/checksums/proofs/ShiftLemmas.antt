-- Registers that shift without a message. A sum of registers shifts as the sum of what they become, and a message may be
-- added to a register before it shifts.
use Rattle.std.proofs.Common.{◌≡◌, ℕ, zero, suc, ◌+◌, ◌*◌, ◌/◌, ◌%◌, ◌^◌, ◌<◌, ◌==◌, if◌then◌else◌, true, false, List, [], ◌∷◌, ◌++◌, length, refl, sym, ap, ap₂, ◌∙◌, arith, suc-add, one-add, zero-add, pow-suc}
use Rattle.std.specs.Int.Bits.{bit_xor, xor_assoc, xor_comm, xor_self, xor_zero_r, xor_shr, xor_mod, xor_shifted, xor_lt, shifted_half, shifted_even}
use Rattle.checksums.specs.Crc.{low_bits, message_bits, crc_bit, crc_bits}
use Rattle.checksums.specs.Rows.{behind_zeros, behind_zero_bytes}

-- ---- one bit

-- a register's step, by the value of its lowest bit
bit_at : (p r b i : ℕ) → r % 2 ≡ i → crc_bit p r b ≡ (if i == b then r / 2 else bit_xor (r / 2) p)
bit_at p r b i e = ap (λ m. if m == b then r / 2 else bit_xor (r / 2) p) e

not_two {ℓ} : {A : Type ℓ} (i : ℕ) → suc (suc i) < 2 → A
not_two i h = absurd (omega arith)

-- the last two of a sum change places
xor_swap : (a b c : ℕ) → bit_xor (bit_xor a b) c ≡ bit_xor (bit_xor a c) b
xor_swap a b c = xor_assoc a b c ∙ ap (bit_xor a) (xor_comm b c) ∙ sym (xor_assoc a c b)

-- what is added twice is gone
xor_twice : (a b c : ℕ) → bit_xor (bit_xor a c) (bit_xor b c) ≡ bit_xor a b
xor_twice a b c =
    sym (xor_assoc (bit_xor a c) b c) ∙ ap (λ x. bit_xor x c) (xor_swap a c b) ∙ xor_assoc (bit_xor a b) c c
    ∙ ap (bit_xor (bit_xor a b)) (xor_self c) ∙ xor_zero_r (bit_xor a b)

module _ (p a b : ℕ) where
  half_sum : bit_xor a b / 2 ≡ bit_xor (a / 2) (b / 2)
  half_sum = xor_shr a b 1

  low_sum : (i j : ℕ) → a % 2 ≡ i → b % 2 ≡ j → bit_xor a b % 2 ≡ bit_xor i j
  low_sum i j e f = xor_mod a b 1 ∙ ap₂ bit_xor e f

  sum_by_bits : (i j : ℕ) → i < 2 → j < 2 → a % 2 ≡ i → b % 2 ≡ j → crc_bit p (bit_xor a b) 0 ≡ bit_xor (crc_bit p a 0) (crc_bit p b 0)
  sum_by_bits zero zero g h e f =
      bit_at p (bit_xor a b) 0 0 (low_sum 0 0 e f) ∙ half_sum ∙ sym (ap₂ bit_xor (bit_at p a 0 0 e) (bit_at p b 0 0 f))
  sum_by_bits zero (suc zero) g h e f =
      bit_at p (bit_xor a b) 0 1 (low_sum 0 1 e f) ∙ ap (λ x. bit_xor x p) half_sum ∙ xor_assoc (a / 2) (b / 2) p
      ∙ sym (ap₂ bit_xor (bit_at p a 0 0 e) (bit_at p b 0 1 f))
  sum_by_bits (suc zero) zero g h e f =
      bit_at p (bit_xor a b) 0 1 (low_sum 1 0 e f) ∙ ap (λ x. bit_xor x p) half_sum ∙ xor_swap (a / 2) (b / 2) p
      ∙ sym (ap₂ bit_xor (bit_at p a 0 1 e) (bit_at p b 0 0 f))
  sum_by_bits (suc zero) (suc zero) g h e f =
      bit_at p (bit_xor a b) 0 0 (low_sum 1 1 e f) ∙ half_sum ∙ sym (xor_twice (a / 2) (b / 2) p)
      ∙ sym (ap₂ bit_xor (bit_at p a 0 1 e) (bit_at p b 0 1 f))
  sum_by_bits zero (suc (suc j)) g h e f = not_two j h
  sum_by_bits (suc zero) (suc (suc j)) g h e f = not_two j h
  sum_by_bits (suc (suc i)) j g h e f = not_two i g

  -- the same for a bit of the message, which may be added to the register beforehand
  taken_by_bits : (i j : ℕ) → i < 2 → j < 2 → a % 2 ≡ i → b % 2 ≡ j → crc_bit p (bit_xor a b) 0 ≡ bit_xor (crc_bit p a j) (b / 2)
  taken_by_bits zero zero g h e f =
      bit_at p (bit_xor a b) 0 0 (low_sum 0 0 e f) ∙ half_sum ∙ sym (ap (λ x. bit_xor x (b / 2)) (bit_at p a 0 0 e))
  taken_by_bits zero (suc zero) g h e f =
      bit_at p (bit_xor a b) 0 1 (low_sum 0 1 e f) ∙ ap (λ x. bit_xor x p) half_sum ∙ xor_swap (a / 2) (b / 2) p
      ∙ sym (ap (λ x. bit_xor x (b / 2)) (bit_at p a 1 0 e))
  taken_by_bits (suc zero) zero g h e f =
      bit_at p (bit_xor a b) 0 1 (low_sum 1 0 e f) ∙ ap (λ x. bit_xor x p) half_sum ∙ xor_swap (a / 2) (b / 2) p
      ∙ sym (ap (λ x. bit_xor x (b / 2)) (bit_at p a 0 1 e))
  taken_by_bits (suc zero) (suc zero) g h e f =
      bit_at p (bit_xor a b) 0 0 (low_sum 1 1 e f) ∙ half_sum ∙ sym (ap (λ x. bit_xor x (b / 2)) (bit_at p a 1 1 e))
  taken_by_bits zero (suc (suc j)) g h e f = not_two j h
  taken_by_bits (suc zero) (suc (suc j)) g h e f = not_two j h
  taken_by_bits (suc (suc i)) j g h e f = not_two i g

bit_sum : (p a b : ℕ) → crc_bit p (bit_xor a b) 0 ≡ bit_xor (crc_bit p a 0) (crc_bit p b 0)
bit_sum p a b = sum_by_bits p a b (a % 2) (b % 2) (omega arith) (omega arith) refl refl

bit_taken : (p a b : ℕ) → crc_bit p (bit_xor a b) 0 ≡ bit_xor (crc_bit p a (b % 2)) (b / 2)
bit_taken p a b = taken_by_bits p a b (a % 2) (b % 2) (omega arith) (omega arith) refl refl

-- ---- many bits

pub zeros_sum : (p n a b : ℕ) → behind_zeros p n (bit_xor a b) ≡ bit_xor (behind_zeros p n a) (behind_zeros p n b)
unfolding behind_zeros
zeros_sum p zero a b = refl
zeros_sum p (suc n) a b = ap (behind_zeros p n) (bit_sum p a b) ∙ zeros_sum p n (crc_bit p a 0) (crc_bit p b 0)

-- zeros below a number leave it as it is
zeros_below : (p n m : ℕ) → behind_zeros p n (m * 2 ^ n) ≡ m
unfolding behind_zeros
zeros_below p zero m = omega arith
zeros_below p (suc n) m =
    ap (behind_zeros p n) (bit_at p (m * 2 ^ suc n) 0 0 (shifted_even m n) ∙ shifted_half m n) ∙ zeros_below p n m

pub zeros_add : (p m n r : ℕ) → behind_zeros p (m + n) r ≡ behind_zeros p n (behind_zeros p m r)
unfolding behind_zeros
zeros_add p zero n r = ap (λ k. behind_zeros p k r) (zero-add n)
zeros_add p (suc m) n r = ap (λ k. behind_zeros p k r) (suc-add m n) ∙ zeros_add p m n (crc_bit p r 0)

half_within : (n x : ℕ) → x < 2 ^ suc n → x / 2 < 2 ^ n
half_within n x h = let twice : 2 ^ suc n ≡ 2 ^ n * 2 = pow-suc 2 n in omega arith

-- the register behind the bits of a number
bits_taken : (p n r x : ℕ) → x < 2 ^ n → crc_bits p r (low_bits n x) ≡ behind_zeros p n (bit_xor r x)
unfolding crc_bits low_bits behind_zeros
bits_taken p zero r x h =
    let none : x ≡ 0 = omega arith in sym (ap (bit_xor r) none ∙ xor_zero_r r)
bits_taken p (suc n) r x h =
    bits_taken p n (crc_bit p r (x % 2)) (x / 2) (half_within n x h) ∙ sym (ap (behind_zeros p n) (bit_taken p r x))

pub crc_append : (p r : ℕ) (a b : List ℕ) → crc_bits p r (a ++ b) ≡ crc_bits p (crc_bits p r a) b
unfolding crc_bits
crc_append p r [] b = refl
crc_append p r (x ∷ a) b = crc_append p (crc_bit p r x) a b

-- ---- bytes

-- the register behind a byte
pub byte_taken : (p r x : ℕ) (rest : List ℕ) → x < 256 → crc_bits p r (message_bits (x ∷ rest)) ≡ crc_bits p (behind_zero_bytes p 1 (bit_xor r x)) (message_bits rest)
unfolding message_bits
byte_taken p r x rest h =
    crc_append p r (low_bits 8 x) (message_bits rest) ∙ ap (λ s. crc_bits p s (message_bits rest)) (bits_taken p 8 r x h)

pub bytes_add : (p m n r : ℕ) → behind_zero_bytes p (m + n) r ≡ behind_zero_bytes p n (behind_zero_bytes p m r)
bytes_add p m n r = let e : 8 * (m + n) ≡ 8 * m + 8 * n = omega arith in ap (λ k. behind_zeros p k r) e ∙ zeros_add p (8 * m) (8 * n) r

-- a register shifts as its lowest byte and the rest do
pub byte_split : (p n v : ℕ) → behind_zero_bytes p (n + 1) v ≡ bit_xor (behind_zero_bytes p (n + 1) (v % 256)) (behind_zero_bytes p n (v / 256))
byte_split p n v =
    let low : v % 256 < 256 = omega arith in
    let parts : v ≡ bit_xor (v / 256 * 256) (v % 256) = sym (xor_shifted (v / 256) 8 (v % 256) low ∙ omega arith) in
    let order : n + 1 ≡ 1 + n = omega arith in
    let high : behind_zero_bytes p (n + 1) (v / 256 * 256) ≡ behind_zero_bytes p n (v / 256) =
    ap (λ k. behind_zero_bytes p k (v / 256 * 256)) order ∙ bytes_add p 1 n (v / 256 * 256)
    ∙ ap (behind_zero_bytes p n) (zeros_below p 8 (v / 256)) in
    ap (behind_zero_bytes p (n + 1)) parts ∙ zeros_sum p (8 * (n + 1)) (v / 256 * 256) (v % 256)
    ∙ ap (λ x. bit_xor x (behind_zero_bytes p (n + 1) (v % 256))) high
    ∙ xor_comm (behind_zero_bytes p n (v / 256)) (behind_zero_bytes p (n + 1) (v % 256))

-- ---- eight bytes

-- the number whose bytes these are, the lowest first
abbrev pub number : List ℕ → ℕ
number [] = 0
number (x ∷ rest) = x + 256 * number rest

-- each is a byte
abbrev pub Bytes : List ℕ → Type 0
Bytes [] = Unit {0}
Bytes (x ∷ rest) = (x < 256) × Bytes rest

-- a byte below a number is added to a register, and the number stays behind it
number_taken : (p r x n : ℕ) → x < 256 → behind_zero_bytes p 1 (bit_xor r (x + 256 * n)) ≡ bit_xor (behind_zero_bytes p 1 (bit_xor r x)) n
number_taken p r x n h =
    let parts : x + 256 * n ≡ bit_xor (n * 256) x = sym (xor_shifted n 8 x h ∙ omega arith) in
    ap (λ k. behind_zero_bytes p 1 (bit_xor r k)) parts
    ∙ ap (behind_zero_bytes p 1) (ap (bit_xor r) (xor_comm (n * 256) x) ∙ sym (xor_assoc r x (n * 256)))
    ∙ zeros_sum p 8 (bit_xor r x) (n * 256)
    ∙ ap (bit_xor (behind_zero_bytes p 1 (bit_xor r x))) (zeros_below p 8 n)

pub bytes_taken : (p r : ℕ) (xs rest : List ℕ) → Bytes xs
    → crc_bits p r (message_bits (xs ++ rest)) ≡ crc_bits p (behind_zero_bytes p (length xs) (bit_xor r (number xs))) (message_bits rest)
unfolding behind_zeros
bytes_taken p r [] rest h = ap (λ s. crc_bits p s (message_bits rest)) (sym (xor_zero_r r))
bytes_taken p r (x ∷ xs) rest h =
    byte_taken p r x (xs ++ rest) h.0 ∙ bytes_taken p (behind_zero_bytes p 1 (bit_xor r x)) xs rest h.1
    ∙ ap (λ s. crc_bits p s (message_bits rest))
    (ap (behind_zero_bytes p (length xs)) (sym (number_taken p r x (number xs) h.0))
    ∙ sym (bytes_add p 1 (length xs) (bit_xor r (number (x ∷ xs)))) ∙ ap (λ k. behind_zero_bytes p k (bit_xor r (number (x ∷ xs)))) (one-add (length xs)))

-- ---- bounds

pub bit_within : (p r b w : ℕ) → p < 2 ^ w → r < 2 ^ w → crc_bit p r b < 2 ^ w
bit_within p r b w f g =
    let half : r / 2 < 2 ^ w = omega arith in
    elim (r % 2 == b) as (λ t. (if t then r / 2 else bit_xor (r / 2) p) < 2 ^ w) [ true ↦ half | false ↦ xor_lt w (r / 2) p half f ]

pub crc_within : (p r w : ℕ) (bits : List ℕ) → p < 2 ^ w → r < 2 ^ w → crc_bits p r bits < 2 ^ w
unfolding crc_bits
crc_within p r w [] f g = g
crc_within p r w (b ∷ bits) f g = crc_within p (crc_bit p r b) w bits f (bit_within p r b w f g)
