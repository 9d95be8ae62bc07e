-- Messages that differ only within as many bits as the register has leave different registers: a step can be taken back
-- where the polynomial's highest bit is set.
use Rattle.std.proofs.Common.{◌≡◌, ℕ, zero, suc, ◌+◌, ◌-◌, ◌*◌, ◌/◌, ◌%◌, ◌^◌, ◌<◌, ◌≤◌, if◌then◌else◌, List, [], ◌∷◌, ◌++◌, length, inl, inr, refl, sym, ap, ap₂, ◌∙◌, subst, arith, pow-add, pow-suc, pow_mono, lt_of_lt_of_le, append_assoc}
use Rattle.std.proofs.lemmas.Bool.{cases_eq, eq-eqb, ne_eqb}
use Rattle.std.specs.Int.Bits.{bit_xor, xor_assoc, xor_comm, xor_self, xor_block, xor_lt}
use Rattle.std.specs.Int.{w32, w64, to_be_bytes, from_be_bytes}
use Rattle.std.proofs.lemmas.Nat.{from_be_bytes-to_be_bytes_4, from_be_bytes-to_be_bytes_8}
use Rattle.base64.specs.GeneralPurpose.{IsBytes}
use Rattle.checksums.specs.declared.kinds.Kind.TheVariants.{Crc32, Crc32c, Crc64Nvme}
use Rattle.checksums.specs.Kinds.{checksum_of}
use Rattle.checksums.specs.Laws.{TellsBursts}
use Rattle.checksums.specs.Crc.{low_bits, message_bits, crc_bit, crc_bits, crc}
use Rattle.checksums.specs.Rows.{behind_zeros, behind_zero_bytes}
use Rattle.checksums.proofs.SizeLemmas.{Bytes_from}
use Rattle.checksums.proofs.ShiftLemmas.{Bytes, number, bytes_taken, crc_append, bit_within, crc_within}

-- ---- sums

undo : (a b : ℕ) → bit_xor a (bit_xor a b) ≡ b
undo a b = sym (xor_assoc a a b) ∙ ap (λ x. bit_xor x b) (xor_self a)

cancel : (a b c : ℕ) → bit_xor a b ≡ bit_xor a c → b ≡ c
cancel a b c h = sym (undo a b) ∙ ap (bit_xor a) h ∙ undo a c

pub cancel_behind : (a b c : ℕ) → bit_xor a c ≡ bit_xor b c → a ≡ b
cancel_behind a b c h = cancel c a b (xor_comm c a ∙ h ∙ xor_comm b c)

-- ---- a step back

step_same : (p r b : ℕ) → r % 2 ≡ b → crc_bit p r b ≡ r / 2
step_same p r b h = ap (λ t. if t then r / 2 else bit_xor (r / 2) p) (eq-eqb (r % 2) b h)

step_other : (p r b : ℕ) → (r % 2 ≡ b → ⊥) → crc_bit p r b ≡ bit_xor (r / 2) p
step_other p r b h = ap (λ t. if t then r / 2 else bit_xor (r / 2) p) (ne_eqb (r % 2) b h)

-- the polynomial is q below its highest bit, v
module _ (v q : ℕ) (small : q < 2 ^ v) where
  topped : (a : ℕ) → a < 2 ^ v → bit_xor a (2 ^ v + q) ≡ 2 ^ v + bit_xor a q
  topped a h =
      let left : a ≡ 0 * 2 ^ v + a = omega arith in
      let right : 2 ^ v + q ≡ 1 * 2 ^ v + q = omega arith in
      ap₂ bit_xor left right ∙ xor_block v 0 1 a q h small ∙ omega arith

  half : (r : ℕ) → r < 2 ^ suc v → r / 2 < 2 ^ v
  half r h = let twice : 2 ^ suc v ≡ 2 ^ v * 2 = pow-suc 2 v in omega arith

  step_back : (r s b : ℕ) → b < 2 → r < 2 ^ suc v → s < 2 ^ suc v → crc_bit (2 ^ v + q) r b ≡ crc_bit (2 ^ v + q) s b → r ≡ s
  step_back r s b bit f g h = elim (cases_eq (r % 2) b) [
    | inl rb ↦ elim (cases_eq (s % 2) b) [
      | inl sb ↦ let halves : r / 2 ≡ s / 2 = sym (step_same (2 ^ v + q) r b rb) ∙ h ∙ step_same (2 ^ v + q) s b sb in omega arith
      | inr sb ↦
          let halves : r / 2 ≡ 2 ^ v + bit_xor (s / 2) q =
          sym (step_same (2 ^ v + q) r b rb) ∙ h ∙ step_other (2 ^ v + q) s b sb ∙ topped (s / 2) (half s g) in
          absurd (omega (arith, half r f))
    ]
    | inr rb ↦ elim (cases_eq (s % 2) b) [
      | inl sb ↦
          let halves : s / 2 ≡ 2 ^ v + bit_xor (r / 2) q =
          sym (step_same (2 ^ v + q) s b sb) ∙ sym h ∙ step_other (2 ^ v + q) r b rb ∙ topped (r / 2) (half r f) in
          absurd (omega (arith, half s g))
      | inr sb ↦
          let halves : r / 2 ≡ s / 2 =
          cancel_behind (r / 2) (s / 2) (2 ^ v + q)
          (sym (step_other (2 ^ v + q) r b rb) ∙ h ∙ step_other (2 ^ v + q) s b sb) in
          omega arith
    ]
  ]

  within : 2 ^ v + q < 2 ^ suc v
  within = let twice : 2 ^ suc v ≡ 2 ^ v * 2 = pow-suc 2 v in omega arith

  next : (r b : ℕ) → r < 2 ^ suc v → crc_bit (2 ^ v + q) r b < 2 ^ suc v
  next r b h = bit_within (2 ^ v + q) r b (suc v) within h

  zeros_within : (n r : ℕ) → r < 2 ^ suc v → behind_zeros (2 ^ v + q) n r < 2 ^ suc v
  unfolding behind_zeros
  zeros_within zero r h = h
  zeros_within (suc n) r h = zeros_within n (crc_bit (2 ^ v + q) r 0) (next r 0 h)

  zeros_back : (n r s : ℕ) → r < 2 ^ suc v → s < 2 ^ suc v → behind_zeros (2 ^ v + q) n r ≡ behind_zeros (2 ^ v + q) n s → r ≡ s
  unfolding behind_zeros
  zeros_back zero r s f g h = h
  zeros_back (suc n) r s f g h =
      step_back r s 0 (omega arith) f g
      (zeros_back n (crc_bit (2 ^ v + q) r 0) (crc_bit (2 ^ v + q) s 0) (next r 0 f) (next s 0 g) h)

  bits_back : (n x r s : ℕ) → r < 2 ^ suc v → s < 2 ^ suc v
      → crc_bits (2 ^ v + q) r (low_bits n x) ≡ crc_bits (2 ^ v + q) s (low_bits n x) → r ≡ s
  unfolding crc_bits low_bits
  bits_back zero x r s f g h = h
  bits_back (suc n) x r s f g h =
      step_back r s (x % 2) (omega arith) f g
      (bits_back n (x / 2) (crc_bit (2 ^ v + q) r (x % 2)) (crc_bit (2 ^ v + q) s (x % 2)) (next r (x % 2) f) (next s (x % 2) g) h)

  message_back : (message : List ℕ) (r s : ℕ) → r < 2 ^ suc v → s < 2 ^ suc v
      → crc_bits (2 ^ v + q) r (message_bits message) ≡ crc_bits (2 ^ v + q) s (message_bits message) → r ≡ s
  unfolding crc_bits message_bits
  message_back [] r s f g h = h
  message_back (x ∷ rest) r s f g h =
      bits_back 8 x r s f g
      (message_back rest (crc_bits (2 ^ v + q) r (low_bits 8 x)) (crc_bits (2 ^ v + q) s (low_bits 8 x))
      (crc_within (2 ^ v + q) r (suc v) (low_bits 8 x) within f) (crc_within (2 ^ v + q) s (suc v) (low_bits 8 x) within g)
      (sym (crc_append (2 ^ v + q) r (low_bits 8 x) (message_bits rest)) ∙ h ∙ crc_append (2 ^ v + q) s (low_bits 8 x) (message_bits rest)))

-- ---- bytes as numbers

number_within : (xs : List ℕ) → Bytes xs → number xs < 2 ^ (8 * length xs)
number_within [] h = omega arith
number_within (x ∷ xs) h =
    let more : 8 * length (x ∷ xs) ≡ 8 + 8 * length xs = omega arith in
    let times : 2 ^ (8 * length (x ∷ xs)) ≡ 256 * 2 ^ (8 * length xs) = ap (λ k. 2 ^ k) more ∙ pow-add 2 8 (8 * length xs) in
    let byte : x < 256 = h.0 in
    omega (arith, number_within xs h.1)

number_back : (xs ys : List ℕ) → Bytes xs → Bytes ys → length xs ≡ length ys → number xs ≡ number ys → xs ≡ ys
number_back [] [] f g l h = refl
number_back [] (y ∷ ys) f g l h = cc l
number_back (x ∷ xs) [] f g l h = cc l
number_back (x ∷ xs) (y ∷ ys) f g l h =
    let fx : x < 256 = f.0 in
    let gy : y < 256 = g.0 in
    let head : x ≡ y = omega arith in
    let rest : number xs ≡ number ys = omega arith in
    ap₂ (λ z zs. z ∷ zs) head (number_back xs ys f.1 g.1 (omega arith) rest)

-- ---- a burst

message_append : (a b : List ℕ) → message_bits (a ++ b) ≡ message_bits a ++ message_bits b
unfolding message_bits
message_append [] b = refl
message_append (x ∷ a) b = ap (λ bits. low_bits 8 x ++ bits) (message_append a b) ∙ sym (append_assoc (low_bits 8 x) (message_bits a) (message_bits b))

crc_message_append : (p r : ℕ) (a b : List ℕ) → crc_bits p r (message_bits (a ++ b)) ≡ crc_bits p (crc_bits p r (message_bits a)) (message_bits b)
crc_message_append p r a b = ap (crc_bits p r) (message_append a b) ∙ crc_append p r (message_bits a) (message_bits b)

pub burst_told : (v q ones most : ℕ) (before one other behind : List ℕ) → q < 2 ^ v → ones < 2 ^ suc v → 8 * most ≡ suc v → Bytes one → Bytes other
    → length one ≡ length other → length one ≤ most
    → crc (2 ^ v + q) ones (before ++ (one ++ behind)) ≡ crc (2 ^ v + q) ones (before ++ (other ++ behind)) → one ≡ other
unfolding crc
burst_told v q ones most before one other behind small o width f g sized fits h =
    let p = 2 ^ v + q in
    let r = crc_bits p ones (message_bits before) in
    let start : r < 2 ^ suc v = crc_within p ones (suc v) (message_bits before) (within v q small) o in
    let count : 8 * length one ≤ suc v = omega arith in
    let room : 2 ^ (8 * length one) ≤ 2 ^ suc v = pow_mono count in
    let first : number one < 2 ^ suc v = lt_of_lt_of_le (number_within one f) room in
    let equal : 2 ^ (8 * length other) ≡ 2 ^ (8 * length one) = ap (λ k. 2 ^ (8 * k)) (sym sized) in
    let second : number other < 2 ^ suc v = omega (arith, number_within other g) in
    let left : bit_xor r (number one) < 2 ^ suc v = xor_lt (suc v) r (number one) start first in
    let right : bit_xor r (number other) < 2 ^ suc v = xor_lt (suc v) r (number other) start second in
    let parts = λ (m : List ℕ) (b : Bytes m). crc_message_append p ones before (m ++ behind) ∙ bytes_taken p r m behind b in
    let registers : crc_bits p (behind_zero_bytes p (length one) (bit_xor r (number one))) (message_bits behind)
    ≡ crc_bits p (behind_zero_bytes p (length one) (bit_xor r (number other))) (message_bits behind) =
    sym (parts one f) ∙ cancel_behind _ _ ones h ∙ parts other g
    ∙ ap (λ k. crc_bits p (behind_zero_bytes p k (bit_xor r (number other))) (message_bits behind)) (sym sized) in
    let shifted = message_back v q small behind (behind_zero_bytes p (length one) (bit_xor r (number one))) (behind_zero_bytes p (length one) (bit_xor r (number other)))
    (zeros_within v q small (8 * length one) (bit_xor r (number one)) left) (zeros_within v q small (8 * length one) (bit_xor r (number other)) right) registers in
    number_back one other f g sized
    (cancel r (number one) (number other) (zeros_back v q small (8 * length one) (bit_xor r (number one)) (bit_xor r (number other)) left right shifted))

-- ---- the three checksums

crc_bound : (p ones v : ℕ) (message : List ℕ) → p < 2 ^ v → ones < 2 ^ v → crc p ones message < 2 ^ v
unfolding crc
crc_bound p ones v message f g = xor_lt v (crc_bits p ones (message_bits message)) ones (crc_within p ones v (message_bits message) f g) g

word_told : (p q : ℕ) → p ≡ 2 ^ 31 + q → q < 2 ^ 31 → (before one other behind : List ℕ) → IsBytes one → IsBytes other → length one ≡ length other → length one ≤ 4
    → to_be_bytes w32 (crc p (2 ^ 32 - 1) (before ++ (one ++ behind))) ≡ to_be_bytes w32 (crc p (2 ^ 32 - 1) (before ++ (other ++ behind))) → one ≡ other
word_told p q e small before one other behind f g sized fits h =
    let polynomial : p < 2 ^ 32 = omega arith in
    let bound = λ (m : List ℕ). crc_bound p (2 ^ 32 - 1) 32 m polynomial (omega arith) in
    let equal : crc p (2 ^ 32 - 1) (before ++ (one ++ behind)) ≡ crc p (2 ^ 32 - 1) (before ++ (other ++ behind)) =
    sym (from_be_bytes-to_be_bytes_4 _ (bound (before ++ (one ++ behind)))) ∙ ap (from_be_bytes w32) h
    ∙ from_be_bytes-to_be_bytes_4 _ (bound (before ++ (other ++ behind))) in
    burst_told 31 q (2 ^ 32 - 1) 4 before one other behind small (omega arith) refl (Bytes_from one f) (Bytes_from other g) sized fits
    (subst (λ x. crc x (2 ^ 32 - 1) (before ++ (one ++ behind)) ≡ crc x (2 ^ 32 - 1) (before ++ (other ++ behind))) e equal)

pub crc32_told : TellsBursts Crc32 4
unfolding checksum_of
crc32_told = word_told 0xedb88320 0x6db88320 refl (omega arith)

pub crc32c_told : TellsBursts Crc32c 4
unfolding checksum_of
crc32c_told = word_told 0x82f63b78 0x02f63b78 refl (omega arith)

pub crc64_nvme_told : TellsBursts Crc64Nvme 8
unfolding checksum_of
crc64_nvme_told before one other behind f g sized fits h =
    let bound = λ (m : List ℕ). crc_bound 0x9a6c9329ac4bc9b5 (2 ^ 64 - 1) 64 m (omega arith) (omega arith) in
    let equal : crc 0x9a6c9329ac4bc9b5 (2 ^ 64 - 1) (before ++ (one ++ behind)) ≡ crc 0x9a6c9329ac4bc9b5 (2 ^ 64 - 1) (before ++ (other ++ behind)) =
    sym (from_be_bytes-to_be_bytes_8 _ (bound (before ++ (one ++ behind)))) ∙ ap (from_be_bytes w64) h
    ∙ from_be_bytes-to_be_bytes_8 _ (bound (before ++ (other ++ behind))) in
    burst_told 63 0x1a6c9329ac4bc9b5 (2 ^ 64 - 1) 8 before one other behind (omega arith) (omega arith) refl (Bytes_from one f) (Bytes_from other g) sized fits equal
