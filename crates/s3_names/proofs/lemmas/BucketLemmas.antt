-- What every bucket name is, for the requests that carry it.
use Rattle.std.specs.Prelude.{◌≡◌, ℕ, ◌<◌, ◌≤◌, true, false, not, ◌==◌, nat_le, List, [], ◌∷◌, length}
use Rattle.std.specs.List.{flat_map, list_all, list_any}
use Rattle.std.specs.Str.{IsUtf8, IsAscii}
use Rattle.std.proofs.Common.{refl, arith}
use Rattle.std.proofs.lemmas.Bool.{and_parts, cond-true, or_from, leb-true}
use Rattle.std.proofs.lemmas.Bool.Decides.{nat_tests}
use Rattle.std.proofs.lemmas.List.Elements.{All-weaker}
use Rattle.std.proofs.lemmas.List.Sums.{AllPass-from_list_all}
use Rattle.std.proofs.lemmas.Str.{IsUtf8-from_ascii}
use Rattle.std.proofs.lemmas.Str.Ascii.{IsAscii-from_all}
use Rattle.s3_names.specs.Bucket.{is_bucket, is_bucket_byte, begins_and_ends, has_two_dots, is_address}
use Rattle.s3_names.specs.Escapes.{is_unreserved, escaped_unless, escaped_all}

-- the parts that stand first in the definition
bucket_parts : (name : List ℕ) → is_bucket name ≡ true → (nat_le 3 (length name) ≡ true) × (nat_le (length name) 63 ≡ true)
    × (list_all is_bucket_byte name ≡ true)
unfolding is_bucket
bucket_parts name h =
    let a = and_parts _ (not (is_address name)) h in
    let b = and_parts _ (not (has_two_dots name)) a.0 in
    let c = and_parts _ (begins_and_ends name) b.0 in
    let d = and_parts _ (list_all is_bucket_byte name) c.0 in
    let e = and_parts _ (nat_le (length name) 63) d.0 in
    (e.0, e.1, d.1)

-- a bucket name has 3 to 63 bytes
pub bucket_length : (name : List ℕ) → is_bucket name ≡ true → (3 ≤ length name) × (length name ≤ 63)
bucket_length name h =
    let parts = bucket_parts name h in
    (leb-true 3 (length name) parts.0, leb-true (length name) 63 parts.1)

-- each byte of a bucket name is a lower-case letter, a digit, `.` or `-`
pub bucket_bytes : (name : List ℕ) → is_bucket name ≡ true → list_all is_bucket_byte name ≡ true
bucket_bytes name h = (bucket_parts name h).2

bucket_byte_is_ascii : (byte : ℕ) → is_bucket_byte byte ≡ true → byte < 128
bucket_byte_is_ascii byte h = grind (arith, nat_tests)

-- a bucket name is ASCII
pub bucket_is_ascii : (name : List ℕ) → is_bucket name ≡ true → IsAscii name
bucket_is_ascii name h =
    IsAscii-from_all name (All-weaker (λ b. is_bucket_byte b ≡ true) (λ b. b < 128) bucket_byte_is_ascii name (AllPass-from_list_all is_bucket_byte name (bucket_bytes name h)))

-- a bucket name is UTF-8
pub bucket_is_utf8 : (name : List ℕ) → is_bucket name ≡ true → IsUtf8 name
bucket_is_utf8 name h = IsUtf8-from_ascii name (bucket_is_ascii name h)

-- a bucket name has no byte that is none of its own
pub bucket_has_no : (byte : ℕ) → is_bucket_byte byte ≡ false → (name : List ℕ) → is_bucket name ≡ true → list_any (λ b. b == byte) name ≡ false
bucket_has_no byte other name h = none name (bucket_bytes name h)
  where
    none : (bytes : List ℕ) → list_all is_bucket_byte bytes ≡ true → list_any (λ b. b == byte) bytes ≡ false
    none [] k = refl
    none (b ∷ bytes) k =
        let parts = and_parts (is_bucket_byte b) (list_all is_bucket_byte bytes) k in
        or_from _ _ (grind (arith, nat_tests)) (none bytes parts.1)

pub bucket_has_no_zero : (name : List ℕ) → is_bucket name ≡ true → list_any (λ b. b == 0) name ≡ false
bucket_has_no_zero = bucket_has_no 0 refl

-- `+`
pub bucket_has_no_plus : (name : List ℕ) → is_bucket name ≡ true → list_any (λ b. b == 43) name ≡ false
bucket_has_no_plus = bucket_has_no 43 refl

-- `/`
pub bucket_has_no_slash : (name : List ℕ) → is_bucket name ≡ true → list_any (λ b. b == 47) name ≡ false
bucket_has_no_slash = bucket_has_no 47 refl

bucket_byte_is_unreserved : (byte : ℕ) → is_bucket_byte byte ≡ true → is_unreserved byte ≡ true
bucket_byte_is_unreserved byte h = grind (arith, nat_tests)

-- no byte of a bucket name is escaped
pub bucket_stays : (name : List ℕ) → is_bucket name ≡ true → escaped_all name ≡ name
unfolding escaped_all
bucket_stays name h = stay name (bucket_bytes name h)
  where
    stay : (bytes : List ℕ) → list_all is_bucket_byte bytes ≡ true → flat_map (escaped_unless is_unreserved) bytes ≡ bytes
    stay [] k = refl
    stay (byte ∷ bytes) k =
        let parts = and_parts (is_bucket_byte byte) (list_all is_bucket_byte bytes) k in
        let here : escaped_unless is_unreserved byte ≡ byte ∷ [] = cond-true _ _ _ (bucket_byte_is_unreserved byte parts.0) in
        rw (here, stay bytes parts.1) refl
