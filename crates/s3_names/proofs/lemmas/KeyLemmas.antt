-- What every key is, for the requests that carry it.
use Rattle.std.specs.Prelude.{◌≡◌, ℕ, ◌≤◌, Bool, true, false, not, ◌&&◌, ◌==◌, nat_le, nat_lt, cond, List, length, Ok, Err}
use Rattle.std.specs.Str.{IsUtf8, is_utf8}
use Rattle.std.proofs.Common.{refl, arith}
use Rattle.std.proofs.lemmas.Bool.{and_parts, and_from, leb-true, not-true}
use Rattle.std.proofs.lemmas.Bool.Decides.{nat_tests}
use Rattle.std.proofs.lemmas.Str.{IsUtf8-from_is_utf8}
use Rattle.s3_names.specs.declared.fault.NameFault.TheVariants.{EmptyKey, LongKey, NotUtf8}
use Rattle.s3_names.specs.Key.{is_key, key_of}
use Rattle.s3_names.specs.Text.{has_zero, is_text}

-- a text is UTF-8
pub text_is_utf8 : (bytes : List ℕ) → is_text bytes ≡ true → IsUtf8 bytes
text_is_utf8 bytes h = IsUtf8-from_is_utf8 bytes (and_parts (is_utf8 bytes) (not (has_zero bytes)) h).0

-- a text has no byte 0
pub text_has_no_zero : (bytes : List ℕ) → is_text bytes ≡ true → has_zero bytes ≡ false
text_has_no_zero bytes h = not-true (has_zero bytes) (and_parts (is_utf8 bytes) (not (has_zero bytes)) h).1

key_parts : (name : List ℕ) → is_key name ≡ true → (nat_le 1 (length name) ≡ true) × (nat_le (length name) 1024 ≡ true) × (is_text name ≡ true)
unfolding is_key
key_parts name h =
    let a = and_parts _ (is_text name) h in
    let b = and_parts (nat_le 1 (length name)) (nat_le (length name) 1024) a.0 in
    (b.0, b.1, a.1)

-- a key has 1 to 1024 bytes
pub key_length : (name : List ℕ) → is_key name ≡ true → (1 ≤ length name) × (length name ≤ 1024)
key_length name h =
    let parts = key_parts name h in
    (leb-true 1 (length name) parts.0, leb-true (length name) 1024 parts.1)

-- a key is UTF-8
pub key_is_utf8 : (name : List ℕ) → is_key name ≡ true → IsUtf8 name
key_is_utf8 name h = text_is_utf8 name (key_parts name h).2

-- a key has no byte 0
pub key_has_no_zero : (name : List ℕ) → is_key name ≡ true → has_zero name ≡ false
key_has_no_zero name h = text_has_no_zero name (key_parts name h).2

-- bytes that are a key are read as it
pub key_of_key : (name : List ℕ) → is_key name ≡ true → key_of name ≡ Ok name
unfolding key_of
key_of_key name h =
    let parts = key_parts name h in
    let filled : (length name == 0) ≡ false = grind (arith, nat_tests) in
    let short : nat_lt 1024 (length name) ≡ false = grind (arith, nat_tests) in
    rw (filled, short, parts.2) refl

-- what is read as a key is one, and is the bytes themselves
pub key_from : (name key : List ℕ) → key_of name ≡ Ok key → (is_key name ≡ true) × (key ≡ name)
unfolding key_of is_key
key_from name key h = from_tests (length name == 0) (nat_lt 1024 (length name)) (is_text name) refl refl refl h
  where
    from_tests : (a b c : Bool) → (length name == 0) ≡ a → nat_lt 1024 (length name) ≡ b → is_text name ≡ c
        → cond a (Err EmptyKey) (cond b (Err LongKey) (cond c (Ok name) (Err NotUtf8))) ≡ Ok key
        → ((nat_le 1 (length name) && nat_le (length name) 1024 && is_text name) ≡ true) × (key ≡ name)
    from_tests true b c e f g k = cc
    from_tests false true c e f g k = cc
    from_tests false false false e f g k = cc
    from_tests false false true e f g k =
        let one : nat_le 1 (length name) ≡ true = grind (arith, nat_tests) in
        let two : nat_le (length name) 1024 ≡ true = grind (arith, nat_tests) in
        (and_from _ _ (and_from _ _ one two) g, (cc))
