-- UTF-8 as a fact and as a test.
use Rattle.std.proofs.Common.{◌≡◌, ℕ, true, false, List}
use Rattle.std.specs.Str.{IsUtf8, is_utf8}
use Rattle.std.proofs.lemmas.Bool.{false_from_ne_true}
use Rattle.std.proofs.lemmas.Str.{is_utf8-from_IsUtf8, IsUtf8-from_is_utf8}

pub is_utf8_where : (bytes : List ℕ) → IsUtf8 bytes → is_utf8 bytes ≡ true
is_utf8_where bytes h = is_utf8-from_IsUtf8 bytes h

pub is_utf8_unless : (bytes : List ℕ) → ¬ (IsUtf8 bytes) → is_utf8 bytes ≡ false
is_utf8_unless bytes h = false_from_ne_true (is_utf8 bytes) (λ valid. h (IsUtf8-from_is_utf8 bytes valid))

-- bytes that pass the test aren't refused
pub utf8_after_all : (bytes : List ℕ) → is_utf8 bytes ≡ true → ¬ (IsUtf8 bytes) → ⊥
utf8_after_all bytes passes not_utf8 = not_utf8 (IsUtf8-from_is_utf8 bytes passes)
