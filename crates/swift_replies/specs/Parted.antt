-- Answers whose bytes came in two pieces. Source: this profile.
use Rattle.std.specs.Prelude.{ℕ, Bool, false, ◌==◌, Option, Some, None}

-- a body of so many bytes is what is expected behind a head
abbrev pub is_body_of_size : ℕ → Option ℕ → Bool
is_body_of_size count None = false
is_body_of_size count (Some size) = count == size
