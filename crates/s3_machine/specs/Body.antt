-- What is known of a body's digest.
use Rattle.std.specs.Prelude.{◌≡◌, ⊤, ℕ, List, Option, MatchOption}
use Rattle.md5.specs.Md5.{md5}

-- the digest, if there is one, is the MD5 of these bytes
abbrev pub IsDigestOf : Option (List ℕ) → List ℕ → Type 0
IsDigestOf digest bytes = MatchOption digest ⊤ (λ made. made ≡ md5 bytes)
