-- The names of the headers that are signed. Source: Amazon S3 API Reference, "Authenticating requests: using the
-- Authorization header", task 1; that all headers but `authorization` are signed is this profile.
use Rattle.std.specs.Prelude.{◌≡◌, ℕ, Bool, true, not, ◌&&◌, ◌||◌, List, codes, bytes_eq}
use Rattle.gate_base.specs.declared.page.Pair.{Pair}
use Rattle.http_wire.specs.Headers.{has_header}
use Rattle.sigv4.specs.Authorization.{are_ascending}
use Rattle.sigv4.specs.Verdict.{is_among}

-- all names but `authorization`
abbrev pub is_signed : List ℕ → Bool
is_signed name = not (bytes_eq name (codes "authorization"))

-- some header has the name, and it isn't `authorization`
abbrev pub has_signed : List Pair → List ℕ → Bool
has_signed headers name = has_header name headers && is_signed name

-- the names that are signed: strictly ascending in byte order, so that each stands once, and a name is among them exactly
-- where some header has it and it isn't `authorization`. No other list is that, by a law of this crate
pub record AreSigned (headers : List Pair) (names : List (List ℕ)) : Type 0 where
  pub ascending : are_ascending names ≡ true
  pub all : (name : List ℕ) → is_among name names ≡ has_signed headers name

-- a name has itself as its name
abbrev pub itself : List ℕ → List ℕ
itself name = name

-- one name more, in ascending order
pub record AddsName (name : List ℕ) (old new : List (List ℕ)) : Type 0 where
  pub ascending : are_ascending old ≡ true → are_ascending new ≡ true
  pub one : (other : List ℕ) → is_among other new ≡ (is_among other old || bytes_eq name other)
