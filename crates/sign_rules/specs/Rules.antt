-- What a signature has to cover, and where it holds. Source: Amazon S3 API Reference, "Authenticating requests: using the
-- Authorization header".
use Rattle.std.specs.Prelude.{ℕ, Bool, ◌&&◌, ◌||◌, nat_eq, List, codes, bytes_eq}
use Rattle.std.specs.List.{starts_with}

-- the region that is due, and the service `s3`
abbrev pub is_of_scope : List ℕ → List ℕ → List ℕ → Bool
is_of_scope region named service = bytes_eq named region && bytes_eq service (codes "s3")

-- `host` and `x-amz-*` have to be signed
abbrev pub must_be_signed : List ℕ → Bool
must_be_signed name = bytes_eq name (codes "host") || starts_with nat_eq name (codes "x-amz-")
