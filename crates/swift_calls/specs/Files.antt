-- A PUT of an object by its parts, as laws speak of it: in place of the one that is there, or only where none is. Source: Object Storage API v1, "Create or
-- replace object".
use Rattle.std.specs.Prelude.{ℕ, Bool, false, List}
use Rattle.swift_calls.specs.declared.calls.SwiftRequest.{SwiftRequest}
use Rattle.swift_calls.specs.declared.calls.SwiftRequest.TheVariants as asked

-- fresh or not
abbrev pub PutFile : List ℕ → List ℕ → List ℕ → List (List ℕ) → List ℕ → Bool → SwiftRequest
PutFile container name content_type meta body fresh =
    asked.PutObject (record { container = container; name = name; content_type = content_type; meta = meta; body = body; fresh = fresh })

abbrev pub PutObject : List ℕ → List ℕ → List ℕ → List (List ℕ) → List ℕ → SwiftRequest
PutObject container name content_type meta body = PutFile container name content_type meta body false
