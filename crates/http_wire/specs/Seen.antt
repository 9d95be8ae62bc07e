-- What one look at the bytes that were read says of them, and what was found once enough of them came.
use Rattle.std.specs.Prelude.{◌≡◌, ℕ, ◌<◌, ◌≤◌, List, [], ◌∷◌, length, take}
use Rattle.httparse.specs.declared.spans.HeaderSpan.{HeaderSpan}
use Rattle.httparse.specs.Grammar.{HasNoRequest}
use Rattle.httparse.specs.Spans.{IsRequestOf, IsRequestWithin}
use Rattle.http_wire.specs.declared.advance.TheConstants.{HEAD_LIMIT}
use Rattle.http_wire.specs.declared.look.Verdict.{Verdict}
use Rattle.http_wire.specs.declared.look.Verdict.TheVariants.{Whole, More, Dead}
use Rattle.http_wire.specs.declared.advance.Found.{Found}
use Rattle.http_wire.specs.declared.advance.Found.TheVariants.{Head, Bad, Long, Cut, Nothing}
use Rattle.http_wire.specs.FirstMessage.{CannotBecomeHead, HasDeadPrefix}

-- what the first of the bytes are
abbrev pub Sees : List ℕ → List HeaderSpan → Verdict → Type 0
Sees bytes headers (Whole spans) = IsRequestOf bytes headers spans × IsRequestWithin bytes headers spans
Sees bytes headers More = HasNoRequest bytes × ¬ (HasDeadPrefix bytes)
Sees bytes headers Dead = CannotBecomeHead bytes

-- the bytes among which a head has to end
abbrev pub window : List ℕ → List ℕ
window bytes = take HEAD_LIMIT bytes

-- what was found in all bytes that came
abbrev pub IsFound : List ℕ → List HeaderSpan → Found → Type 0
IsFound bytes headers (Head spans) = IsRequestOf (window bytes) headers spans × IsRequestWithin (window bytes) headers spans
IsFound bytes headers Bad = CannotBecomeHead (window bytes)
IsFound bytes headers Long = HasNoRequest (window bytes) × ¬ (HasDeadPrefix (window bytes)) × (HEAD_LIMIT ≤ length bytes)
IsFound bytes headers Cut = (0 < length bytes) × (length bytes < HEAD_LIMIT) × HasNoRequest (window bytes) × ¬ (HasDeadPrefix (window bytes))
IsFound bytes headers Nothing = bytes ≡ []

-- bytes of which it isn't known yet what stands first in them, fewer than a head may have
abbrev pub IsOpen : List ℕ → Type 0
IsOpen bytes = HasNoRequest (window bytes) × ¬ (HasDeadPrefix (window bytes)) × (length bytes < HEAD_LIMIT)

-- at the connection's end no byte of it is left
abbrev pub AtEnd : Found → List ℕ → Type 0
AtEnd (Head spans) rest = Unit {0}
AtEnd Bad rest = Unit {0}
AtEnd Long rest = Unit {0}
AtEnd Cut rest = rest ≡ []
AtEnd Nothing rest = rest ≡ []

-- what the end of the connection says of bytes that have no whole head
abbrev pub end_of : List ℕ → Found
end_of [] = Nothing
end_of (b ∷ bytes) = Cut
