-- The sums by which a body's pieces are known again (this profile; MD5: RFC 1321).
use Rattle.std.specs.Prelude.{ℕ, List, ◌++◌}
use Rattle.std.specs.Int.{w64, to_be_bytes}
use Rattle.md5.specs.Md5.{md5}

-- of a body's number, the place of the piece, and its bytes
unfoldable pub piece_sum : ℕ → ℕ → List ℕ → List ℕ
piece_sum number index piece = md5 ((to_be_bytes w64 number ++ to_be_bytes w64 index) ++ piece)
