-- The classes of bytes of which runs are read.
use Rattle.std.specs.Prelude.{ℕ, Bool}
use Rattle.gate_base.specs.Ascii.{is_lower_hex}
use Rattle.chunked.specs.declared.scan.ChunkClass.{ChunkClass}
use Rattle.chunked.specs.declared.scan.ChunkClass.TheVariants.{Hex, LowerHex, Name, Text, Feed}
use Rattle.chunked.specs.Sent.{is_hex_digit, is_name_byte, is_text_byte, is_feed}

abbrev pub has : ChunkClass → ℕ → Bool
has Hex byte = is_hex_digit byte
has LowerHex byte = is_lower_hex byte
has Name byte = is_name_byte byte
has Text byte = is_text_byte byte
has Feed byte = is_feed byte
