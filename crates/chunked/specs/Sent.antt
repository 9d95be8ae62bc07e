-- A body in chunks, byte by byte as it is sent: chunks of at least one byte, an empty chunk, lines, and an empty line. Source: Amazon
-- S3 API Reference, as in `Forms`. That a line may end with LF CRLF is what minio-go sends; that a length has 1 to 16 digits, a name 1
-- to 128 bytes and a text 1,024 at most is this profile's.
use Rattle.std.specs.Prelude.{◌≡◌, ℕ, ◌≤◌, ◌<◌, Bool, true, false, ◌||◌, ◌&&◌, ◌==◌, nat_le, nat_lt}
use Rattle.std.specs.Prelude.{List, [], ◌∷◌, ◌++◌, length, map, flat_map, codes}
use Rattle.std.specs.List.{AllByRecursion, list_all}
use Rattle.std.specs.Char.{digit_value, to_ascii_lowercase}
use Rattle.std.specs.Str.Parse.{digits_value}
use Rattle.gate_base.specs.Ascii.{is_letter_or_digit, is_lower_hex}
use Rattle.gate_base.specs.declared.page.Pair.{Pair}
use Rattle.text_forms.specs.Blanks.{without_blanks}
use Rattle.chunked.specs.declared.form.ChunkedForm.{ChunkedForm}
use Rattle.chunked.specs.Forms.{is_signed, most_lines}

abbrev pub crlf : List ℕ
crlf = 13 ∷ 10 ∷ []

--     chunks  LENGTH CRLF BYTES CRLF, or LENGTH ";chunk-signature=" SIGNATURE CRLF BYTES CRLF
--     last    the same of no byte, without the CRLF behind the bytes
--     lines   NAME ":" TEXT CRLF

-- `0` to `9`, `A` to `F`, `a` to `f`
abbrev pub is_hex_digit : ℕ → Bool
is_hex_digit byte = nat_lt (digit_value byte) 16

-- a letter, a digit or `-`
abbrev pub is_name_byte : ℕ → Bool
is_name_byte byte = is_letter_or_digit byte || byte == 45

-- visible ASCII, a space or a tab
abbrev pub is_text_byte : ℕ → Bool
is_text_byte byte = (nat_le 32 byte && nat_le byte 126) || byte == 9

abbrev pub is_feed : ℕ → Bool
is_feed byte = byte == 10

-- a chunk: the digits that write its length, its signature, and its bytes
pub record Chunk : Type 0 where
  pub digits : List ℕ
  pub signature : List ℕ
  pub bytes : List ℕ

-- a line behind the last chunk: a name, the text behind the colon, and what stands before the CRLF that ends it
pub record Line : Type 0 where
  pub name : List ℕ
  pub text : List ℕ
  pub feed : List ℕ

-- a whole body
pub record Sent : Type 0 where
  pub chunks : List Chunk
  pub last : Chunk
  pub lines : List Line

-- ---- the text of each

abbrev pub extension_text : Bool → List ℕ → List ℕ
extension_text false signature = []
extension_text true signature = codes ";chunk-signature=" ++ signature

-- the bytes, and a CRLF behind them if there are any
abbrev pub payload_text : List ℕ → List ℕ
payload_text [] = []
payload_text (byte ∷ bytes) = (byte ∷ bytes) ++ crlf

unfoldable pub chunk_text : Bool → Chunk → List ℕ
chunk_text signed chunk = chunk.digits ++ (extension_text signed chunk.signature ++ (crlf ++ payload_text chunk.bytes))

unfoldable pub line_text : Line → List ℕ
line_text line = line.name ++ (58 ∷ (line.text ++ (line.feed ++ crlf)))

-- the lines, and an empty line
abbrev pub lines_text : List Line → List ℕ
lines_text lines = flat_map line_text lines ++ crlf

abbrev pub sent_text : ChunkedForm → Sent → List ℕ
sent_text form sent =
    flat_map (chunk_text (is_signed form)) sent.chunks ++ (chunk_text (is_signed form) sent.last ++ lines_text sent.lines)

-- ---- the form of each

-- 64 digits in lower case where the form is signed, and none else
abbrev pub IsSignature : Bool → List ℕ → Type 0
IsSignature false signature = signature ≡ []
IsSignature true signature = (length signature ≡ 64) × (list_all is_lower_hex signature ≡ true)

pub record IsChunk (signed : Bool) (chunk : Chunk) : Type 0 where
  pub filled : 1 ≤ length chunk.digits
  pub short : length chunk.digits ≤ 16
  pub hex : list_all is_hex_digit chunk.digits ≡ true
  pub counts : digits_value 16 chunk.digits ≡ length chunk.bytes
  pub signature : IsSignature signed chunk.signature

pub record IsFull (signed : Bool) (chunk : Chunk) : Type 0 where
  pub formed : IsChunk signed chunk
  pub filled : 0 < length chunk.bytes

pub record IsLast (signed : Bool) (chunk : Chunk) : Type 0 where
  pub formed : IsChunk signed chunk
  pub empty : chunk.bytes ≡ []

pub record IsLine (line : Line) : Type 0 where
  pub named : 1 ≤ length line.name
  pub name_short : length line.name ≤ 128
  pub name : list_all is_name_byte line.name ≡ true
  pub text_short : length line.text ≤ 1024
  pub text : list_all is_text_byte line.text ≡ true
  pub feed_short : length line.feed ≤ 1
  pub feed : list_all is_feed line.feed ≡ true

pub record IsSent (form : ChunkedForm) (sent : Sent) : Type 0 where
  pub chunks : AllByRecursion (IsFull (is_signed form)) sent.chunks
  pub last : IsLast (is_signed form) sent.last
  pub lines : AllByRecursion IsLine sent.lines
  pub few : length sent.lines ≤ most_lines form

-- ---- what it gives

-- the bytes of all chunks
abbrev pub bytes_of : List Chunk → List ℕ
bytes_of chunks = flat_map (λ chunk. chunk.bytes) chunks

-- what a line says: its name in lower case, and its text without the blanks around it
abbrev pub pair_of : Line → Pair
pair_of line = record { name = map to_ascii_lowercase line.name; value = without_blanks line.text }
