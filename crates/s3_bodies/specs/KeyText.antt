-- The text of a key in an XML body (Extensible Markup Language 1.0, sections 4.1 and 4.6: references and predefined entities). Which
-- references are read is this profile's.
use Rattle.std.specs.Prelude.{◌≡◌, ℕ, ◌<◌, List, [], ◌∷◌, ◌++◌, true, Some, codes}
use Rattle.std.specs.Char.{IsScalar, encode_utf8}
use Rattle.std.specs.Str.Parse.{digits_value}
use Rattle.s3_names.specs.Key.{is_key}
use Rattle.xml_forms.specs.Forms.{Either, Exactly, SpellsAll, Then, Valued, Word}
use Rattle.xml_forms.specs.Runs.{has, Element}
use Rattle.xml_forms.specs.declared.class.Class.TheVariants.{Digit, HexDigit, InText}
use Rattle.s3_bodies.specs.declared.key_text.Piece.{Piece}
use Rattle.s3_bodies.specs.declared.key_text.Piece.TheVariants.{Byte, Numbered}

-- ---- what a text is made of

-- a byte as it is
abbrev pub Plain : Piece → List ℕ → Type 0
Plain piece bytes = (byte : ℕ) × (has InText byte ≡ true) × (piece ≡ Byte byte) × (bytes ≡ byte ∷ [])

-- the five entities, behind their `&`
abbrev pub Angle : Piece → List ℕ → Type 0
Angle = Either (Exactly (Byte 60) (codes "lt;")) (Exactly (Byte 62) (codes "gt;"))

abbrev pub QuoteMark : Piece → List ℕ → Type 0
QuoteMark = Either (Exactly (Byte 34) (codes "quot;")) (Exactly (Byte 39) (codes "apos;"))

abbrev pub Entity : Piece → List ℕ → Type 0
Entity = Either (Exactly (Byte 38) (codes "amp;")) (Either Angle QuoteMark)

-- 1 to 7 decimal digits, or `x` and 1 to 6 hexadecimal digits
abbrev pub Decimal : Piece → List ℕ → Type 0
Decimal = Valued (λ digits. Numbered (digits_value 10 digits)) (Element [] Digit true (Some 7) (codes ";"))

abbrev pub Hexadecimal : Piece → List ℕ → Type 0
Hexadecimal = Valued (λ digits. Numbered (digits_value 16 digits)) (Element (codes "x") HexDigit true (Some 6) (codes ";"))

abbrev pub Number : Piece → List ℕ → Type 0
Number = Then (Word (codes "#")) (λ _. Either Decimal Hexadecimal)

abbrev pub Reference : Piece → List ℕ → Type 0
Reference = Then (Word (codes "&")) (λ _. Either Entity Number)

-- a piece of a text
abbrev pub InKey : Piece → List ℕ → Type 0
InKey = Either Plain Reference

-- any number of pieces, up to the end of the element; the value is the text as it stands there
pub record KeyText (text bytes : List ℕ) : Type 0 where
  pub pieces : List Piece
  pub spells : SpellsAll InKey pieces text
  pub at : bytes ≡ text ++ codes "</Key>"

-- ---- what a text stands for

-- the byte itself, or the UTF-8 of the character that has the number; 0 and a number that no character has stand for nothing
abbrev pub StandsFor : Piece → List ℕ → Type 0
StandsFor (Byte byte) bytes = bytes ≡ byte ∷ []
StandsFor (Numbered number) bytes = (0 < number) × IsScalar number × (bytes ≡ encode_utf8 number)

-- a text stands for what its pieces stand for, one behind another
pub record Means (text bytes : List ℕ) : Type 0 where
  pub pieces : List Piece
  pub spells : SpellsAll InKey pieces text
  pub stands : SpellsAll StandsFor pieces bytes

-- and that is a key
abbrev pub NamesKey : List ℕ → List ℕ → Type 0
NamesKey text key = Means text key × (is_key key ≡ true)

-- each of the texts names the key at its place
abbrev pub NameKeys : List (List ℕ) → List (List ℕ) → Type 0
NameKeys [] keys = keys ≡ []
NameKeys (text ∷ texts) keys = (key : List ℕ) × (more : List (List ℕ)) × NamesKey text key × NameKeys texts more × (keys ≡ key ∷ more)
