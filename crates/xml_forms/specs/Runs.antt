-- Runs of bytes of a class, and elements: a text between two tags.
use Rattle.std.specs.Prelude.{◌≡◌, ℕ, ◌≤◌, ◌<◌, ◌==◌, ◌&&◌, ◌||◌, not, nat_le, Bool, true, false, List, ◌∷◌, ◌++◌, length, Option, Some, None}
use Rattle.std.specs.List.{list_all}
use Rattle.gate_base.specs.Ascii.{is_digit, is_letter_or_digit}
use Rattle.xml_forms.specs.Forms.{Word, Exactly, Then, RunThen}
use Rattle.xml_forms.specs.declared.class.Class.{Class}
use Rattle.xml_forms.specs.declared.class.Class.TheVariants.{Space, Digit, HexDigit, LetterOrDigit, Dashed, Text, InText, InDouble, InSingle}

-- `0` to `9`, `A` to `F`, `a` to `f`
abbrev pub is_hex_digit : ℕ → Bool
is_hex_digit byte = is_digit byte || (nat_le 65 byte && nat_le byte 70) || (nat_le 97 byte && nat_le byte 102)

-- whether a byte is of a class
abbrev pub has : Class → ℕ → Bool
has Space byte = byte == 32 || byte == 9 || byte == 13 || byte == 10
has Digit byte = is_digit byte
has HexDigit byte = is_hex_digit byte
has LetterOrDigit byte = is_letter_or_digit byte
has Dashed byte = is_letter_or_digit byte || byte == 45
has Text byte = not (byte == 60)
has InText byte = not (byte == 60) && not (byte == 38)
has InDouble byte = not (byte == 34) && not (byte == 60) && not (byte == 38)
has InSingle byte = not (byte == 39) && not (byte == 60) && not (byte == 38)

-- the longest run of a class at the front of bytes, of at most so many
pub record IsRun (class : Class) (most : ℕ) (bytes run rest : List ℕ) : Type 0 where
  pub at : bytes ≡ run ++ rest
  pub passes : list_all (has class) run ≡ true
  pub within : length run ≤ most
  pub closed : (c : ℕ) (us : List ℕ) → has class c ≡ true → rest ≡ c ∷ us → most ≤ length run

-- all white space at the front of bytes, and the bytes behind it
abbrev pub SkipsSpace : List ℕ → List ℕ → Type 0
SkipsSpace bytes rest = (space : List ℕ) × IsRun Space (length bytes) bytes space rest

-- a run of at least one byte, where it must be filled
abbrev pub IsFilled : Bool → List ℕ → Type 0
IsFilled true run = 0 < length run
IsFilled false run = Unit {0}

-- a run of at most so many bytes, where that is limited
abbrev pub IsShort : Option ℕ → List ℕ → Type 0
IsShort None run = Unit {0}
IsShort (Some most) run = length run ≤ most

-- a limit that lets a byte through
abbrev pub IsPositive : Option ℕ → Type 0
IsPositive None = Unit {0}
IsPositive (Some most) = 0 < most

-- a run of an allowed length
pub record Sized (filled : Bool) (most : Option ℕ) (run : List ℕ) : Type 0 where
  pub is_filled : IsFilled filled run
  pub is_short : IsShort most run

-- a text of a class between a start and an end; the text is the value
abbrev pub Element : List ℕ → Class → Bool → Option ℕ → List ℕ → List ℕ → List ℕ → Type 0
Element start class filled most end = Then (Word start) (λ _. RunThen (has class) (Sized filled most) (λ run. Exactly run end))

-- white space, and then a form
abbrev pub Spaced : {A : Type 0} → (A → List ℕ → Type 0) → A → List ℕ → Type 0
Spaced form = RunThen (has Space) (Sized false None) (λ _. form)
