-- What the readers of a deletion and of its keys answer.
use Rattle.std.specs.Prelude.{◌≡◌, ◌⊎◌, ℕ, Bool, true, false, List, ◌++◌, map, min, Option, Some, None, Result, Ok, Err}
use Rattle.std.specs.Borrow.{Bor}
use Rattle.xml_forms.specs.Bodies.{NotABody, OfSome}
use Rattle.xml_forms.specs.Forms.{Begins, Reads, Skips, Stops}
use Rattle.xml_forms.specs.Readers.{read_by}
use Rattle.s3_bodies.specs.KeyText.{InKey, Means, NamesKey, NameKeys, StandsFor}
use Rattle.s3_bodies.specs.Delete.{Deletion, IsDelete, NoKeys, Object, Quiet}
use Rattle.s3_bodies.specs.declared.key_text.Piece.{Piece}
use Rattle.s3_bodies.specs.declared.fault.BodyFault.{BodyFault}
use Rattle.s3_bodies.specs.declared.fault.BodyFault.TheVariants.{NotTheBody, TooMany, Memory}

-- a reader whose value is a piece of a text
abbrev pub ReadsPiece : (Piece → List ℕ → Type 0) → List ℕ → Result (Piece × Bor (List ℕ)) ℕ → Type 0
ReadsPiece form bytes result = Reads form bytes (read_by (λ piece. piece) result)

-- all pieces that stand at the front of bytes
abbrev pub SkipsPieces : List ℕ → List ℕ → ℕ → Type 0
SkipsPieces bytes rest left = (pieces : List Piece) × Skips InKey bytes pieces rest left

-- bytes that grow by what a piece stands for, if it stands for anything
abbrev pub Appends : Piece → List ℕ → List ℕ → Bool → Type 0
Appends piece old new true = (more : List ℕ) × StandsFor piece more × (new ≡ old ++ more)
Appends piece old new false = (more : List ℕ) → StandsFor piece more → ⊥

-- whether a text stands for anything, and for what
abbrev pub IsMeaning : List ℕ → Option (List ℕ) → Type 0
IsMeaning text (Some bytes) = Means text bytes
IsMeaning text None = (bytes : List ℕ) → Means text bytes → ⊥

abbrev pub IsNamed : List ℕ → Option (List ℕ) → Type 0
IsNamed text (Some key) = NamesKey text key
IsNamed text None = (key : List ℕ) → NamesKey text key → ⊥

abbrev pub AreNamed : List (List ℕ) → Option (List (List ℕ)) → Type 0
AreNamed texts (Some keys) = NameKeys texts keys
AreNamed texts None = NoKeys texts

-- texts where they stand
abbrev pub texts_of : List (Bor (List ℕ)) → List (List ℕ)
texts_of texts = map (λ text. text.now) texts

-- all objects at the front of bytes, behind those that are there
abbrev pub AddsObjects : List (Bor (List ℕ)) → List ℕ → List (Bor (List ℕ)) → List ℕ → ℕ → Type 0
AddsObjects have bytes all rest left = (more : List (List ℕ)) × (texts_of all ≡ texts_of have ++ more) × Skips Object bytes more rest left

-- the objects, and whether it is quiet, up to the root's end; anything more would stop where so many bytes are left
abbrev pub SkipsInside : List ℕ → Deletion → List ℕ → ℕ → Type 0
SkipsInside bytes body rest left =
    ((object : ℕ) × (quiet : ℕ) × Skips Object bytes body.0 rest object × Stops Quiet rest quiet × (body.1 ≡ false) × (left ≡ min object quiet))
    ⊎ ((before : List (List ℕ)) × (after : List (List ℕ)) × (middle : List ℕ) × (last : List ℕ) × (object : ℕ) × Skips Object bytes before middle object
    × Begins Quiet middle body.1 last × Skips Object last after rest left × (body.0 ≡ before ++ after))

-- what reading the document gives
abbrev pub AnswersTexts : List ℕ → Result (List (Bor (List ℕ)) × Bool) BodyFault → Type 0
AnswersTexts bytes (Ok found) = IsDelete (texts_of found.0, found.1) bytes
AnswersTexts bytes (Err (NotTheBody n)) = NotABody (OfSome IsDelete) bytes n
AnswersTexts bytes (Err TooMany) = ⊥
AnswersTexts bytes (Err Memory) = Unit {0}
