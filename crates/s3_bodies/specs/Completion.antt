-- The body of a CompleteMultipartUpload (Amazon S3 API Reference, CompleteMultipartUpload: its root and Part). Which XML is read is this profile's.
use Rattle.std.specs.Prelude.{◌≡◌, ℕ, ◌<◌, ◌≤◌, List, [], ◌∷◌, length, map, true, false, Some, None, Result, Ok, Err, codes}
use Rattle.std.specs.Str.Parse.{digits_value}
use Rattle.xml_forms.specs.Bodies.{NotABody, OfSome, Whole}
use Rattle.xml_forms.specs.Forms.{Either, Exactly, Many, RunThen, Then, Valued, Word}
use Rattle.xml_forms.specs.Openings.{Document}
use Rattle.xml_forms.specs.Runs.{has, Element, Sized, Spaced}
use Rattle.xml_forms.specs.declared.class.Class.TheVariants.{Digit, LetterOrDigit, Dashed, Text}
use Rattle.s3_machine.specs.declared.operation.Listed.{Listed}
use Rattle.s3_machine.specs.declared.limits.TheConstants.{MOST_PARTS}
use Rattle.s3_bodies.specs.declared.fault.BodyFault.{BodyFault}
use Rattle.s3_bodies.specs.declared.fault.BodyFault.TheVariants.{NotTheBody, TooMany, Memory}

-- ---- the elements of a part

-- a number of 1 to 9 digits
abbrev pub Number : ℕ → List ℕ → Type 0
Number = Valued (digits_value 10) (Element (codes "<PartNumber>") Digit true (Some 9) (codes "</PartNumber>"))

-- a double quote, in each of its spellings
abbrev pub Quote : Unit {0} → List ℕ → Type 0
Quote = Either (Word (codes "\"")) (Either (Word (codes "&quot;")) (Word (codes "&#34;")))

abbrev pub etag_end : List ℕ
etag_end = codes "</ETag>"

-- 1 to 64 letters, digits and `-`, and what is behind them
abbrev pub EtagText : (List ℕ → List ℕ → List ℕ → Type 0) → List ℕ → List ℕ → Type 0
EtagText = RunThen (has Dashed) (Sized true (Some 64))

abbrev pub QuotedEnd : List ℕ → List ℕ → List ℕ → Type 0
QuotedEnd text = Then Quote (λ _. Exactly text etag_end)

-- an ETag, in quotes or without them
abbrev pub Quoted : List ℕ → List ℕ → Type 0
Quoted = Then Quote (λ _. EtagText QuotedEnd)

abbrev pub Bare : List ℕ → List ℕ → Type 0
Bare = Element [] Dashed true (Some 64) etag_end

abbrev pub Etag : List ℕ → List ℕ → Type 0
Etag = Then (Word (codes "<ETag>")) (λ _. Either Bare Quoted)

-- an element whose name begins with `Checksum` and goes on with letters and digits; its text and its end, which repeats the name
abbrev pub ChecksumEnd : List ℕ → Unit {0} → List ℕ → Type 0
ChecksumEnd name = Then (Word (codes "</Checksum")) (λ _. Then (Word name) (λ _. Word (codes ">")))

abbrev pub ChecksumText : List ℕ → Unit {0} → List ℕ → Type 0
ChecksumText name = RunThen (has Text) (Sized false None) (λ _. ChecksumEnd name)

abbrev pub ChecksumName : Unit {0} → List ℕ → Type 0
ChecksumName = RunThen (has LetterOrDigit) (Sized false None) (λ name. Then (Word (codes ">")) (λ _. ChecksumText name))

abbrev pub Checksum : Unit {0} → List ℕ → Type 0
Checksum = Then (Word (codes "<Checksum")) (λ _. ChecksumName)

-- ---- a part: one number and one ETag, in either order, with any number of checksums around them

abbrev pub Checksums : {A : Type 0} → (A → List ℕ → Type 0) → A → List ℕ → Type 0
Checksums next = Many (Spaced Checksum) (λ _. next)

abbrev pub PartEnd : ℕ × List ℕ → ℕ × List ℕ → List ℕ → Type 0
PartEnd part = Spaced (Exactly part (codes "</Part>"))

-- what may stand behind both
abbrev pub PartLast : ℕ × List ℕ → ℕ × List ℕ → List ℕ → Type 0
PartLast part = Checksums (PartEnd part)

-- the ETag where the number came first, and the number where the ETag did
abbrev pub EtagThen : ℕ → ℕ × List ℕ → List ℕ → Type 0
EtagThen number = Then (Spaced Etag) (λ etag. PartLast (number, etag))

abbrev pub NumberThen : List ℕ → ℕ × List ℕ → List ℕ → Type 0
NumberThen etag = Then (Spaced Number) (λ number. PartLast (number, etag))

abbrev pub NumberFirst : ℕ × List ℕ → List ℕ → Type 0
NumberFirst = Then (Spaced Number) (λ number. Checksums (EtagThen number))

abbrev pub EtagFirst : ℕ × List ℕ → List ℕ → Type 0
EtagFirst = Then (Spaced Etag) (λ etag. Checksums (NumberThen etag))

abbrev pub PartInside : ℕ × List ℕ → List ℕ → Type 0
PartInside = Checksums (Either NumberFirst EtagFirst)

-- the value of a part is its number and its ETag
abbrev pub Part : ℕ × List ℕ → List ℕ → Type 0
Part = Then (Spaced (Word (codes "<Part>"))) (λ _. PartInside)

-- ---- a completion

abbrev pub completion_start : List ℕ
completion_start = codes "<CompleteMultipartUpload"

abbrev pub completion_end : List ℕ
completion_end = codes "</CompleteMultipartUpload>"

abbrev pub PartsEnd : List (ℕ × List ℕ) → List (ℕ × List ℕ) → List ℕ → Type 0
PartsEnd parts = Spaced (Exactly parts completion_end)

-- at least one part
abbrev pub Parts : List (ℕ × List ℕ) → List ℕ → Type 0
Parts = Then Part (λ first. Many Part (λ more. PartsEnd (first ∷ more)))

abbrev pub Completion : List (ℕ × List ℕ) → List ℕ → Type 0
Completion = Document completion_start Parts

-- a body of a CompleteMultipartUpload: a document, of which the value is the parts in their order
abbrev pub IsCompletion : List (ℕ × List ℕ) → List ℕ → Type 0
IsCompletion = Whole Completion

abbrev pub listed_of : ℕ × List ℕ → Listed
listed_of part = record { number = part.0; etag = part.1 }

-- what reading such a body gives
abbrev pub AnswersCompletion : List ℕ → Result (List Listed) BodyFault → Type 0
AnswersCompletion bytes (Ok listed) = (parts : List (ℕ × List ℕ)) × IsCompletion parts bytes × (length parts ≤ MOST_PARTS) × (listed ≡ map listed_of parts)
AnswersCompletion bytes (Err (NotTheBody n)) = NotABody (OfSome IsCompletion) bytes n
AnswersCompletion bytes (Err TooMany) = (parts : List (ℕ × List ℕ)) × IsCompletion parts bytes × (MOST_PARTS < length parts)
AnswersCompletion bytes (Err Memory) = Unit {0}
