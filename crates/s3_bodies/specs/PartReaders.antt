-- What the readers of a completion and of its parts answer.
use Rattle.std.specs.Prelude.{ℕ, List, map, Result, Ok, Err}
use Rattle.std.specs.Borrow.{Bor}
use Rattle.xml_forms.specs.Bodies.{NotABody, OfSome}
use Rattle.xml_forms.specs.Forms.{Reads, Skips}
use Rattle.xml_forms.specs.Readers.{read_by}
use Rattle.xml_forms.specs.Runs.{Spaced}
use Rattle.s3_bodies.specs.Completion.{Checksum, IsCompletion}
use Rattle.s3_bodies.specs.declared.fault.BodyFault.{BodyFault}
use Rattle.s3_bodies.specs.declared.fault.BodyFault.TheVariants.{NotTheBody, TooMany, Memory}

-- a reader whose value is a part
abbrev pub part_of : ℕ × Bor (List ℕ) → ℕ × List ℕ
part_of part = (part.0, part.1.now)

abbrev pub ReadsPart : (ℕ × List ℕ → List ℕ → Type 0) → List ℕ → Result ((ℕ × Bor (List ℕ)) × Bor (List ℕ)) ℕ → Type 0
ReadsPart form bytes result = Reads form bytes (read_by part_of result)

-- all checksums that stand at the front of bytes
abbrev pub SkipsChecksums : List ℕ → List ℕ → ℕ → Type 0
SkipsChecksums bytes rest left = (items : List (Unit {0})) × Skips (Spaced Checksum) bytes items rest left

-- what reading the parts of a body gives
abbrev pub AnswersParts : List ℕ → Result (List (ℕ × Bor (List ℕ))) BodyFault → Type 0
AnswersParts bytes (Ok parts) = IsCompletion (map part_of parts) bytes
AnswersParts bytes (Err (NotTheBody n)) = NotABody (OfSome IsCompletion) bytes n
AnswersParts bytes (Err TooMany) = ⊥
AnswersParts bytes (Err Memory) = Unit {0}
