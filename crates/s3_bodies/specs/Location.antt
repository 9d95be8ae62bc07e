-- The body of a CreateBucket (Amazon S3 API Reference, CreateBucket: CreateBucketConfiguration). Which XML is read is this profile's.
use Rattle.std.specs.Prelude.{◌≡◌, ◌≤◌, ◌-◌, ◌⊎◌, List, ℕ, length, [], false, None, Result, Ok, Err, codes}
use Rattle.std.specs.Borrow.{Bor}
use Rattle.xml_forms.specs.Bodies.{NotABody, OfSome, Whole}
use Rattle.xml_forms.specs.Forms.{Either, Exactly, Then}
use Rattle.xml_forms.specs.Openings.{Document}
use Rattle.xml_forms.specs.Runs.{Element, Spaced}
use Rattle.xml_forms.specs.declared.class.Class.TheVariants.{Dashed}
use Rattle.s3_bodies.specs.declared.fault.BodyFault.{BodyFault}
use Rattle.s3_bodies.specs.declared.fault.BodyFault.TheVariants.{NotTheBody, TooMany, Memory}

abbrev pub location_start : List ℕ
location_start = codes "<CreateBucketConfiguration"

abbrev pub location_end : List ℕ
location_end = codes "</CreateBucketConfiguration>"

-- the element that names a region; its text is the value
abbrev pub Region : List ℕ → List ℕ → Type 0
Region = Element (codes "<LocationConstraint>") Dashed false None (codes "</LocationConstraint>")

-- a region and the root's end
abbrev pub Constraint : List ℕ → List ℕ → Type 0
Constraint = Then Region (λ text. Spaced (Exactly text location_end))

-- what stands in the root: at most one region. Without one the value is empty.
abbrev pub LocationInside : List ℕ → List ℕ → Type 0
LocationInside = Spaced (Either (Exactly [] location_end) Constraint)

abbrev pub Location : List ℕ → List ℕ → Type 0
Location = Document location_start LocationInside

-- a body of a CreateBucket: none, or a document. The value is the region that it names, or empty.
abbrev pub IsLocation : List ℕ → List ℕ → Type 0
IsLocation text bytes = ((text ≡ []) × (bytes ≡ [])) ⊎ Whole Location text bytes

-- what reading such a body gives
abbrev pub AnswersLocation : List ℕ → Result (List ℕ) BodyFault → Type 0
AnswersLocation bytes (Ok text) = IsLocation text bytes
AnswersLocation bytes (Err (NotTheBody n)) = NotABody (OfSome IsLocation) bytes n
AnswersLocation bytes (Err TooMany) = ⊥
AnswersLocation bytes (Err Memory) = Unit {0}

-- what reading the document alone gives: its text, or how many bytes were left where it stopped
abbrev pub AnswersDocument : List ℕ → Result (Bor (List ℕ)) ℕ → Type 0
AnswersDocument bytes (Ok text) = Whole Location text.now bytes
AnswersDocument bytes (Err left) = (left ≤ length bytes) × NotABody (OfSome (Whole Location)) bytes (length bytes - left)
