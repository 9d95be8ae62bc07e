-- The body of a DeleteObjects (Amazon S3 API Reference, DeleteObjects: Delete and ObjectIdentifier). Which XML is read is this profile's.
use Rattle.std.specs.Prelude.{◌≡◌, ◌⊎◌, ℕ, ◌<◌, ◌≤◌, Bool, true, false, List, ◌++◌, length, Result, Ok, Err, codes}
use Rattle.xml_forms.specs.Bodies.{NotABody, OfSome, Whole}
use Rattle.xml_forms.specs.Forms.{Either, Exactly, Many, Then, Word}
use Rattle.xml_forms.specs.Openings.{Document}
use Rattle.xml_forms.specs.Runs.{Spaced}
use Rattle.s3_machine.specs.declared.limits.TheConstants.{MOST_KEYS}
use Rattle.s3_bodies.specs.KeyText.{KeyText, NameKeys}
use Rattle.s3_bodies.specs.declared.delete.Deletes.{Deletes}
use Rattle.s3_bodies.specs.declared.fault.BodyFault.{BodyFault}
use Rattle.s3_bodies.specs.declared.fault.BodyFault.TheVariants.{NotTheBody, TooMany, Memory}

-- ---- what stands in the root

-- exactly one key; its text is the value
abbrev pub Key : List ℕ → List ℕ → Type 0
Key = Then (Word (codes "<Key>")) (λ _. KeyText)

abbrev pub ObjectEnd : List ℕ → List ℕ → List ℕ → Type 0
ObjectEnd text = Spaced (Exactly text (codes "</Object>"))

abbrev pub Object : List ℕ → List ℕ → Type 0
Object = Then (Spaced (Word (codes "<Object>"))) (λ _. Then (Spaced Key) ObjectEnd)

abbrev pub QuietText : Bool → List ℕ → Type 0
QuietText = Either (Exactly true (codes "true</Quiet>")) (Exactly false (codes "false</Quiet>"))

abbrev pub Quiet : Bool → List ℕ → Type 0
Quiet = Then (Spaced (Word (codes "<Quiet>"))) (λ _. QuietText)

-- ---- a deletion: the texts of its keys in their order, and whether it is quiet

abbrev pub Deletion : Type 0
Deletion = List (List ℕ) × Bool

abbrev pub delete_start : List ℕ
delete_start = codes "<Delete"

abbrev pub delete_end : List ℕ
delete_end = codes "</Delete>"

-- the root's end, behind at least one object
abbrev pub DeleteEnd : Deletion → Deletion → List ℕ → Type 0
DeleteEnd all body bytes = (0 < length all.0) × Spaced (Exactly all delete_end) body bytes

-- at most one element that says whether it is quiet, before the objects, behind them or between them
abbrev pub QuietThen : List (List ℕ) → Deletion → List ℕ → Type 0
QuietThen before = Then Quiet (λ quiet. Many Object (λ after. DeleteEnd (before ++ after, quiet)))

abbrev pub DeleteInside : Deletion → List ℕ → Type 0
DeleteInside = Many Object (λ before. Either (QuietThen before) (DeleteEnd (before, false)))

abbrev pub Delete : Deletion → List ℕ → Type 0
Delete = Document delete_start DeleteInside

-- a body of a DeleteObjects: a document, whether or not its texts name keys
abbrev pub IsDelete : Deletion → List ℕ → Type 0
IsDelete = Whole Delete

-- texts of which one at least names no key
abbrev pub NoKeys : List (List ℕ) → Type 0
NoKeys texts = (keys : List (List ℕ)) → NameKeys texts keys → ⊥

-- what reading such a body gives. A body whose texts don't all name keys is refused at its end.
abbrev pub AnswersDelete : List ℕ → Result Deletes BodyFault → Type 0
AnswersDelete bytes (Ok deletes) = (texts : List (List ℕ)) × IsDelete (texts, deletes.quiet) bytes × (length texts ≤ MOST_KEYS) × NameKeys texts deletes.keys
AnswersDelete bytes (Err (NotTheBody n)) =
    NotABody (OfSome IsDelete) bytes n
    ⊎ (body : Deletion) × IsDelete body bytes × (length body.0 ≤ MOST_KEYS) × NoKeys body.0 × (n ≡ length bytes)
AnswersDelete bytes (Err TooMany) = (body : Deletion) × IsDelete body bytes × (MOST_KEYS < length body.0)
AnswersDelete bytes (Err Memory) = Unit {0}
