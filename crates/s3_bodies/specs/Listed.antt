-- The parts that the body of a CompleteMultipartUpload lists, as a function of all its bytes.
use Rattle.std.specs.Prelude.{◌≡◌, ℕ, true, false, nat_le, if◌then◌else◌, List, [], ◌∷◌, length, map, Option, Some, None, Result, Ok, Err, codes}
use Rattle.std.specs.Str.Parse.{digits_value}
use Rattle.xml_forms.specs.Runs.{has}
use Rattle.xml_forms.specs.declared.class.Class.TheVariants.{Digit, LetterOrDigit, Dashed, Text}
use Rattle.s3_machine.specs.declared.operation.Listed.{Listed}
use Rattle.s3_machine.specs.declared.limits.TheConstants.{MOST_PARTS}
use Rattle.s3_bodies.specs.Completion.{etag_end, completion_start, completion_end, listed_of}
use Rattle.s3_bodies.specs.Values.{exactly, words, either, joined, valued, behind_run, spaced, elements, many, documents, wholes}
use Rattle.s3_bodies.specs.declared.fault.BodyFault.{BodyFault}
use Rattle.s3_bodies.specs.declared.fault.BodyFault.TheVariants.{NotTheBody, TooMany, Memory}

abbrev pub numbers : List ℕ → List ℕ
numbers = valued (digits_value 10) (elements (codes "<PartNumber>") Digit true (Some 9) (codes "</PartNumber>"))

abbrev pub quotes : List ℕ → List (Unit {0})
quotes = either (words (codes "\"")) (either (words (codes "&quot;")) (words (codes "&#34;")))

abbrev pub quoted_ends : List ℕ → List ℕ → List (List ℕ)
quoted_ends text = joined quotes (λ _. exactly text etag_end)

abbrev pub quoteds : List ℕ → List (List ℕ)
quoteds = joined quotes (λ _. behind_run (has Dashed) true (Some 64) quoted_ends)

abbrev pub bares : List ℕ → List (List ℕ)
bares = elements [] Dashed true (Some 64) etag_end

abbrev pub etags : List ℕ → List (List ℕ)
etags = joined (words (codes "<ETag>")) (λ _. either bares quoteds)

abbrev pub checksum_ends : List ℕ → List ℕ → List (Unit {0})
checksum_ends name = joined (words (codes "</Checksum")) (λ _. joined (words name) (λ _. words (codes ">")))

abbrev pub checksum_texts : List ℕ → List ℕ → List (Unit {0})
checksum_texts name = behind_run (has Text) false None (λ _. checksum_ends name)

abbrev pub checksum_names : List ℕ → List (Unit {0})
checksum_names = behind_run (has LetterOrDigit) false None (λ name. joined (words (codes ">")) (λ _. checksum_texts name))

abbrev pub checksums : List ℕ → List (Unit {0})
checksums = joined (words (codes "<Checksum")) (λ _. checksum_names)

-- ---- a part

abbrev pub past_checksums : {A : Type 0} → (List ℕ → List A) → List ℕ → List A
past_checksums next = many (spaced checksums) (λ _. next)

abbrev pub part_lasts : ℕ × List ℕ → List ℕ → List (ℕ × List ℕ)
part_lasts part = past_checksums (spaced (exactly part (codes "</Part>")))

abbrev pub number_firsts : List ℕ → List (ℕ × List ℕ)
number_firsts = joined (spaced numbers) (λ number. past_checksums (joined (spaced etags) (λ etag. part_lasts (number, etag))))

abbrev pub etag_firsts : List ℕ → List (ℕ × List ℕ)
etag_firsts = joined (spaced etags) (λ etag. past_checksums (joined (spaced numbers) (λ number. part_lasts (number, etag))))

abbrev pub parts : List ℕ → List (ℕ × List ℕ)
parts = joined (spaced (words (codes "<Part>"))) (λ _. past_checksums (either number_firsts etag_firsts))

-- ---- a completion

abbrev pub parts_ends : List (ℕ × List ℕ) → List ℕ → List (List (ℕ × List ℕ))
parts_ends all = spaced (exactly all completion_end)

abbrev pub all_parts : List ℕ → List (List (ℕ × List ℕ))
all_parts = joined parts (λ first. many parts (λ more. parts_ends (first ∷ more)))

-- the parts of a body; there is at most one list of them
unfoldable pub completions : List ℕ → List (List (ℕ × List ℕ))
completions = wholes (documents completion_start all_parts)

-- a list of more parts than an upload has is none
abbrev pub listed_by : List (List (ℕ × List ℕ)) → Option (List Listed)
listed_by [] = None
listed_by (all ∷ others) = if nat_le (length all) MOST_PARTS then Some (map listed_of all) else None

-- what a body lists; none where it is no completion, or lists too many parts
unfoldable pub listed_in : List ℕ → Option (List Listed)
listed_in bytes = listed_by (completions bytes)

-- what reading a body tells of it
abbrev pub TellsListed : List ℕ → Result (List Listed) BodyFault → Type 0
TellsListed bytes (Ok list) = listed_in bytes ≡ Some list
TellsListed bytes (Err (NotTheBody n)) = listed_in bytes ≡ None
TellsListed bytes (Err TooMany) = listed_in bytes ≡ None
TellsListed bytes (Err Memory) = Unit {0}
