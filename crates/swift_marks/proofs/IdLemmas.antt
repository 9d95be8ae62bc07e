-- The id of a tag, or none.
use Rattle.std.proofs.Common.{◌≡◌, ℕ, ◌<◌, ◌≤◌, lit≤, ◌^◌, true, length, refl, arith}
use Rattle.std.specs.Prelude.{Option, Some, None}
use Rattle.std.proofs.lemmas.Bool.Decides.{nat_tests}
use Rattle.s3_names.specs.Id.{id_digits, id_of}
use Rattle.s3_names.proofs.lemmas.Ids.{id_reads_back, length-id_digits}
use Rattle.swift_marks.specs.Number.{id_text, id_fits_tag}

-- an id is read back from its text
pub id_of_text : (id : Option ℕ) → id_fits_tag id ≡ true → id_of (id_text id) ≡ id
unfolding id_of
id_of_text None h = refl
id_of_text (Some id) h = let small : id < 2 ^ 128 = grind (arith, nat_tests) in id_reads_back id small

pub length_of_id : (id : Option ℕ) → (1 ≤ length (id_text id)) × (length (id_text id) ≤ 32)
length_of_id None = (lit≤ tt, lit≤ tt)
length_of_id (Some id) = let size : length (id_digits id) ≡ 32 = length-id_digits id in (omega arith, omega arith)
