-- The names of parts and of sub-manifests, told apart by one byte.
use Rattle.std.specs.Prelude.{◌≡◌, ◌==◌, ◌≤◌, ◌+◌, ◌/◌, ℕ, true, false, List, ◌∷◌, ◌++◌, get_or, length}
use Rattle.std.proofs.Common.{ap, ◌∙◌, arith}
use Rattle.std.proofs.lemmas.Bool.Decides.{nat_tests}
use Rattle.std.proofs.lemmas.List.{get_or-append-add}
use Rattle.s3_names.specs.Id.{id_digits}
use Rattle.s3_names.proofs.lemmas.Ids.{length-id_digits}
use Rattle.s3_machine.specs.Uploads.{greatest_part}
use Rattle.upload_records.specs.Layout.{segment_name, sub_manifest_name, five_digits}
use Rattle.leftovers.specs.Leftovers.{is_sub_manifest_name}

-- the byte behind the id and the slash
behind_id : (id : ℕ) (rest : List ℕ) → get_or (id_digits id ++ 47 ∷ rest) 33 0 ≡ get_or rest 0 0
behind_id id rest =
    let at : 33 ≡ length (id_digits id) + 1 = omega (arith, length-id_digits id) in
    ap (λ k. get_or (id_digits id ++ 47 ∷ rest) k 0) at ∙ get_or-append-add (id_digits id) (47 ∷ rest) 1 0

pub sub_name_is : (id n : ℕ) → is_sub_manifest_name (sub_manifest_name (id_digits id) n) ≡ true
unfolding sub_manifest_name
sub_name_is id n = ap (λ b. b == 109) (behind_id id (109 ∷ five_digits n))

digit_other : (n : ℕ) → n ≤ 10000 → (48 + n / 10000 == 109) ≡ false
digit_other n few = grind (arith, nat_tests)

pub part_name_not : (id n : ℕ) → n ≤ greatest_part → is_sub_manifest_name (segment_name (id_digits id) n) ≡ false
unfolding segment_name greatest_part
part_name_not id n few = ap (λ b. b == 109) (behind_id id (five_digits n)) ∙ digit_other n (omega (arith, few))
