-- A bucket's name is a container's name.
use Rattle.std.specs.Prelude.{◌≡◌, ◌==◌, ℕ, List, [], ◌∷◌, true, false, not, Contains}
use Rattle.std.specs.List.{list_all}
use Rattle.std.proofs.Common.{refl, ap, arith}
use Rattle.std.proofs.lemmas.Bool.{and_from, or_parts}
use Rattle.std.proofs.lemmas.List.Elements.{All-contains}
use Rattle.std.proofs.lemmas.List.Sums.{AllPass-from_list_all}
use Rattle.s3_names.specs.Bucket.{is_bucket, is_bucket_byte}
use Rattle.s3_names.proofs.lemmas.BucketLemmas.{bucket_length, bucket_bytes, bucket_is_utf8}
use Rattle.s3_names.specs.Text.{has_zero}
use Rattle.s3_names.specs.Key.{is_key}
use Rattle.s3_names.proofs.lemmas.KeyLemmas.{key_length, key_is_utf8, key_has_no_zero}
use Rattle.swift_calls.specs.Step.{IsContainerName}
use Rattle.swift_calls.specs.Limits.{IsObjectName}

no_zero : (name : List ℕ) → is_bucket name ≡ true → ¬ (Contains name 0)
no_zero name is has =
    let zero_is : false ≡ true = All-contains (λ b. is_bucket_byte b ≡ true) name 0 (AllPass-from_list_all is_bucket_byte name (bucket_bytes name is)) has in
    cc

pub container_name : (name : List ℕ) → is_bucket name ≡ true → IsContainerName name
container_name name is =
    let near = bucket_length name is in
    record { filled = omega arith; within = omega arith; text = bucket_is_utf8 name is; no_zero = no_zero name is }

none_zero : (bytes : List ℕ) → has_zero bytes ≡ false → list_all (λ b. not (b == 0)) bytes ≡ true
none_zero [] e = refl
none_zero (b ∷ bytes) e = let parts = or_parts (b == 0) (has_zero bytes) e in and_from _ _ (ap not parts.0) (none_zero bytes parts.1)

no_zero_in : (name : List ℕ) → has_zero name ≡ false → ¬ (Contains name 0)
no_zero_in name none has =
    let zero_is : false ≡ true = All-contains (λ b. not (b == 0) ≡ true) name 0 (AllPass-from_list_all (λ b. not (b == 0)) name (none_zero name none)) has in
    cc

-- a key is an object's name
pub object_name : (name : List ℕ) → is_key name ≡ true → IsObjectName name
object_name name is =
    let near = key_length name is in
    (omega arith, record { within = near.1; utf8 = key_is_utf8 name is; no_zero = no_zero_in name (key_has_no_zero name is) })
