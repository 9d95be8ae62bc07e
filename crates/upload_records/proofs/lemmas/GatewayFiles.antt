-- The files of the gateway's own container.
use Rattle.std.specs.Prelude.{◌≡◌, codes, bytes_eq}
use Rattle.std.proofs.Common.{ap, inl, inr, true≢false}
use Rattle.swift_calls.specs.Account.{SwiftObject}
use Rattle.upload_records.specs.Layout.{sealed_name, writer_name}
use Rattle.upload_records.specs.Consistent.{IsGatewayFile, IsSealedFile}

pub no_word : sealed_name ≡ writer_name → ⊥
unfolding sealed_name writer_name
no_word same = true≢false (ap (λ text. bytes_eq text (codes "sealed")) same)

-- the one of that name is what is sealed
pub sealed_file : (file : SwiftObject) → IsGatewayFile sealed_name file → IsSealedFile sealed_name file
sealed_file file (inl kept) = kept
sealed_file file (inr word) = absurd (no_word word)
