-- The checksums that clients of S3 send of an object, by the names of their headers, and what a value says of a message.
-- Source: Amazon S3 User Guide, "Checking object integrity"; values are base64 (RFC 4648, section 4) of the bytes, the
-- highest first.
use Rattle.std.specs.Prelude.{◌≡◌, ℕ, ◌==◌, if◌then◌else◌, List, [], ◌∷◌, length, find, codes, bytes_eq}
use Rattle.std.specs.Prelude.{Option, Result, Ok, Err}
use Rattle.std.specs.Int.{w32, w64, to_be_bytes}
use Rattle.base64.specs.Engines.{standard}
use Rattle.base64.specs.GeneralPurpose.{IsBytes, decode_of, encode_of}
use Rattle.base64.specs.declared.decode.DecodeError.{DecodeError}
use Rattle.sha1.specs.Sha1.{sha1}
use Rattle.sha2.specs.Sha256.{sha256}
use Rattle.checksums.specs.declared.kinds.Kind.{Kind}
use Rattle.checksums.specs.declared.kinds.Kind.TheVariants.{Sha256, Sha1, Crc32, Crc32c, Crc64Nvme}
use Rattle.checksums.specs.declared.values.Comparison.{Comparison}
use Rattle.checksums.specs.declared.values.Comparison.TheVariants.{Same, Different, NotAChecksum}
use Rattle.checksums.specs.Crc.{crc32, crc32c, crc64_nvme}

-- the name of the header or the trailer
abbrev pub checksum_header : Kind → List ℕ
checksum_header Sha256 = codes "x-amz-checksum-sha256"
checksum_header Sha1 = codes "x-amz-checksum-sha1"
checksum_header Crc32 = codes "x-amz-checksum-crc32"
checksum_header Crc32c = codes "x-amz-checksum-crc32c"
checksum_header Crc64Nvme = codes "x-amz-checksum-crc64nvme"

-- the kind whose name this is
abbrev pub checksum_kind : List ℕ → Option Kind
checksum_kind name =
    find (λ kind. bytes_eq name (checksum_header kind)) (Sha256 ∷ Sha1 ∷ Crc32 ∷ Crc32c ∷ Crc64Nvme ∷ [])

-- how many bytes a checksum has
abbrev pub checksum_size : Kind → ℕ
checksum_size Sha256 = 32
checksum_size Sha1 = 20
checksum_size Crc32 = 4
checksum_size Crc32c = 4
checksum_size Crc64Nvme = 8

-- the checksum of a message
unfoldable pub checksum_of : Kind → List ℕ → List ℕ
checksum_of Sha256 message = sha256 message
checksum_of Sha1 message = sha1 message
checksum_of Crc32 message = to_be_bytes w32 (crc32 message)
checksum_of Crc32c message = to_be_bytes w32 (crc32c message)
checksum_of Crc64Nvme message = to_be_bytes w64 (crc64_nvme message)

-- the value of its header
abbrev pub checksum_text : Kind → List ℕ → List ℕ
checksum_text kind message = encode_of standard (checksum_of kind message)

-- the strict base64 of as many bytes as the kind has
abbrev pub IsChecksumText : Kind → List ℕ → Type 0
IsChecksumText kind value = (bytes : List ℕ) × IsBytes bytes × (length bytes ≡ checksum_size kind) × (value ≡ encode_of standard bytes)

-- what the bytes of a value say of the checksum that is due
abbrev pub compared_bytes : ℕ → List ℕ → Result (List ℕ) DecodeError → Comparison
compared_bytes size due (Ok bytes) =
    if length bytes == size then (if bytes_eq bytes due then Same else Different) else NotAChecksum
compared_bytes size due (Err fault) = NotAChecksum

-- what a value says beside a message: that it is the text of its checksum, of another of the kind, or of none
unfoldable pub compared : Kind → List ℕ → List ℕ → Comparison
compared kind value message = compared_bytes (checksum_size kind) (checksum_of kind message) (decode_of standard value)
