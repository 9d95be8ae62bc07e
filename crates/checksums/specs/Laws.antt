-- What the laws of this crate say. Sources: Amazon S3 User Guide, "Checking object integrity"; W. W. Peterson and D. T. Brown,
-- "Cyclic Codes for Error Detection", 1961 (bursts).
use Rattle.std.specs.Prelude.{◌≡◌, ℕ, ◌≤◌, ◌↔◌, List, ◌++◌, length}
use Rattle.std.specs.Prelude.{Some}
use Rattle.base64.specs.GeneralPurpose.{IsBytes}
use Rattle.checksums.specs.declared.kinds.Kind.{Kind}
use Rattle.checksums.specs.declared.kinds.Kind.TheVariants.{Crc32, Crc32c, Crc64Nvme}
use Rattle.checksums.specs.declared.values.Comparison.TheVariants.{Same}
use Rattle.checksums.specs.Kinds.{checksum_header, checksum_kind, checksum_size, checksum_of, checksum_text, compared}

-- a name is read as the kind whose header has it, and as no other
abbrev pub KindNamed : Type 0
KindNamed = (kind : Kind) (name : List ℕ) → (checksum_kind name ≡ Some kind) ↔ (name ≡ checksum_header kind)

-- a checksum is as many bytes as its kind has
abbrev pub ChecksumSized : Type 0
ChecksumSized = (kind : Kind) (message : List ℕ) → (length (checksum_of kind message) ≡ checksum_size kind) × IsBytes (checksum_of kind message)

-- a value is taken as that of a message exactly where it is the text of the message's checksum
abbrev pub ValueTaken : Type 0
ValueTaken = (kind : Kind) (value message : List ℕ) → IsBytes value → (compared kind value message ≡ Same) ↔ (value ≡ checksum_text kind message)

-- of two messages that differ only within so many bytes in a row, the checksums differ
abbrev pub TellsBursts : Kind → ℕ → Type 0
TellsBursts kind most =
    (before one other behind : List ℕ) → IsBytes one → IsBytes other → length one ≡ length other → length one ≤ most
    → checksum_of kind (before ++ (one ++ behind)) ≡ checksum_of kind (before ++ (other ++ behind)) → one ≡ other

-- a CRC tells messages apart that differ only within as many bytes in a row as it has, and so sees each bit that is flipped
-- alone
abbrev pub BurstsTold : Type 0
BurstsTold = TellsBursts Crc32 4 × TellsBursts Crc32c 4 × TellsBursts Crc64Nvme 8
