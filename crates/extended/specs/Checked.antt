-- What a request means by the checksums that come with it. Source: Amazon S3 User Guide, "Checking object integrity"; that chunks are
-- taken with an object and a part alone, the order of the refusals and the codes are this profile's.
use Rattle.std.specs.Prelude.{ℕ, Bool, false, if◌then◌else◌, List, [], ◌∷◌, ◌++◌, filter, Option, Some, None, is_some}
use Rattle.gate_base.specs.declared.caller.Caller.{Caller}
use Rattle.gate_base.specs.declared.page.Pair.{Pair}
use Rattle.s3_names.specs.declared.target.Target.{Target}
use Rattle.http_wire.specs.declared.message.Message.{Message}
use Rattle.s3_machine.specs.declared.code.Code.{Code}
use Rattle.s3_machine.specs.declared.code.Code.TheVariants.{BadDigest, InvalidRequest, NotImplemented}
use Rattle.s3_machine.specs.declared.operation.Op.{Op}
use Rattle.s3_machine.specs.declared.operation.Op.TheVariants.{OnObjects, OnUploads}
use Rattle.s3_machine.specs.declared.operation.ObjectsOp.TheVariants as objects_op
use Rattle.s3_machine.specs.declared.operation.UploadsOp.TheVariants as uploads_op
use Rattle.s3_machine.specs.Ops as op
use Rattle.s3_machine.specs.declared.operation.Settings.{Settings}
use Rattle.s3_requests.specs.declared.meant.Meant.{Meant}
use Rattle.s3_requests.specs.declared.meant.Meant.TheVariants as meant
use Rattle.s3_requests.specs.Meaning.{meaning_of}
use Rattle.checksums.specs.declared.kinds.Kind.{Kind}
use Rattle.checksums.specs.declared.values.Comparison.{Comparison}
use Rattle.checksums.specs.declared.values.Comparison.TheVariants.{Same, Different, NotAChecksum}
use Rattle.checksums.specs.Kinds.{checksum_kind, compared}
use Rattle.extended.specs.declared.claims.Claims.{Claims}
use Rattle.extended.specs.declared.sender.Sender.{Sender}
use Rattle.extended.specs.Trailers.{trailer_list, misnames}

-- who sent a message that doesn't come in chunks
abbrev pub unchunked_sender : Caller → Sender
unchunked_sender caller = record { caller = caller; chunked = false; trailers = [] }

-- the name is that of a checksum
abbrev pub is_checksum : Pair → Bool
is_checksum header = is_some (checksum_kind header.name)

-- what a message says of its body besides: the checksums of its headers and, behind them, of its trailers
abbrev pub claims_of : List Pair → Sender → Claims
claims_of headers sender =
    record {
      chunked = sender.chunked;
      misnamed = misnames (trailer_list headers) sender.trailers;
      checksums = filter is_checksum headers ++ filter is_checksum sender.trailers;
    }

-- the code of what a comparison gave
abbrev pub comparison_code : Comparison → Option Code
comparison_code Same = None
comparison_code Different = Some BadDigest
comparison_code NotAChecksum = Some InvalidRequest

-- what is wrong with a value of this kind beside the bytes
abbrev pub kind_code : Option Kind → List ℕ → List ℕ → Option Code
kind_code None value bytes = None
kind_code (Some kind) value bytes = comparison_code (compared kind value bytes)

-- the first code, and without one the second
abbrev pub or_code : Option Code → Option Code → Option Code
or_code None second = second
or_code (Some code) second = Some code

-- of the first checksum with which something is
unfoldable pub first_code : List ℕ → List Pair → Option Code
first_code bytes [] = None
first_code bytes (header ∷ headers) = or_code (kind_code (checksum_kind header.name) header.value bytes) (first_code bytes headers)

-- the bytes that an operation stores, as an object or a part
unfoldable pub stored_bytes : Op → Option (List ℕ)
stored_bytes (OnObjects (objects_op.PutObject put)) = Some put.content.body
stored_bytes (OnUploads (uploads_op.UploadPart part)) = Some part.body
stored_bytes _ = None

-- what stands against an operation: chunks where it stores no bytes, trailers that aren't those named, a checksum
abbrev pub objection_by : Claims → Option (List ℕ) → Option Code
objection_by claims None = if claims.chunked then Some NotImplemented else None
objection_by claims (Some bytes) = if claims.misnamed then Some InvalidRequest else first_code bytes claims.checksums

-- what stands against what is meant; against a refusal nothing does
abbrev pub objection : Claims → Meant → Option Code
objection claims (meant.Op op) = objection_by claims (stored_bytes op)
objection claims (meant.Refused code) = None
objection claims meant.Memory = None

abbrev pub refused_or : Option Code → Meant → Meant
refused_or None means = means
refused_or (Some code) means = meant.Refused code

-- what is meant, by what the message says of its body besides
abbrev pub checked : Claims → Meant → Meant
checked claims means = refused_or (objection claims means) means

-- what a message means that this sender sent
unfoldable pub extended_meaning : Settings → Message → Target → Sender → Meant
extended_meaning settings message target sender =
    checked (claims_of message.headers sender) (meaning_of settings message target sender.caller)
