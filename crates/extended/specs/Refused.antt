-- What a request is answered whose signature, or whose body in chunks, is refused. Source: Amazon S3 API Reference, "Error
-- responses"; which code stands for which refusal is this profile's.
use Rattle.s3_machine.specs.declared.code.Code.TheVariants.{AccessDenied, AuthorizationHeaderMalformed, InvalidAccessKeyId, NotImplemented}
use Rattle.s3_machine.specs.declared.code.Code.TheVariants.{RequestTimeTooSkewed, SignatureDoesNotMatch, XAmzContentSHA256Mismatch}
use Rattle.s3_machine.specs.declared.code.Code.TheVariants as code
use Rattle.s3_requests.specs.declared.meant.Meant.{Meant}
use Rattle.s3_requests.specs.declared.meant.Meant.TheVariants as meant
use Rattle.sigv4.specs.declared.refusal.Refusal.{Refusal}
use Rattle.sigv4.specs.declared.refusal.Refusal.TheVariants.{HeaderMalformed, UnknownKey, WrongScope, UnsignedHeader, NoDate, Skewed, Streaming}
use Rattle.sigv4.specs.declared.refusal.Refusal.TheVariants.{NoPayloadHash, SignatureDiffers, PayloadDiffers, Memory}
use Rattle.chunked.specs.declared.fault.ChunkedFault.{ChunkedFault}
use Rattle.chunked.specs.declared.fault.ChunkedFault.TheVariants as chunks

-- what a request is answered whose signature is refused
abbrev pub refused_by : Refusal → Meant
refused_by HeaderMalformed = meant.Refused AuthorizationHeaderMalformed
refused_by UnknownKey = meant.Refused InvalidAccessKeyId
refused_by WrongScope = meant.Refused AuthorizationHeaderMalformed
refused_by UnsignedHeader = meant.Refused AccessDenied
refused_by NoDate = meant.Refused AccessDenied
refused_by Skewed = meant.Refused RequestTimeTooSkewed
refused_by Streaming = meant.Refused NotImplemented
refused_by NoPayloadHash = meant.Refused code.InvalidRequest
refused_by (SignatureDiffers hash) = meant.Refused SignatureDoesNotMatch
refused_by PayloadDiffers = meant.Refused XAmzContentSHA256Mismatch
refused_by Memory = meant.Memory

-- what a request is answered whose body says nothing
abbrev pub refused_by_chunks : ChunkedFault → Meant
refused_by_chunks chunks.IncompleteBody = meant.Refused code.IncompleteBody
refused_by_chunks chunks.InvalidRequest = meant.Refused code.InvalidRequest
refused_by_chunks chunks.SignatureDiffers = meant.Refused SignatureDoesNotMatch
refused_by_chunks chunks.Memory = meant.Memory
