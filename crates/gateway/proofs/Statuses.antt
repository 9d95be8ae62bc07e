-- The statuses of the pages of replies.
use Rattle.s3_machine.specs.declared.operation.Reply.TheVariants.{OfObjects, OfUploads}
use Rattle.s3_machine.specs.declared.operation.Reply.TheVariants as reply_as
use Rattle.s3_machine.specs.declared.operation.ObjectsReply.TheVariants as objects_reply
use Rattle.s3_machine.specs.declared.operation.UploadsReply.TheVariants as uploads_reply
use Rattle.std.proofs.Common.{ℕ, Bool, true, false, List, refl}
use Rattle.s3_machine.specs.declared.code.Code.{Code}
use Rattle.s3_machine.specs.declared.code.Code.TheVariants.{
  AccessControlListNotSupported,
  AccessDenied,
  AuthorizationHeaderMalformed,
  AuthorizationQueryParametersError,
  BadDigest,
  BucketAlreadyOwnedByYou,
  BucketNotEmpty,
  ChecksumDiffers,
  EntityTooLarge,
  EntityTooSmall,
  IncompleteBody,
  InconsistentStore,
  InvalidAccessKeyId,
  InvalidArgument,
  InvalidBucketName,
  InvalidChunkSizeError,
  InvalidDigest,
  InvalidPart,
  InvalidPartNumber,
  InvalidPartOrder,
  InvalidRange,
  InvalidRequest,
  InvalidStorageClass,
  InvalidToken,
  InvalidURI,
  KeyTooLongError,
  MalformedXML,
  MetadataTooLarge,
  MethodNotAllowed,
  MissingContentLength,
  NoSuchBucket,
  NoSuchKey,
  NoSuchUpload,
  NotImplemented,
  NotSet,
  OnlyVersionFour,
  PreconditionFailed,
  RequestExpired,
  RequestTimeTooSkewed,
  RequestTimeout,
  ServiceUnavailable,
  SignatureDoesNotMatch,
  XAmzContentSHA256Mismatch,
}
use Rattle.s3_machine.specs.declared.operation.Label.{Label}
use Rattle.s3_machine.specs.declared.operation.Reply.{Reply}
use Rattle.s3_machine.specs.declared.operation.Reply.TheVariants.{Refused, Memory, Done, Gone, NotModified}
use Rattle.s3_machine.specs.declared.operation.Reply.TheVariants.{Stored}
use Rattle.http_wire.specs.Print.{IsReplyStatus}
use Rattle.s3_pages.specs.Pages.{page_of, read_status, strict_context}
use Rattle.s3_pages.specs.Codes.{status_of}

code_status : (code : Code) → IsReplyStatus (status_of code)
code_status AccessControlListNotSupported = refl
code_status AccessDenied = refl
code_status AuthorizationHeaderMalformed = refl
code_status AuthorizationQueryParametersError = refl
code_status BadDigest = refl
code_status BucketAlreadyOwnedByYou = refl
code_status BucketNotEmpty = refl
code_status ChecksumDiffers = refl
code_status EntityTooLarge = refl
code_status EntityTooSmall = refl
code_status IncompleteBody = refl
code_status InconsistentStore = refl
code_status InvalidAccessKeyId = refl
code_status InvalidArgument = refl
code_status InvalidBucketName = refl
code_status InvalidChunkSizeError = refl
code_status InvalidDigest = refl
code_status InvalidPart = refl
code_status InvalidPartNumber = refl
code_status InvalidPartOrder = refl
code_status (InvalidRange size) = refl
code_status InvalidRequest = refl
code_status InvalidStorageClass = refl
code_status InvalidToken = refl
code_status InvalidURI = refl
code_status KeyTooLongError = refl
code_status MalformedXML = refl
code_status MetadataTooLarge = refl
code_status MethodNotAllowed = refl
code_status MissingContentLength = refl
code_status NoSuchBucket = refl
code_status NoSuchKey = refl
code_status NoSuchUpload = refl
code_status NotImplemented = refl
code_status (NotSet code) = refl
code_status OnlyVersionFour = refl
code_status PreconditionFailed = refl
code_status RequestExpired = refl
code_status RequestTimeTooSkewed = refl
code_status RequestTimeout = refl
code_status ServiceUnavailable = refl
code_status SignatureDoesNotMatch = refl
code_status XAmzContentSHA256Mismatch = refl

object_status : (partial : Bool) → IsReplyStatus (read_status partial)
object_status true = refl
object_status false = refl

-- each is one that a reply may have
pub reply_status : (reply : Reply) (label : Label) (resource : List ℕ) → IsReplyStatus (page_of reply label (strict_context resource)).status
reply_status (Refused code) label resource = code_status code
reply_status Memory label resource = refl
reply_status Done label resource = refl
reply_status Gone label resource = refl
reply_status (NotModified head) label resource = refl
reply_status (OfObjects (objects_reply.Buckets page)) label resource = refl
reply_status (OfObjects (objects_reply.Made bucket)) label resource = refl
reply_status (OfObjects (objects_reply.Location region)) label resource = refl
reply_status (OfObjects (objects_reply.AclOf acl)) label resource = refl
reply_status (OfObjects (objects_reply.Objects page)) label resource = refl
reply_status (OfUploads (uploads_reply.Uploads page)) label resource = refl
reply_status (Stored stored) label resource = refl
reply_status (reply_as.Object object) label resource = object_status object.partial
reply_status (OfUploads (uploads_reply.Started started)) label resource = refl
reply_status (OfUploads (uploads_reply.Parts page)) label resource = refl
reply_status (OfUploads (uploads_reply.Completed completed)) label resource = refl
reply_status (OfObjects (objects_reply.Deleted deleted)) label resource = refl
reply_status (OfObjects (objects_reply.Setting page)) label resource = refl
reply_status (reply_as.Copied copied) label resource = refl
