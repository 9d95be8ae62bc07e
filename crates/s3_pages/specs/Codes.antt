-- The name, the status and the message of each error code. Source: Amazon S3 API Reference, "Error responses"; the
-- messages are this profile's, and so is InconsistentStore.
use Rattle.std.specs.Prelude.{ℕ, List, codes}
use Rattle.s3_machine.specs.declared.code.Code.{Code}
use Rattle.s3_machine.specs.declared.code.UnsetCode.{UnsetCode}
use Rattle.s3_machine.specs.declared.code.UnsetCode.TheVariants.{
  NoSuchBucketPolicy,
  NoSuchCORSConfiguration,
  NoSuchLifecycleConfiguration,
  ServerSideEncryptionConfigurationNotFoundError,
  NoSuchTagSet,
  NoSuchWebsiteConfiguration,
  ReplicationConfigurationNotFoundError,
  NoSuchPublicAccessBlockConfiguration,
  ObjectLockConfigurationNotFoundError,
  OwnershipControlsNotFoundError,
  NoSuchObjectLockConfiguration,
}
use Rattle.s3_machine.specs.declared.code.Code.TheVariants.{
  AccessControlListNotSupported,
  AccessDenied,
  AuthorizationHeaderMalformed,
  AuthorizationQueryParametersError,
  BadDigest,
  BucketAlreadyOwnedByYou,
  BucketNotEmpty,
  ChecksumDiffers,
  EntityTooLarge,
  EntityTooSmall,
  IncompleteBody,
  InconsistentStore,
  InvalidAccessKeyId,
  InvalidArgument,
  InvalidBucketName,
  InvalidChunkSizeError,
  InvalidDigest,
  InvalidPart,
  InvalidPartNumber,
  InvalidPartOrder,
  InvalidRange,
  InvalidRequest,
  InvalidStorageClass,
  InvalidToken,
  InvalidURI,
  KeyTooLongError,
  MalformedXML,
  MetadataTooLarge,
  MethodNotAllowed,
  MissingContentLength,
  NoSuchBucket,
  NoSuchKey,
  NoSuchUpload,
  NotImplemented,
  NotSet,
  OnlyVersionFour,
  PreconditionFailed,
  RequestExpired,
  RequestTimeTooSkewed,
  RequestTimeout,
  ServiceUnavailable,
  SignatureDoesNotMatch,
  XAmzContentSHA256Mismatch,
}

-- the codes that say that a setting isn't set
abbrev pub unset_name : UnsetCode → List ℕ
unset_name NoSuchBucketPolicy = codes "NoSuchBucketPolicy"
unset_name NoSuchCORSConfiguration = codes "NoSuchCORSConfiguration"
unset_name NoSuchLifecycleConfiguration = codes "NoSuchLifecycleConfiguration"
unset_name ServerSideEncryptionConfigurationNotFoundError = codes "ServerSideEncryptionConfigurationNotFoundError"
unset_name NoSuchTagSet = codes "NoSuchTagSet"
unset_name NoSuchWebsiteConfiguration = codes "NoSuchWebsiteConfiguration"
unset_name ReplicationConfigurationNotFoundError = codes "ReplicationConfigurationNotFoundError"
unset_name NoSuchPublicAccessBlockConfiguration = codes "NoSuchPublicAccessBlockConfiguration"
unset_name ObjectLockConfigurationNotFoundError = codes "ObjectLockConfigurationNotFoundError"
unset_name OwnershipControlsNotFoundError = codes "OwnershipControlsNotFoundError"
unset_name NoSuchObjectLockConfiguration = codes "NoSuchObjectLockConfiguration"

abbrev pub unset_message : UnsetCode → List ℕ
unset_message NoSuchBucketPolicy = codes "The bucket has no policy."
unset_message NoSuchCORSConfiguration = codes "The bucket has no CORS configuration."
unset_message NoSuchLifecycleConfiguration = codes "The bucket has no lifecycle."
unset_message ServerSideEncryptionConfigurationNotFoundError = codes "The bucket has no encryption configuration."
unset_message NoSuchTagSet = codes "The bucket has no tags."
unset_message NoSuchWebsiteConfiguration = codes "The bucket has no website configuration."
unset_message ReplicationConfigurationNotFoundError = codes "The bucket has no replication."
unset_message NoSuchPublicAccessBlockConfiguration = codes "The bucket has no public access block."
unset_message ObjectLockConfigurationNotFoundError = codes "The bucket has no object lock."
unset_message OwnershipControlsNotFoundError = codes "The bucket has no ownership controls."
unset_message NoSuchObjectLockConfiguration = codes "The object has no lock."

-- the name of a code, as the element `Code` has it
abbrev pub name_of : Code → List ℕ
name_of AccessControlListNotSupported = codes "AccessControlListNotSupported"
name_of AccessDenied = codes "AccessDenied"
name_of AuthorizationHeaderMalformed = codes "AuthorizationHeaderMalformed"
name_of AuthorizationQueryParametersError = codes "AuthorizationQueryParametersError"
name_of BadDigest = codes "BadDigest"
name_of BucketAlreadyOwnedByYou = codes "BucketAlreadyOwnedByYou"
name_of BucketNotEmpty = codes "BucketNotEmpty"
name_of ChecksumDiffers = codes "BadDigest"
name_of EntityTooLarge = codes "EntityTooLarge"
name_of EntityTooSmall = codes "EntityTooSmall"
name_of IncompleteBody = codes "IncompleteBody"
name_of InconsistentStore = codes "InconsistentStore"
name_of InvalidAccessKeyId = codes "InvalidAccessKeyId"
name_of InvalidArgument = codes "InvalidArgument"
name_of InvalidBucketName = codes "InvalidBucketName"
name_of InvalidChunkSizeError = codes "InvalidChunkSizeError"
name_of InvalidDigest = codes "InvalidDigest"
name_of InvalidPart = codes "InvalidPart"
name_of InvalidPartNumber = codes "InvalidPartNumber"
name_of InvalidPartOrder = codes "InvalidPartOrder"
name_of (InvalidRange size) = codes "InvalidRange"
name_of InvalidRequest = codes "InvalidRequest"
name_of InvalidStorageClass = codes "InvalidStorageClass"
name_of InvalidToken = codes "InvalidToken"
name_of InvalidURI = codes "InvalidURI"
name_of KeyTooLongError = codes "KeyTooLongError"
name_of MalformedXML = codes "MalformedXML"
name_of MetadataTooLarge = codes "MetadataTooLarge"
name_of MethodNotAllowed = codes "MethodNotAllowed"
name_of MissingContentLength = codes "MissingContentLength"
name_of NoSuchBucket = codes "NoSuchBucket"
name_of NoSuchKey = codes "NoSuchKey"
name_of NoSuchUpload = codes "NoSuchUpload"
name_of NotImplemented = codes "NotImplemented"
name_of (NotSet code) = unset_name code
name_of OnlyVersionFour = codes "InvalidRequest"
name_of PreconditionFailed = codes "PreconditionFailed"
name_of RequestExpired = codes "AccessDenied"
name_of RequestTimeTooSkewed = codes "RequestTimeTooSkewed"
name_of RequestTimeout = codes "RequestTimeout"
name_of ServiceUnavailable = codes "ServiceUnavailable"
name_of SignatureDoesNotMatch = codes "SignatureDoesNotMatch"
name_of XAmzContentSHA256Mismatch = codes "XAmzContentSHA256Mismatch"

-- the status of the reply that has the code
abbrev pub status_of : Code → ℕ
status_of AccessControlListNotSupported = 400
status_of AccessDenied = 403
status_of AuthorizationHeaderMalformed = 400
status_of AuthorizationQueryParametersError = 400
status_of BadDigest = 400
status_of BucketAlreadyOwnedByYou = 409
status_of BucketNotEmpty = 409
status_of ChecksumDiffers = 400
status_of EntityTooLarge = 400
status_of EntityTooSmall = 400
status_of IncompleteBody = 400
status_of InconsistentStore = 500
status_of InvalidAccessKeyId = 403
status_of InvalidArgument = 400
status_of InvalidBucketName = 400
status_of InvalidChunkSizeError = 403
status_of InvalidDigest = 400
status_of InvalidPart = 400
status_of InvalidPartNumber = 416
status_of InvalidPartOrder = 400
status_of (InvalidRange size) = 416
status_of InvalidRequest = 400
status_of InvalidStorageClass = 400
status_of InvalidToken = 400
status_of InvalidURI = 400
status_of KeyTooLongError = 400
status_of MalformedXML = 400
status_of MetadataTooLarge = 400
status_of MethodNotAllowed = 405
status_of MissingContentLength = 411
status_of NoSuchBucket = 404
status_of NoSuchKey = 404
status_of NoSuchUpload = 404
status_of NotImplemented = 501
status_of (NotSet code) = 404
status_of OnlyVersionFour = 400
status_of PreconditionFailed = 412
status_of RequestExpired = 403
status_of RequestTimeTooSkewed = 403
status_of RequestTimeout = 400
status_of ServiceUnavailable = 503
status_of SignatureDoesNotMatch = 403
status_of XAmzContentSHA256Mismatch = 400

-- the sentence of the element `Message`
abbrev pub message_of : Code → List ℕ
message_of AccessControlListNotSupported = codes "An object has the list of its bucket."
message_of AccessDenied = codes "Access denied."
message_of AuthorizationHeaderMalformed = codes "The authorization header is malformed."
message_of AuthorizationQueryParametersError = codes "The query's signature parameters are malformed."
message_of BadDigest = codes "The Content-MD5 differs from the body."
message_of BucketAlreadyOwnedByYou = codes "You own this bucket already."
message_of BucketNotEmpty = codes "The bucket is not empty."
message_of ChecksumDiffers = codes "A checksum differs from the body."
message_of EntityTooLarge = codes "The body is too large."
message_of EntityTooSmall = codes "A part is too small."
message_of IncompleteBody = codes "The body is incomplete."
message_of InconsistentStore = codes "The store is inconsistent."
message_of InvalidAccessKeyId = codes "The access key is unknown."
message_of InvalidArgument = codes "An argument is invalid."
message_of InvalidBucketName = codes "The bucket name is invalid."
message_of InvalidChunkSizeError = codes "A chunk is too small."
message_of InvalidDigest = codes "The Content-MD5 is invalid."
message_of InvalidPart = codes "A part is missing or differs."
message_of InvalidPartNumber = codes "The object has no part of this number."
message_of InvalidPartOrder = codes "The parts are not in ascending order."
message_of (InvalidRange size) = codes "The range is not satisfiable."
message_of InvalidRequest = codes "The request is invalid."
message_of InvalidStorageClass = codes "The storage class is invalid."
message_of InvalidToken = codes "A security token is not valid here."
message_of InvalidURI = codes "The URI is invalid."
message_of KeyTooLongError = codes "The key is too long."
message_of MalformedXML = codes "The body is malformed."
message_of MetadataTooLarge = codes "The metadata is too large."
message_of MethodNotAllowed = codes "The method is not allowed here."
message_of MissingContentLength = codes "Content-Length is missing."
message_of NoSuchBucket = codes "The bucket does not exist."
message_of NoSuchKey = codes "The key does not exist."
message_of NoSuchUpload = codes "The upload does not exist."
message_of NotImplemented = codes "This is not implemented."
message_of (NotSet code) = unset_message code
message_of OnlyVersionFour = codes "The authorization mechanism you have provided is not supported. Please use AWS4-HMAC-SHA256."
message_of PreconditionFailed = codes "A precondition failed."
message_of RequestExpired = codes "Request has expired"
message_of RequestTimeTooSkewed = codes "The request time is too far off."
message_of RequestTimeout = codes "The body came too slowly."
message_of ServiceUnavailable = codes "The store is unavailable."
message_of SignatureDoesNotMatch = codes "The signature does not match."
message_of XAmzContentSHA256Mismatch = codes "The payload hash differs from the body."
