-- A plan stops at the call that shows why it is refused.
use Rattle.s3_machine.specs.declared.operation.Reply.TheVariants.{OfObjects, OfUploads}
use Rattle.s3_machine.specs.declared.operation.ObjectsReply.TheVariants as objects_reply
use Rattle.s3_machine.specs.declared.operation.UploadsReply.TheVariants as uploads_reply
use Rattle.std.specs.Prelude.{◌≡◌, ◌≤◌, ℕ, ◌+◌, false, Option, None, Some, IfSome, IfOk, Result, Ok, Err}
use Rattle.std.proofs.Common.{refl, sym, subst, arith}
use Rattle.s3_machine.specs.declared.code.Code.{Code}
use Rattle.s3_machine.specs.declared.code.Code.TheVariants as code
use Rattle.s3_machine.specs.declared.operation.Op.{Op}
use Rattle.s3_machine.specs.declared.operation.Reply.{Reply}
use Rattle.s3_machine.specs.declared.operation.Reply.TheVariants as replies
use Rattle.swift_calls.specs.Account.{SwiftAccount}
use Rattle.swift_calls.specs.History.{History}
use Rattle.account_calls.specs.declared.fault.PlanFault.{PlanFault}
use Rattle.account_calls.specs.declared.fault.PlanFault.TheVariants.{Failed, Memory, Inconsistent}
use Rattle.account_calls.specs.Calls.{Asks, always}
use Rattle.account_calls.specs.Plan.{ended, reply_of}
use Rattle.account_calls.specs.Refusals.{IsWithinShown, Stops, Unrefused, code_shown_by, is_refusal, most_refused, shown_by, shows}
use Rattle.account_calls.specs.Shows.{Shows}

-- more may be shown
if_some : (shown : Option ℕ) {P Q : ℕ → Type 0} → ((n : ℕ) → P n → Q n) → IfSome shown P → IfSome shown Q
if_some None gives has = tt
if_some (Some n) gives has = gives n has

-- a reply that refuses nothing has no reason
pub no_refusal : (s : Shows) (reply : Reply) → is_refusal reply ≡ false → shown_by s reply ≡ None
no_refusal s (replies.Refused code) is = cc
no_refusal s replies.Memory is = refl
no_refusal s replies.Done is = refl
no_refusal s replies.Gone is = refl
no_refusal s (replies.NotModified head) is = cc
no_refusal s (OfObjects (objects_reply.Buckets page)) is = refl
no_refusal s (OfObjects (objects_reply.Made bucket)) is = refl
no_refusal s (OfObjects (objects_reply.Location region)) is = refl
no_refusal s (OfObjects (objects_reply.AclOf acl)) is = refl
no_refusal s (OfObjects (objects_reply.Objects page)) is = refl
no_refusal s (OfUploads (uploads_reply.Uploads page)) is = refl
no_refusal s (replies.Stored stored) is = refl
no_refusal s (replies.Object object) is = refl
no_refusal s (OfUploads (uploads_reply.Started started)) is = refl
no_refusal s (OfUploads (uploads_reply.Parts page)) is = refl
no_refusal s (OfUploads (uploads_reply.Completed completed)) is = refl
no_refusal s (OfObjects (objects_reply.Deleted deleted)) is = refl
no_refusal s (OfObjects (objects_reply.Setting page)) is = refl
no_refusal s (replies.Copied copied) is = refl

module _ {s : Shows} {before : ℕ} {a b : History} where
  -- of one for a reason of which nothing is told nothing is asked
  pub stops_unshown : (end : Result Reply PlanFault) → IfOk end (λ reply. shown_by s reply ≡ None) → Stops s before a b end
  stops_unshown (Ok reply) unshown = record { so = subst (λ o. IfSome o (λ n. before + b.called ≤ a.called + n)) (sym unshown) tt }
  stops_unshown (Err fault) unshown = record { so = tt }

  -- nor of a plan that isn't refused any more
  pub stops_unrefused : (end : Result Reply PlanFault) → Unrefused end → Stops s before a b end
  stops_unrefused (Ok reply) done = stops_unshown (Ok reply) (no_refusal s reply done)
  stops_unrefused (Err fault) done = record { so = tt }

-- the end of a plan whose reply was made before its last call
pub unrefused_ended : {T : Type 0} (reply : T → Reply) → ((told : T) → is_refusal (reply told) ≡ false) → (end : Result T PlanFault) → Unrefused (ended end reply)
unrefused_ended reply made (Ok told) = made told
unrefused_ended reply made (Err fault) = tt

-- calls were made, and then the rest of the plan stops
pub stops_behind : {T : Type 0} {n : ℕ} {asked : SwiftAccount → Type 0} {P : SwiftAccount → SwiftAccount → T → Type 0} {value : Result T PlanFault} {s : Shows} {before : ℕ} {a b c : History} → Asks (always n) a b asked P value
    → (end : Result Reply PlanFault) → Stops s (n + before) b c end → Stops s before a c end
stops_behind {n = n} {s = s} {before = before} {a = a} {b = b} {c = c} asks (Ok reply) stops =
    let near : b.called ≤ a.called + n = asks.grows.calls in
    record { so = if_some (shown_by s reply) {P = λ m. n + before + c.called ≤ b.called + m} {Q = λ m. before + c.called ≤ a.called + m} (λ m within. omega arith) stops.so }
stops_behind asks (Err fault) stops = record { so = tt }

-- each reason takes a call at least
late_met : (m : Option ℕ) (p q : ℕ) → q ≤ p + 1 → IfSome m (λ n. 1 ≤ n) → IfSome m (λ n. 0 + q ≤ p + n)
late_met None p q within met = tt
late_met (Some n) p q within met = omega arith

late_code : (s : Shows) → 1 ≤ s.buckets → 1 ≤ s.object → IfSome s.met (λ n. 1 ≤ n) → (c : Code) (p q : ℕ) → q ≤ p + 1 → IfSome (code_shown_by s c) (λ n. 0 + q ≤ p + n)
late_code s buckets object met code.AccessControlListNotSupported p q within = tt
late_code s buckets object met code.AccessDenied p q within = omega arith
late_code s buckets object met code.AuthorizationHeaderMalformed p q within = tt
late_code s buckets object met code.AuthorizationQueryParametersError p q within = tt
late_code s buckets object met code.BadDigest p q within = tt
late_code s buckets object met code.BucketAlreadyOwnedByYou p q within = omega arith
late_code s buckets object met code.BucketNotEmpty p q within = omega arith
late_code s buckets object met code.ChecksumDiffers p q within = tt
late_code s buckets object met code.EntityTooLarge p q within = omega arith
late_code s buckets object met code.EntityTooSmall p q within = tt
late_code s buckets object met code.IncompleteBody p q within = tt
late_code s buckets object met code.InconsistentStore p q within = tt
late_code s buckets object met code.InvalidAccessKeyId p q within = tt
late_code s buckets object met code.InvalidArgument p q within = tt
late_code s buckets object met code.InvalidBucketName p q within = tt
late_code s buckets object met code.InvalidChunkSizeError p q within = tt
late_code s buckets object met code.InvalidDigest p q within = tt
late_code s buckets object met code.InvalidPart p q within = tt
late_code s buckets object met code.InvalidPartNumber p q within = tt
late_code s buckets object met code.InvalidPartOrder p q within = omega arith
late_code s buckets object met (code.InvalidRange size) p q within = omega arith
late_code s buckets object met code.InvalidRequest p q within = omega arith
late_code s buckets object met code.InvalidStorageClass p q within = tt
late_code s buckets object met code.InvalidToken p q within = tt
late_code s buckets object met code.InvalidURI p q within = tt
late_code s buckets object met code.KeyTooLongError p q within = tt
late_code s buckets object met code.MalformedXML p q within = tt
late_code s buckets object met code.MetadataTooLarge p q within = tt
late_code s buckets object met code.MethodNotAllowed p q within = tt
late_code s buckets object met code.MissingContentLength p q within = tt
late_code s buckets object met code.NoSuchBucket p q within = omega arith
late_code s buckets object met code.NoSuchKey p q within = late_met s.met p q within met
late_code s buckets object met code.NoSuchUpload p q within = omega arith
late_code s buckets object met code.NotImplemented p q within = omega arith
late_code s buckets object met (code.NotSet unset) p q within = tt
late_code s buckets object met code.OnlyVersionFour p q within = tt
late_code s buckets object met code.PreconditionFailed p q within = late_met s.met p q within met
late_code s buckets object met code.RequestExpired p q within = tt
late_code s buckets object met code.RequestTimeTooSkewed p q within = tt
late_code s buckets object met code.RequestTimeout p q within = tt
late_code s buckets object met code.ServiceUnavailable p q within = tt
late_code s buckets object met code.SignatureDoesNotMatch p q within = tt
late_code s buckets object met code.XAmzContentSHA256Mismatch p q within = tt

late : (s : Shows) → 1 ≤ s.buckets → 1 ≤ s.object → IfSome s.met (λ n. 1 ≤ n) → (reply : Reply) (p q : ℕ) → q ≤ p + 1 → IfSome (shown_by s reply) (λ n. 0 + q ≤ p + n)
late s buckets object met (replies.Refused c) p q within = late_code s buckets object met c p q within
late s buckets object met (replies.NotModified head) p q within = omega arith
late s buckets object met replies.Memory p q within = tt
late s buckets object met replies.Done p q within = tt
late s buckets object met replies.Gone p q within = tt
late s buckets object met (OfObjects (objects_reply.Buckets page)) p q within = tt
late s buckets object met (OfObjects (objects_reply.Made bucket)) p q within = tt
late s buckets object met (OfObjects (objects_reply.Location region)) p q within = tt
late s buckets object met (OfObjects (objects_reply.AclOf acl)) p q within = tt
late s buckets object met (OfObjects (objects_reply.Objects page)) p q within = tt
late s buckets object met (OfUploads (uploads_reply.Uploads page)) p q within = tt
late s buckets object met (replies.Stored stored) p q within = tt
late s buckets object met (replies.Object bytes) p q within = tt
late s buckets object met (OfUploads (uploads_reply.Started started)) p q within = tt
late s buckets object met (OfUploads (uploads_reply.Parts page)) p q within = tt
late s buckets object met (OfUploads (uploads_reply.Completed completed)) p q within = tt
late s buckets object met (OfObjects (objects_reply.Deleted deleted)) p q within = tt
late s buckets object met (OfObjects (objects_reply.Setting page)) p q within = tt
late s buckets object met (replies.Copied copied) p q within = tt

-- so a plan of one call stops at it
pub stops_at_once : {s : Shows} {a b : History} → 1 ≤ s.buckets → 1 ≤ s.object → IfSome s.met (λ n. 1 ≤ n) → (end : Result Reply PlanFault) → b.called ≤ a.called + 1 → Stops s 0 a b end
stops_at_once {s = s} {a = a} {b = b} buckets object met (Ok reply) within = record { so = late s buckets object met reply a.called b.called within }
stops_at_once buckets object met (Err fault) within = record { so = tt }

-- the reply by the end of a whole plan
pub shown_of : (op : Op) (a b : History) (end : Result Reply PlanFault) → Stops (shows op) 0 a b end → IsWithinShown (most_refused op (reply_of end)) a.called b.called
shown_of op a b (Ok reply) stops = if_some (shown_by (shows op) reply) {P = λ n. 0 + b.called ≤ a.called + n} {Q = λ n. b.called ≤ a.called + n} (λ n within. omega arith) stops.so
shown_of op a b (Err Failed) stops = tt
shown_of op a b (Err Memory) stops = tt
shown_of op a b (Err Inconsistent) stops = tt
