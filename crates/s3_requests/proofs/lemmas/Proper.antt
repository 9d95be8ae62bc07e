-- A request means an operation that keeps the limits, or a code that is none for a store that failed.
use Rattle.std.proofs.Common.{◌≢◌, ℕ, Bool, true, false, cond, List, [], ◌∷◌, Option, Some, None, refl}
use Rattle.gate_base.specs.declared.caller.Caller.{Caller}
use Rattle.s3_names.specs.declared.acl.Acl.{Acl}
use Rattle.s3_names.specs.declared.target.Target.{Target}
use Rattle.s3_machine.specs.declared.code.Code.{Code}
use Rattle.s3_machine.specs.declared.operation.Settings.{Settings}
use Rattle.s3_machine.specs.Proper.{IsProperCode}
use Rattle.http_wire.specs.declared.message.Message.{Message}
use Rattle.s3_requests.specs.declared.meant.Meant.{Meant}
use Rattle.s3_requests.specs.declared.meant.Meant.TheVariants.{Refused, Memory}
use Rattle.s3_requests.specs.declared.rows.Row.{Row}
use Rattle.s3_requests.specs.declared.rows.Row.TheVariants.{ListBuckets, CreateBucket, PutBucketAcl, DeleteBucket, HeadBucket, GetBucketLocation}
use Rattle.s3_requests.specs.declared.rows.Row.TheVariants.{GetBucketAcl, ListObjects, ListObjectsV2, PutObject, GetObject, HeadObject}
use Rattle.s3_requests.specs.declared.rows.Row.TheVariants.{DeleteObject, GetObjectAcl, ListMultipartUploads, CreateMultipartUpload, UploadPart}
use Rattle.s3_requests.specs.declared.rows.Row.TheVariants.{ListParts, AbortMultipartUpload, CompleteMultipartUpload, DeleteObjects, CopyObject, UploadPartCopy}
use Rattle.request_fields.specs.Headers.{given_acl}
use Rattle.s3_requests.specs.Proper.{IsProperMeant}
use Rattle.s3_requests.specs.Meaning.{Reason, first_refusal, target_reasons, reasons, row_of, judged, put_acl, op_of, meaning_of}

-- ---- the reasons

-- no code of the list is one for a store that failed
abbrev pub AllProper : List Reason → Type 0
AllProper [] = Unit {0}
AllProper (this ∷ others) = IsProperCode this.code × AllProper others

chosen_proper : (b : Bool) (code : Code) (rest : Meant) → IsProperCode code → IsProperMeant rest → IsProperMeant (cond b (Refused code) rest)
chosen_proper true code rest own others = own
chosen_proper false code rest own others = others

refusal_proper : (list : List Reason) (rest : Meant) → AllProper list → IsProperMeant rest → IsProperMeant (first_refusal list rest)
refusal_proper [] rest all proper = proper
refusal_proper (this ∷ others) rest all proper = chosen_proper this.holds this.code (first_refusal others rest) all.0 (refusal_proper others rest all.1 proper)

-- ---- the operations

put_acl_proper : (bucket : List ℕ) (acl : Option Acl) → IsProperMeant (put_acl bucket acl)
put_acl_proper bucket None = refl
put_acl_proper bucket (Some acl) = tt

op_proper : (row : Row) (message : Message) (target : Target) → IsProperMeant (op_of row message target)
op_proper ListBuckets message target = tt
op_proper CreateBucket message target = tt
op_proper PutBucketAcl message target = put_acl_proper target.bucket (given_acl message.headers)
op_proper DeleteBucket message target = tt
op_proper HeadBucket message target = tt
op_proper GetBucketLocation message target = tt
op_proper GetBucketAcl message target = tt
op_proper ListObjects message target = tt
op_proper ListObjectsV2 message target = tt
op_proper PutObject message target = tt
op_proper GetObject message target = refl
op_proper HeadObject message target = refl
op_proper DeleteObject message target = tt
op_proper GetObjectAcl message target = tt
op_proper ListMultipartUploads message target = tt
op_proper DeleteObjects message target = tt
op_proper CreateMultipartUpload message target = tt
op_proper UploadPart message target = tt
op_proper ListParts message target = tt
op_proper AbortMultipartUpload message target = tt
op_proper CompleteMultipartUpload message target = tt
op_proper CopyObject message target = tt
op_proper UploadPartCopy message target = tt

-- ---- the meaning

own : (settings : Settings) (row : Row) (message : Message) (target : Target) (caller : Caller) → AllProper (reasons settings row message target caller)
own settings row message target caller = (refl, (refl, (refl, (refl, (refl, (refl, (refl, (refl, (refl, (refl, (refl, (refl, (refl, (refl, (refl, (refl, (refl, (refl, (refl, (refl, (refl, (refl, (refl, (refl, (refl, (refl, tt))))))))))))))))))))))))))

judged_proper : (settings : Settings) (found : Option Row) (message : Message) (target : Target) (caller : Caller) → IsProperMeant (judged settings found message target caller)
judged_proper settings None message target caller = refl
judged_proper settings (Some row) message target caller =
    refusal_proper (reasons settings row message target caller) (op_of row message target) (own settings row message target caller) (op_proper row message target)

pub meaning_proper : (settings : Settings) (message : Message) (target : Target) (caller : Caller) → IsProperMeant (meaning_of settings message target caller)
unfolding meaning_of
meaning_proper settings message target caller =
    refusal_proper (target_reasons message target) (judged settings (row_of message target) message target caller) (refl, (refl, (refl, (refl, (refl, tt))))) (judged_proper settings (row_of message target) message target caller)

-- ---- it always means something

chosen_known : (b : Bool) (code : Code) (rest : Meant) → rest ≢ Memory → cond b (Refused code) rest ≢ Memory
chosen_known true code rest known = λ e. cc
chosen_known false code rest known = known

refusal_known : (list : List Reason) (rest : Meant) → rest ≢ Memory → first_refusal list rest ≢ Memory
refusal_known [] rest known = known
refusal_known (this ∷ others) rest known = chosen_known this.holds this.code (first_refusal others rest) (refusal_known others rest known)

put_acl_known : (bucket : List ℕ) (acl : Option Acl) → put_acl bucket acl ≢ Memory
put_acl_known bucket None e = cc
put_acl_known bucket (Some acl) e = cc

op_known : (row : Row) (message : Message) (target : Target) → op_of row message target ≢ Memory
op_known ListBuckets message target e = cc
op_known CreateBucket message target e = cc
op_known PutBucketAcl message target e = put_acl_known target.bucket (given_acl message.headers) e
op_known DeleteBucket message target e = cc
op_known HeadBucket message target e = cc
op_known GetBucketLocation message target e = cc
op_known GetBucketAcl message target e = cc
op_known ListObjects message target e = cc
op_known ListObjectsV2 message target e = cc
op_known PutObject message target e = cc
op_known GetObject message target e = cc
op_known HeadObject message target e = cc
op_known DeleteObject message target e = cc
op_known GetObjectAcl message target e = cc
op_known ListMultipartUploads message target e = cc
op_known DeleteObjects message target e = cc
op_known CreateMultipartUpload message target e = cc
op_known UploadPart message target e = cc
op_known ListParts message target e = cc
op_known AbortMultipartUpload message target e = cc
op_known CompleteMultipartUpload message target e = cc
op_known CopyObject message target e = cc
op_known UploadPartCopy message target e = cc

judged_known : (settings : Settings) (found : Option Row) (message : Message) (target : Target) (caller : Caller) → judged settings found message target caller ≢ Memory
judged_known settings None message target caller = λ e. cc
judged_known settings (Some row) message target caller = refusal_known (reasons settings row message target caller) (op_of row message target) (op_known row message target)

pub meaning_known : (settings : Settings) (message : Message) (target : Target) (caller : Caller) → meaning_of settings message target caller ≢ Memory
unfolding meaning_of
meaning_known settings message target caller =
    refusal_known (target_reasons message target) (judged settings (row_of message target) message target caller) (judged_known settings (row_of message target) message target caller)
