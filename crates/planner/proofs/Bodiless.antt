-- Whole replies give no byte of an object.
use Rattle.s3_machine.specs.declared.operation.Reply.TheVariants.{OfObjects, OfUploads}
use Rattle.s3_machine.specs.declared.operation.ObjectsReply.TheVariants as objects_reply
use Rattle.s3_machine.specs.declared.operation.UploadsReply.TheVariants as uploads_reply
use Rattle.std.specs.Prelude.{◌≡◌, Bool, true, false, Result, Ok, Err, IfOk}
use Rattle.std.proofs.Common.{sym, subst, true≢false}
use Rattle.s3_machine.specs.declared.operation.Reply.{Reply}
use Rattle.s3_machine.specs.declared.operation.Reply.TheVariants as reply
use Rattle.account_calls.specs.declared.bucket.Dropped.{Dropped}
use Rattle.account_calls.specs.declared.bucket.Dropped.TheVariants as dropped
use Rattle.account_calls.specs.declared.fault.PlanFault.{PlanFault}
use Rattle.account_calls.specs.declared.fault.PlanFault.TheVariants.{Failed, Memory, Inconsistent}
use Rattle.account_calls.specs.Plan.{ended, reply_of}
use Rattle.planner.specs.Buckets.{dropped_reply, set_reply}
use Rattle.planner.specs.Reading.{GivesNoByte, HasNoByte, LeavesBytes, gives_bytes, reading_end}
use Rattle.planner.specs.declared.reading.Reading.{Reading}
use Rattle.planner.specs.declared.reading.Reading.TheVariants.{Whole, Pieces}

-- the end of a plan whose reply was made before its last call
ended_bodiless : {T : Type 0} (reply : T → Reply) → ((told : T) → GivesNoByte (reply told)) → (end : Result T PlanFault) → IfOk (ended end reply) GivesNoByte
ended_bodiless reply none (Ok told) = none told
ended_bodiless reply none (Err fault) = tt

pub bodiless_by : (T : Type 0) (reply : T → Reply) (end : Result T PlanFault) (result : Result Reply PlanFault) → result ≡ ended end reply
    → ((told : T) → GivesNoByte (reply told)) → IfOk result GivesNoByte
bodiless_by T reply end result is none = subst (λ r. IfOk r GivesNoByte) (sym is) (ended_bodiless reply none end)

pub dropped_bodiless : (told : Dropped) → GivesNoByte (dropped_reply told)
dropped_bodiless dropped.Gone = tt
dropped_bodiless dropped.Full = tt
dropped_bodiless dropped.Missing = tt

pub set_bodiless : (told : Bool) → GivesNoByte (set_reply told)
set_bodiless true = tt
set_bodiless false = tt

-- the reply, by the end of its plan
pub reply_bodiless : (end : Result Reply PlanFault) → IfOk end GivesNoByte → GivesNoByte (reply_of end)
reply_bodiless (Ok reply) none = none
reply_bodiless (Err Failed) none = tt
reply_bodiless (Err Memory) none = tt
reply_bodiless (Err Inconsistent) none = tt

-- a reply that isn't an object's
no_object : (r : Reply) → gives_bytes r ≡ false → GivesNoByte r
no_object (reply.Refused code) none = tt
no_object reply.Memory none = tt
no_object reply.Done none = tt
no_object reply.Gone none = tt
no_object (reply.NotModified head) none = tt
no_object (OfObjects (objects_reply.Buckets page)) none = tt
no_object (OfObjects (objects_reply.Made bucket)) none = tt
no_object (OfObjects (objects_reply.Location region)) none = tt
no_object (OfObjects (objects_reply.AclOf acl)) none = tt
no_object (OfObjects (objects_reply.Objects page)) none = tt
no_object (OfUploads (uploads_reply.Uploads page)) none = tt
no_object (reply.Stored stored) none = tt
no_object (reply.Object object) none = absurd (true≢false none)
no_object (OfUploads (uploads_reply.Started started)) none = tt
no_object (OfUploads (uploads_reply.Parts page)) none = tt
no_object (OfUploads (uploads_reply.Completed completed)) none = tt
no_object (OfObjects (objects_reply.Deleted deleted)) none = tt
no_object (OfObjects (objects_reply.Setting page)) none = tt
no_object (reply.Copied copied) none = tt

found_bodiless : (reading : Reading) → LeavesBytes reading → HasNoByte reading
found_bodiless (Whole reply) leaves = no_object reply leaves
found_bodiless (Pieces found) leaves = tt

-- what a read comes to
pub reading_bodiless : (end : Result Reading PlanFault) → IfOk end LeavesBytes → HasNoByte (reading_end end)
reading_bodiless (Ok reading) leaves = found_bodiless reading leaves
reading_bodiless (Err Failed) leaves = tt
reading_bodiless (Err Memory) leaves = tt
reading_bodiless (Err Inconsistent) leaves = tt
