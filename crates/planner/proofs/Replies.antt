-- The replies of plans that are the service's own.
use Rattle.std.specs.Prelude.{ℕ, Bool, true, false, List}
use Rattle.s3_machine.specs.declared.code.Code.TheVariants.{BucketAlreadyOwnedByYou}
use Rattle.s3_machine.specs.declared.operation.Reply.TheVariants.{Refused}
use Rattle.s3_machine.specs.Replies.{Made}
use Rattle.s3_machine.specs.Buckets.{bucket_page}
use Rattle.s3_machine.specs.Step.{buckets_reply}
use Rattle.s3_machine.specs.declared.buckets.BucketListing.{BucketListing}
use Rattle.s3_machine.proofs.lemmas.Buckets.{page_has}
use Rattle.std.specs.List.{All}
use Rattle.s3_machine.specs.declared.items.BucketItem.{BucketItem}
use Rattle.s3_machine.specs.Shown.{IsShownBucket}
use Rattle.account_calls.specs.declared.bucket.Dropped.{Dropped}
use Rattle.account_calls.specs.declared.bucket.Dropped.TheVariants.{Gone, Full, Missing}
use Rattle.account_calls.specs.Plan.{IsOwnReply}
use Rattle.planner.specs.Buckets.{dropped_reply, set_reply}

-- the replies of CreateBucket that are its own
pub owned_is_own : IsOwnReply (Refused BucketAlreadyOwnedByYou)
owned_is_own = record { showable = tt; no_memory = λ e. cc; no_failure = λ e. cc; no_inconsistency = λ e. cc }

pub made_is_own : (bucket : List ℕ) → IsOwnReply (Made bucket)
made_is_own bucket = record { showable = tt; no_memory = λ e. cc; no_failure = λ e. cc; no_inconsistency = λ e. cc }

-- the replies of DeleteBucket and PutBucketAcl are their own
pub dropped_is_own : (told : Dropped) → IsOwnReply (dropped_reply told)
dropped_is_own Gone = record { showable = tt; no_memory = λ e. cc; no_failure = λ e. cc; no_inconsistency = λ e. cc }
dropped_is_own Full = record { showable = tt; no_memory = λ e. cc; no_failure = λ e. cc; no_inconsistency = λ e. cc }
dropped_is_own Missing = record { showable = tt; no_memory = λ e. cc; no_failure = λ e. cc; no_inconsistency = λ e. cc }

pub set_is_own : (told : Bool) → IsOwnReply (set_reply told)
set_is_own true = record { showable = tt; no_memory = λ e. cc; no_failure = λ e. cc; no_inconsistency = λ e. cc }
set_is_own false = record { showable = tt; no_memory = λ e. cc; no_failure = λ e. cc; no_inconsistency = λ e. cc }

pub buckets_is_own : (asked : BucketListing) (items : List BucketItem) → All IsShownBucket items → IsOwnReply (buckets_reply asked (bucket_page asked items))
buckets_is_own asked items dated = record { showable = page_has IsShownBucket asked items dated; no_memory = λ e. cc; no_failure = λ e. cc; no_inconsistency = λ e. cc }
