-- How many calls an operation makes that is refused: a refusal stops at the call that shows it. Source: the order of the calls and of
-- the refusals of each operation, of this profile.
use Rattle.std.specs.Prelude.{◌≡◌, ◌≤◌, ℕ, ◌+◌, Bool, true, false, Option, None, Some, IfSome, Result, IfOk}
use Rattle.s3_machine.specs.declared.code.Code.{Code}
use Rattle.s3_machine.specs.declared.code.Code.TheVariants.{
  AccessDenied,
  BucketAlreadyOwnedByYou,
  BucketNotEmpty,
  EntityTooLarge,
  InvalidPartOrder,
  InvalidRange,
  InvalidRequest,
  NoSuchBucket,
  NoSuchKey,
  NoSuchUpload,
  NotImplemented,
  PreconditionFailed,
}
use Rattle.s3_machine.specs.declared.operation.Op.{Op}
use Rattle.s3_machine.specs.declared.operation.Reply.{Reply}
use Rattle.s3_machine.specs.declared.operation.Reply.TheVariants.{Refused, NotModified}
use Rattle.swift_calls.specs.History.{History}
use Rattle.account_calls.specs.declared.fault.PlanFault.{PlanFault}
use Rattle.account_calls.specs.Answers.{facts_of}
use Rattle.account_calls.specs.Shows.{Shows}

abbrev pub shows : Op → Shows
shows op = (facts_of op).shows

-- by how many calls the reason of a refusal is known; none is told where it takes the names of files that are listed, as which parts
-- an upload has and the condition of its completion, or where it is of the store below
abbrev pub code_shown_by : Shows → Code → Option ℕ
code_shown_by s NoSuchBucket = Some s.buckets
code_shown_by s BucketAlreadyOwnedByYou = Some 1
code_shown_by s BucketNotEmpty = Some 1
code_shown_by s AccessDenied = Some 1
code_shown_by s NotImplemented = Some 1
code_shown_by s NoSuchUpload = Some 2
code_shown_by s InvalidPartOrder = Some 2
code_shown_by s NoSuchKey = s.met
code_shown_by s PreconditionFailed = s.met
code_shown_by s (InvalidRange size) = Some s.object
code_shown_by s InvalidRequest = Some s.object
code_shown_by s EntityTooLarge = Some s.object
code_shown_by s code = None

abbrev pub shown_by : Shows → Reply → Option ℕ
shown_by s (Refused code) = code_shown_by s code
shown_by s (NotModified head) = Some s.object
shown_by s reply = None

-- the greatest number of calls of an operation that is answered so, where the reply is a refusal
abbrev pub most_refused : Op → Reply → Option ℕ
most_refused op reply = shown_by (shows op) reply

-- from p to q no more calls are made than that
abbrev pub IsWithinShown : Option ℕ → ℕ → ℕ → Type 0
IsWithinShown shown p q = IfSome shown (λ n. q ≤ p + n)

-- a plan, or the rest of one before which so many calls were made, stops at the call that shows why it is refused
pub record Stops (s : Shows) (before : ℕ) (old new : History) (end : Result Reply PlanFault) : Type 0 where
  pub so : IfOk end (λ reply. IfSome (shown_by s reply) (λ n. before + new.called ≤ old.called + n))

-- whether a reply refuses the operation
abbrev pub is_refusal : Reply → Bool
is_refusal (Refused code) = true
is_refusal (NotModified head) = true
is_refusal reply = false

-- the rest of a plan that isn't refused any more
abbrev pub Unrefused : Result Reply PlanFault → Type 0
Unrefused end = IfOk end (λ reply. is_refusal reply ≡ false)
