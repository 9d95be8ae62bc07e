-- A copy of an object as the functions of its plan hand it on: what their clauses say of it. Source: Amazon S3
-- API Reference, "CopyObject", and this profile.
use Rattle.std.specs.Prelude.{ℕ, Bool, Option, Result}
use Rattle.s3_names.specs.declared.acl.Acl.{Acl}
use Rattle.s3_machine.specs.Copies.{is_onto_itself}
use Rattle.s3_machine.specs.State.{State}
use Rattle.s3_machine.specs.declared.operation.ObjectHead.{ObjectHead}
use Rattle.s3_machine.specs.declared.operation.Op.{Op}
use Rattle.s3_machine.specs.Ops.{CopyObject}
use Rattle.s3_machine.specs.declared.only_if.OnlyIf.{OnlyIf}
use Rattle.s3_machine.specs.declared.operation.Reply.{Reply}
use Rattle.s3_machine.specs.declared.reading.Conditions.{Conditions}
use Rattle.swift_calls.specs.Account.{SwiftAccount}
use Rattle.swift_calls.specs.History.{History}
use Rattle.account_calls.specs.Answers.{copy_calls}
use Rattle.account_calls.specs.declared.fault.PlanFault.{PlanFault}
use Rattle.many_keys.specs.Copies.{CopiesStored, IsFoundBucket, IsFoundSource}
use Rattle.many_keys.specs.OwnSegments.{StandsCopy}
use Rattle.many_keys.specs.declared.object_copy.CopyTo.{CopyTo}
use Rattle.many_keys.specs.declared.object_copy.CopyIntoBucket.{CopyIntoBucket}

-- the operation, with an access control list and conditions
abbrev pub object_copied : CopyIntoBucket → Option Acl → Conditions → OnlyIf → Op
object_copied copy acl conditions only_if =
    CopyObject copy.to.bucket copy.to.key acl copy.from_bucket copy.from_key copy.to.replaced conditions only_if

-- it is onto its source, and nothing of that is replaced
abbrev pub is_own_copy : CopyIntoBucket → Bool
is_own_copy copy = is_onto_itself copy.to.bucket copy.to.key copy.from_bucket copy.from_key copy.to.replaced

-- its calls at most, of which so many are beside those on segments
abbrev pub calls_to_copy : ℕ → SwiftAccount → CopyIntoBucket → ℕ
calls_to_copy n tree copy = copy_calls n tree copy.to.bucket copy.from_bucket copy.from_key

-- its bucket has this list, and the bucket of its source is there
abbrev pub IsBetweenBuckets : CopyIntoBucket → State → Type 0
IsBetweenBuckets copy state = IsFoundBucket copy.to.bucket copy.list copy.from_bucket state

-- and its source has this head
abbrev pub IsOfHead : CopyIntoBucket → ObjectHead → State → Type 0
IsOfHead copy head state = IsFoundSource copy.to.bucket copy.list copy.from_bucket copy.from_key head state

-- it stands
abbrev pub IsPutAs : CopyTo → SwiftAccount → Type 0
IsPutAs to tree = StandsCopy to.bucket to.key to.label.moment tree

-- and was of the file that its source had
abbrev pub CopiesSource : History → CopyIntoBucket → Result Reply PlanFault → Type 0
CopiesSource h copy end = CopiesStored h copy.from_bucket copy.from_key end
