-- What is told of the condition of a write. Source: Amazon S3 API Reference, "PutObject", and this profile.
use Rattle.std.specs.Prelude.{◌≡◌, ◌⊎◌, ℕ, List, Option, IfSome, Result, IfOk}
use Rattle.std.specs.Option.{option_map}
use Rattle.std.specs.FinMap.{get}
use Rattle.s3_machine.specs.declared.code.Code.{Code}
use Rattle.s3_machine.specs.declared.code.Code.TheVariants.{NoSuchKey, PreconditionFailed}
use Rattle.s3_machine.specs.declared.only_if.OnlyIf.{OnlyIf}
use Rattle.s3_machine.specs.declared.operation.ObjectHead.{ObjectHead}
use Rattle.s3_machine.specs.OnlyIf.{refusal}
use Rattle.s3_machine.specs.State.{State}
use Rattle.s3_machine.specs.Step.{etag_of_object}
use Rattle.upload_records.specs.Native.{object_at}
use Rattle.account_calls.specs.declared.fault.PlanFault.{PlanFault}

abbrev pub etag_of_head : ObjectHead → List ℕ
etag_of_head head = head.etag

-- why a write of the key is refused by its condition, if it is
abbrev pub TellsRefusal : List ℕ → List ℕ → OnlyIf → State → Option Code → Type 0
TellsRefusal bucket key only_if state told = refusal only_if (option_map etag_of_object (object_at (get state bucket) key)) ≡ told

-- the two codes with which a condition refuses
abbrev pub IsOfCondition : Code → Type 0
IsOfCondition code = (code ≡ NoSuchKey) ⊎ (code ≡ PreconditionFailed)

abbrev pub RefusesByCondition : Result (Option Code) PlanFault → Type 0
RefusesByCondition result = IfOk result (λ refused. IfSome refused IsOfCondition)
