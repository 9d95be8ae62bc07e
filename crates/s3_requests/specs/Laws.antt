-- What the law of this crate says of definitions.
use Rattle.std.specs.Prelude.{◌≡◌, false}
use Rattle.gate_base.specs.declared.caller.Caller.{Caller}
use Rattle.s3_names.specs.declared.target.Target.{Target}
use Rattle.s3_machine.specs.declared.operation.Op.{Op}
use Rattle.s3_machine.specs.declared.operation.Op.TheVariants.{OnUploads, OnCopies}
use Rattle.s3_machine.specs.declared.operation.UploadsOp.TheVariants as uploads_op
use Rattle.s3_machine.specs.declared.operation.CopiesOp.TheVariants as copies_op
use Rattle.s3_machine.specs.declared.operation.Settings.{Settings}
use Rattle.s3_machine.specs.Conditions.{no_conditions}
use Rattle.s3_requests.specs.Meaning.{meaning_of}
use Rattle.s3_requests.specs.declared.meant.Meant.TheVariants as meant
use Rattle.http_wire.specs.declared.message.Message.{Message}

-- an operation that asks for nothing of the extended profile: a copy under no condition, a listing of uploads with its texts as they
-- are, and every other
abbrev pub IsStrictOp : Op → Type 0
IsStrictOp (OnCopies (copies_op.CopyObject copy)) = copy.conditions ≡ no_conditions
IsStrictOp (OnCopies (copies_op.CopyPart copy)) = copy.conditions ≡ no_conditions
IsStrictOp (OnUploads (uploads_op.ListUploads list)) = list.asked.url ≡ false
IsStrictOp _ = Unit {0}

-- without the extended profile a request asks for no other operation
abbrev pub StrictAsked : Type 0
StrictAsked =
    (settings : Settings) (message : Message) (target : Target) (caller : Caller) (op : Op)
    → settings.extended ≡ false → meaning_of settings message target caller ≡ meant.Op op → IsStrictOp op
