-- What the calls before the last one told of an object that is read, and what stands of one that was put. Source: this profile.
use Rattle.std.specs.Prelude.{◌≡◌, ℕ, true, List, [], Option, Some, None}
use Rattle.gate_base.specs.declared.page.Pair.{Pair}
use Rattle.gate_base.specs.declared.caller.Caller.{Caller}
use Rattle.s3_names.specs.declared.acl.Acl.{Acl}
use Rattle.s3_machine.specs.declared.code.Code.{Code}
use Rattle.s3_machine.specs.declared.only_if.OnlyIf.{OnlyIf}
use Rattle.s3_machine.specs.declared.operation.Label.{Label}
use Rattle.s3_machine.specs.declared.operation.ObjectHead.{ObjectHead}
use Rattle.s3_machine.specs.declared.operation.Op.{Op}
use Rattle.s3_machine.specs.declared.operation.Op.TheVariants.{OnObjects}
use Rattle.s3_machine.specs.declared.operation.ObjectsOp.TheVariants.{PutObject}
use Rattle.s3_machine.specs.declared.operation.Reply.{Reply}
use Rattle.s3_machine.specs.declared.reading.Conditions.{Conditions}
use Rattle.s3_machine.specs.declared.reading.Range.{Range}
use Rattle.s3_machine.specs.Reading.{judged}
use Rattle.s3_machine.specs.State.{State}
use Rattle.s3_machine.specs.Step.{may_read, read_by}
use Rattle.swift_calls.specs.Account.{SwiftAccount}
use Rattle.account_calls.specs.Calls.{TellsBucket, TellsObject}
use Rattle.account_calls.specs.Condition.{TellsRefusal}
use Rattle.account_calls.specs.Interpret.{put_of}
use Rattle.account_calls.specs.Puts.{StandsIn}

-- the object is there, in a bucket that one who asks may read
pub record TellsReadable (bucket key : List ℕ) (caller : Caller) (acl : Acl) (head : ObjectHead) (state : State) : Type 0 where
  pub in_bucket : TellsBucket bucket state (Some acl)
  pub allowed : may_read caller acl ≡ true
  pub there : TellsObject bucket key state (Some head)

-- the bucket is there with this list, and a write of the key is refused so by its condition, or isn't
pub record MayWrite (bucket key : List ℕ) (list : Acl) (only_if : OnlyIf) (refused : Option Code) (state : State) : Type 0 where
  pub in_bucket : TellsBucket bucket state (Some list)
  pub told : TellsRefusal bucket key only_if state refused

-- the reply to HeadObject where no part is asked for, by the headers that are shown and the head of the object
abbrev pub headed_reply : Option Range → Conditions → List Pair → ObjectHead → Reply
headed_reply range conditions shown head = read_by None shown head (λ span. []) (judged range conditions head)

-- ---- what stands, over every observable store, whether its account is consistent or not

-- what an operation that was done leaves where it stands: the file of an object that it put; of any other operation nothing is said
abbrev pub ObjectStands : Op → Label → SwiftAccount → Type 0
ObjectStands (OnObjects (PutObject put)) label tree = StandsIn tree (put_of put.bucket put.key put.content.content_type put.content.meta put.content.body label.moment)
ObjectStands _ label tree = Unit {0}
