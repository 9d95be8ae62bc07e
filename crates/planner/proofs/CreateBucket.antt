-- The step of CreateBucket, from what HEAD of the container told.
use Rattle.std.specs.Prelude.{◌≡◌, ℕ, true, List, Option, Some, None, is_some}
use Rattle.std.specs.Option.{option_map}
use Rattle.std.specs.FinMap.{get}
use Rattle.std.proofs.Common.{refl, sym, subst}
use Rattle.s3_names.specs.declared.acl.Acl.{Acl}
use Rattle.s3_machine.specs.declared.code.Code.TheVariants.{BucketAlreadyOwnedByYou}
use Rattle.s3_machine.specs.declared.operation.Label.{Label}
use Rattle.s3_machine.specs.declared.operation.Settings.{Settings}
use Rattle.s3_machine.specs.Ops.{CreateBucket}
use Rattle.s3_machine.specs.declared.operation.Reply.TheVariants.{Refused}
use Rattle.s3_machine.specs.Replies.{Made}
use Rattle.s3_machine.specs.State.{Bucket, State}
use Rattle.s3_machine.specs.Step.{S3Step}
use Rattle.s3_machine.proofs.lemmas.StepLemmas.{step_made, step_owned}
use Rattle.account_calls.specs.Calls.{LacksBucket, TellsBucket, acl_of_bucket, makes_bucket}

none_of : (o : Option Bucket) → option_map acl_of_bucket o ≡ None → o ≡ None
none_of None e = refl
none_of (Some b) e = cc

there_of : (o : Option Bucket) (list : Acl) → option_map acl_of_bucket o ≡ Some list → is_some o ≡ true
there_of None list e = cc
there_of (Some b) list e = refl

pub missing_of : (name : List ℕ) (state : State) → TellsBucket name state None → get state name ≡ None
missing_of name state told = none_of (get state name) told

-- a missing bucket is made
pub steps_made : (settings : Settings) (state : State) (bucket : List ℕ) (acl : Acl) (label : Label) (name : List ℕ) → name ≡ bucket → LacksBucket bucket state
    → S3Step settings state (CreateBucket bucket acl) label (Made name) (makes_bucket bucket acl label.moment state)
steps_made settings state bucket acl label name named lacks =
    subst (λ n. S3Step settings state (CreateBucket bucket acl) label (Made n) (makes_bucket bucket acl label.moment state)) (sym named) (step_made settings state bucket acl label lacks)

-- one that is there stays
pub steps_owned : (settings : Settings) (state : State) (bucket : List ℕ) (acl list : Acl) (label : Label) → TellsBucket bucket state (Some list) → S3Step settings state (CreateBucket bucket acl) label (Refused BucketAlreadyOwnedByYou) state
steps_owned settings state bucket acl list label told = step_owned settings state bucket acl label (there_of (get state bucket) list told)
