use Rattle.std.specs.Prelude.{None, Some, Ok, ◌+◌, IfSome}
use Rattle.std.proofs.Common.{arith, refl, subst}
use Rattle.upload_records.specs.Native.{s3_state}
use Rattle.s3_machine.specs.declared.operation.Reply.TheVariants.{Refused}
use Rattle.account_calls.specs.Answers.{condition_calls}
use Rattle.account_calls.specs.Calls.{always}
use Rattle.account_calls.specs.Condition.{IsOfCondition}
use Rattle.account_calls.proofs.lemmas.Alike.{plans_as, plans_given}
use Rattle.account_calls.proofs.lemmas.Ends.{after_told, calls_end, calls_in_vain, goes_on_from, met_settled}
use Rattle.account_calls.proofs.lemmas.Refusals.{stops_unrefused}
use Rattle.many_keys.proofs.CopiedFrom.{copied_behind}
use Rattle.many_keys.proofs.CopyConditions.{Allowed, FoundIn, own_refusal, refused_stops}
use Rattle.many_keys.proofs.CopySteps.{as_few, copy_held_back, copy_met, more_calls}
use Rattle.many_keys.proofs.copies.copy_if.Goals as goal

pub returns-in_err-refused-clause-plans : goal.returns-in_err-refused-clause-plans
returns-in_err-refused-clause-plans g c =
    calls_in_vain (always (condition_calls c.args.only_if.now)) (as_few c.args.copy.to.bucket c.args.copy.from_bucket c.args.copy.from_key (condition_calls c.args.only_if.now) (2 + condition_calls c.args.only_if.now) _ (omega arith)) met_settled c.in_err-refused.ensures.asks _ c.from_residual.ensures.1

pub returns-in_default-clause-plans : goal.returns-in_default-clause-plans
returns-in_default-clause-plans g c =
    goes_on_from {rest = Allowed c.args.copy.to.bucket c.args.copy.to.key c.args.copy.list c.args.copy.from_bucket c.args.copy.from_key c.args.head c.args.only_if.now} met_settled c.condition_refusal.ensures.stays.settings c.in_ok-refused.ensures.asks
    (plans_as (record { parts = refl; failed = refl; out_of_memory = refl; commit = λ reply. refl })
    (λ tree given. copy_met _ (s3_state tree) c.args.copy.to.bucket c.args.copy.to.key c.args.copy.acl c.args.copy.from_bucket c.args.copy.from_key c.args.copy.to.replaced c.args.copy.to.label c.args.copy.list given.is.0.listed c.requires.acl c.args.only_if.now given.is.1)
    (plans_given {given = FoundIn c.args.copy.to.bucket c.args.copy.list c.args.copy.from_bucket c.args.copy.from_key c.args.head} {more = Allowed c.args.copy.to.bucket c.args.copy.to.key c.args.copy.list c.args.copy.from_bucket c.args.copy.from_key c.args.head c.args.only_if.now} (λ tree has. has.0) c.copy_met.ensures.plans))
    (after_told (FoundIn c.args.copy.to.bucket c.args.copy.list c.args.copy.from_bucket c.args.copy.from_key c.args.head) (Allowed c.args.copy.to.bucket c.args.copy.to.key c.args.copy.list c.args.copy.from_bucket c.args.copy.from_key c.args.head c.args.only_if.now) None c.in_default.is (λ tree found told. (found, told)))
    (λ x. more_calls c.args.copy.to.bucket c.args.copy.from_bucket c.args.copy.from_key (condition_calls c.args.only_if.now) 2 (2 + condition_calls c.args.only_if.now) (omega arith) x.1.same)

pub returns-clause-plans : goal.returns-clause-plans
returns-clause-plans g c =
    calls_end (always (condition_calls c.args.only_if.now)) (as_few c.args.copy.to.bucket c.args.copy.from_bucket c.args.copy.from_key (condition_calls c.args.only_if.now) (2 + condition_calls c.args.only_if.now) _ (omega arith)) met_settled
    (Some c.in-Some.code) c.in-Some.is (Ok (Refused c.in-Some.code)) c.in_ok-refused.ensures.asks
    (own_refusal c.in-Some.code (subst (λ r. IfSome r IsOfCondition) c.in-Some.is c.in_ok-refused.ensures.codes)) (λ e. cc)
    (λ tree found told. (Refused c.in-Some.code, refl, copy_held_back _ (s3_state tree) c.args.copy.to.bucket c.args.copy.to.key c.args.copy.acl c.args.copy.from_bucket c.args.copy.from_key c.args.copy.to.replaced c.args.copy.to.label c.args.copy.list c.requires.acl c.args.only_if.now found c.requires.other c.in-Some.code told))

pub returns-in_default-clause-stops : goal.returns-in_default-clause-stops
returns-in_default-clause-stops g c = stops_unrefused _ c.copy_met.ensures.unrefused

pub returns-clause-stops : goal.returns-clause-stops
returns-clause-stops g c = refused_stops c.args.only_if.now c.in_ok-refused.ensures.asks c.in-Some.code (subst (λ r. IfSome r IsOfCondition) c.in-Some.is c.in_ok-refused.ensures.codes)

pub returns-in_default-clause-source : goal.returns-in_default-clause-source
returns-in_default-clause-source g c = copied_behind c.in_ok-refused.ensures.leaves c.in_ok-refused.ensures.asks.grows.on.observable _ c.copy_met.ensures.source
