-- A plan of one operation is a plan of another of which the same is said beside its step, but for the number of its calls, where each
-- step of the one is one of the other.
use Rattle.std.specs.Prelude.{◌≡◌, ◌≤◌, ◌+◌, ℕ, suc, Bool, List, length, take, Result}
use Rattle.std.proofs.Common.{sym, ap, subst, ◌∙◌, arith}
use Rattle.s3_machine.specs.State.{State}
use Rattle.s3_machine.specs.Step.{S3Step}
use Rattle.s3_machine.specs.declared.operation.Label.{Label}
use Rattle.s3_machine.specs.declared.operation.Op.{Op}
use Rattle.s3_machine.specs.declared.operation.Reply.{Reply}
use Rattle.s3_machine.specs.declared.operation.Settings.{Settings}
use Rattle.swift_calls.specs.Account.{SwiftAccount}
use Rattle.swift_calls.specs.History.{History, present}
use Rattle.upload_records.specs.Native.{s3_state}
use Rattle.account_calls.specs.Answers.{AnswersBy, after_step, before_step, ends_by_commit, is_old_if_failed, is_old_if_out_of_memory, IsStage, machine, memory, OldIf, part_way, parts_of, Passes, steps_of, StepsThrough, unavailable}
use Rattle.account_calls.specs.Calls.{Bound, GivenOf, IsWithin, Met, always, by_account}
use Rattle.account_calls.proofs.lemmas.Ends.{met_within}
use Rattle.account_calls.specs.declared.fault.PlanFault.{PlanFault}
use Rattle.account_calls.specs.declared.state.Known.{Known}
use Rattle.account_calls.specs.Plan.{CausesEnd, EndsPlan, Plans, reply_of}

-- each step of the one from this state is one of the other
abbrev pub IsStepOf : Settings → Op → Op → Label → State → Type 0
IsStepOf settings op other label old = (reply : Reply) (new : State) → S3Step settings old op label reply new → S3Step settings old other label reply new

-- the same is said of two operations
pub record AreAlike (op other : Op) : Type 0 where
  pub parts : parts_of op ≡ parts_of other
  pub failed : is_old_if_failed op ≡ is_old_if_failed other
  pub out_of_memory : is_old_if_out_of_memory op ≡ is_old_if_out_of_memory other
  pub commit : (reply : Reply) → ends_by_commit op reply ≡ ends_by_commit other reply

steps_as : {op other : Op} → AreAlike op other → (n : ℕ) → n ≡ steps_of op → n ≡ steps_of other
steps_as alike n is = is ∙ ap (λ (parts : List Op). suc (length parts)) alike.parts

module _ {settings : Settings} {op other : Op} {label : Label} (alike : AreAlike op other) where
  stage_as : {old new : State} {n : ℕ} → IsStepOf settings op other label old → IsStage settings old op label n new → IsStage settings old other label n new
  stage_as step (before_step is same) = before_step is same
  stage_as {old = old} {new = new} {n = n} step (part_way few through) =
      part_way (subst (λ (parts : List Op). n ≤ length parts) alike.parts few) (subst (λ (parts : List Op). StepsThrough settings label old (take n parts) new) alike.parts through)
  stage_as {new = new} {n = n} step (after_step is reply does) = after_step (steps_as alike n is) reply (step reply new does)

  passes_as : {h : History} {p t q takes : ℕ} → IsStepOf settings op other label (s3_state (h.account_at p)) → Passes settings h p t q op label takes → Passes settings h p t q other label takes
  passes_as step passes = record {
    after_p = passes.after_p;
    up_to_q = passes.up_to_q;
    stage = passes.stage;
    rises = passes.rises;
    before = passes.before;
    since = passes.since;
    is = λ k from up. stage_as step (passes.is k from up);
    sound = passes.sound;
  }

  answers_as : {h : History} {p q takes : ℕ} {reply : Reply} → IsStepOf settings op other label (s3_state (h.account_at p)) → AnswersBy settings h p q op label takes reply → AnswersBy settings h p q other label takes reply
  answers_as {takes = takes} step (machine all does) = machine (steps_as alike takes all) (step _ _ does)
  answers_as {h = h} {p = p} step (unavailable is failed old) = unavailable is failed (subst (λ (t : Bool). OldIf t h p (failed.last + 1)) alike.failed old)
  answers_as {h = h} {p = p} {q = q} step (memory is old) = memory is (subst (λ (t : Bool). OldIf t h p q) alike.out_of_memory old)

  ends_as : {h : History} {p q : ℕ} {end : Result Reply PlanFault} → IsStepOf settings op other label (s3_state (h.account_at p)) → EndsPlan settings h p q op label end → EndsPlan settings h p q other label end
  ends_as step ends = record {
    committed = ends.committed;
    takes = ends.takes;
    answers = record { passes = passes_as step ends.answers.passes; by = answers_as step ends.answers.by };
    consistent = ends.consistent;
  }

  pub plans_as : {most : Bound} {a b : History} {given : SwiftAccount → Type 0} {after : Known} {end : Result Reply PlanFault} → ((tree : SwiftAccount) → given tree → IsStepOf settings op other label (s3_state tree))
      → Plans most a b settings given op label after end → Plans most a b settings given other label after end
  plans_as {a = a} {b = b} {given = given} {end = end} step plans = record {
    grows = plans.grows;
    cause = subst (λ (t : Bool). CausesEnd t a.faults b.faults end) (alike.commit (reply_of end)) plans.cause;
    own = plans.own;
    effect = λ met.
        let from : b.account_at a.called ≡ present a = (plans.grows.on.kept met.observable).accounts a.called (omega arith) in
        ends_as (step (b.account_at a.called) (subst given (sym from) met.has)) (plans.effect met);
    knows = plans.knows;
  }

-- ---- more is given

within_less : (most : Bound) {P Q : Type 0} (p q : ℕ) → (Q → P) → IsWithin most P p q → IsWithin most Q p q
within_less (always n) p q from within = within
within_less (by_account n) p q from within = λ met. within (from met)

-- what is shown of a plan where this is given is so where more is
pub plans_given : {settings : Settings} {op : Op} {label : Label} {most : Bound} {a b : History} {given more : SwiftAccount → Type 0} {after : Known} {end : Result Reply PlanFault} → ((tree : SwiftAccount) → more tree → given tree)
    → Plans most a b settings (GivenOf given) op label after end → Plans most a b settings (GivenOf more) op label after end
plans_given {most = most} {a = a} {b = b} gives plans = record {
  grows = record { on = plans.grows.on; calls = within_less most a.called b.called (met_within gives) plans.grows.calls };
  cause = plans.cause;
  own = plans.own;
  effect = λ met. plans.effect (met_within gives met);
  knows = plans.knows;
}
