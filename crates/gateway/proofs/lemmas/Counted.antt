-- An operation that the service itself answered took all its steps.
use Rattle.std.specs.Prelude.{◌≡◌, ◌≢◌, ◌⊎◌, ℕ}
use Rattle.std.proofs.Common.{subst, inl, inr}
use Rattle.s3_machine.specs.declared.code.Code.TheVariants.{ServiceUnavailable}
use Rattle.s3_machine.specs.declared.operation.Label.{Label}
use Rattle.s3_machine.specs.declared.operation.Op.{Op}
use Rattle.s3_machine.specs.declared.operation.Reply.{Reply}
use Rattle.s3_machine.specs.declared.operation.Reply.TheVariants.{Refused, Memory}
use Rattle.s3_machine.specs.declared.operation.Settings.{Settings}
use Rattle.swift_calls.specs.History.{History}
use Rattle.account_calls.specs.Answers.{steps_of, AnswersBy, machine, unavailable, memory}
use Rattle.account_calls.specs.Stutters.{LastFailed}
use Rattle.s3_requests.specs.declared.meant.Meant.TheVariants as meant
use Rattle.gateway.specs.Request.{Request}
use Rattle.gateway.specs.Exchange.{StoreCursor, Span, Performs, unsettled, answered, Replies, refused, performed}

-- the service's own answer took all the steps
by_takes : {settings : Settings} {h : History} {p q : ℕ} {op : Op} {label : Label} {takes : ℕ} {reply : Reply} → reply ≢ Memory → reply ≢ Refused ServiceUnavailable → AnswersBy settings h p q op label takes reply
    → takes ≡ steps_of op
by_takes known steady (machine all stepped) = all
by_takes known steady (unavailable is failed old) = absurd (steady is)
by_takes known steady (memory is old) = absurd (known is)

pub unsaid : {h : History} {p q : ℕ} {reply : Reply} → reply ≢ Memory → reply ≢ Refused ServiceUnavailable → ((reply ≡ Refused ServiceUnavailable) × LastFailed h p q) ⊎ (reply ≡ Memory) → ⊥
unsaid known steady (inl (is, failed)) = steady is
unsaid known steady (inr is) = known is

performs_takes : {settings : Settings} {h : History} {old new : StoreCursor} {span : Span} {op : Op} {label : Label} {reply : Reply} → reply ≢ Memory → reply ≢ Refused ServiceUnavailable
    → Performs settings h old span new op label reply → span.takes ≡ steps_of op
performs_takes known steady (unsettled not begins takes) = absurd (unsaid known steady not.says)
performs_takes known steady (answered settled answers beside bound shown) = by_takes known steady answers.by

pub replies_take : {settings : Settings} {h : History} {old new : StoreCursor} {span : Span} {request : Request} {label : Label} {reply : Reply} (op : Op) → request.means ≡ meant.Op op → reply ≢ Memory → reply ≢ Refused ServiceUnavailable
    → Replies settings h old span new request label reply → span.takes ≡ steps_of op
replies_take op asks known steady (refused code means is proper sound same takes) = cc
replies_take {span = span} op asks known steady (performed other means performs caused known') =
    let same : other ≡ op = cc in
    subst (λ o. span.takes ≡ steps_of o) same (performs_takes known steady performs)
