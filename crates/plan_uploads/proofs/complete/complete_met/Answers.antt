use Rattle.std.proofs.Common.{ap, subst, arith, length, ◌<◌, ◌^◌, ◌+◌, ◌∙◌}
use Rattle.upload_texts.specs.declared.sealed.Sealed.{Sealed}
use Rattle.upload_records.specs.Native.{sealed_sub_manifests}
use Rattle.plan_uploads.proofs.CompletionCalls.{goes_on_sound, lacks_memory, seals_same}
use Rattle.plan_uploads.proofs.Completions.{few_subs, may_complete}
use Rattle.account_calls.proofs.lemmas.Puts.{ensures_less}
use Rattle.plan_uploads.specs.Completing.{StandsAs, known_in}
use Rattle.plan_uploads.proofs.Stopping.{shown_by_none}
use Rattle.plan_uploads.proofs.Unfinished.{not_begun}
use Rattle.plan_uploads.proofs.complete.complete_met.Goals as goal

pub returns-in_err-sealed-clause-plans : goal.returns-in_err-sealed-clause-plans
returns-in_err-sealed-clause-plans g c = λ text parts lists. lacks_memory _ _ c.from_residual.ensures.1

pub returns-clause-plans : goal.returns-clause-plans
returns-clause-plans g c = λ text parts lists.
    let fits : c.args.opened.id < 2 ^ 128 = subst (λ s. s.id < 2 ^ 128) c.in_ok-sealed.ensures.sealed c.in_ok-sealed.ensures.fits in
    let few = few_subs c.in_ok-sealed.sealed c.args.done.now.list (ap (λ (s : Sealed). length s.list) c.in_ok-sealed.ensures.sealed ∙ c.requires.many) in
    goes_on_sound {n = 4 + sealed_sub_manifests c.in_ok-sealed.sealed} (omega (arith, few))
    (λ tree sound has. may_complete tree c.args.done.now.bucket c.args.done.now.key c.args.opened parts sound c.fits.ensures text has c.args.state.now.settings.now c.args.done.now.list c.args.label.now c.requires.ascends
    c.args.chosen lists c.requires.large
    (record { named = c.fits.ensures; keyed = c.fits-2.ensures }) c.get.ensures.fit c.args.label.now.timed fits)
    (seals_same text c.args.done.now.list c.args.label.now _ _ c.in_ok-sealed.ensures.sealed (c.complete_sealed-completing.ensures.plans text c.args.done.now.list c.args.label.now))

pub returns-clause-stands : goal.returns-clause-stands
returns-clause-stands g c =
    ensures_less (λ tree stands. record { opened = c.args.opened; chosen = c.args.chosen; stands = subst (λ s. StandsAs (known_in c.complete_sealed-completing.result) s tree) c.in_ok-sealed.ensures.sealed stands }) _
    c.complete_sealed-completing.ensures.stands

pub returns-clause-shown : goal.returns-clause-shown
returns-clause-shown g c = shown_by_none _ c.complete_sealed-completing.ensures.unrefused

pub returns-in_err-sealed-clause-unsure : goal.returns-in_err-sealed-clause-unsure
returns-in_err-sealed-clause-unsure g c = not_begun _ _ c.from_residual.ensures.1

pub returns-clause-unsure : goal.returns-clause-unsure
returns-clause-unsure g c = c.complete_sealed-completing.ensures.unsure
