use Rattle.std.proofs.Common.{ap, sym, subst, ◌∙◌}
use Rattle.account_calls.proofs.lemmas.Ask.{asks_told}
use Rattle.plan_uploads.specs.Completing.{TellsToComplete, lacks_bucket, to_complete_by}
use Rattle.plan_uploads.proofs.FoundCompletion.{tells_completion}
use Rattle.plan_uploads.proofs.Stopping.{found_in_bucket}
use Rattle.std.specs.Prelude.{◌≡◌, false}
use Rattle.plan_uploads.proofs.completed.find_recorded.Goals as goal

pub returns-clause-asks : goal.returns-clause-asks
returns-clause-asks g c =
    asks_told (λ tree has. has) c.to_complete.result
    (λ tree sound has told. subst (TellsToComplete c.args.done.now.bucket c.args.done.now.key _ _ tree) (sym (c.to_complete.ensures ∙ ap (to_complete_by c.in_ok-record.record c.args.done.now.key c.args.id) (c.as_slice.ensures ∙ c.get.ensures.value))) (tells_completion _ _ c.args.id _ tree has.settled has.is _ told))
    c.in_ok-record.ensures.asks

pub returns-clause-there : goal.returns-clause-there
returns-clause-there g c = subst (λ f. lacks_bucket f ≡ false) (sym c.to_complete.ensures) (found_in_bucket c.in_ok-record.record c.args.done.now.key c.args.id c.as_slice.result.now)
