use Rattle.std.proofs.Common.{sym, subst, lit≤, rules}
use Rattle.account_calls.specs.Plan.{Plans}
use Rattle.account_calls.proofs.lemmas.Ends.{commits, out_of_memory}
use Rattle.account_calls.proofs.lemmas.Puts.{ensures_ended}
use Rattle.account_calls.specs.Puts.{EnsuresIfDone}
use Rattle.many_keys.proofs.PutsFile.{copy_steps}
use Rattle.many_keys.specs.Copies.{TellsCopied}
use Rattle.many_keys.proofs.CopiedFrom.{told_ended}
use Rattle.many_keys.proofs.OwnSegments.{nothing_leaves}
use Rattle.many_keys.proofs.listed.put_listed_copy.Goals as goal

pub returns-clause-plans : goal.returns-clause-plans
returns-clause-plans g c = λ acl list from_bucket from_key replaced label same other dated.
    subst (Plans _ _ _ _ _ _ _ _) (sym c.end_copy_object_plan.ensures)
    (commits _ (lit≤ tt) (c.put_copy_file.ensures.changes from_bucket from_key replaced) (λ done. search rules) (λ tree may. may.copy)
    (copy_steps _ acl list from_bucket from_key replaced label c.args.sealed.now _ same other dated c.in_ok-etag.ensures))

pub returns-in_err-etag-clause-plans : goal.returns-in_err-etag-clause-plans
returns-in_err-etag-clause-plans g c = λ acl list from_bucket from_key replaced label same other dated. out_of_memory _ _ c.from_residual.ensures.1

pub returns-clause-stands : goal.returns-clause-stands
returns-clause-stands g c = subst (EnsuresIfDone _ _) (sym c.end_copy_object_plan.ensures) (ensures_ended _ _ c.put_copy_file.ensures.stands)

pub returns-clause-told : goal.returns-clause-told
returns-clause-told g c = subst (TellsCopied _ _) (sym c.end_copy_object_plan.ensures) (told_ended _ c.in_ok-etag.ensures _)

pub returns-in_err-etag-clause-leaves : goal.returns-in_err-etag-clause-leaves
returns-in_err-etag-clause-leaves g c = nothing_leaves _ _

pub returns-clause-leaves : goal.returns-clause-leaves
returns-clause-leaves g c = c.put_copy_file.ensures.leaves
