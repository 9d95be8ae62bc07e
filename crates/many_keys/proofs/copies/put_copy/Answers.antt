use Rattle.std.proofs.Common.{◌≤◌, length, ap, sym, subst, ◌∙◌, lit≤, rules, refl}
use Rattle.s3_machine.specs.ETag.{body_etag}
use Rattle.s3_machine.specs.Limits.{most_body_bytes}
use Rattle.s3_machine.specs.declared.operation.Content.{Content}
use Rattle.account_calls.specs.Plan.{Plans}
use Rattle.account_calls.proofs.lemmas.Ends.{commits, becomes}
use Rattle.account_calls.proofs.lemmas.Puts.{ensures_ended, ensures_less}
use Rattle.account_calls.specs.Puts.{EnsuresIfDone}
use Rattle.many_keys.proofs.CopiesStand.{plain_stands}
use Rattle.many_keys.proofs.CopySteps.{copy_put}
use Rattle.many_keys.proofs.Sources.{source_body}
use Rattle.many_keys.specs.Copies.{TellsCopied}
use Rattle.many_keys.proofs.CopiedFrom.{told_ended}
use Rattle.many_keys.proofs.copies.put_copy.Goals as goal

pub of-requires : goal.of-requires
of-requires g c = record {
  typed = c.content_of-content.ensures.proper.typed;
  described = c.content_of-content.ensures.proper.described;
  sized = subst (λ b. length b ≤ most_body_bytes) (sym c.new.ensures) (source_body c.args.head c.args.body c.requires.source).sized;
}

pub put_object-requires : goal.put_object-requires
put_object-requires g c =
    record { etag = c.as_slice.ensures ∙ (source_body c.args.head c.args.body c.requires.source).same ∙ ap body_etag (sym (ap (λ (x : Content). x.body) c.of.ensures ∙ c.new.ensures)) }

pub returns-clause-plans : goal.returns-clause-plans
returns-clause-plans g c = λ acl list from_bucket from_key same other.
    subst (Plans _ _ _ _ _ _ _ _) (sym c.end_copy_object_plan.ensures)
    (commits _ (lit≤ tt) (rw (c.of.ensures, c.new.ensures) at c.put_object.ensures.changes) (λ done. search rules) (λ tree read. (list, read.listed))
    (λ tree done new read is. becomes (copy_put _ _ _ _ _ _ _ _ _ list same read other (source_body c.args.head c.args.body c.requires.source).same _ c.content_of-content.ensures.content) is))

pub returns-clause-stands : goal.returns-clause-stands
returns-clause-stands g c =
    subst (EnsuresIfDone _ _) (sym c.end_copy_object_plan.ensures)
    (ensures_less (λ tree stands. plain_stands tree c.args.to.bucket c.args.to.key _ _ c.args.body c.args.to.label.moment stands) _ (ensures_ended _ _ (rw (c.of.ensures, c.new.ensures) at c.put_object.ensures.stands)))

pub returns-clause-told : goal.returns-clause-told
returns-clause-told g c = subst (TellsCopied _ _) (sym c.end_copy_object_plan.ensures) (told_ended _ refl _)
