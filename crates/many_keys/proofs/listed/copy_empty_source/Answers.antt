use Rattle.std.proofs.Common.{arith, subst, ap, ◌∙◌}
use Rattle.many_keys.proofs.CopyPlans.{id_in_vain, id_puts, is_copy, none_is_well}
use Rattle.account_calls.proofs.lemmas.Puts.{ensures_less}
use Rattle.many_keys.proofs.CopiesStand.{empty_own, own_stands}
use Rattle.upload_texts.specs.declared.sealed.Sealed.{Sealed}
use Rattle.many_keys.specs.Copies.{TellsCopied}
use Rattle.many_keys.proofs.listed.copy_empty_source.Goals as goal

pub returns-in_err-id-clause-plans : goal.returns-in_err-id-clause-plans
returns-in_err-id-clause-plans g c = λ acl list from_bucket from_key other onto. id_in_vain c.fits.ensures (omega arith) c.in_err-id.ensures.asks _ c.from_residual.ensures.1

pub put_listed_copy-end-requires : goal.put_listed_copy-end-requires
put_listed_copy-end-requires g c =
    record {
      copy = is_copy c.args.to.replaced c.sealed_copy-sealed.ensures.copy (record { named = c.fits.ensures; keyed = c.fits-2.ensures }) c.sealed_copy-sealed.ensures.fits c.sealed_copy-sealed.ensures.content c.sealed_copy-sealed.ensures.ordered c.requires.head c.requires.of_parts
          (none_is_well _ c.new-parts.ensures) c.args.to.label.timed;
    }

pub returns-clause-plans : goal.returns-clause-plans
returns-clause-plans g c = λ acl list from_bucket from_key other onto.
    id_puts _ _ from_bucket from_key acl list c.args.to.replaced c.args.head c.args.to.label other onto
    _ c.law_unused_is_abandoned.ensures c.fits.ensures c.free_id.ensures.stays.settings c.in_ok-id.ensures.asks c.requires.empty c.new-parts.ensures c.sealed_copy-sealed.ensures.copy c.put_listed_copy-end.ensures.plans

pub returns-clause-stands : goal.returns-clause-stands
returns-clause-stands g c =
    ensures_less
    (λ tree stands. own_stands tree
    (empty_own c.sealed_copy-sealed.result (ap (λ (s : Sealed). s.bucket) c.sealed_copy-sealed.ensures.copy) (ap (λ (s : Sealed). s.key) c.sealed_copy-sealed.ensures.copy) (ap (λ (s : Sealed). s.id) c.sealed_copy-sealed.ensures.copy) (ap (λ (s : Sealed). s.moment) c.sealed_copy-sealed.ensures.copy)
    (ap (λ (s : Sealed). s.list) c.sealed_copy-sealed.ensures.copy ∙ c.new-parts.ensures) tree stands))
    _ c.put_listed_copy-end.ensures.stands

pub returns-clause-told : goal.returns-clause-told
returns-clause-told g c = subst (λ (s : Sealed). TellsCopied s.etag s.moment c.put_listed_copy-end.result) c.sealed_copy-sealed.ensures.copy c.put_listed_copy-end.ensures.told
