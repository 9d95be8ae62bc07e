use Rattle.std.proofs.Common.{ap, refl, subst}
use Rattle.upload_texts.specs.declared.sealed.Sealed.{Sealed}
use Rattle.many_keys.proofs.CopyPlans.{copy_goes_on, copy_in_vain, cut_is_well, is_copy, lists_parts, sized_cut}
use Rattle.account_calls.proofs.lemmas.Puts.{ensures_less}
use Rattle.many_keys.proofs.CopiesStand.{own_stands}
use Rattle.many_keys.specs.Copies.{TellsCopied}
use Rattle.many_keys.proofs.OwnSegments.{has_own}
use Rattle.many_keys.proofs.listed.copy_under.Goals as goal

pub copy_source_segments-requires : goal.copy_source_segments-requires
copy_source_segments-requires g c = record { cut = sized_cut c.args.head.size c.args.cut.now.pieces _ refl c.requires.cut }

pub returns-in_err-parts-clause-plans : goal.returns-in_err-parts-clause-plans
returns-in_err-parts-clause-plans g c = λ acl list other onto. copy_in_vain c.args.cut.now refl c.in_err-parts.ensures.asks _ c.from_residual.ensures.1

pub put_copy_of_parts-end-requires : goal.put_copy_of_parts-end-requires
put_copy_of_parts-end-requires g c =
    let copy = is_copy c.args.copy.to.replaced c.sealed_copy-sealed.ensures.copy (record { named = c.fits.ensures; keyed = c.fits-2.ensures }) c.sealed_copy-sealed.ensures.fits c.sealed_copy-sealed.ensures.content c.sealed_copy-sealed.ensures.ordered c.requires.head c.requires.of_parts
    (cut_is_well _ refl c.requires.cut c.in_ok-parts.ensures.listed) c.args.copy.to.label.timed in
    record { copy = copy; has = lists_parts c.args.head.size (ap (λ (s : Sealed). s.list) c.sealed_copy-sealed.ensures.copy) copy refl c.requires.cut c.in_ok-parts.ensures.listed }

pub returns-clause-plans : goal.returns-clause-plans
returns-clause-plans g c = λ acl list other onto.
    copy_goes_on _ _ c.args.copy.from_bucket c.args.copy.from_key acl list c.args.copy.to.replaced c.args.head c.args.copy.to.label other onto
    c.args.cut.now c.in_ok-parts.parts refl c.copy_source_segments.ensures.stays.settings c.in_ok-parts.ensures.listed c.in_ok-parts.ensures.asks c.sealed_copy-sealed.ensures.copy c.put_copy_of_parts-end.ensures.plans

pub returns-clause-stands : goal.returns-clause-stands
returns-clause-stands g c =
    ensures_less own_stands _
    (has_own (ap (λ (s : Sealed). s.bucket) c.sealed_copy-sealed.ensures.copy) (ap (λ (s : Sealed). s.key) c.sealed_copy-sealed.ensures.copy) (ap (λ (s : Sealed). s.id) c.sealed_copy-sealed.ensures.copy) (ap (λ (s : Sealed). s.moment) c.sealed_copy-sealed.ensures.copy)
    (ap (λ (s : Sealed). s.list) c.sealed_copy-sealed.ensures.copy) refl c.in_ok-parts.ensures.listed c.in_ok-parts.ensures.own _ c.put_copy_of_parts-end.ensures.own c.put_copy_of_parts-end.ensures.stands)

pub returns-clause-told : goal.returns-clause-told
returns-clause-told g c = subst (λ (s : Sealed). TellsCopied s.etag s.moment c.put_copy_of_parts-end.result) c.sealed_copy-sealed.ensures.copy c.put_copy_of_parts-end.ensures.told

pub returns-clause-own : goal.returns-clause-own
returns-clause-own g c =
    has_own (ap (λ (s : Sealed). s.bucket) c.sealed_copy-sealed.ensures.copy) (ap (λ (s : Sealed). s.key) c.sealed_copy-sealed.ensures.copy) (ap (λ (s : Sealed). s.id) c.sealed_copy-sealed.ensures.copy) (ap (λ (s : Sealed). s.moment) c.sealed_copy-sealed.ensures.copy)
    (ap (λ (s : Sealed). s.list) c.sealed_copy-sealed.ensures.copy) refl c.in_ok-parts.ensures.listed c.in_ok-parts.ensures.own _ c.put_copy_of_parts-end.ensures.own c.put_copy_of_parts-end.ensures.stands
