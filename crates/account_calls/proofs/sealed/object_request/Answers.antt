use Rattle.std.proofs.Common.{sym, subst, ◌∙◌}
use Rattle.swift_calls.specs.Step.{Fit}
use Rattle.account_calls.specs.Sealed.{put_by}
use Rattle.account_calls.proofs.lemmas.SealStands.{object_fits, sealed_tag_has_text}
use Rattle.account_calls.proofs.sealed.object_request.Goals as goal

pub sealed_object_tag-requires : goal.sealed_object_tag-requires
sealed_object_tag-requires c = sealed_tag_has_text c.args.sealed.now c.requires

pub returns-clause-request : goal.returns-clause-request
returns-clause-request c =
    c.put_by_segments.ensures ∙ (λ i. put_by (c.in_ok-container.ensures i) (c.in_ok-name.ensures i) (c.in_ok-content_type.ensures i) (c.in_ok-meta.ensures.pieces i) (c.in_ok-segments.ensures i))

pub returns-clause-fits : goal.returns-clause-fits
returns-clause-fits c =
    subst Fit (sym (c.put_by_segments.ensures ∙ (λ i. put_by (c.in_ok-container.ensures i) (c.in_ok-name.ensures i) (c.in_ok-content_type.ensures i) (c.in_ok-meta.ensures.pieces i) (c.in_ok-segments.ensures i))))
    (object_fits c.args.sealed.now c.requires)
