use Rattle.std.proofs.Common.{sym, subst, ◌∙◌}
use Rattle.swift_calls.specs.Step.{Fit}
use Rattle.swift_calls.specs.Files.{PutObject}
use Rattle.many_keys.proofs.PutsCopy.{none_fits, put_none, tag_has_text}
use Rattle.many_keys.proofs.listed.empty_copy_file_request.Goals as goal

pub sealed_object_tag-requires : goal.sealed_object_tag-requires
sealed_object_tag-requires c = tag_has_text c.args.sealed.now c.requires.copy

pub returns-clause-request : goal.returns-clause-request
returns-clause-request c =
    (λ i. PutObject (c.in_ok-container.ensures i) (c.in_ok-name.ensures i) (c.in_ok-content_type.ensures i) (c.in_ok-meta.ensures.pieces i) (c.new.ensures i))
    ∙ sym (put_none c.args.sealed.now c.requires.none)

pub returns-clause-fits : goal.returns-clause-fits
returns-clause-fits c =
    subst Fit
    (sym ((λ i. PutObject (c.in_ok-container.ensures i) (c.in_ok-name.ensures i) (c.in_ok-content_type.ensures i) (c.in_ok-meta.ensures.pieces i) (c.new.ensures i))
    ∙ sym (put_none c.args.sealed.now c.requires.none))) (none_fits c.args.sealed.now c.requires.copy c.requires.none)
