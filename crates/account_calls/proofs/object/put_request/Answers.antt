use Rattle.std.proofs.Common.{ap, ◌∙◌}
use Rattle.s3_machine.specs.declared.operation.Content.{Content}
use Rattle.swift_marks.specs.Pack.{pack_of}
use Rattle.swift_marks.specs.Tag.{tag_text}
use Rattle.account_calls.specs.Interpret.{plain_tag}
use Rattle.account_calls.proofs.lemmas.Fits.{put_fits}
use Rattle.account_calls.proofs.object.put_request.Goals as goal

pub returns-clause-fits : goal.returns-clause-fits
returns-clause-fits c =
    let opened = c.into_value-content.ensures.value in
    rw (c.into_text.ensures.value, c.into_text-2.ensures.value, c.into_bytes.ensures, opened)
    (put_fits _ _ _ _ _ _ _ _ c.into_text.ensures.fit c.into_text-2.ensures.fit c.into_value-content.ensures.fit c.args.label.now.timed
    (c.in_ok-text.ensures
    ∙ ap (λ (x : Content). tag_text (plain_tag x.content_type c.args.etag.now c.args.label.now.moment)) opened
    ∙ ap (λ etag. tag_text (plain_tag c.args.put.content.content_type etag c.args.label.now.moment)) c.requires.etag)
    (c.in_ok-pieces.ensures.pieces ∙ ap (λ (x : Content). pack_of x.meta) opened))
