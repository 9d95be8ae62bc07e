use Rattle.std.proofs.Common.{ap, ◌∙◌}
use Rattle.http_wire.specs.Print.{page_text}
use Rattle.gateway.specs.Request.{reply_text}
use Rattle.gateway.proofs.write.print_reply.Goals as goal

pub returns-clause-text : goal.returns-clause-text
unfolding reply_text
returns-clause-text c =
    c.in_ok-text.ensures ∙ ap (λ p. page_text p c.args.context.now.method.now c.args.closing) c.in_ok-page.ensures
