use Rattle.std.proofs.Common.{◌≡◌, map, ap, ◌∙◌}
use Rattle.std.specs.Prelude.{◌==◌}
use Rattle.http_wire.specs.FirstMessage.{header_of}
use Rattle.http_wire.proofs.lemmas.MessageLemmas.{headers_of}
use Rattle.http_wire.proofs.message.message_at_head_spans.Goals as goal

pub returns : goal.returns
returns c h at =
    let headers : c.in_ok-headers_at_head_spans.field-0 ≡ map header_of h.fields =
    c.in_ok-headers_at_head_spans.ensures ∙ headers_of c.args.bytes.now c.args.headers.now c.args.spans.now.headers h.fields at.fields in
    λ i. record {
      method = (c.in_ok-text_at_head_span.ensures ∙ at.method) i;
      target = (c.in_ok-text_at_head_span-2.ensures ∙ at.path) i;
      old = ap (λ v. v == 0) at.version i;
      headers = headers i;
      body = c.new.ensures i;
    }
