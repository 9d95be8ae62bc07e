use Rattle.std.proofs.Common.{refl, ◌∙◌}
use Rattle.http_answers.proofs.lemmas.HeadLemmas.{headers_of}
use Rattle.http_answers.proofs.head.head_at.Goals as goal

pub returns : goal.returns
returns c h at =
    (at.code, c.in_ok-headers_at.ensures ∙ headers_of c.args.bytes.now c.args.room.now c.args.spans.now.headers h.fields at.fields, refl)
