use Rattle.std.proofs.Common.{sym, ◌∙◌, codes, nat_eq}
use Rattle.std.specs.List.{starts_with}
use Rattle.std.proofs.lemmas.Bool.{and_left}
use Rattle.http_wire.specs.Headers.{has_name}
use Rattle.sigv4.proofs.verdict.announces_signed_pieces.Goals as goal

pub returns-else-has_name : goal.returns-else-has_name
returns-else-has_name c =
    c.if-has_name.false ∙ sym (and_left (has_name (codes "x-amz-content-sha256") c.args.header.now) (starts_with nat_eq c.args.header.now.value (codes "STREAMING-")) (sym c.has_name.ensures ∙ c.if-has_name.false))
