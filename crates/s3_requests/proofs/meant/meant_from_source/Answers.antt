use Rattle.std.proofs.Common.{sym, ap, ◌∙◌}
use Rattle.std.specs.Prelude.{is_none}
use Rattle.std.specs.Option.{unwrap_or}
use Rattle.s3_requests.specs.Copies.{no_source, taken_source}
use Rattle.s3_requests.proofs.Left.{goes_on}
use Rattle.s3_requests.proofs.meant.meant_from_source.Goals as goal

pub meant_from_content-requires-clause-left : goal.meant_from_content-requires-clause-left
meant_from_content-requires-clause-left c =
    goes_on c.requires.left (ap is_none (ap (taken_source c.args.asking.now.row) (sym c.as_slice.ensures) ∙ sym c.in_ok-taken_source.ensures ∙ c.in-Some.is))

pub meant_from_content-requires-clause-source : goal.meant_from_content-requires-clause-source
meant_from_content-requires-clause-source c =
    ap (λ found. unwrap_or found no_source) (sym c.in-Some.is ∙ c.in_ok-taken_source.ensures ∙ ap (taken_source c.args.asking.now.row) c.as_slice.ensures)
