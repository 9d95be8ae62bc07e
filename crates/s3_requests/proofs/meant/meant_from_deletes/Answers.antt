use Rattle.std.proofs.Common.{ap, sym, ◌∙◌}
use Rattle.std.specs.Prelude.{is_none}
use Rattle.std.specs.Option.{unwrap_or}
use Rattle.s3_requests.specs.Deletes.{no_deletes, taken_deletes}
use Rattle.s3_requests.proofs.Left.{goes_on}
use Rattle.s3_requests.proofs.meant.meant_from_deletes.Goals as goal

pub meant_from_caller-requires-clause-left : goal.meant_from_caller-requires-clause-left
meant_from_caller-requires-clause-left c =
    goes_on c.requires.left (ap is_none (ap (taken_deletes c.args.asking.now.row) (sym c.as_slice.ensures) ∙ sym c.in_ok-taken_deletes.ensures ∙ c.in-Some.is))

pub meant_from_caller-requires-clause-deletes : goal.meant_from_caller-requires-clause-deletes
meant_from_caller-requires-clause-deletes c =
    ap (λ found. unwrap_or found no_deletes) (sym c.in-Some.is ∙ c.in_ok-taken_deletes.ensures ∙ ap (taken_deletes c.args.asking.now.row) c.as_slice.ensures)
