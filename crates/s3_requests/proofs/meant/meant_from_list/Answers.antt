use Rattle.std.proofs.Common.{sym, ap, ◌∙◌, []}
use Rattle.std.specs.Prelude.{is_none}
use Rattle.std.specs.Option.{unwrap_or}
use Rattle.s3_requests.specs.Uploads.{taken_listed_parts}
use Rattle.s3_requests.proofs.Left.{goes_on}
use Rattle.s3_requests.proofs.meant.meant_from_list.Goals as goal

pub meant_from_deletes-requires-clause-left : goal.meant_from_deletes-requires-clause-left
meant_from_deletes-requires-clause-left c =
    goes_on c.requires.left (ap is_none (ap (taken_listed_parts c.args.asking.now.row) (sym c.as_slice.ensures) ∙ sym c.in_ok-taken_listed_parts.ensures ∙ c.in-Some.is))

pub meant_from_deletes-requires-clause-list : goal.meant_from_deletes-requires-clause-list
meant_from_deletes-requires-clause-list c =
    ap (λ found. unwrap_or found []) (sym c.in-Some.is ∙ c.in_ok-taken_listed_parts.ensures ∙ ap (taken_listed_parts c.args.asking.now.row) c.as_slice.ensures)
