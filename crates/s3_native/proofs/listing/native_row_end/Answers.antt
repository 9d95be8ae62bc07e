use Rattle.s3_native.proofs.Rolls.{begins_long, row_up}
use Rattle.s3_native.proofs.listing.native_row_end.Goals as goal

pub split_at-requires : goal.split_at-requires
split_at-requires c = begins_long c.args.prefix.now c.args.key.now c.requires

pub returns-in-Some-clause-row : goal.returns-in-Some-clause-row
returns-in-Some-clause-row c = λ head. row_up c.args.prefix.now c.args.delimiter.now c.args.key.now c.split_at.result.1.now c.in-Some.end head c.requires c.split_at.ensures.back c.in-Some.ensures.text
