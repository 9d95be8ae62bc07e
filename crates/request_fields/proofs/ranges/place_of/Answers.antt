use Rattle.std.proofs.Common.{◌<◌, IfSome, subst, sym}
use Rattle.s3_machine.specs.Limits.{range_limit}
use Rattle.request_fields.proofs.Numbers.{place_small}
use Rattle.request_fields.proofs.ranges.place_of.Goals as goal

pub returns-clause-within : goal.returns-clause-within
returns-clause-within c = subst (λ found. IfSome found (λ place. place < range_limit)) (sym c.number_of.ensures) (place_small c.args.text.now)
