use Rattle.std.proofs.Common.{◌-◌, sym, arith}
use Rattle.plan_uploads.proofs.PartsListed.{small_none}
use Rattle.plan_uploads.proofs.chosen.has_small_chosen_part.Goals as goal

pub returns : goal.returns
returns c = sym (small_none c.args.least c.args.parts.now (c.loop-i.i - 1) (omega arith) c.loop-i.invariant)
