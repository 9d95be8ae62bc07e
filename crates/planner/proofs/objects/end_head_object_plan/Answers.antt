use Rattle.std.proofs.Common.{sym, ◌∙◌}
use Rattle.planner.proofs.Readings.{judged_shown, object_is_own}
use Rattle.planner.proofs.objects.end_head_object_plan.Goals as goal

pub returns-in-Bytes-clause-own : goal.returns-in-Bytes-clause-own
returns-in-Bytes-clause-own c =
    object_is_own c.args.head c.in-Bytes.span c.in-Bytes.partial c.new.result c.args.read.shown
    (judged_shown c.args.read.range c.args.read.conditions c.args.head c.in-Bytes.span c.in-Bytes.partial c.requires.shown (sym c.judge.ensures ∙ c.in-Bytes.is))
