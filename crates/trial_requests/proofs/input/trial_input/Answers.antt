use Rattle.std.proofs.Common.{◌≡◌, ◌∙◌, ap, ◌≤◌, arith}
use Rattle.trial_requests.proofs.Points.{point_more, point_end, point_start}
use Rattle.trial_requests.proofs.input.trial_input.Goals as goal

pub turns-init : goal.turns-init
turns-init c = point_start _ _ _ c.seed_from_u64-source.ensures c.new-text.ensures

pub turns-preserved : goal.turns-preserved
turns-preserved c = point_more _ _ _ _ c.turns.invariant c.in_ok-append_next.ensures

pub returns : goal.returns
returns c = point_end _ _ _ _ _ _ c.turns.invariant (omega arith)
