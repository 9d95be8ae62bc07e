use Rattle.std.proofs.Common.{◌-◌, ◌≤◌, vec_len}
use Rattle.swift_client.proofs.receive.receive_rest.Given as goal

abbrev pub invariant-pieces : goal.invariant-pieces
invariant-pieces g l = l.came ≤ vec_len l.body

abbrev pub decreases-pieces : goal.decreases-pieces
decreases-pieces g l = l.size - l.came
