use Rattle.std.proofs.Common.{refl, ◌∙◌, arith}
use Rattle.gateway.proofs.Loops.{so_far_none, so_far_more, so_far_stops, so_far_all}
use Rattle.gateway.proofs.Lines.{writes_none, writes_on}
use Rattle.gateway.proofs.send.send_pieces.Goals as goal

pub pieces-init : goal.pieces-init
pieces-init g c = record {
  stays = record { store = refl; settings = refl };
  writes = writes_none _ c.requires.open;
  so_far = so_far_none c.args.found.now _ _;
  near = omega arith;
}

pub returns-in-Some-clause-writes : goal.returns-in-Some-clause-writes
returns-in-Some-clause-writes g c = writes_on c.pieces.invariant.writes c.in-Some.ensures.writes

pub returns-in-Some-clause-sends : goal.returns-in-Some-clause-sends
returns-in-Some-clause-sends g c = so_far_stops c.pieces.invariant.writes c.pieces.invariant.so_far _ c.pieces-test.true c.piece_size-size.ensures (g.N.Line.model c.send_piece.new.line) (g.W.Swift.history c.send_piece.new.state.store.now) c.in-Some.stop c.in-Some.ensures.sends

pub pieces-preserved : goal.pieces-preserved
pieces-preserved g c = record {
  stays = record { store = c.in-None.ensures.stays.store ∙ c.pieces.invariant.stays.store; settings = c.in-None.ensures.stays.settings ∙ c.pieces.invariant.stays.settings };
  writes = writes_on c.pieces.invariant.writes c.in-None.ensures.writes;
  so_far = so_far_more c.pieces.invariant.writes c.pieces.invariant.so_far _ c.pieces-test.true c.piece_size-size.ensures (g.N.Line.model c.send_piece.new.line) (g.W.Swift.history c.send_piece.new.state.store.now) c.in-None.ensures.sends;
  near = (let size = c.piece_size-size.ensures in let left = c.pieces-test.true in omega arith);
}

pub returns-clause-sends : goal.returns-clause-sends
returns-clause-sends g c = so_far_all c.pieces.invariant.so_far (let near = c.pieces.invariant.near in let done = c.pieces-test.false in omega arith)
