use Rattle.std.proofs.Common.{refl, ◌∙◌}
use Rattle.s3_names.specs.Id.{id_digits}
use Rattle.many_keys.proofs.Copying.{copying_all, copying_fault, copying_next, copying_none, copying_unlisted, fewer, of_the_cut, piece_at}
use Rattle.many_keys.proofs.OwnSegments.{own_next, stand_none}
use Rattle.many_keys.proofs.segments.copy_pieces.Goals as goal

pub loop-piece-init : goal.loop-piece-init
loop-piece-init g c = record { stays = record { store = refl; settings = refl }; copying = copying_none _ _ _ _ _ _ c.args.pieces.now _ c.new-list.ensures; own = λ observable. stand_none _ _ _ _ _ c.new-list.ensures }

pub copy_piece-requires-clause-number : goal.copy_piece-requires-clause-number
copy_piece-requires-clause-number g c = (piece_at c.loop-piece.piece-index c.args.pieces.now (record { number = 0; size = 0 }) c.requires.cut c.loop-piece-test.true).number

pub copy_piece-requires-clause-small : goal.copy_piece-requires-clause-small
copy_piece-requires-clause-small g c = (piece_at c.loop-piece.piece-index c.args.pieces.now (record { number = 0; size = 0 }) c.requires.cut c.loop-piece-test.true).small

pub returns-in_err-part-clause-asks : goal.returns-in_err-part-clause-asks
returns-in_err-part-clause-asks g c =
    copying_fault c.loop-piece.invariant.copying _ (of_the_cut (id_digits c.args.from_id) c.args.pieces.now c.loop-piece.piece-index (record { number = 0; size = 0 }) c.loop-piece-test.true)
    (fewer c.loop-piece.piece-index c.args.pieces.now c.loop-piece-test.true) c.in_err-part.ensures.asks _ c.from_residual.ensures.1

pub returns-in_err-push-clause-asks : goal.returns-in_err-push-clause-asks
returns-in_err-push-clause-asks g c =
    copying_unlisted c.loop-piece.invariant.copying _ (of_the_cut (id_digits c.args.from_id) c.args.pieces.now c.loop-piece.piece-index (record { number = 0; size = 0 }) c.loop-piece-test.true)
    (fewer c.loop-piece.piece-index c.args.pieces.now c.loop-piece-test.true) c.in_ok-part.ensures.asks _ c.from_residual-in_err-push.ensures.1

pub loop-piece-preserved : goal.loop-piece-preserved
loop-piece-preserved g c = record {
  stays = record {
    store = c.in_ok-part.ensures.stays.store ∙ c.loop-piece.invariant.stays.store;
    settings = c.in_ok-part.ensures.stays.settings ∙ c.loop-piece.invariant.stays.settings;
  };
  copying = copying_next c.args.pieces.now c.loop-piece.piece-index _ c.loop-piece.invariant.copying c.loop-piece-test.true c.requires.cut c.in_ok-part.ensures.asks c.in_ok-part.ensures.part c.in_ok-part.ensures.proper c.in_ok-push.ensures.ok;
  own = own_next c.args.pieces.now c.loop-piece.piece-index _ c.loop-piece.invariant.copying c.loop-piece-test.true c.requires.cut c.in_ok-part.ensures.asks.grows.on.told c.loop-piece.invariant.own c.in_ok-part.ensures.own c.in_ok-push.ensures.ok;
}

pub returns-clause-listed : goal.returns-clause-listed
returns-clause-listed g c = (copying_all c.args.pieces.now c.loop-piece.piece-index c.loop-piece.invariant.copying c.loop-piece-test.false).0

pub returns-clause-asks : goal.returns-clause-asks
returns-clause-asks g c = (copying_all c.args.pieces.now c.loop-piece.piece-index c.loop-piece.invariant.copying c.loop-piece-test.false).1

pub returns-clause-own : goal.returns-clause-own
returns-clause-own g c = c.loop-piece.invariant.own
