use Rattle.std.proofs.Common.{refl}
use Rattle.account_calls.proofs.lemmas.One.{not_asked}
use Rattle.planner.proofs.Finding.{piece_asked, piece_lost}
use Rattle.planner.proofs.Unchanged.{piece_of_file}
use Rattle.planner.proofs.reading.read_piece.Goals as goal

pub returns-clause-asks : goal.returns-clause-asks
returns-clause-asks g c =
    piece_asked c.args.found.now c.args.at c.args.size c.requires.found c.requires.filled c.requires.within c.in_ok-bucket.ensures c.in_ok-key.ensures c.as_slice.ensures
    c.in_ok-told.told c.in_ok-told.ensures.asks _ c.piece_of.ensures.end c.piece_of.ensures.no_failure

pub returns-in_err-bucket-clause-asks : goal.returns-in_err-bucket-clause-asks
returns-in_err-bucket-clause-asks g c = not_asked _ _ _ c.from_residual.ensures.1

pub returns-in_err-key-clause-asks : goal.returns-in_err-key-clause-asks
returns-in_err-key-clause-asks g c = not_asked _ _ _ c.from_residual-in_err-key.ensures.1

pub returns-in_err-told-clause-asks : goal.returns-in_err-told-clause-asks
returns-in_err-told-clause-asks g c =
    piece_lost c.args.found.now c.args.at c.args.size c.requires.found c.requires.filled c.requires.within c.in_ok-bucket.ensures c.in_ok-key.ensures c.as_slice.ensures
    c.in_err-told.ensures.asks _ c.from_residual-in_err-told.ensures.1

pub returns-in_err-bucket-clause-account : goal.returns-in_err-bucket-clause-account
returns-in_err-bucket-clause-account g c = λ observable. refl

pub returns-in_err-key-clause-account : goal.returns-in_err-key-clause-account
returns-in_err-key-clause-account g c = λ observable. refl

pub returns-in_err-told-clause-account : goal.returns-in_err-told-clause-account
returns-in_err-told-clause-account g c = c.in_err-told.ensures.leaves

pub returns-clause-account : goal.returns-clause-account
returns-clause-account g c = c.in_ok-told.ensures.leaves

pub returns-clause-unchanged : goal.returns-clause-unchanged
returns-clause-unchanged g c =
    piece_of_file c.args.found.now c.args.size (g.W.Swift.history c.args.state.now.store.now) c.in_ok-bucket.ensures c.in_ok-key.ensures c.as_slice.ensures c.in_ok-told.told c.in_ok-told.ensures.unchanged _ c.piece_of.ensures.end
