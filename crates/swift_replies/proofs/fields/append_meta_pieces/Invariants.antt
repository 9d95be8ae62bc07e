use Rattle.swift_replies.proofs.MetaLemmas.{HasRead}
use Rattle.swift_replies.proofs.fields.append_meta_pieces.Given as goal

abbrev pub invariant-pieces : goal.invariant-pieces
invariant-pieces l = HasRead l.headers l.pieces l.index
