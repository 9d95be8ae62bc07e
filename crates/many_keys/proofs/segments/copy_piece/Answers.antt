use Rattle.account_calls.proofs.lemmas.One.{not_asked}
use Rattle.many_keys.proofs.Copying.{piece_copied, piece_unread}
use Rattle.std.proofs.Common.{ap, refl}
use Rattle.swift_calls.specs.Account.{find_object}
use Rattle.many_keys.proofs.OwnSegments.{own_behind, own_failed}
use Rattle.many_keys.proofs.segments.copy_piece.Goals as goal

pub returns-in_err-copy-clause-asks : goal.returns-in_err-copy-clause-asks
returns-in_err-copy-clause-asks g c = not_asked _ _ _ c.from_residual.ensures.1

pub returns-in_err-bytes-clause-asks : goal.returns-in_err-bytes-clause-asks
returns-in_err-bytes-clause-asks g c = piece_unread c.in_err-bytes.ensures.asks _ c.from_residual-in_err-bytes.ensures.1

pub returns-clause-asks : goal.returns-clause-asks
returns-clause-asks g c = piece_copied c.in_ok-bytes.ensures.asks (rw (c.in_ok-copy.ensures, c.of.ensures) at c.put_copied_segment.ensures.asks)

pub returns-in_err-copy-clause-own : goal.returns-in_err-copy-clause-own
returns-in_err-copy-clause-own g c = own_failed _ _ c.from_residual.ensures.1 (λ observable container other never. refl)

pub returns-in_err-bytes-clause-own : goal.returns-in_err-bytes-clause-own
returns-in_err-bytes-clause-own g c = own_failed _ _ c.from_residual-in_err-bytes.ensures.1 (λ observable container other never. ap (λ tree. find_object tree container other) (c.in_err-bytes.ensures.leaves observable))

pub returns-clause-own : goal.returns-clause-own
returns-clause-own g c = own_behind c.in_ok-bytes.ensures.leaves c.in_ok-bytes.ensures.asks.grows.on.observable (rw (c.in_ok-copy.ensures, c.of.ensures) at c.put_copied_segment.ensures.own)
