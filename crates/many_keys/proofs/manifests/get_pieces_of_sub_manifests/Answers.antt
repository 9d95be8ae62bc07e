use Rattle.std.proofs.Common.{refl, arith}
use Rattle.std.proofs.lemmas.Bool.Decides.{nat_tests}
use Rattle.many_keys.proofs.ReadCalls.{subs_asks, subs_fault, too_many}
use Rattle.many_keys.proofs.manifests.get_pieces_of_sub_manifests.Goals as goal

pub returns-then-count-gt-MOST_SUB_MANIFESTS-clause-asks : goal.returns-then-count-gt-MOST_SUB_MANIFESTS-clause-asks
returns-then-count-gt-MOST_SUB_MANIFESTS-clause-asks g c = λ key etag long.
    too_many c.law_object_listed.ensures c.args.listed.now c.fits.ensures c.requires.subs _ _ refl (grind (arith, nat_tests, c.if-count-gt-MOST_SUB_MANIFESTS.true))

pub returns-in_err-pieces-clause-asks : goal.returns-in_err-pieces-clause-asks
returns-in_err-pieces-clause-asks g c = λ key etag long.
    subs_fault c.law_object_listed.ensures c.args.listed.now c.fits.ensures c.requires.subs refl c.id_of_list-id.ensures c.in_err-pieces.ensures.asks _ c.from_residual.ensures.1

pub returns-clause-asks : goal.returns-clause-asks
returns-clause-asks g c = λ key etag long.
    subs_asks c.law_object_listed.ensures c.args.listed.now c.fits.ensures c.requires.subs c.in_ok-pieces.pieces refl c.id_of_list-id.ensures c.in_ok-pieces.ensures.asks _ c.proper_cut.ensures.due c.proper_cut.ensures.own
