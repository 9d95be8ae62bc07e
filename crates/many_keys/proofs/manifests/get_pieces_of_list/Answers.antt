use Rattle.std.proofs.Common.{sym, ◌∙◌}
use Rattle.many_keys.proofs.ReadCalls.{as_subs, direct_asks}
use Rattle.many_keys.proofs.manifests.get_pieces_of_list.Goals as goal

pub get_pieces_of_sub_manifests-requires : goal.get_pieces_of_sub_manifests-requires
get_pieces_of_sub_manifests-requires g c = record { subs = sym c.lists_sub_manifests.ensures ∙ c.if-lists_sub_manifests.true }

pub returns-then-lists_sub_manifests-clause-asks : goal.returns-then-lists_sub_manifests-clause-asks
returns-then-lists_sub_manifests-clause-asks g c = λ key etag long.
    as_subs c.law_object_listed.ensures c.args.listed.now c.fits.ensures (sym c.lists_sub_manifests.ensures ∙ c.if-lists_sub_manifests.true) (c.get_pieces_of_sub_manifests.ensures.asks key etag long)

pub returns-clause-asks : goal.returns-clause-asks
returns-clause-asks g c = λ key etag long.
    direct_asks c.law_object_listed.ensures c.args.listed.now c.fits.ensures _ _ (sym c.lists_sub_manifests.ensures ∙ c.if-lists_sub_manifests.false) c.cut_of_list.ensures.due c.cut_of_list.ensures.own
