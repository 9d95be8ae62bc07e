use Rattle.many_keys.proofs.ReadCalls.{list_fault, list_then}
use Rattle.many_keys.proofs.manifests.get_pieces_to_copy.Goals as goal

pub returns-in_err-listed-clause-asks : goal.returns-in_err-listed-clause-asks
returns-in_err-listed-clause-asks g c = list_fault (c.in_err-listed.ensures.asks c.args.head.now.etag c.args.head.now.size c.requires.of_parts c.requires.filled) _ c.from_residual.ensures.1

pub returns-clause-asks : goal.returns-clause-asks
returns-clause-asks g c = list_then c.in_ok-listed.listed c.as_slice.ensures (c.in_ok-listed.ensures.asks c.args.head.now.etag c.args.head.now.size c.requires.of_parts c.requires.filled) (c.get_pieces_of_list.ensures.asks c.args.key.now c.args.head.now.etag c.requires.of_parts)
