use Rattle.std.proofs.Common.{◌≡◌, true, subst, sym}
use Rattle.many_keys.specs.CopiedLists.{is_cut, size_of_cut}
use Rattle.many_keys.proofs.segments.copy_source_segments.Goals as goal

pub copy_pieces-requires : goal.copy_pieces-requires
copy_pieces-requires g c = record { cut = subst (λ l. is_cut (size_of_cut l) l ≡ true) (sym c.as_slice.ensures) c.requires.cut }

pub returns-clause-listed : goal.returns-clause-listed
returns-clause-listed g c = rw c.as_slice.ensures at c.copy_pieces.ensures.listed

pub returns-clause-asks : goal.returns-clause-asks
returns-clause-asks g c = rw c.as_slice.ensures at c.copy_pieces.ensures.asks
