use Rattle.std.proofs.Common.{length}
use Rattle.swift_marks.proofs.PackLemmas.{HasRead}
use Rattle.swift_marks.proofs.packs.read_pack_entries.Given as goal

abbrev pub invariant-entries : goal.invariant-entries
invariant-entries l = HasRead l.text l.meta l.rest

abbrev pub decreases-entries : goal.decreases-entries
decreases-entries l = length l.rest
