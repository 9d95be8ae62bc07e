use Rattle.std.proofs.Common.{sym, ◌∙◌}
use Rattle.swift_marks.proofs.PackLemmas.{read_more, read_bad, read_all, others_are_shorter, filled_where}
use Rattle.swift_marks.proofs.packs.read_pack_entries.Goals as goal

pub returns-then-not-is_behind : goal.returns-then-not-is_behind
returns-then-not-is_behind c =
    let past = rw c.pairs.ensures.value at (sym c.is_behind.ensures ∙ c.if-not-is_behind.true) in
    read_bad _ _ _ _ _ _ c.entries.invariant (filled_where _ c.entries-test.true) c.cut_pack_entry.ensures.name c.cut_pack_entry.ensures.value c.cut_pack_entry.ensures.behind past

pub entries-smaller : goal.entries-smaller
entries-smaller c = rw c.cut_pack_entry.ensures.behind (others_are_shorter _ (filled_where _ c.entries-test.true))

pub entries-preserved : goal.entries-preserved
entries-preserved c =
    let past = rw c.pairs.ensures.value at (sym c.is_behind.ensures ∙ c.if-not-is_behind.false) in
    read_more _ _ _ _ _ _ _ _ c.entries.invariant (filled_where _ c.entries-test.true) c.cut_pack_entry.ensures.name c.cut_pack_entry.ensures.value c.cut_pack_entry.ensures.behind past c.in_ok-add.ensures.answer c.in_ok-add.ensures.ok

pub returns : goal.returns
returns c = read_all _ _ _ c.entries.invariant c.entries-test.false
