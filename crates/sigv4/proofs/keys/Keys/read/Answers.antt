use Rattle.std.proofs.Common.{sym, ◌∙◌}
use Rattle.sigv4.proofs.KeysLemmas.{has_read_nothing, has_read_more, has_read_all, has_read_bad, has_read_twice, filled_where, none_where}
use Rattle.sigv4.proofs.keys.Keys.read.Goals as goal

pub lines-init : goal.lines-init
lines-init c = record {
  reads = rw c.new-keys.ensures (has_read_nothing c.args.text.now);
  finds = rw c.new-keys.ensures c.new-index.ensures;
}

pub returns-then-not-is_key : goal.returns-then-not-is_key
returns-then-not-is_key c =
    rw c.len.ensures (has_read_bad _ _ _ _ _ _ c.lines.invariant.reads (filled_where _ _ c.is_empty.ensures c.lines-test.true) c.cut.ensures.before c.cut.ensures.behind c.in_ok-key.ensures (sym c.is_key.ensures ∙ c.if-not-is_key.true))

pub returns-then-has : goal.returns-then-has
returns-then-has c =
    let known = rw (c.as_slice.ensures, c.as_slice-in-lines.ensures) at (sym c.has.ensures ∙ c.if-has.true) in
    rw c.len-then-has.ensures (has_read_twice _ _ _ _ _ _ c.lines.invariant.reads (filled_where _ _ c.is_empty.ensures c.lines-test.true) c.cut.ensures.before c.cut.ensures.behind c.in_ok-key.ensures (sym c.is_key.ensures ∙ c.if-not-is_key.false) known)

pub has-requires : goal.has-requires
has-requires c = rw c.as_slice.ensures c.lines.invariant.finds

pub add-requires-clause-finds : goal.add-requires-clause-finds
add-requires-clause-finds c = rw c.as_slice-in-lines-2.ensures c.lines.invariant.finds

pub lines-preserved : goal.lines-preserved
lines-preserved c = record {
  reads =
      let fresh = rw (c.as_slice.ensures, c.as_slice-in-lines.ensures) at (sym c.has.ensures ∙ c.if-has.false) in
      has_read_more _ _ _ _ _ _ _ c.lines.invariant.reads (filled_where _ _ c.is_empty.ensures c.lines-test.true) c.cut.ensures.before c.cut.ensures.behind c.in_ok-key.ensures (sym c.is_key.ensures ∙ c.if-not-is_key.false) fresh c.in_ok-push.ensures.ok;
  finds =
      let more = c.in_ok-add.ensures c.in_ok-key.key (sym c.as_slice-in-lines-3.ensures) in
      rw c.in_ok-push.ensures.ok (rw c.as_slice-in-lines-2.ensures at more);
}

pub invariant_of-result : goal.invariant_of-result
invariant_of-result c = (c.lines.invariant.reads.good, c.lines.invariant.finds)

pub returns : goal.returns
returns c = has_read_all _ _ _ c.lines.invariant.reads (none_where _ _ c.is_empty.ensures c.lines-test.false)
