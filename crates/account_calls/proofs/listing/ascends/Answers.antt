use Rattle.std.proofs.Common.{ap, drop, sym, ◌+◌, ◌∙◌}
use Rattle.std.specs.Ordering.{is_lt}
use Rattle.gate_base.specs.Maps.{name_cmp}
use Rattle.account_calls.specs.Listing.{ascends}
use Rattle.account_calls.proofs.lemmas.Pages.{ascends_end, ascends_on, ascends_start, ascends_stop}
use Rattle.account_calls.proofs.listing.ascends.Goals as goal

pub loop-name-init : goal.loop-name-init
loop-name-init c = ascends_start c.args.marker.now c.args.names.now

pub returns-then-not-is_lt : goal.returns-then-not-is_lt
returns-then-not-is_lt c = sym (ascends_stop c.loop-name.last.now c.name-item.result c.args.names.now c.loop-name.name-index c.loop-name.invariant c.loop-name-test.true c.name-item.is
    (ap is_lt (ap (name_cmp c.loop-name.last.now) (sym c.as_slice.ensures) ∙ sym c.cmp.ensures) ∙ sym c.is_lt.ensures ∙ c.if-not-is_lt.true))

pub loop-name-preserved : goal.loop-name-preserved
loop-name-preserved c = ascends_on c.loop-name.last.now c.name-item.result c.args.names.now c.loop-name.name-index c.loop-name.invariant c.loop-name-test.true c.name-item.is
    (ap is_lt (ap (name_cmp c.loop-name.last.now) (sym c.as_slice.ensures) ∙ sym c.cmp.ensures) ∙ sym c.is_lt.ensures ∙ c.if-not-is_lt.false)
    ∙ ap (λ l. ascends l (drop (c.loop-name.name-index + 1) c.args.names.now)) (sym c.as_slice-last.ensures)

pub returns : goal.returns
returns c = sym (ascends_end c.loop-name.last.now c.args.names.now c.loop-name.name-index c.loop-name.invariant c.loop-name-test.false)
