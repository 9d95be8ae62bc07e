use Rattle.std.specs.Prelude.{nat_eq}
use Rattle.std.specs.List.{starts_with}
use Rattle.std.proofs.Common.{sym, ap, ◌∙◌}
use Rattle.swift_calls.specs.Bodies.{item_of}
use Rattle.swift_store.proofs.Listing.{led_full, led_next, led_stops, led_ends, run_lent}
use Rattle.swift_store.proofs.folder.run.Goals as goal

pub returns-then-len-limit : goal.returns-then-len-limit
returns-then-len-limit c =
    led_full (λ e. item_of e.0.items e.1) (λ e. starts_with nat_eq e.0.items c.args.prefix.now) c.args.limit c.into_iter-name-iterator.result c.loop-name.name-iterator c.loop-name.items c.loop-name.invariant (sym c.len.ensures ∙ c.if-len-limit.true)
    ∙ run_lent (λ e. item_of e.0 e.1) c.args.prefix.now c.args.limit c.as_map.result.now.entries c.args.objects.now c.as_map.ensures c.range-name-items.ensures.ordered c.args.start c.into_iter-name-iterator.result (c.into_iter-name-iterator.ensures.into_iter_gives ∙ c.range-name-items.ensures.between tt)

pub returns-then-not-starts_with : goal.returns-then-not-starts_with
returns-then-not-starts_with c =
    led_stops (λ e. item_of e.0.items e.1) (λ e. starts_with nat_eq e.0.items c.args.prefix.now) c.args.limit c.into_iter-name-iterator.result c.loop-name.name-iterator c.next.new.self (c.in-Some.name.now, c.in-Some.object.now) c.loop-name.items c.loop-name.invariant c.in-Some.ensures.steps (ap (λ l. starts_with nat_eq l c.args.prefix.now) (sym c.deref.ensures.value) ∙ sym c.starts_with.ensures.value ∙ c.if-not-starts_with.true)
    ∙ run_lent (λ e. item_of e.0 e.1) c.args.prefix.now c.args.limit c.as_map.result.now.entries c.args.objects.now c.as_map.ensures c.range-name-items.ensures.ordered c.args.start c.into_iter-name-iterator.result (c.into_iter-name-iterator.ensures.into_iter_gives ∙ c.range-name-items.ensures.between tt)

pub loop-name-preserved : goal.loop-name-preserved
loop-name-preserved c =
    led_next (λ e. item_of e.0.items e.1) (λ e. starts_with nat_eq e.0.items c.args.prefix.now) c.args.limit c.into_iter-name-iterator.result c.loop-name.name-iterator c.next.new.self (c.in-Some.name.now, c.in-Some.object.now) c.loop-name.items c.add_item.new.items (item_of c.deref-in-loop-name.result.now c.in-Some.object.now)
    c.loop-name.invariant c.in-Some.ensures.steps (λ e. c.if-len-limit.false (c.len.ensures ∙ e)) (ap (λ l. starts_with nat_eq l c.args.prefix.now) (sym c.deref.ensures.value) ∙ sym c.starts_with.ensures.value ∙ c.if-not-starts_with.false) c.in_ok-add_item.ensures (ap (λ n. item_of n c.in-Some.object.now) c.deref-in-loop-name.ensures.value)

pub returns : goal.returns
returns c =
    led_ends (λ e. item_of e.0.items e.1) (λ e. starts_with nat_eq e.0.items c.args.prefix.now) c.args.limit c.into_iter-name-iterator.result c.loop-name.name-iterator c.loop-name.items c.loop-name.invariant c.in-None.ensures.steps.0
    ∙ run_lent (λ e. item_of e.0 e.1) c.args.prefix.now c.args.limit c.as_map.result.now.entries c.args.objects.now c.as_map.ensures c.range-name-items.ensures.ordered c.args.start c.into_iter-name-iterator.result (c.into_iter-name-iterator.ensures.into_iter_gives ∙ c.range-name-items.ensures.between tt)
