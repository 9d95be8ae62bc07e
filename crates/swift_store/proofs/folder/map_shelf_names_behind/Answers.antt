use Rattle.std.specs.Prelude.{nat_eq}
use Rattle.std.specs.List.{starts_with}
use Rattle.std.specs.declared.ops.Bound.TheVariants.{Excluded}
use Rattle.std.proofs.Common.{[], refl, sym, ◌∙◌}
use Rattle.swift_store.proofs.Listing.{led_full, led_next, led_ends, run_seen, names_page}
use Rattle.swift_store.proofs.folder.map_shelf_names_behind.Goals as goal

pub returns-then-len-limit : goal.returns-then-len-limit
returns-then-len-limit c =
    led_full (λ e. e.0.items) (λ e. starts_with nat_eq e.0.items []) c.args.limit c.into_iter-name-iterator.result c.loop-name.name-iterator c.loop-name.names c.loop-name.invariant (sym c.len.ensures ∙ c.if-len-limit.true)
    ∙ run_seen (λ e. e.0) [] c.args.limit c.as_map.result.now.entries c.args.folders.now c.as_map.ensures c.range-name-items.ensures.ordered (Excluded c.args.after.now) c.into_iter-name-iterator.result (c.into_iter-name-iterator.ensures.into_iter_gives ∙ c.range-name-items.ensures.between tt)
    ∙ names_page c.args.limit c.args.after.now.items c.args.after.now.items c.args.folders.now refl

pub loop-name-preserved : goal.loop-name-preserved
loop-name-preserved c =
    led_next (λ e. e.0.items) (λ e. starts_with nat_eq e.0.items []) c.args.limit c.into_iter-name-iterator.result c.loop-name.name-iterator c.next.new.self (c.in-Some.name.now, c.in-Some.field-0-1.now) c.loop-name.names c.add_name.new.names c.deref.result.now
    c.loop-name.invariant c.in-Some.ensures.steps (λ e. c.if-len-limit.false (c.len.ensures ∙ e)) refl c.in_ok-add_name.ensures c.deref.ensures.value

pub returns : goal.returns
returns c =
    led_ends (λ e. e.0.items) (λ e. starts_with nat_eq e.0.items []) c.args.limit c.into_iter-name-iterator.result c.loop-name.name-iterator c.loop-name.names c.loop-name.invariant c.in-None.ensures.steps.0
    ∙ run_seen (λ e. e.0) [] c.args.limit c.as_map.result.now.entries c.args.folders.now c.as_map.ensures c.range-name-items.ensures.ordered (Excluded c.args.after.now) c.into_iter-name-iterator.result (c.into_iter-name-iterator.ensures.into_iter_gives ∙ c.range-name-items.ensures.between tt)
    ∙ names_page c.args.limit c.args.after.now.items c.args.after.now.items c.args.folders.now refl
