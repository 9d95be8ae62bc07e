use Rattle.std.proofs.Common.{ap, sym, subst, ◌∙◌, arith}
use Rattle.std.specs.List.{All}
use Rattle.s3_machine.specs.Shown.{IsShownItem}
use Rattle.list_pages.specs.Rolls.{Rolls, head_in}
use Rattle.list_pages.proofs.Taking.{all_more, takes_hidden, takes_again, takes_full, takes_row}
use Rattle.list_pages.proofs.roll.Roll.take.Goals as goal

pub returns-then-not-is_behind-clause-rolled : goal.returns-then-not-is_behind-clause-rolled
returns-then-not-is_behind-clause-rolled c = λ seen r b. takes_hidden c.args.self.now c.args.item.now seen c.requires.prefix r b c.as_slice-name.ensures
    (c.as_slice.ensures ∙ ap (λ (s : Rolls). s.wanted.prefix) c.self.view_is) (c.as_slice-2.ensures ∙ ap (λ (s : Rolls). s.wanted.delimiter) c.self.view_is) (c.roll_text_end-end.ensures.row (head_in c.args.item.now))
    (sym c.is_behind.ensures ∙ c.if-not-is_behind.true)

pub returns-then-is_last_text-clause-rolled : goal.returns-then-is_last_text-clause-rolled
returns-then-is_last_text-clause-rolled c = λ seen r b. takes_again c.args.self.now c.args.item.now seen c.requires.prefix r b c.as_slice-name.ensures
    (c.as_slice.ensures ∙ ap (λ (s : Rolls). s.wanted.prefix) c.self.view_is) (c.as_slice-2.ensures ∙ ap (λ (s : Rolls). s.wanted.delimiter) c.self.view_is) (c.roll_text_end-end.ensures.row (head_in c.args.item.now))
    c.requires.room (sym c.is_last_text.ensures ∙ c.if-is_last_text.true)

pub returns-clause-rolled : goal.returns-clause-rolled
returns-clause-rolled c = λ seen r b. takes_full c.args.self.now c.args.item.now seen c.requires.prefix r b c.as_slice-name.ensures
    (c.as_slice.ensures ∙ ap (λ (s : Rolls). s.wanted.prefix) c.self.view_is) (c.as_slice-2.ensures ∙ ap (λ (s : Rolls). s.wanted.delimiter) c.self.view_is) (c.roll_text_end-end.ensures.row (head_in c.args.item.now))
    c.requires.room (sym c.is_behind.ensures ∙ c.if-not-is_behind.false) (sym c.is_last_text.ensures ∙ c.if-is_last_text.false) c.self.view_is (omega (arith, c.if-len-self.false, c.len.ensures))

pub returns-then-len-self-clause-rolled : goal.returns-then-len-self-clause-rolled
returns-then-len-self-clause-rolled c = λ seen r b. takes_row c.args.self.now c.args.item.now seen c.requires.prefix r b c.as_slice-name.ensures
    (c.as_slice.ensures ∙ ap (λ (s : Rolls). s.wanted.prefix) c.self.view_is) (c.as_slice-2.ensures ∙ ap (λ (s : Rolls). s.wanted.delimiter) c.self.view_is) (c.roll_text_end-end.ensures.row (head_in c.args.item.now))
    c.requires.room (sym c.is_behind.ensures ∙ c.if-not-is_behind.false) (sym c.is_last_text.ensures ∙ c.if-is_last_text.false) c.self.view_is _ c.in_ok-row.row c.in_ok-push.ensures.ok c.in_ok-row.ensures.row
    (omega (arith, c.if-len-self.true, c.len.ensures))

pub invariant_of-self-then-len-self : goal.invariant_of-self-then-len-self
invariant_of-self-then-len-self c = subst (All IsShownItem) (sym c.in_ok-push.ensures.ok) (all_more IsShownItem c.self.inside.items c.in_ok-row.row c.self.invariant c.in_ok-row.ensures.shown)
