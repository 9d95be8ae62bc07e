use Rattle.std.proofs.Common.{sym, ap, ◌∙◌, arith}
use Rattle.s3_machine.specs.Items.{begins}
use Rattle.s3_native.proofs.Rolls.{here_within, past_all, past_here, past_more, past_none, roll_filled}
use Rattle.s3_native.proofs.listing.native_roll_end.Goals as goal

pub loop-i-init : goal.loop-i-init
loop-i-init c = past_none c.args.delimiter.now c.args.text.now

pub returns-then-begins-clause-text : goal.returns-then-begins-clause-text
returns-then-begins-clause-text c =
    past_here c.args.delimiter.now c.args.text.now c.loop-i.i c.loop-i-test.true
    (ap (begins c.args.delimiter.now) (sym c.split_at.ensures.back) ∙ sym c.begins.ensures ∙ c.if-begins.true) c.loop-i.invariant
    ∙ sym (roll_filled c.args.delimiter.now c.args.text.now c.if-delimiter-eq0.false)

pub returns-then-begins-clause-within : goal.returns-then-begins-clause-within
returns-then-begins-clause-within c =
    here_within c.args.delimiter.now c.args.text.now c.loop-i.i c.loop-i-test.true
    (ap (begins c.args.delimiter.now) (sym c.split_at.ensures.back) ∙ sym c.begins.ensures ∙ c.if-begins.true)

pub loop-i-preserved : goal.loop-i-preserved
loop-i-preserved c =
    past_more c.args.delimiter.now c.args.text.now c.loop-i.i c.loop-i-test.true
    (ap (begins c.args.delimiter.now) (sym c.split_at.ensures.back) ∙ sym c.begins.ensures ∙ c.if-begins.false) c.loop-i.invariant

pub returns-clause-text : goal.returns-clause-text
returns-clause-text c =
    past_all c.args.delimiter.now c.args.text.now c.loop-i.i (omega (arith, c.loop-i-test.false)) c.loop-i.invariant
    ∙ sym (roll_filled c.args.delimiter.now c.args.text.now c.if-delimiter-eq0.false)
