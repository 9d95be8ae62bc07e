use Rattle.std.proofs.Common.{ap, sym, ◌∙◌}
use Rattle.s3_machine.specs.Items.{begins}
use Rattle.list_pages.proofs.lemmas.Texts.{first_here, first_more, first_within}
use Rattle.list_pages.proofs.text.roll_delimiter_end.Goals as goal

pub returns-then-begins-clause-text : goal.returns-then-begins-clause-text
returns-then-begins-clause-text c =
    first_here c.args.delimiter.now c.args.text.now c.loop-i.i c.loop-i-test.true (ap (begins c.args.delimiter.now) (sym c.split_at.ensures.back) ∙ sym c.begins.ensures ∙ c.if-begins.true) c.loop-i.invariant

pub returns-then-begins-clause-within : goal.returns-then-begins-clause-within
returns-then-begins-clause-within c =
    first_within c.args.delimiter.now c.args.text.now c.loop-i.i c.loop-i-test.true (ap (begins c.args.delimiter.now) (sym c.split_at.ensures.back) ∙ sym c.begins.ensures ∙ c.if-begins.true)

pub loop-i-preserved : goal.loop-i-preserved
loop-i-preserved c =
    first_more c.args.delimiter.now c.args.text.now c.loop-i.i c.loop-i-test.true (ap (begins c.args.delimiter.now) (sym c.split_at.ensures.back) ∙ sym c.begins.ensures ∙ c.if-begins.false) c.loop-i.invariant
