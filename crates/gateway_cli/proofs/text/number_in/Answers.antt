use Rattle.std.proofs.Common.{ap, sym, ◌∙◌}
use Rattle.text_forms.specs.Numbers.{is_number}
use Rattle.gateway_cli.proofs.NumberLemmas.{unreadable}
use Rattle.gateway_cli.proofs.text.number_in.Goals as goal

-- the text writes a number that is too large for `u64`
pub returns-in_default-2 : goal.returns-in_default-2
returns-in_default-2 c =
    let number = ap (is_number 20) (sym c.as_bytes.ensures.value) ∙ (sym c.is_number.ensures ∙ c.if-not-is_number.false) in
    sym (unreadable c.args.least c.args.most c.args.text.now c.in_default.field-0 c.ranges.most.fits c.in_default.ensures.value.0 number)
