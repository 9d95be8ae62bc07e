use Rattle.std.proofs.Common.{ap, sym, ◌∙◌}
use Rattle.text_forms.specs.Numbers.{is_number}
use Rattle.store_cmd.proofs.CountLemmas.{uncounted}
use Rattle.store_cmd.proofs.words.store_connection_count.Goals as goal

-- the text writes a number that is too large for `u64`
pub returns-in_default-2 : goal.returns-in_default-2
returns-in_default-2 c =
    let number = ap (is_number 20) (sym c.as_bytes.ensures.value) ∙ (sym c.is_number.ensures ∙ c.if-not-is_number.false) in
    sym (uncounted c.args.text.now c.in_default.field-0 c.in_default.ensures.value.0 number)
