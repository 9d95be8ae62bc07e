use Rattle.std.proofs.Common.{ap, sym, ◌∙◌, Some}
use Rattle.http_answers.proofs.lemmas.FieldLemmas.{one_field, many_fields, no_field}
use Rattle.http_answers.proofs.fields.field.Goals as goal

pub returns-then-has_single_header : goal.returns-then-has_single_header
returns-then-has_single_header c =
    ap (λ value. Some (Some value)) c.first_value.ensures
    ∙ sym (one_field c.args.name.now c.args.headers.now (sym c.has_single_header.ensures ∙ c.if-has_single_header.true))

pub returns-then-has_header : goal.returns-then-has_header
returns-then-has_header c =
    sym (many_fields c.args.name.now c.args.headers.now (sym c.has_single_header.ensures ∙ c.if-has_single_header.false) (sym c.has_header.ensures ∙ c.if-has_header.true))

pub returns-else-has_header : goal.returns-else-has_header
returns-else-has_header c =
    sym (no_field c.args.name.now c.args.headers.now (sym c.has_header.ensures ∙ c.if-has_header.false))
