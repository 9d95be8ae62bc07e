use Rattle.std.proofs.Common.{sym, ◌∙◌}
use Rattle.list_pages.proofs.lemmas.Texts.{begins_long, row_up, some_bytes}
use Rattle.list_pages.proofs.text.roll_text_end.Goals as goal

pub split_at-requires : goal.split_at-requires
split_at-requires c = begins_long c.args.prefix.now c.args.key.now c.requires

pub returns-in-Some-clause-row : goal.returns-in-Some-clause-row
returns-in-Some-clause-row c = λ h. row_up c.args.prefix.now c.args.delimiter.now c.args.key.now _ c.in-Some.n h c.requires (some_bytes c.args.delimiter.now (sym c.is_empty.ensures ∙ c.if-is_empty.false)) c.split_at.ensures.back c.in-Some.ensures.text
