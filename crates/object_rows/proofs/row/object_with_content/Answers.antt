use Rattle.std.proofs.Common.{◌∙◌, sym, subst, Ok, []}
use Rattle.swift_calls.specs.declared.account.Content.{Content}
use Rattle.object_rows.specs.Rows.{ReadsContent}
use Rattle.object_rows.proofs.RowLemmas.{content_has_row, columns_read, columns_unread}
use Rattle.object_rows.proofs.row.object_with_content.Goals as goal

pub has_columns-requires : goal.has_columns-requires
has_columns-requires c = content_has_row c.in_ok-object.object c.args.content c.args.columns.now.meta.now c.requires c.in_ok-object.ensures.content c.in_ok-object.ensures.pieces

pub returns-then-branch : goal.returns-then-branch
returns-then-branch c = λ kind body reads.
    let made = c.in_ok-object.ensures in
    columns_read c.args.name.now (record { kind = kind; content_type = c.args.columns.now.content_type.now; meta = c.args.columns.now.meta.now; size = c.args.columns.now.size; hash = []; body = body }) c.in_ok-object.object made.typed made.pieces
    (subst (λ (content : Content). ReadsContent kind body (Ok content)) (sym made.content) reads) made.named (sym c.in_ok-has_columns.ensures ∙ c.if-branch.true)

pub returns-else-branch : goal.returns-else-branch
returns-else-branch c = λ kind body reads.
    let made = c.in_ok-object.ensures in
    columns_unread c.args.name.now (record { kind = kind; content_type = c.args.columns.now.content_type.now; meta = c.args.columns.now.meta.now; size = c.args.columns.now.size; hash = []; body = body }) c.in_ok-object.object made.typed made.pieces
    (subst (λ (content : Content). ReadsContent kind body (Ok content)) (sym made.content) reads) (sym c.in_ok-has_columns.ensures ∙ c.if-branch.false)
