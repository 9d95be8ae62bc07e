use Rattle.std.proofs.Common.{sym, ◌∙◌}
use Rattle.store_cmd.proofs.Naming.{place_named}
use Rattle.store_cmd.proofs.words.asked_with_store_names.Goals as goal

pub returns-clause-place : goal.returns-clause-place
returns-clause-place c =
    place_named c.args.token.now c.args.account.now c.in_ok-from_slice.field-0 c.in_ok-from_slice-2.field-0 c.args.connections c.args.file c.in_ok-from_slice.ensures c.in_ok-from_slice-2.ensures
    (sym c.is_name.ensures ∙ c.if-not-is_name.false) (sym c.is_name-2.ensures ∙ c.if-not-is_name-2.false)
