use Rattle.std.proofs.Common.{sym, ap, ◌∙◌}
use Rattle.std.specs.Map.{lookup}
use Rattle.name_table.specs.Table.{names_of}
use Rattle.name_table.proofs.lemmas.Tables.{is_named, table_remove}
use Rattle.s3_native.proofs.named.Named.drop_at.Goals as goal

pub returns : goal.returns
returns g c =
    let none = sym (ap (lookup (is_named c.args.name.now)) c.remove.ensures.entries) ∙ c.remove.ensures.updates.1 in
    ap names_of c.remove.ensures.entries ∙ table_remove c.self.inside.entries.entries c.args.self.now c.self.view_is c.args.name.now none
