use Rattle.std.proofs.Common.{◌∙◌}
use Rattle.name_table.proofs.lemmas.Tables.{table_get}
use Rattle.s3_native.proofs.named.Named.get.Goals as goal

pub returns : goal.returns
returns g c = c.get.ensures.value ∙ table_get c.self.inside.entries.entries c.args.self.now c.self.view_is c.args.name.now
