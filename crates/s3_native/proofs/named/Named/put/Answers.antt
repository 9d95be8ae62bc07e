use Rattle.std.proofs.Common.{ℕ, List, ap, ◌∙◌}
use Rattle.std.specs.FinMap.{insert}
use Rattle.name_table.specs.Table.{names_of}
use Rattle.name_table.proofs.lemmas.Tables.{table_insert}
use Rattle.s3_native.proofs.named.Named.put.Goals as goal

pub returns-clause-ok : goal.returns-clause-ok
returns-clause-ok g c =
    let put = table_insert c.self.inside.entries.entries c.args.self.now c.self.view_is c.in_ok-key.key c.args.value in
    ap names_of c.in_ok-insert.ensures.entries ∙ put ∙ ap (λ (n : List ℕ). insert c.args.self.now n c.args.value) c.in_ok-key.ensures.items
