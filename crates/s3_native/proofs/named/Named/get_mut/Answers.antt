use Rattle.std.proofs.Common.{refl, ap, ◌∙◌}
use Rattle.name_table.specs.Table.{names_of}
use Rattle.name_table.proofs.lemmas.Tables.{table_get, table_written}
use Rattle.s3_native.proofs.named.Named.get_mut.Goals as goal

pub returns : goal.returns
returns g c =
    let es = c.self.inside.entries.entries in
    let name = c.args.name.now in (
      (
        refl,
        (λ w. table_written es c.args.self.now c.self.view_is (c.get_mut.follows.lender w).entries name w c.get_mut.result c.get_mut.ensures.value (c.get_mut.follows.holds w).0),
        ap (λ m. names_of m.entries) c.get_mut.follows.holds-at-none ∙ c.self.view_is,
      ),
      record { lends = tt; value = c.get_mut.ensures.value ∙ table_get es c.args.self.now c.self.view_is name },
    )
