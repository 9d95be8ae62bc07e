use Rattle.std.proofs.Common.{ap, ◌∙◌}
use Rattle.s3_native.specs.Numbered.{numbers_of}
use Rattle.s3_native.proofs.Numbers.{number_insert}
use Rattle.s3_native.proofs.numbered.Numbered.put.Goals as goal

pub returns-clause-ok : goal.returns-clause-ok
returns-clause-ok g c = ap numbers_of c.in_ok-insert.ensures.entries ∙ number_insert c.self.inside.entries.entries c.args.self.now c.self.view_is c.args.number c.args.value
