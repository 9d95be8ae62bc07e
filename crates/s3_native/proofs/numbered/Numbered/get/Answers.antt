use Rattle.std.proofs.Common.{◌∙◌}
use Rattle.s3_native.proofs.Numbers.{number_get}
use Rattle.s3_native.proofs.numbered.Numbered.get.Goals as goal

pub returns : goal.returns
returns g c = c.get.ensures.value ∙ number_get c.self.inside.entries.entries c.args.self.now c.self.view_is c.args.number
