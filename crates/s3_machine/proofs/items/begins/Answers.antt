use Rattle.std.proofs.Common.{◌∙◌}
use Rattle.s3_machine.proofs.lemmas.Starts.{starts_begins}
use Rattle.s3_machine.proofs.items.begins.Goals as goal

pub returns : goal.returns
returns c = c.starts_with.ensures.value ∙ starts_begins c.args.front.now c.args.text.now
