use Rattle.sign_cmd.proofs.OnceLemmas.{names_once}
use Rattle.sign_cmd.proofs.laws.law_names_once.Goals as goal

pub returns : goal.returns
returns c = names_once
