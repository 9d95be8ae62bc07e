use Rattle.std.proofs.Common.{refl}
use Rattle.gateway_cmd.specs.Session.{out_of_memory}
use Rattle.gateway_cmd.proofs.TaskLaws.{does_none}
use Rattle.gateway_cmd.proofs.attempt.perform_by_words.Goals as goal

pub returns-in-Err-Memory-clause-does : goal.returns-in-Err-Memory-clause-does
returns-in-Err-Memory-clause-does g c = does_none _ c.args.keys.now _ _ _ _ _ (out_of_memory refl)
