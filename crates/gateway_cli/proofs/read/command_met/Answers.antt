use Rattle.clap.specs.Matches.{found_of}
use Rattle.gateway_cli.proofs.WordsLemmas.{met}
use Rattle.gateway_cli.proofs.read.command_met.Goals as goal

pub returns-in-Some-clause-reads : goal.returns-in-Some-clause-reads
returns-in-Some-clause-reads c =
    met c.args.matches.now c.in-Some.name.now (found_of c.in-Some.found.now) c.command_named.result c.in-Some.ensures.name c.in-Some.ensures.rows c.command_named.ensures.reads
