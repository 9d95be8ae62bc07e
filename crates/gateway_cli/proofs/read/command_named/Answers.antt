use Rattle.clap.specs.Matches.{found_of}
use Rattle.gateway_cli.proofs.WordsLemmas.{named, unnamed}
use Rattle.gateway_cli.proofs.read.command_named.Goals as goal

pub returns-in-Some-clause-reads : goal.returns-in-Some-clause-reads
returns-in-Some-clause-reads c = named c.args.name.now (found_of c.args.found.now) c.command_with.result c.in-Some.ensures c.command_with.ensures.reads

pub returns-in-None-clause-reads : goal.returns-in-None-clause-reads
returns-in-None-clause-reads c = unnamed c.args.name.now (found_of c.args.found.now) c.in-None.ensures
