use Rattle.std.proofs.Common.{refl, Ok}
use Rattle.std.specs.declared.alloc.AllocError.{AllocError}
use Rattle.gateway_cli.specs.Description.{check_app, recover_app, sweep_app}
use Rattle.gateway_cli.proofs.DescriptionLemmas.{below, belows}
use Rattle.gateway_cli.proofs.description.with_keeping_commands.Goals as goal

pub returns : goal.returns
returns c =
    belows {E = AllocError} c.with_command-3.result c.in_ok-sweep.sweep (Ok c.new-2.result) _ check_app
    (below c.in_ok-recover.recover c.in_ok-sweep.sweep c.sweep_description.result _ sweep_app
    (below {E = AllocError} c.args.gate c.in_ok-recover.recover (Ok c.new.result) _ recover_app refl c.new.ensures.app c.new.ensures.local c.in_ok-recover.ensures)
    c.sweep_description.ensures.app c.sweep_description.ensures.local c.in_ok-sweep.ensures)
    c.new-2.ensures.app c.new-2.ensures.local c.with_command-3.ensures
