use Rattle.std.proofs.Common.{take}
use Rattle.sign_cmd.specs.Names.{AreSigned}
use Rattle.sign_cmd.proofs.names.names_to_sign.Given as goal

abbrev pub invariant-loop-header : goal.invariant-loop-header
invariant-loop-header l = AreSigned (take l.header-index l.headers) l.names
