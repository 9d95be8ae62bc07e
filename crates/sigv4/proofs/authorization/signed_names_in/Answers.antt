use Rattle.std.proofs.Common.{sym}
use Rattle.sigv4.proofs.AuthorizationLemmas.{names_end}
use Rattle.sigv4.proofs.authorization.signed_names_in.Goals as goal

pub returns : goal.returns
returns c =
    names_end c.args.text.now c.names.rest.now _ c.names.names _ c.names.invariant (sym c.in_default.ensures) c.in_ok-from_slice-2.ensures c.in_ok-push-2.ensures.ok
