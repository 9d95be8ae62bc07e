-- A result that `?` hands on.
use Rattle.std.specs.Prelude.{◌≡◌, Result, Ok, Err}
use Rattle.std.specs.Result.{IsErrAnd}
use Rattle.std.proofs.Common.{ap}
use Rattle.account_calls.specs.declared.fault.PlanFault.{PlanFault}

pub err_is : {T : Type 0} (result : Result T PlanFault) (fault : PlanFault) → IsErrAnd result (λ e. e ≡ fault) → result ≡ Err fault
err_is (Ok x) fault gives = absurd gives
err_is (Err e) fault gives = ap Err gives
