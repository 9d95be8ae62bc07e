use Rattle.std.proofs.Common.{refl}
use Rattle.recovery.proofs.SettleCalls.{settles_done, settles_fault}
use Rattle.recovery.proofs.state.Unsure.settle.Goals as goal

pub returns-in-Ok-clause-settles : goal.returns-in-Ok-clause-settles
returns-in-Ok-clause-settles g c = settles_done c.in-Ok.ensures.counted c.in-Ok.ensures.asks (λ observable. c.in-Ok.ensures.done observable refl) c.in-Ok.ensures.finishes

pub returns-in-Err-clause-settles : goal.returns-in-Err-clause-settles
returns-in-Err-clause-settles g c = settles_fault c.in-Err.ensures.counted c.settle_fault.ensures c.in-Err.ensures.asks c.in-Err.ensures.finishes
