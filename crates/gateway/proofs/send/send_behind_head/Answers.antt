use Rattle.gateway.proofs.send.send_behind_head.Goals as goal

pub returns-in-Some-Fault-clause-sends : goal.returns-in-Some-Fault-clause-sends
returns-in-Some-Fault-clause-sends g c = (c.in-Some-Fault.fault, c.ended_by.ensures, rw c.in-Some-Fault.field-0-is at c.in-Some-Fault.ensures.sends)
