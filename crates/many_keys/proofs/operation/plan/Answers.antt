use Rattle.many_keys.proofs.CopiedFrom.{of_copied, of_part}
use Rattle.many_keys.proofs.operation.plan.Goals as goal

pub returns-in-CopyObject-clause-stops : goal.returns-in-CopyObject-clause-stops
returns-in-CopyObject-clause-stops g c = rw c.in-CopyObject.is c.copy_object.ensures.stops

pub returns-in-CopyPart-clause-stops : goal.returns-in-CopyPart-clause-stops
returns-in-CopyPart-clause-stops g c = rw c.in-CopyPart.is c.plan_upload_part_copy.ensures.stops

pub returns-in-CopyPart-clause-source : goal.returns-in-CopyPart-clause-source
returns-in-CopyPart-clause-source g c = rw c.in-CopyPart.is (of_part _)

pub returns-in-CopyObject-clause-source : goal.returns-in-CopyObject-clause-source
returns-in-CopyObject-clause-source g c = rw c.in-CopyObject.is (of_copied _ c.copy_object.ensures.source)
