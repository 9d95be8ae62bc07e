use Rattle.s3_machine.specs.declared.operation.Op.TheVariants as op_as
use Rattle.gateway.proofs.Operating.{copies_read_none, objects_read_none, performs_or_finds, uploads_read_none}
use Rattle.gateway.proofs.Bodiless.{copy_bodiless, upload_bodiless}
use Rattle.std.proofs.Common.{subst}
use Rattle.s3_machine.specs.Parts.{AsksNoPart}
use Rattle.gateway.proofs.reply.perform.Goals as goal

pub find_object-requires : goal.find_object-requires
find_object-requires g c = record { planned = subst AsksNoPart c.in-GetObject.is c.requires.planned }

pub answer-requires : goal.answer-requires
answer-requires g c = record { planned = subst AsksNoPart c.in-OnObjects.is c.requires.planned }

pub returns-in-GetObject-clause-performs : goal.returns-in-GetObject-clause-performs
returns-in-GetObject-clause-performs g c = rw c.in-GetObject.is
    (performs_or_finds (g.W.Swift.history c.args.state.now.store.now) (g.W.Swift.history c.find_object.new.state.store.now) c.args.state.now.settings.now (op_as.GetObject c.in-GetObject.read) c.args.label.now c.find_object.result c.find_object.ensures.answered)

pub returns-in-OnObjects-clause-performs : goal.returns-in-OnObjects-clause-performs
returns-in-OnObjects-clause-performs g c = rw c.in-OnObjects.is c.answer.ensures.answered

pub returns-in-OnUploads-clause-performs : goal.returns-in-OnUploads-clause-performs
returns-in-OnUploads-clause-performs g c = rw c.in-OnUploads.is c.answer-replied.ensures.answered

pub returns-in-OnCopies-clause-performs : goal.returns-in-OnCopies-clause-performs
returns-in-OnCopies-clause-performs g c = rw c.in-OnCopies.is c.answer-in-OnCopies.ensures.answered

pub returns-in-OnObjects-clause-leaves : goal.returns-in-OnObjects-clause-leaves
returns-in-OnObjects-clause-leaves g c = λ reads. absurd (objects_read_none c.in-OnObjects.is reads)

pub returns-in-OnUploads-clause-leaves : goal.returns-in-OnUploads-clause-leaves
returns-in-OnUploads-clause-leaves g c = λ reads. absurd (uploads_read_none c.in-OnUploads.is reads)

pub returns-in-OnCopies-clause-leaves : goal.returns-in-OnCopies-clause-leaves
returns-in-OnCopies-clause-leaves g c = λ reads. absurd (copies_read_none c.in-OnCopies.is reads)

pub returns-in-OnUploads-clause-bodiless : goal.returns-in-OnUploads-clause-bodiless
returns-in-OnUploads-clause-bodiless g c = upload_bodiless _ c.answer-replied.ensures.kind

pub returns-in-OnCopies-clause-bodiless : goal.returns-in-OnCopies-clause-bodiless
returns-in-OnCopies-clause-bodiless g c = copy_bodiless _ c.answer-in-OnCopies.ensures.kind
