use Rattle.std.proofs.Common.{subst, sym}
use Rattle.s3_bodies.proofs.DeleteLemmas.{Grows, grows_last, grows_next}
use Rattle.s3_bodies.proofs.delete.add_delete_xml_objects.Goals as goal

pub objects-preserved : goal.objects-preserved
objects-preserved c =
    subst (λ t. Grows c.args.have c.args.bytes.now t c.in-Ok.after.now) (sym c.in_ok-push-in-Ok.ensures.ok)
    (grows_next c.args.have c.objects.texts c.args.bytes.now c.objects.rest.now c.in-Ok.after.now c.in-Ok.text c.objects.invariant c.in-Ok.ensures)

pub returns-in-Err : goal.returns-in-Err
returns-in-Err c = grows_last c.args.have c.objects.texts c.args.bytes.now c.objects.rest.now _ c.objects.invariant c.in-Err.ensures
