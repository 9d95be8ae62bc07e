use Rattle.std.proofs.Common.{sym, subst}
use Rattle.s3_machine.specs.Proper.{IsProperAsked}
use Rattle.s3_requests.proofs.ProperReads.{first_proper, second_proper}
use Rattle.s3_requests.proofs.operation.op_of_listing.Goals as goal

pub list_objects-requires : goal.list_objects-requires
list_objects-requires c = subst IsProperAsked (sym c.in_ok-first_asked-in-ListObjects.ensures) (first_proper c.args.query.now c.requires.texts)

pub list_objects-requires-in-ListObjectsV2 : goal.list_objects-requires-in-ListObjectsV2
list_objects-requires-in-ListObjectsV2 c = subst IsProperAsked (sym c.in_ok-second_asked-in-ListObjectsV2.ensures) (second_proper c.args.query.now c.requires.texts)
