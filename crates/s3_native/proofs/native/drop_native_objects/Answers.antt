use Rattle.s3_machine.specs.Step.{drop_objects}
use Rattle.name_table.proofs.lemmas.Tables.{changed_there}
use Rattle.s3_native.proofs.native.drop_native_objects.Goals as goal

pub returns-in-Some : goal.returns-in-Some
returns-in-Some c =
    changed_there _ _ c.args.bucket.now c.get_mut.result c.get_mut.ensures.value (drop_objects c.args.keys.now) _ c.drop_all.new.self c.in-Some.is (c.get_mut.follows.holds c.drop_all.new.self) c.drop_all.ensures
