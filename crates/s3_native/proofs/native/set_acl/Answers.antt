use Rattle.s3_machine.specs.Step.{with_acl}
use Rattle.name_table.proofs.lemmas.Tables.{changed_there}
use Rattle.s3_native.proofs.native.set_acl.Goals as goal

pub returns-in-Some : goal.returns-in-Some
returns-in-Some c =
    changed_there _ _ c.args.bucket.now c.get_mut.result c.get_mut.ensures.value (with_acl c.args.acl) _ c.set_acl.new.self c.in-Some.is (c.get_mut.follows.holds c.set_acl.new.self) c.set_acl.ensures
