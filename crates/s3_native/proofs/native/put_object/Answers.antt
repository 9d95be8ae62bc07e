use Rattle.s3_machine.specs.Step.{put_object}
use Rattle.name_table.proofs.lemmas.Tables.{changed_there, left_there, on_ok, on_err}
use Rattle.s3_native.proofs.native.put_object.Goals as goal

pub returns-in-Some-clause-ok : goal.returns-in-Some-clause-ok
returns-in-Some-clause-ok c =
    on_ok c.put.result (changed_there _ _ c.args.bucket.now c.get_mut.result c.get_mut.ensures.value (put_object c.args.key.now c.args.object) _ c.put.new.self c.in-Some.is (c.get_mut.follows.holds c.put.new.self)) c.put.ensures.ok

pub returns-in-Some-clause-err : goal.returns-in-Some-clause-err
returns-in-Some-clause-err c =
    on_err c.put.result (left_there _ _ c.args.bucket.now c.get_mut.result c.get_mut.ensures.value _ c.put.new.self c.in-Some.is (c.get_mut.follows.holds c.put.new.self)) c.put.ensures.err
