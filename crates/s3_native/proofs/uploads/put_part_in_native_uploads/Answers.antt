use Rattle.s3_machine.specs.Uploads.{with_part}
use Rattle.name_table.proofs.lemmas.Tables.{changed_there, left_there, nothing_there, on_ok, on_err}
use Rattle.s3_native.proofs.uploads.put_part_in_native_uploads.Goals as goal

pub returns-in-Some-clause-ok : goal.returns-in-Some-clause-ok
returns-in-Some-clause-ok c =
    on_ok c.put_part.result (changed_there _ _ c.args.id.now c.get_mut.result c.get_mut.ensures.value (with_part c.args.number c.args.part) _ c.put_part.new.self c.in-Some.is (c.get_mut.follows.holds c.put_part.new.self)) c.put_part.ensures.ok

pub returns-in-Some-clause-err : goal.returns-in-Some-clause-err
returns-in-Some-clause-err c =
    on_err c.put_part.result (left_there _ _ c.args.id.now c.get_mut.result c.get_mut.ensures.value _ c.put_part.new.self c.in-Some.is (c.get_mut.follows.holds c.put_part.new.self)) c.put_part.ensures.err

pub returns-in-None-clause-ok : goal.returns-in-None-clause-ok
returns-in-None-clause-ok c = nothing_there _ _ c.args.id.now c.get_mut.result c.get_mut.ensures.value (with_part c.args.number c.args.part) c.in-None.is c.get_mut.follows.holds-at-none
