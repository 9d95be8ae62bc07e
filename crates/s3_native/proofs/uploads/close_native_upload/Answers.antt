use Rattle.s3_native.specs.Native.{closed}
use Rattle.name_table.proofs.lemmas.Tables.{changed_there, left_there, nothing_there, on_ok, on_err}
use Rattle.s3_native.proofs.uploads.close_native_upload.Goals as goal

pub returns-in-Some-clause-ok : goal.returns-in-Some-clause-ok
returns-in-Some-clause-ok c =
    on_ok c.close.result (changed_there _ _ c.args.bucket.now c.get_mut.result c.get_mut.ensures.value (closed c.args.key.now c.args.id.now c.args.object c.args.kept) _ c.close.new.self c.in-Some.is (c.get_mut.follows.holds c.close.new.self)) c.close.ensures.ok

pub returns-in-Some-clause-err : goal.returns-in-Some-clause-err
returns-in-Some-clause-err c =
    on_err c.close.result (left_there _ _ c.args.bucket.now c.get_mut.result c.get_mut.ensures.value _ c.close.new.self c.in-Some.is (c.get_mut.follows.holds c.close.new.self)) c.close.ensures.err

pub returns-in-None-clause-ok : goal.returns-in-None-clause-ok
returns-in-None-clause-ok c = nothing_there _ _ c.args.bucket.now c.get_mut.result c.get_mut.ensures.value (closed c.args.key.now c.args.id.now c.args.object c.args.kept) c.in-None.is c.get_mut.follows.holds-at-none
