use Rattle.s3_machine.specs.Uploads.{open_upload}
use Rattle.name_table.proofs.lemmas.Tables.{changed_there, left_there, nothing_there, on_ok, on_err}
use Rattle.s3_native.proofs.uploads.open_upload.Goals as goal

pub returns-in-Some-clause-ok : goal.returns-in-Some-clause-ok
returns-in-Some-clause-ok c =
    on_ok c.open_upload.result (changed_there _ _ c.args.bucket.now c.get_mut.result c.get_mut.ensures.value (open_upload c.args.id.now c.args.upload) _ c.open_upload.new.self c.in-Some.is (c.get_mut.follows.holds c.open_upload.new.self)) c.open_upload.ensures.ok

pub returns-in-Some-clause-err : goal.returns-in-Some-clause-err
returns-in-Some-clause-err c =
    on_err c.open_upload.result (left_there _ _ c.args.bucket.now c.get_mut.result c.get_mut.ensures.value _ c.open_upload.new.self c.in-Some.is (c.get_mut.follows.holds c.open_upload.new.self)) c.open_upload.ensures.err

pub returns-in-None-clause-ok : goal.returns-in-None-clause-ok
returns-in-None-clause-ok c = nothing_there _ _ c.args.bucket.now c.get_mut.result c.get_mut.ensures.value (open_upload c.args.id.now c.args.upload) c.in-None.is c.get_mut.follows.holds-at-none
