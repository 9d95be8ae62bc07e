use Rattle.s3_machine.specs.Uploads.{drop_upload}
use Rattle.name_table.proofs.lemmas.Tables.{changed_there, nothing_there}
use Rattle.s3_native.proofs.uploads.drop_native_upload.Goals as goal

pub returns-in-Some : goal.returns-in-Some
returns-in-Some c =
    changed_there _ _ c.args.bucket.now c.get_mut.result c.get_mut.ensures.value (drop_upload c.args.id.now) _ c.drop_upload.new.self c.in-Some.is (c.get_mut.follows.holds c.drop_upload.new.self) c.drop_upload.ensures

pub returns-in_default : goal.returns-in_default
returns-in_default c = nothing_there _ _ c.args.bucket.now c.get_mut.result c.get_mut.ensures.value (drop_upload c.args.id.now) c.in_default.is c.get_mut.follows.holds-at-none
