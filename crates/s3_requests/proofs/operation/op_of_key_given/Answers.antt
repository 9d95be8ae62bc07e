use Rattle.std.proofs.Common.{ap}
use Rattle.s3_requests.specs.Copies.{is_copy}
use Rattle.s3_requests.proofs.operation.op_of_key_given.Goals as goal

pub copy_asked-requires : goal.copy_asked-requires
copy_asked-requires c = c.requires.place (ap is_copy c.in-CopyObject.is)

pub copy_part-requires : goal.copy_part-requires
copy_part-requires c = c.requires.place (ap is_copy c.in-UploadPartCopy.is)
