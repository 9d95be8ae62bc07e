use Rattle.std.proofs.Common.{sym, subst}
use Rattle.s3_machine.specs.Proper.{IsProperList}
use Rattle.s3_requests.proofs.Left.{list_left}
use Rattle.s3_requests.proofs.operation.op_of_key_asked.Goals as goal

pub complete_upload-requires : goal.complete_upload-requires
complete_upload-requires c = subst IsProperList (sym c.requires.list) (list_left c.requires.left c.in-CompleteMultipartUpload.is)
