use Rattle.s3_requests.proofs.Left.{body_left}
use Rattle.s3_requests.proofs.operation.op_of_key.Goals as goal

pub put_object-requires-clause-sized : goal.put_object-requires-clause-sized
put_object-requires-clause-sized c = body_left c.requires.left c.requires.level

pub upload_part-requires-clause-sized : goal.upload_part-requires-clause-sized
upload_part-requires-clause-sized c = body_left c.requires.left c.requires.level
