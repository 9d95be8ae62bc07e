-- The reply to ListObjects, by what its pages told. Source: Amazon S3 API Reference, "ListObjects".
use Rattle.std.specs.Prelude.{ℕ, Bool, List}
use Rattle.s3_machine.specs.declared.items.Asked.{Asked}
use Rattle.s3_machine.specs.declared.items.Item.{Item}
use Rattle.s3_machine.specs.declared.operation.Reply.{Reply}
use Rattle.s3_machine.specs.Replies.{Objects}

abbrev pub objects_reply : List ℕ → Asked → List Item × Bool → Reply
objects_reply bucket asked told = Objects bucket asked told.0 told.1
