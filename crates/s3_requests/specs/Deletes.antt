-- What a request to delete many keys asks for beside its bucket. Source: Amazon S3 API Reference, "DeleteObjects". Which bodies are read is
-- this profile's.
use Rattle.std.specs.Prelude.{ℕ, Bool, false, List, [], Option, Some, is_none}
use Rattle.std.specs.Option.{unwrap_or}
use Rattle.s3_machine.specs.declared.operation.Op.{Op}
use Rattle.s3_machine.specs.Ops as op
use Rattle.s3_bodies.specs.declared.delete.Deletes.{Deletes}
use Rattle.s3_bodies.specs.Deletes.{deletes_in}
use Rattle.s3_requests.specs.declared.rows.Row.{Row}
use Rattle.s3_requests.specs.declared.rows.Row.TheVariants.{DeleteObjects}

abbrev pub no_deletes : Deletes
no_deletes = record { keys = []; quiet = false }

-- what the body asks to delete of a row that deletes many keys, if it can be read. No other row deletes keys of its body
abbrev pub taken_deletes : Row → List ℕ → Option Deletes
taken_deletes DeleteObjects body = deletes_in body
taken_deletes _ body = Some no_deletes

-- that; one that can't be read is refused before it counts
abbrev pub given_deletes : Row → List ℕ → Deletes
given_deletes row body = unwrap_or (taken_deletes row body) no_deletes

-- a body that should list keys and can't be read, or lists more keys than may be
abbrev pub has_bad_deletes : Row → List ℕ → Bool
has_bad_deletes row body = is_none (taken_deletes row body)

-- DeleteObjects, of a bucket
abbrev pub deletes_asked : List ℕ → Deletes → Op
deletes_asked bucket deletes = op.DeleteObjects bucket deletes.keys deletes.quiet
