-- What the headers of a request give its operation, as one value. Sources: Amazon S3 API Reference, "PutObject", "CopyObject" and
-- "CreateMultipartUpload".
use Rattle.std.specs.Prelude.{if◌then◌else◌, ℕ, List, Option, Some, None}
use Rattle.gate_base.specs.declared.page.Pair.{Pair}
use Rattle.s3_machine.specs.declared.operation.Op.{Op}
use Rattle.s3_machine.specs.Ops as op
use Rattle.s3_machine.specs.declared.only_if.OnlyIf.TheVariants.{Always}
use Rattle.s3_machine.specs.declared.operation.Described.{Described}
use Rattle.s3_requests.specs.declared.rows.Row.{Row}
use Rattle.s3_requests.specs.declared.taken.Taken.{Taken}
use Rattle.s3_requests.specs.Content.{taken_type, taken_meta}
use Rattle.s3_requests.specs.Copies.{given_source}
use Rattle.request_fields.specs.Headers.{given_acl}

-- all that the headers give the operation of a row
abbrev pub given : Row → List Pair → Taken
given row headers = record {
  acl = given_acl headers;
  described = record { content_type = taken_type row headers; meta = taken_meta row headers };
  source = given_source row headers;
}

-- what a copy is put with in place of what its source has, where it replaces that
abbrev pub replaced_by : Taken → Option Described
replaced_by taken = if taken.source.replaces then Some taken.described else None

-- CopyObject, of a bucket and a key
abbrev pub copy_asked : List ℕ → List ℕ → Taken → Op
copy_asked bucket key taken =
    op.CopyObject bucket key taken.acl taken.source.bucket taken.source.key (replaced_by taken) taken.source.conditions Always
