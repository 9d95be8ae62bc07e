-- What a row takes of what a request gives: a content type and metadata, an access control list, the bytes of a body, and the location that a
-- bucket is made with. Source: Amazon S3 API Reference, "CreateBucket"; the limits are this profile's.
use Rattle.std.specs.Prelude.{ℕ, Bool, not, ◌&&◌, ◌||◌, ◌==◌, nat_lt, if◌then◌else◌, List, [], length, codes, bytes_eq}
use Rattle.gate_base.specs.declared.page.Pair.{Pair}
use Rattle.s3_bodies.specs.LocationTest.{is_any, names_location}
use Rattle.s3_machine.specs.declared.operation.Settings.{Settings}
use Rattle.s3_machine.specs.Limits.{body_limit}
use Rattle.request_fields.specs.Content.{given_type, given_meta}
use Rattle.request_fields.specs.Copies.{replaces}
use Rattle.request_fields.specs.Headers.{names_acl}
use Rattle.s3_requests.specs.declared.rows.Row.{Row}
use Rattle.s3_requests.specs.declared.rows.Row.TheVariants.{CopyObject}
use Rattle.s3_requests.specs.Rows.{shape_of}

-- a copy of an object takes a content type and metadata where they replace those of its source; of the other rows the table says it
abbrev pub takes_content : Row → List Pair → Bool
takes_content CopyObject headers = replaces headers
takes_content row headers = (shape_of row).has_content

-- the content type that a row takes
abbrev pub taken_type : Row → List Pair → List ℕ
taken_type row headers = if takes_content row headers then given_type headers else codes "binary/octet-stream"

-- the metadata that a row takes
abbrev pub taken_meta : Row → List Pair → List Pair
taken_meta row headers = if takes_content row headers then given_meta headers else []

-- no list is named where one is put
abbrev pub lacks_acl : Row → List Pair → Bool
lacks_acl row headers = (shape_of row).needs_acl && not (names_acl headers)

-- more bytes than a body may have in this run
abbrev pub asks_with_long_body : Settings → List ℕ → Bool
asks_with_long_body settings body = nat_lt (body_limit settings) (length body)

-- the location of a bucket: the region of the service, or none
abbrev pub is_here : List ℕ → List ℕ → Bool
is_here region location = length location == 0 || bytes_eq location region

-- a body that names no location although it should
abbrev pub has_bad_location : Row → List ℕ → Bool
has_bad_location row body = (shape_of row).has_location && not (names_location is_any body)

-- a body that names another location
abbrev pub has_other_location : Row → List ℕ → List ℕ → Bool
has_other_location row region body = (shape_of row).has_location && not (names_location (is_here region) body)
