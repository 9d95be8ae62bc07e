-- What is read and put of a completion that is sealed, and what is put of a copy that is laid out like one. Source: Object Storage
-- API v1, "Static large objects", and this profile.
use Rattle.std.specs.Prelude.{◌+◌, ℕ, Bool, true, false, List, [], ◌∷◌, Option, None, Result, Ok, Err, codes}
use Rattle.s3_names.specs.Id.{id_digits}
use Rattle.slo_manifest.specs.declared.Segment.{Segment}
use Rattle.swift_calls.specs.declared.calls.SwiftReply.{SwiftReply}
use Rattle.swift_calls.specs.declared.calls.SwiftReply.TheVariants.{NotFound, Bytes}
use Rattle.swift_calls.specs.declared.calls.SwiftRequest.{SwiftRequest}
use Rattle.swift_calls.specs.Files.{PutObject}
use Rattle.swift_calls.specs.declared.calls.SwiftRequest.TheVariants.{PutManifest}
use Rattle.swift_marks.specs.Pack.{pack_of}
use Rattle.swift_marks.specs.Tag.{tag_text}
use Rattle.upload_texts.specs.Records.{record_text}
use Rattle.upload_texts.specs.Sealed.{read_sealed}
use Rattle.upload_texts.specs.declared.sealed.Sealed.{Sealed}
use Rattle.upload_records.specs.Layout.{uploads_name, segments_name, sub_manifest_name}
use Rattle.upload_records.specs.Native.{sealed_record, sealed_tag, filled_parts, listing_of, run, sealed_segments, sub_tag}
use Rattle.account_calls.specs.declared.fault.PlanFault.{PlanFault}
use Rattle.account_calls.specs.declared.fault.PlanFault.TheVariants.{Inconsistent}
use Rattle.account_calls.specs.Interpret.{known}

-- by whether the file lists segments, and its own bytes
abbrev pub sealed_by : Bool → List ℕ → Result (Option Sealed) PlanFault
sealed_by true text = Err Inconsistent
sealed_by false text = known (read_sealed text)

-- GET of the file of what is sealed: what its own bytes read as, or that it isn't there; one that lists segments is inconsistent
abbrev pub sealed_due : SwiftReply → Result (Option Sealed) PlanFault
sealed_due (Bytes head body) = sealed_by head.manifest body
sealed_due NotFound = Ok None
sealed_due _ = Err Inconsistent

-- the PUT of an object that lists these segments, or has no byte where there are none
abbrev pub put_by : List ℕ → List ℕ → List ℕ → List (List ℕ) → List Segment → SwiftRequest
put_by bucket key content_type meta [] = PutObject bucket key content_type meta []
put_by bucket key content_type meta (first ∷ rest) = PutManifest bucket key content_type meta (first ∷ rest)

-- the segments of the object of a sealed completion
abbrev pub sealed_listing : Sealed → List Segment
sealed_listing s = listing_of (segments_name s.bucket) (id_digits s.id) (filled_parts s.list)

-- the PUT of its sub-manifest of that number, counted from 0
abbrev pub put_sub_of : Sealed → ℕ → SwiftRequest
put_sub_of s n =
    PutManifest (segments_name s.bucket) (sub_manifest_name (id_digits s.id) (n + 1)) (tag_text (sub_tag s (run n (sealed_segments s)))) [] (run n (sealed_segments s))

-- the PUT of its object
abbrev pub put_object_of : Sealed → SwiftRequest
put_object_of s = put_by s.bucket s.key (tag_text (sealed_tag s)) (pack_of s.meta) (sealed_listing s)

-- the PUT of its record
abbrev pub put_record_of : Sealed → SwiftRequest
put_record_of s = PutObject (uploads_name s.bucket) (id_digits s.id) (codes "application/json") [] (record_text (sealed_record s))
