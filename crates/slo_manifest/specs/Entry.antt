-- What an entry of a manifest's list says, as a function of its JSON. Source: Object Storage API v1, "Static large
-- objects"; further fields are ignored.
use Rattle.std.specs.Prelude.{◌≡◌, ⊤, ℕ, ◌==◌, if◌then◌else◌, List, codes, Option, Some, None, option_and_then, Result, Ok, Err}
use Rattle.serde_json.specs.Data.{Data}
use Rattle.serde_json.specs.Find.{get, as_number, as_str, as_u64}
use Rattle.slo_manifest.specs.Segments.{is_proper_entry}
use Rattle.slo_manifest.specs.Path.{container_in, name_in}
use Rattle.slo_manifest.specs.declared.Segment.{Segment}
use Rattle.slo_manifest.specs.declared.manifest.Form.{Form}
use Rattle.slo_manifest.specs.declared.manifest.Form.TheVariants.{Put, Got}
use Rattle.slo_manifest.specs.declared.entries.EntryFault.{EntryFault}
use Rattle.slo_manifest.specs.declared.entries.EntryFault.TheVariants.{Bad, Empty, Memory}

-- a segment, an entry that is none, or a segment of size 0
pub data Entry : Type 0 where
  whole : Segment → Entry
  bad : Entry
  empty : Entry

abbrev pub etag_field : Form → List ℕ
etag_field Put = codes "etag"
etag_field Got = codes "hash"

abbrev pub manifest_path_field : Form → List ℕ
manifest_path_field Put = codes "path"
manifest_path_field Got = codes "name"

abbrev pub manifest_size_field : Form → List ℕ
manifest_size_field Put = codes "size_bytes"
manifest_size_field Got = codes "bytes"

-- the text under a name of an object
abbrev pub text_at : List ℕ → Data → Option (List ℕ)
text_at field entry = option_and_then as_str (get field entry)

-- the whole number under a name of an object
abbrev pub number_at : List ℕ → Data → Option ℕ
number_at field entry = option_and_then as_u64 (option_and_then as_number (get field entry))

abbrev pub segment : List ℕ → List ℕ → ℕ → Segment
segment etag path size = record { container = container_in path; name = name_in path; etag = etag; size = size }

-- what the three fields say
unfoldable pub segment_of : List ℕ → List ℕ → ℕ → Entry
segment_of etag path size =
    if is_proper_entry (container_in path) (name_in path) etag size
    then (if size == 0 then empty else whole (segment etag path size)) else bad

-- what there is of the three fields says
abbrev pub entry_from : Option (List ℕ) → Option (List ℕ) → Option ℕ → Entry
entry_from None path size = bad
entry_from (Some etag) None size = bad
entry_from (Some etag) (Some path) None = bad
entry_from (Some etag) (Some path) (Some size) = segment_of etag path size

unfoldable pub entry_of : Form → Data → Entry
entry_of form entry = entry_from (text_at (etag_field form) entry) (text_at (manifest_path_field form) entry) (number_at (manifest_size_field form) entry)

-- the answer is what the entry says, or memory ran out
abbrev pub EntryGives : Result Segment EntryFault → Entry → Type 0
EntryGives (Ok s) entry = entry ≡ whole s
EntryGives (Err Bad) entry = entry ≡ bad
EntryGives (Err Empty) entry = entry ≡ empty
EntryGives (Err Memory) entry = ⊤
