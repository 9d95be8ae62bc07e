-- What is left over on an account: segments that nothing names any more, and what stands beside a bucket that is missing.
-- Source: this profile.
use Rattle.std.specs.Prelude.{◌≡◌, ◌==◌, ℕ, Bool, true, false, not, ◌&&◌, ◌||◌, bytes_eq, get_or, List, [], length, sum_by, take, is_some, Option, None, Some}
use Rattle.std.specs.Option.{unwrap_or}
use Rattle.std.specs.List.{filter, list_any}
use Rattle.std.specs.FinMap.{entries, get, keys}
use Rattle.gate_base.specs.Maps.{Names}
use Rattle.s3_names.specs.Id.{id_digits}
use Rattle.slo_manifest.specs.declared.Segment.{Segment}
use Rattle.swift_calls.specs.Account.{SwiftObject, SwiftAccount, files}
use Rattle.swift_calls.specs.Bodies.{listed_in}
use Rattle.upload_texts.specs.declared.record.Record.{Record}
use Rattle.upload_texts.specs.declared.record.Record.TheVariants.{Open, Done}
use Rattle.upload_texts.specs.declared.sealed.Sealed.{Sealed}
use Rattle.upload_texts.specs.declared.sealed.SealedPart.{SealedPart}
use Rattle.upload_records.specs.Layout.{uploads_name, segments_name, segment_name}
use Rattle.upload_records.specs.Native.{record_at, seal_of}
use Rattle.leftovers.specs.Sides.{Side, beside_records, beside_segments, side_of}

-- ---- what names a segment

-- the segments that the file of a name lists: none, where it isn't there or has bytes of its own
abbrev pub segments_in : Option SwiftObject → List Segment
segments_in None = []
segments_in (Some file) = unwrap_or (listed_in file.content) []

-- one of these segments has this name
abbrev pub is_named_in : List ℕ → List Segment → Bool
is_named_in name listed = list_any (λ (s : Segment). bytes_eq s.name name) listed

-- a segment names itself and, where it is a sub-manifest, those that it lists. This is the one place that says what an object names
abbrev pub names_segment : Names SwiftObject → List ℕ → Segment → Bool
names_segment segments name s = bytes_eq s.name name || is_named_in name (segments_in (get segments s.name))

-- a file lists a segment of this name, by itself or through a sub-manifest that it lists; beside it stand these
abbrev pub lists_segment : Names SwiftObject → List ℕ → SwiftObject → Bool
lists_segment segments name file = list_any (names_segment segments name) (segments_in (Some file))

-- an object of a bucket does
abbrev pub is_listed_in : Names SwiftObject → Names SwiftObject → List ℕ → Bool
is_listed_in objects segments name = list_any (λ entry. lists_segment segments name entry.1) (entries objects)

-- the text of the id in the name of a segment: its first 32 bytes
abbrev pub id_in : List ℕ → List ℕ
id_in name = take 32 name

abbrev pub is_open : Option Record → Bool
is_open None = false
is_open (Some (Open key content_type meta started)) = true
is_open (Some (Done key list etag started moment)) = false

-- whether a name is that of a sub-manifest: `m` stands behind the id and the slash, where a part has a digit
abbrev pub is_sub_manifest_name : List ℕ → Bool
is_sub_manifest_name name = get_or name 33 0 == 109

-- a completion lists a part of this name beside the bucket, or the name is that of a sub-manifest of its id
abbrev pub is_sealed_in : Option Sealed → List ℕ → List ℕ → Bool
is_sealed_in None bucket name = false
is_sealed_in (Some s) bucket name = bytes_eq s.bucket bucket
    && (list_any (λ (p : SealedPart). bytes_eq (segment_name (id_digits s.id) p.number) name) s.list
    || (is_sub_manifest_name name && bytes_eq (id_in name) (id_digits s.id)))

-- ---- what is left over

-- a bucket is missing
abbrev pub is_missing : SwiftAccount → List ℕ → Bool
is_missing tree bucket = not (is_some (get tree bucket))

-- a segment beside a bucket, be it a part or a sub-manifest, is used: an object of the bucket lists it, by itself or through a
-- sub-manifest, an upload of its id is open, or a completion that is sealed in the bucket names it
abbrev pub is_used : SwiftAccount → List ℕ → List ℕ → Bool
is_used tree bucket name =
    is_listed_in (files tree bucket) (files tree (segments_name bucket)) name
    || (is_open (record_at (files tree (uploads_name bucket)) (id_in name))
    || is_sealed_in (seal_of tree) bucket name)

-- an orphan: its bucket is missing, or it isn't used
abbrev pub is_orphan : SwiftAccount → List ℕ → List ℕ → Bool
is_orphan tree bucket name = is_missing tree bucket || not (is_used tree bucket name)

-- how many segments, how many records and how many containers are left over
pub record Leftovers : Type 0 where
  pub segments : ℕ
  pub records : ℕ
  pub containers : ℕ

abbrev pub nothing_left : Leftovers
nothing_left = record { segments = 0; records = 0; containers = 0 }

-- how many files of a container pass a test of their names
abbrev pub count_files : (List ℕ → Bool) → Names SwiftObject → ℕ
count_files test fs = length (filter (λ entry. test entry.0) (entries fs))

abbrev pub one_if : Bool → ℕ
one_if true = 1
one_if false = 0

abbrev pub all_if : Bool → ℕ → ℕ
all_if true n = n
all_if false n = 0

-- in the container of a name: its orphans, where it is one of segments; its records, where it is one of them and its bucket is
-- missing; and the container itself, where its bucket is
abbrev pub left_by : SwiftAccount → List ℕ → Option Side → Leftovers
left_by tree name None = nothing_left
left_by tree name (Some (beside_records bucket)) = record {
  segments = 0;
  records = all_if (is_missing tree bucket) (length (entries (files tree name)));
  containers = one_if (is_missing tree bucket);
}
left_by tree name (Some (beside_segments bucket)) = record {
  segments = count_files (is_orphan tree bucket) (files tree name);
  records = 0;
  containers = one_if (is_missing tree bucket);
}

abbrev pub left_there : Bool → Leftovers → Leftovers
left_there true left = left
left_there false left = nothing_left

abbrev pub left_in : SwiftAccount → List ℕ → Leftovers
left_in tree name = left_there (is_some (get tree name)) (left_by tree name (side_of name))

-- on the account
unfoldable pub leftovers : SwiftAccount → Leftovers
leftovers tree = record {
  segments = sum_by (λ name. (left_in tree name).segments) (keys tree);
  records = sum_by (λ name. (left_in tree name).records) (keys tree);
  containers = sum_by (λ name. (left_in tree name).containers) (keys tree);
}

-- nothing is left over
abbrev pub IsClean : SwiftAccount → Type 0
IsClean tree = leftovers tree ≡ nothing_left
