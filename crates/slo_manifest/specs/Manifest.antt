-- What reading a manifest's text answers. Source: Object Storage API v1, "Static large objects": a list of at most
-- 1000 segments; the order of the refusals is this profile.
use Rattle.std.specs.Prelude.{
  ◌≡◌,
  ⊤,
  ℕ,
  ◌<◌,
  ◌≤◌,
  if◌then◌else◌,
  List,
  [],
  ◌∷◌,
  ◌++◌,
  length,
  map,
  Option,
  Some,
  None,
  option_map,
  option_and_then,
  Result,
  Ok,
  Err,
}
use Rattle.std.specs.Str.{is_utf8}
use Rattle.serde_json.specs.Data.{Data, Items, no_items, item}
use Rattle.serde_json.specs.Find.{as_array}
use Rattle.serde_json.specs.Read.{read}
use Rattle.serde_json.specs.View.{view}
use Rattle.serde_json.specs.declared.value.Value.{Value}
use Rattle.slo_manifest.specs.Entry.{Entry, whole, bad, empty, entry_of}
use Rattle.slo_manifest.specs.declared.Segment.{Segment}
use Rattle.slo_manifest.specs.declared.manifest.Form.{Form}
use Rattle.slo_manifest.specs.declared.manifest.ManifestFault.{ManifestFault}
use Rattle.slo_manifest.specs.declared.manifest.ManifestFault.TheVariants.{NotAList, BadEntry, EmptySegment, TooManySegments, Memory}

-- the JSON of a text in UTF-8 (RFC 8259), as far as 127 levels of lists and objects
abbrev pub json_of : List ℕ → Option Data
json_of text = if is_utf8 text then read text else None

-- the value is that of the text, or memory ran out
abbrev pub Parses : Option Data → Result Value ManifestFault → Type 0
Parses json (Ok value) = json ≡ Some (view value)
Parses json (Err NotAList) = json ≡ None
Parses json (Err (BadEntry index)) = ⊥
Parses json (Err (EmptySegment index)) = ⊥
Parses json (Err TooManySegments) = ⊥
Parses json (Err Memory) = ⊤

-- each item, as an entry
abbrev pub entries : Form → Items → List Entry
entries form no_items = []
entries form (item entry rest) = entry_of form entry ∷ entries form rest

-- the entries of a text, where it is a list
unfoldable pub entries_of : Form → List ℕ → Option (List Entry)
entries_of form text = option_map (entries form) (option_and_then as_array (json_of text))

-- segments stand up to the index, and there this entry
abbrev pub StandsFirst : List Entry → ℕ → Entry → Type 0
StandsFirst es index entry = (before : List Segment) × (after : List Entry) × (es ≡ map whole before ++ entry ∷ after) × (length before ≡ index)

-- the answer is what the entries are, not counted, or memory ran out
abbrev pub ReadsEntries : List Entry → Result (List Segment) ManifestFault → Type 0
ReadsEntries es (Ok segments) = es ≡ map whole segments
ReadsEntries es (Err NotAList) = ⊥
ReadsEntries es (Err (BadEntry index)) = StandsFirst es index bad
ReadsEntries es (Err (EmptySegment index)) = StandsFirst es index empty
ReadsEntries es (Err TooManySegments) = ⊥
ReadsEntries es (Err Memory) = ⊤

-- the entries are as many as a manifest may have, and the first that is no segment is this one
abbrev pub FaultStands : Form → List ℕ → ℕ → Entry → Type 0
FaultStands form text index entry = (es : List Entry) × (entries_of form text ≡ Some es) × (length es ≤ 1000) × StandsFirst es index entry

-- the answer is the one that is expected for the text, or memory ran out
abbrev pub Reads : Form → List ℕ → Result (List Segment) ManifestFault → Type 0
Reads form text (Ok segments) = (entries_of form text ≡ Some (map whole segments)) × (length segments ≤ 1000)
Reads form text (Err NotAList) = entries_of form text ≡ None
Reads form text (Err (BadEntry index)) = FaultStands form text index bad
Reads form text (Err (EmptySegment index)) = FaultStands form text index empty
Reads form text (Err TooManySegments) = (es : List Entry) × (entries_of form text ≡ Some es) × (1000 < length es)
Reads form text (Err Memory) = ⊤
