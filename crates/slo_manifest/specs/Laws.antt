-- What the laws of this crate say.
use Rattle.std.specs.Prelude.{◌≡◌, ◌≢◌, ℕ, List, [], length, map, slice_index, slice_index_or, true, Result, Ok, Err}
use Rattle.std.specs.List.{flat_map}
use Rattle.slo_manifest.specs.Cover.{Lies}
use Rattle.slo_manifest.specs.Segments.{is_manifest}
use Rattle.slo_manifest.specs.Text.{manifest_text}
use Rattle.slo_manifest.specs.Manifest.{Reads}
use Rattle.slo_manifest.specs.declared.Segment.{Segment}
use Rattle.slo_manifest.specs.declared.manifest.Form.{Form}
use Rattle.slo_manifest.specs.declared.manifest.ManifestFault.{ManifestFault}
use Rattle.slo_manifest.specs.declared.manifest.ManifestFault.TheVariants.{Memory}

-- a text has an answer, and unless memory runs out no other
abbrev pub OneAnswer : Type 0
OneAnswer = (form : Form) (text : List ℕ) → (due : Result (List Segment) ManifestFault) × (due ≢ Err Memory) × Reads form text due
    × ((other : Result (List Segment) ManifestFault) → other ≢ Err Memory → Reads form text other → other ≡ due)

-- segments that have a text are what it is read as
abbrev pub TextReadsBack : Type 0
TextReadsBack = (form : Form) (segments : List Segment) → is_manifest segments ≡ true → Reads form (manifest_text form segments) (Ok segments)

-- a byte of joined bodies is the byte of the body in which it lies
abbrev pub ByteLies : Type 0
ByteLies = (bodies : List (List ℕ)) (at index within : ℕ) → Lies (map length bodies) at index within
    → slice_index (flat_map (λ body. body) bodies) at ≡ slice_index (slice_index_or bodies index []) within
