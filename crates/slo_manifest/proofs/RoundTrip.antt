-- What is written is read back.
use Rattle.std.proofs.Common.{◌≡◌, ℕ, true, false, List, map, Some, Ok, option_map, option_and_then, Vec, Global, ap, ◌∙◌}
use Rattle.serde_json.specs.Data.{array}
use Rattle.serde_json.specs.Find.{as_array}
use Rattle.serde_json.specs.View.{view, items_of}
use Rattle.serde_json.specs.Written.{has_float, compact_text}
use Rattle.serde_json.specs.declared.value.Value.{Value, Array}
use Rattle.serde_json.proofs.Views.{view-Array}
use Rattle.slo_manifest.specs.Segments.{is_manifest}
use Rattle.slo_manifest.specs.Text.{entry_value, manifest_value, manifest_text}
use Rattle.slo_manifest.specs.Manifest.{entries, entries_of, Reads}
use Rattle.slo_manifest.specs.declared.Segment.{Segment}
use Rattle.slo_manifest.specs.declared.manifest.Form.{Form}
use Rattle.slo_manifest.proofs.EntryLemmas.{entries_back}
use Rattle.slo_manifest.proofs.SegmentLemmas.{manifest_parts}
use Rattle.slo_manifest.proofs.TextLemmas.{list_has_no_float, json_of-manifest_text}

pub manifest_reads_back : (form : Form) (segments : List Segment) → is_manifest segments ≡ true → Reads form (manifest_text form segments) (Ok segments)
unfolding entries_of
manifest_reads_back form segments h =
    let parts = manifest_parts segments h in
    (ap (λ json. option_map (entries form) (option_and_then as_array json)) (json_of-manifest_text form segments h) ∙ ap Some (entries_back form segments parts.1), parts.0)

-- the text of the list of the segments' entries is that of the manifest
pub text_written : (form : Form) (segments : List Segment) (values : Vec Value Global) (text : List ℕ) → map view values.items ≡ map (entry_value form) segments → (has_float (view (Array values)) ≡ false → text ≡ compact_text (view (Array values))) → text ≡ manifest_text form segments
unfolding manifest_text
text_written form segments values text made spelled =
    let same : view (Array values) ≡ manifest_value form segments = view-Array values ∙ ap (λ ds. array (items_of ds)) made in
    spelled (ap has_float same ∙ list_has_no_float form segments) ∙ ap compact_text same
