use Rattle.std.proofs.Common.{ap, subst, ◌∙◌}
use Rattle.slo_manifest.specs.Segments.{is_manifest}
use Rattle.swift_calls.specs.Step.{Fit}
use Rattle.swift_requests.proofs.ManifestLemmas.{manifest_fit}
use Rattle.swift_requests.proofs.call_writer.write_call.Goals as goal

pub write-requires : goal.write-requires
write-requires c =
    ap is_manifest c.as_slice.ensures
    ∙ manifest_fit c.in-PutManifest.container c.in-PutManifest.name c.in-PutManifest.content_type c.in-PutManifest.meta c.in-PutManifest.segments
    (subst Fit c.in-PutManifest.is c.requires.fit)
