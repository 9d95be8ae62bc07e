use Rattle.std.proofs.Common.{◌≡◌, arith, sym, ap, subst, ◌∙◌}
use Rattle.swift_calls.specs.Step.{Fit}
use Rattle.swift_calls.specs.declared.calls.SwiftRequest.TheVariants.{PutManifest}
use Rattle.swift_marks.specs.Tag.{tag_text}
use Rattle.upload_records.specs.Layout.{segments_name}
use Rattle.upload_records.specs.Native.{run, sealed_segments, sub_tag}
use Rattle.account_calls.proofs.lemmas.SubParts.{sub_below, within_parts}
use Rattle.account_calls.proofs.lemmas.SealStands.{sub_fit}
use Rattle.account_calls.proofs.sub_manifests.sub_manifest_request.Goals as goal

pub run_of-listed-requires-clause-few : goal.run_of-listed-requires-clause-few
run_of-listed-requires-clause-few c = within_parts c.args.sealed.now c.args.segments.now c.requires.has c.requires.are

pub overflow_cast-n : goal.overflow_cast-n
overflow_cast-n c = let few = sub_below c.args.sealed.now c.args.n c.requires.has c.requires.below in omega (arith, few)

pub overflow_add-n : goal.overflow_add-n
overflow_add-n c = let few = sub_below c.args.sealed.now c.args.n c.requires.has c.requires.below in omega (arith, few)

pub sub_manifest_name-requires : goal.sub_manifest_name-requires
sub_manifest_name-requires c = let few = sub_below c.args.sealed.now c.args.n c.requires.has c.requires.below in omega (arith, few)

pub returns-clause-fits : goal.returns-clause-fits
returns-clause-fits c =
    let listed : c.run_of-listed.result.now ≡ run c.args.n (sealed_segments c.args.sealed.now) = c.run_of-listed.ensures ∙ ap (run c.args.n) c.requires.are in
    let typed : c.in_ok-content_type.content_type ≡ tag_text (sub_tag c.args.sealed.now (run c.args.n (sealed_segments c.args.sealed.now))) =
    c.in_ok-content_type.ensures ∙ ap (λ l. tag_text (sub_tag c.args.sealed.now l)) listed in
    let folder = c.in_ok-container.ensures ∙ ap segments_name c.as_slice.ensures in
    let copied : c.in_ok-segments.segments ≡ run c.args.n (sealed_segments c.args.sealed.now) = c.in_ok-segments.ensures ∙ listed in
    subst Fit (sym (λ i. PutManifest (folder i) (c.in_ok-name.ensures i) (typed i) (c.new.ensures i) (copied i)))
    (sub_fit c.args.sealed.now c.args.n c.requires.has c.requires.below)
