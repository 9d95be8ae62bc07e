use Rattle.std.proofs.Common.{◌≡◌, arith, ap, sym, ◌∙◌, ◌++◌, ◌∷◌, []}
use Rattle.s3_names.specs.Id.{id_digits}
use Rattle.upload_records.specs.Native.{sub_segment, sub_segments}
use Rattle.upload_records.proofs.lemmas.Subs.{sub_manifests_few}
use Rattle.account_calls.specs.SubManifests.{sum_of}
use Rattle.account_calls.proofs.SubLists.{no_subs, subs_push}
use Rattle.account_calls.proofs.lemmas.SealStands.{sum_run}
use Rattle.account_calls.proofs.sub_manifests.sub_manifest_segments.Goals as goal

pub loop-n-init : goal.loop-n-init
loop-n-init c = record { within = omega arith; are = c.new-listed.ensures ∙ no_subs c.args.folder.now (id_digits c.args.id) c.args.segments.now }

pub sub_manifest_segment-requires-clause-few : goal.sub_manifest_segment-requires-clause-few
sub_manifest_segment-requires-clause-few c =
    let few = sub_manifests_few _ c.requires.few in omega (arith, few, c.sub_manifest_count-count.ensures, c.loop-n-test.true)

pub sub_manifest_segment-requires-clause-small : goal.sub_manifest_segment-requires-clause-small
sub_manifest_segment-requires-clause-small c =
    let same = ap sum_of c.run_of.ensures in
    let within = sum_run c.loop-n.n c.args.segments.now in
    omega (arith, same, within, c.requires.small)

pub loop-n-preserved : goal.loop-n-preserved
loop-n-preserved c = record {
  within = omega (arith, c.loop-n-test.true);
  are =
      c.in_ok-push.ensures.ok
      ∙ (λ i. c.loop-n.invariant.are i ++ c.in_ok-sub_manifest_segment.ensures i ∷ [])
      ∙ ap (λ l. sub_segments c.args.folder.now (id_digits c.args.id) c.args.segments.now c.loop-n.n ++ sub_segment c.args.folder.now (id_digits c.args.id) c.loop-n.n l ∷ []) c.run_of.ensures
      ∙ sym (subs_push c.args.folder.now (id_digits c.args.id) c.args.segments.now c.loop-n.n);
}
