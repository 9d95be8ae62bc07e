use Rattle.std.proofs.Common.{arith, ap, sym, subst, ◌∙◌}
use Rattle.swift_calls.specs.Limits.{IsObjectName}
use Rattle.swift_calls.specs.Step.{IsContainerName}
use Rattle.upload_records.specs.Layout.{segments_name}
use Rattle.account_calls.proofs.lemmas.SideNames.{segments_fits, sub_fits}
use Rattle.many_keys.proofs.manifests.sub_manifest_list_request.Goals as goal

pub returns-clause-fits : goal.returns-clause-fits
returns-clause-fits c = (
  subst IsContainerName (sym (c.in_ok-container.ensures ∙ ap segments_name c.bytes.ensures.value)) (segments_fits c.args.bucket.now c.bytes.ensures.fit),
  subst IsObjectName (sym c.in_ok-name.ensures) (sub_fits c.args.id _ (omega (arith, c.requires.few))),
)
