use Rattle.std.proofs.Common.{sym, ap, ◌∙◌}
use Rattle.account_calls.proofs.lemmas.One.{not_asked}
use Rattle.account_calls.proofs.lemmas.Left.{throughout_none}
use Rattle.leftovers.specs.Leftovers.{is_sub_manifest_name}
use Rattle.leftovers.proofs.Held.{part_held, stays_after, stays_put, sub_held}
use Rattle.leftovers.proofs.Namings.{part_named, sub_added}
use Rattle.leftovers.proofs.lemmas.Readings.{asks_idle}
use Rattle.leftovers.proofs.gathering.add_segment.Goals as goal

pub returns-in_err-put-clause-asks : goal.returns-in_err-put-clause-asks
returns-in_err-put-clause-asks g c =
    not_asked _ _ _ c.from_residual.ensures.1

pub returns-in_err-put-clause-leaves : goal.returns-in_err-put-clause-leaves
returns-in_err-put-clause-leaves g c =
    throughout_none (g.W.Swift.history c.args.store.now)

pub returns-then-not-is_sub_manifest : goal.returns-then-not-is_sub_manifest
returns-then-not-is_sub_manifest g c =
    let not = ap is_sub_manifest_name (sym c.as_slice-2.ensures) ∙ sym c.is_sub_manifest.ensures ∙ c.if-not-is_sub_manifest.true in
    record {
      asks = asks_idle _ _ tt (λ tree sound known. part_named tree c.args.bucket.now c.args.segment.now c.args.table.now c.put.new.self c.as_slice.result.now c.as_slice.ensures not known c.in_ok-put.ensures.ok);
      holds = λ observable. part_held _ c.args.bucket.now _ c.args.segment.now c.as_slice.result.now c.as_slice.ensures not c.in_ok-put.ensures.ok;
      stays = stays_put _ c.as_slice.result.now c.in_ok-put.ensures.ok;
      leaves = throughout_none (g.W.Swift.history c.args.store.now);
    }

pub returns : goal.returns
returns g c =
    let so = ap is_sub_manifest_name (sym c.as_slice-2.ensures) ∙ sym c.is_sub_manifest.ensures ∙ c.if-not-is_sub_manifest.false in
    record {
      asks = sub_added c.args.bucket.now c.args.segment.now c.args.table.now c.put.new.self c.add_sub_manifest.new.table c.as_slice.result.now c.as_slice.ensures so c.in_ok-put.ensures.ok _ c.add_sub_manifest.ensures.asks;
      holds = λ observable. sub_held _ _ c.args.bucket.now _ c.args.segment.now c.as_slice.result.now c.as_slice.ensures c.in_ok-put.ensures.ok _ c.add_sub_manifest.ensures.stays (c.add_sub_manifest.ensures.holds observable);
      stays = stays_after _ _ c.as_slice.result.now c.in_ok-put.ensures.ok _ c.add_sub_manifest.ensures.stays;
      leaves = c.add_sub_manifest.ensures.leaves;
    }
