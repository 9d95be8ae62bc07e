use Rattle.std.proofs.Common.{sym, ap, ◌∙◌, arith}
use Rattle.account_calls.proofs.lemmas.Quiet.{asks_failed}
use Rattle.account_calls.proofs.lemmas.Left.{throughout_then}
use Rattle.leftovers.specs.Gathering.{sub_manifests_in}
use Rattle.leftovers.proofs.Held.{object_holds}
use Rattle.leftovers.proofs.Namings.{object_added, object_refused}
use Rattle.leftovers.proofs.gathering.add_object.Goals as goal

pub returns-in_err-segments-clause-asks : goal.returns-in_err-segments-clause-asks
returns-in_err-segments-clause-asks g c =
    asks_failed (omega arith) c.in_err-segments.ensures.asks _ c.from_residual.ensures.1

pub returns-in_err-segments-clause-leaves : goal.returns-in_err-segments-clause-leaves
returns-in_err-segments-clause-leaves g c =
    c.in_err-segments.ensures.leaves

pub returns-then-many-gt10 : goal.returns-then-many-gt10
returns-then-many-gt10 g c =
    record { asks = object_refused c.args.bucket.now c.args.item.now c.requires.bucket c.in_ok-segments.ensures.asks c.as_slice.result.now c.as_slice.ensures (omega (arith, c.sub_manifests_in-many.ensures, c.if-many-gt10.true)); holds = λ observable. tt; stays = tt; leaves = c.in_ok-segments.ensures.leaves }

pub returns : goal.returns
returns g c =
    record {
      asks = object_added c.args.bucket.now c.args.item.now c.requires.bucket c.in_ok-segments.ensures.asks c.as_slice-2.result.now c.args.table.now c.add_listing.new.table c.as_slice-2.ensures
          (omega (arith, c.sub_manifests_in-many.ensures, c.if-many-gt10.false, ap sub_manifests_in (c.as_slice-2.ensures ∙ sym c.as_slice.ensures))) _ c.add_listing.ensures.asks;
      holds = λ observable.
          object_holds _ c.args.bucket.now c.args.item.now _ c.in_ok-segments.ensures.asks.grows.on c.in_ok-segments.ensures.leaves observable _ c.as_slice-2.result.now c.as_slice-2.ensures (c.in_ok-segments.ensures.says observable) _ c.add_listing.ensures.holds;
      stays = c.add_listing.ensures.stays;
      leaves = throughout_then c.in_ok-segments.ensures.asks.grows.on c.add_listing.ensures.asks.grows.on c.in_ok-segments.ensures.leaves c.add_listing.ensures.leaves;
    }
