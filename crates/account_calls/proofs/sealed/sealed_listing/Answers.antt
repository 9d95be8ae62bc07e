use Rattle.std.proofs.Common.{◌<◌, ◌≤◌, ◌^◌, List, length, subst, sym}
use Rattle.s3_machine.specs.Uploads.{most_parts}
use Rattle.slo_manifest.specs.declared.Segment.{Segment}
use Rattle.account_calls.specs.SubManifests.{sum_of}
use Rattle.account_calls.proofs.lemmas.SealStands.{segments_few}
use Rattle.account_calls.proofs.sealed.sealed_listing.Goals as goal

pub listing_of_segments-requires-clause-few : goal.listing_of_segments-requires-clause-few
listing_of_segments-requires-clause-few c = subst (λ (l : List Segment). length l ≤ most_parts) (sym c.in_ok-segments.ensures) (segments_few c.args.sealed.now c.requires).few

pub listing_of_segments-requires-clause-small : goal.listing_of_segments-requires-clause-small
listing_of_segments-requires-clause-small c = subst (λ (l : List Segment). sum_of l < 2 ^ 63) (sym c.in_ok-segments.ensures) (segments_few c.args.sealed.now c.requires).sum
