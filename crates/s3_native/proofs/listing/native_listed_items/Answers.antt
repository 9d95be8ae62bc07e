use Rattle.std.proofs.Common.{◌≡◌, ◌&&◌, List, length, map, nat_lt, take, ap, ◌∙◌}
use Rattle.std.specs.Prelude.{Bool}
use Rattle.std.specs.FinMap.{entries, from_entries}
use Rattle.gate_base.specs.Maps.{name_cmp}
use Rattle.s3_machine.specs.declared.items.Item.{Item}
use Rattle.s3_machine.specs.Items.{behind, row_of, with_prefix}
use Rattle.s3_machine.specs.Step.{item_of, listed_key, marker_of}
use Rattle.s3_native.proofs.Listings.{Row, cut, pair}
use Rattle.s3_native.proofs.listing.native_listed_items.Goals as goal

pub returns : goal.returns
returns c =
    let asked = c.args.asked.now in
    let keys = map listed_key (entries c.args.objects.now) in
    let found : List Row = behind c.native_listing_marker.result.now (entries c.in_ok-rows.rows) in
    let is = c.in_ok-rows.ensures in
    let in_bytes = c.in_ok-items.ensures in
    let texts : found ≡ behind (marker_of asked) (entries (from_entries {R = name_cmp} (map (row_of asked.prefix asked.delimiter) (with_prefix asked.prefix keys)))) =
    (λ i. behind (c.native_listing_marker.ensures i) (entries (is i)))
    ∙ (λ i. behind (marker_of asked) (entries (from_entries {R = name_cmp} (map (row_of (c.as_slice.ensures i) (c.as_slice-2.ensures i)) (with_prefix (c.as_slice.ensures i) keys))))) in
    pair c.first_native_items.ensures (c.is_native_listing_cut-truncated.ensures ∙ ap (λ n. nat_lt 0 asked.max && nat_lt asked.max n) c.len.ensures)
    ∙ cut asked.max found c.in_ok-items.items in_bytes
    ∙ ap {B = List Item × Bool} (λ rows. (map item_of (take asked.max rows), nat_lt 0 asked.max && nat_lt asked.max (length rows))) texts
