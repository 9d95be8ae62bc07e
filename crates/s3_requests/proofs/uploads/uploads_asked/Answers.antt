use Rattle.std.proofs.Common.{◌≡◌, ◌≤◌, ℕ, List, true, sym, subst}
use Rattle.s3_machine.specs.Limits.{is_listing_text, most_items}
use Rattle.s3_requests.proofs.ProperReads.{uploads_proper}
use Rattle.s3_requests.proofs.uploads.uploads_asked.Goals as goal

abbrev Fits : List ℕ → Type 0
Fits text = is_listing_text text ≡ true

pub of-asked-requires : goal.of-asked-requires
of-asked-requires c =
    let proper = uploads_proper c.args.query.now c.requires in
    record {
      prefix = subst Fits (sym c.in_ok-prefix.ensures) proper.prefix;
      key_marker = subst Fits (sym c.in_ok-key_marker.ensures) proper.key_marker;
      id_marker = subst Fits (sym c.in_ok-id_marker.ensures) proper.id_marker;
      few = subst (λ (max : ℕ). max ≤ most_items) (sym c.most_by.ensures) proper.few;
    }
