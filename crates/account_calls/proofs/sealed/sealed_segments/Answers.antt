use Rattle.std.proofs.Common.{ap, ◌∙◌}
use Rattle.std.specs.List.{list_all}
use Rattle.upload_texts.specs.Sealed.{part_fits_sealed_text}
use Rattle.account_calls.proofs.lemmas.SealStands.{limits}
use Rattle.account_calls.proofs.sealed.sealed_segments.Goals as goal

pub sealed_listing_segments-requires : goal.sealed_listing_segments-requires
sealed_listing_segments-requires c = ap (list_all part_fits_sealed_text) c.as_slice-2.ensures ∙ (limits c.args.sealed.now c.requires).parts
