use Rattle.std.proofs.Common.{ap, ◌∙◌}
use Rattle.std.specs.List.{list_all}
use Rattle.upload_texts.specs.Sealed.{part_fits_sealed_text}
use Rattle.account_calls.proofs.lemmas.SealStands.{limits}
use Rattle.leftovers.proofs.used.add_sealed_completion.Goals as goal

pub add_part_names-requires : goal.add_part_names-requires
add_part_names-requires c = ap (list_all part_fits_sealed_text) c.as_slice-3.ensures ∙ (limits c.args.sealed.now c.requires).parts
