use Rattle.std.proofs.Common.{◌∙◌}
use Rattle.s3_pages.proofs.Iso.{iso_from, iso_from_is}
use Rattle.s3_pages.proofs.texts.iso_from.Goals as goal

pub returns : goal.returns
returns c = λ date e. (λ i. iso_from c.args.text.now (c.month_digits-month.ensures i)) ∙ iso_from_is date c.args.text.now e
