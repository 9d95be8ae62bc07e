use Rattle.std.proofs.Common.{◌∙◌}
use Rattle.s3_pages.proofs.Iso.{iso_time_is}
use Rattle.s3_pages.proofs.texts.iso_time.Goals as goal

pub returns : goal.returns
returns c = c.iso_from.ensures c.in-Ok.date c.to_bytes.ensures ∙ iso_time_is c.in-Ok.date c.args.moment c.in-Ok.ensures.value
