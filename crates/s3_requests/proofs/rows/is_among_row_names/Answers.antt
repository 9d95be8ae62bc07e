use Rattle.std.proofs.Common.{◌∙◌}
use Rattle.s3_requests.proofs.Texts.{any_text}
use Rattle.s3_requests.proofs.rows.is_among_row_names.Goals as goal

pub returns : goal.returns
returns c = c.is_text_of_row_names.ensures ∙ any_text c.args.name.now c.args.names.now
