use Rattle.std.proofs.Common.{ap, ◌∙◌, pos, unsigned_abs}
use Rattle.sigv4.specs.Moment.{is_year}
use Rattle.presign.proofs.Times.{year_passed, year_abs, year_late}
use Rattle.presign.proofs.time.presigned_year_of.Goals as goal

pub returns-clause-year : goal.returns-clause-year
returns-clause-year c = ap pos c.presigned_year_as_unsigned.ensures ∙ ap (λ year. pos (unsigned_abs year)) (year_passed c.args.date) ∙ year_abs c.args.date c.requires

pub returns-clause-late : goal.returns-clause-late
returns-clause-late c = ap is_year c.presigned_year_as_unsigned.ensures ∙ ap (λ year. is_year (unsigned_abs year)) (year_passed c.args.date) ∙ year_late c.args.date c.requires
