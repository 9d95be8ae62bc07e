use Rattle.sigv4.proofs.VerdictLemmas.{dated, time_has_form}
use Rattle.sigv4.specs.Verdict.{time_of}
use Rattle.sigv4.proofs.pieces.seal_of.Goals as goal

pub date_of-date-requires : goal.date_of-date-requires
date_of-date-requires c =
    rw (c.time_of-time.ensures, c.as_slice.ensures) (time_has_form (time_of c.args.message.now.headers) (dated c.args.claim.now c.args.message.now.headers c.requires))
