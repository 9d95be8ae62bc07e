use Rattle.sigv4.proofs.VerdictLemmas.{dated, time_has_form}
use Rattle.sigv4.specs.Verdict.{time_of}
use Rattle.sigv4.proofs.verdict.expected_signature.Goals as goal

pub sign-requires : goal.sign-requires
sign-requires c =
    rw (c.time_of.ensures, c.as_slice-headers.ensures) (time_has_form (time_of c.args.request.now.message.now.headers) (dated c.args.claim.now c.args.request.now.message.now.headers c.requires))
