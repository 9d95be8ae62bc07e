use Rattle.std.proofs.Common.{sym, ◌∙◌}
use Rattle.sigv4.proofs.VerdictLemmas.{dated}
use Rattle.sigv4.proofs.verdict.judge_claim_by_secret.Goals as goal

pub is_skewed-requires : goal.is_skewed-requires
is_skewed-requires c =
    let has_date = rw c.as_slice-headers.ensures at (sym c.lacks_date.ensures ∙ c.if-lacks_date.false) in
    rw (c.time_of.ensures, c.as_slice-headers.ensures) (dated c.args.claim.now c.args.request.now.message.now.headers has_date)
