use Rattle.std.specs.Prelude.{None, Some}
use Rattle.std.proofs.Common.{ap, arith, sym, ◌∙◌, lit≤, rules, subst, IfSome}
use Rattle.s3_machine.specs.Limits.{body_limit}
use Rattle.account_calls.specs.Calls.{TellsBytes, always}
use Rattle.upload_records.specs.Native.{s3_state}
use Rattle.account_calls.proofs.lemmas.Ends.{after_told, calls_end, calls_in_vain, goes_on_from, met_within}
use Rattle.many_keys.proofs.CopiedPart.{as_wanted, copy_is_told, not_gone, source_told}
use Rattle.account_calls.proofs.lemmas.Puts.{ensures_less}
use Rattle.many_keys.proofs.CopiedFrom.{of_file}
use Rattle.s3_machine.specs.Proper.{IsProperCopyRange}
use Rattle.many_keys.proofs.copied_part.plan_part_copy_of_bytes.Goals as goal

pub plan_put_part_copy-requires : goal.plan_put_part_copy-requires
plan_put_part_copy-requires g c =
    let limit = ap body_limit c.get_object.ensures.stays.settings in
    let sized = c.requires.wanted.sized in
    record { sized = omega (arith, limit, sized, c.len.ensures, c.if-len-wanted.false) }

pub returns-in_err-told-clause-plans : goal.returns-in_err-told-clause-plans
returns-in_err-told-clause-plans g c = λ key text.
    calls_in_vain (always 1) (lit≤ tt) (met_within (λ tree may. source_told c.as_slice-etag.ensures may)) c.in_err-told.ensures.asks _ c.from_residual.ensures.1

pub returns-in_default-clause-plans : goal.returns-in_default-clause-plans
returns-in_default-clause-plans g c = λ key text.
    calls_end (always 1) (lit≤ tt) (met_within (λ tree may. source_told c.as_slice-etag.ensures may)) None c.in_default.is _ c.in_ok-told.ensures.asks tt (search rules)
    (λ tree may gone. absurd (not_gone c.args.state.now.settings.now c.args.copy.into.bucket key text c.args.copy.into.number c.args.copy.from_bucket c.args.copy.from_key c.args.copy.range c.args.copy.into.label tree c.fits.ensures c.args.copy.into.id c.args.head may
    c.requires.wanted.ends (subst (λ r. IfSome r IsProperCopyRange) c.numbers_of-range.ensures.numbers c.numbers_of-range.ensures.ranges) (subst (λ r. TellsBytes c.args.copy.from_bucket c.args.copy.from_key r (s3_state tree) None) c.numbers_of-range.ensures.numbers gone)))

pub returns-then-len-wanted-clause-plans : goal.returns-then-len-wanted-clause-plans
returns-then-len-wanted-clause-plans g c = λ key text.
    calls_end (always 1) (lit≤ tt) (met_within (λ tree may. source_told c.as_slice-etag.ensures may)) (Some c.in-Some.body) c.in-Some.is _ c.in_ok-told.ensures.asks tt (search rules)
    (λ tree may told.
    let many = as_wanted c.args.state.now.settings.now c.args.copy.into.bucket key text c.args.copy.into.number c.args.copy.from_bucket c.args.copy.from_key c.args.copy.range c.args.copy.into.label tree c.fits.ensures c.args.copy.into.id c.args.head may
    c.requires.wanted.ends (subst (λ r. IfSome r IsProperCopyRange) c.numbers_of-range.ensures.numbers c.numbers_of-range.ensures.ranges) c.in-Some.body (subst (λ r. TellsBytes c.args.copy.from_bucket c.args.copy.from_key r (s3_state tree) (Some c.in-Some.body)) c.numbers_of-range.ensures.numbers told) in
    absurd (c.if-len-wanted.true (c.len.ensures ∙ many ∙ sym c.requires.wanted.are)))

pub returns-clause-plans : goal.returns-clause-plans
returns-clause-plans g c = λ key text.
    goes_on_from (met_within (λ tree may. source_told c.as_slice-etag.ensures may)) c.get_object.ensures.stays.settings c.in_ok-told.ensures.asks
    (c.plan_put_part_copy.ensures.plans key text c.args.copy.from_bucket c.args.copy.from_key c.args.copy.range)
    (λ may tells. after_told _ _ (Some c.in-Some.body) c.in-Some.is
    (λ tree may told. copy_is_told c.args.state.now.settings.now c.args.copy.into.bucket key text c.args.copy.into.number c.args.copy.from_bucket c.args.copy.from_key c.args.copy.range c.args.copy.into.label tree c.fits.ensures c.args.copy.into.id c.args.head may
    c.requires.wanted.ends (subst (λ r. IfSome r IsProperCopyRange) c.numbers_of-range.ensures.numbers c.numbers_of-range.ensures.ranges) c.in-Some.body (subst (λ r. TellsBytes c.args.copy.from_bucket c.args.copy.from_key r (s3_state tree) (Some c.in-Some.body)) c.numbers_of-range.ensures.numbers told)) may tells)
    (lit≤ tt)

pub returns-clause-stands : goal.returns-clause-stands
returns-clause-stands g c = ensures_less (λ tree stands. record { body = _; stands = stands }) _ c.plan_put_part_copy.ensures.stands

pub returns-clause-unchanged : goal.returns-clause-unchanged
returns-clause-unchanged g c = of_file (g.W.Swift.history c.args.state.now.store.now) c.args.copy.from_bucket c.args.copy.from_key c.args.head.size c.as_slice-etag.ensures c.in-Some.is c.in_ok-told.ensures.unchanged _
