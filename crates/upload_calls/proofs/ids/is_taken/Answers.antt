use Rattle.std.proofs.Common.{false, true, inl, ◌∙◌, arith}
use Rattle.account_calls.proofs.lemmas.Told.{told_none, told_more, told_end, told_fault, told_then}
use Rattle.upload_calls.specs.Taken.{TellsRecorded}
use Rattle.upload_calls.proofs.TakenIds.{taken_by}
use Rattle.upload_calls.proofs.ids.is_taken.Goals as goal

pub returns-in_err-is_taken_by_record-clause-asks : goal.returns-in_err-is_taken_by_record-clause-asks
returns-in_err-is_taken_by_record-clause-asks g c =
    told_fault (told_none _ {R = λ tree. Unit {0}} (λ tree. tt)) c.in_err-is_taken_by_record.ensures.asks _ c.from_residual.ensures.1 (λ near. omega (arith, near))

pub returns-then-branch-clause-asks : goal.returns-then-branch-clause-asks
returns-then-branch-clause-asks g c =
    told_end (told_more (told_none _ {R = λ tree. Unit {0}} (λ tree. tt)) {S = λ tree. TellsRecorded c.args.bucket.now c.args.id tree true} c.in_ok-is_taken_by_record.ensures.asks
    (λ tree none tells. tells ∙ c.if-branch.true)) true (λ tree tells. inl tells) (λ near. omega (arith, near))

pub returns-clause-asks : goal.returns-clause-asks
returns-clause-asks g c =
    told_then (told_more (told_none _ {R = λ tree. Unit {0}} (λ tree. tt)) {S = λ tree. TellsRecorded c.args.bucket.now c.args.id tree false} c.in_ok-is_taken_by_record.ensures.asks
    (λ tree none tells. tells ∙ c.if-branch.false)) (λ tree t none tells. taken_by c.args.bucket.now c.args.id tree t none tells) (λ near. omega (arith, near)) _ c.is_taken_by_segment.ensures.asks
