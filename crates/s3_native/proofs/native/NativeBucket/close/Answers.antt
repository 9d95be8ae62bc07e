use Rattle.std.proofs.Common.{sym, ap, ◌∙◌}
use Rattle.std.specs.Prelude.{is_some}
use Rattle.std.specs.FinMap.{get, remove}
use Rattle.s3_machine.specs.State.{Bucket}
use Rattle.s3_native.specs.contracts.native.NativeBucket.{the_view}
use Rattle.s3_native.proofs.Completing.{dropped_again}
use Rattle.s3_native.proofs.native.NativeBucket.close.Goals as goal

pub returns-in-Err-clause-err : goal.returns-in-Err-clause-err
returns-in-Err-clause-err c =
    let b = c.self.inside in
    let id = c.args.id.now in
    let kept = c.drop_at-in-Err.ensures ∙ ap (λ m. remove m id) c.in_ok-put.ensures.ok ∙ dropped_again b.kept id _ (ap (λ (b : Bucket). is_some (get b.kept id)) c.self.view_is ∙ sym c.is_kept.ensures ∙ c.if-is_kept.false) in
    (λ i. the_view (record { created = b.created; acl = b.acl; objects = c.in-Err.ensures.err i; uploads = b.uploads; kept = kept i })) ∙ c.self.view_is
