use Rattle.std.proofs.Common.{sym, ap, ◌∙◌, slice_set}
use Rattle.planned_swift.proofs.Serving.{stored_put}
use Rattle.planned_swift.proofs.serve.serve_put_object.Goals as goal

pub returns-in_ok-reply-in-Some-clause-effect : goal.returns-in_ok-reply-in-Some-clause-effect
returns-in_ok-reply-in-Some-clause-effect c =
    ap (slice_set c.args.containers.now c.in-Some.index) c.in_ok-reply-in-Some.ensures.effect
    ∙ stored_put c.args.container.now c.args.object c.args.containers.now c.in-Some.index c.at_mut.result.now (sym c.in-Some.ensures.index) c.at_mut.ensures.value
