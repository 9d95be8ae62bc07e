use Rattle.planned_swift.proofs.Serving.{items_listed}
use Rattle.planned_swift.proofs.serve.serve_list_names.Goals as goal

pub returns-in_ok-items-in-Some : goal.returns-in_ok-items-in-Some
returns-in_ok-items-in-Some c =
    items_listed c.args.limit c.args.prefix.now c.args.marker.now c.args.container.now c.args.containers.now c.in-Some.container.now c.in_ok-items-in-Some.items c.as_slice-objects.result.now c.requires.ordered c.in-Some.ensures c.as_slice-objects.ensures c.in_ok-items-in-Some.ensures
