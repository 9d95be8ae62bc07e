use Rattle.std.proofs.Common.{sym, ◌∙◌}
use Rattle.swift_store.proofs.Calls.{keeps_on}
use Rattle.swift_store.proofs.Writing.{posted_by}
use Rattle.swift_store.proofs.effects.post_container_on_shelf.Goals as goal

pub returns-in-Some : goal.returns-in-Some
returns-in-Some g c =
    let head = c.in_ok-created.ensures.reads in
    let put = c.put_container.ensures.writes in
    record {
      writes = record {
        keeps = keeps_on head.keeps put.keeps;
        effect = λ told. posted_by c.args.name.now c.args.readers _ c.in-Some.created _ _ _ _ (sym c.in-Some.is ∙ head.effect told) (head.same told) (put.effect (head.keeps.observable told));
      };
    }
