use Rattle.std.proofs.Common.{List, ℕ, Some, subst, ◌∙◌}
use Rattle.http_service.specs.declared.ended.Ended.TheVariants.{Refused}
use Rattle.http_service.specs.Answering.{Sends}
use Rattle.store_cmd.proofs.service.answer_bad_request.Goals as goal

pub returns-clause-sends : goal.returns-clause-sends
returns-clause-sends g c = λ observable.
    let before = (g.N.Line.model c.args.line.now).transcript in
    let after = (g.N.Line.model c.send_piece.new.line).transcript in
    subst (λ (b : List ℕ). Sends before.begun 0 b (Some (Refused c.args.kind c.args.place)) before.sent c.send_piece.result after.sent)
    (c.as_slice.ensures ∙ c.args.setup.now.ready.bad_request) (c.send_piece.ensures.effect observable)
