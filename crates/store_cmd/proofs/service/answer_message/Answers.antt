use Rattle.std.proofs.Common.{List, ℕ, [], None, Some, Option, Ok, Err, if◌then◌else◌, sym, ap, subst, ◌∙◌}
use Rattle.http_service.specs.declared.ended.Ended.{Ended}
use Rattle.http_service.specs.declared.ended.Ended.TheVariants.{Closed, ServiceFailed, Memory}
use Rattle.http_service.specs.Answering.{Sends}
use Rattle.swift_replies.specs.AnswerText.{refusal}
use Rattle.swift_store.specs.Serving.{Served}
use Rattle.swift_store.specs.declared.faults.StoreFault.TheVariants as fault
use Rattle.store_cmd.specs.Connection.{end_after, state_of}
use Rattle.store_cmd.proofs.Answering.{answered_ok, answered_failed, answered_out_of_memory}
use Rattle.store_cmd.proofs.service.answer_message.Goals as goal

pub returns-in-Ok-clause-answers : goal.returns-in-Ok-clause-answers
returns-in-Ok-clause-answers g c = λ told on observable.
    let before = (g.N.Line.model c.args.line.now).transcript in
    let after = (g.N.Line.model c.send_piece.new.line).transcript in
    let shelf = g.S.Shelf.model c.args.shelf.now in
    let shelf' = g.S.Shelf.model c.serve.new.shelf in (
      c.as_slice.result.now,
      end_after c.args.message,
      answered_ok told shelf.observable on c.args.setup.now.place c.args.message (state_of shelf) (state_of shelf') c.as_slice.result.now
          (subst (λ (t : List ℕ). Served shelf.observable c.args.setup.now.place c.args.message shelf.account shelf'.account [] t (Ok tt)) (sym c.as_slice.ensures)
          (subst (λ (b : List ℕ). Served shelf.observable c.args.setup.now.place c.args.message shelf.account shelf'.account b c.serve.new.out (Ok tt)) c.new-text.ensures c.in-Ok.ensures.served))
          c.in-Ok.ensures.keeps.faults,
      subst (λ (e : Option Ended). Sends before.begun 0 c.as_slice.result.now e before.sent c.send_piece.result after.sent)
          (c.ended_after_answer.ensures.value ∙ ap (λ l. if l then Some Closed else None) c.closes-last.ensures) (c.send_piece.ensures.effect observable),
    )

pub returns-in-Err-Failed-clause-answers : goal.returns-in-Err-Failed-clause-answers
returns-in-Err-Failed-clause-answers g c = λ told on observable.
    let before = (g.N.Line.model c.args.line.now).transcript in
    let after = (g.N.Line.model c.send_piece-in-Err-Failed.new.line).transcript in
    let shelf = g.S.Shelf.model c.args.shelf.now in
    let shelf' = g.S.Shelf.model c.serve.new.shelf in (
      refusal 503,
      Some ServiceFailed,
      answered_failed told shelf.observable on c.args.setup.now.place c.args.message (state_of shelf) (state_of shelf') c.serve.new.out
          (subst (λ (b : List ℕ). Served shelf.observable c.args.setup.now.place c.args.message shelf.account shelf'.account b c.serve.new.out (Err fault.Failed)) c.new-text.ensures
          (rw c.in-Err-Failed.field-0-is at c.in-Err-Failed.ensures.served))
          (rw c.in-Err-Failed.field-0-is at c.in-Err-Failed.ensures.keeps.faults),
      subst (λ (b : List ℕ). Sends before.begun 0 b (Some ServiceFailed) before.sent c.send_piece-in-Err-Failed.result after.sent)
          (c.as_slice-in-Err-Failed.ensures ∙ c.args.setup.now.ready.unavailable) (c.send_piece-in-Err-Failed.ensures.effect observable),
    )

pub returns-clause-answers : goal.returns-clause-answers
returns-clause-answers g c = λ told on observable.
    let before = (g.N.Line.model c.args.line.now).transcript in
    let after = (g.N.Line.model c.send_piece-in-Err-Memory.new.line).transcript in
    let shelf = g.S.Shelf.model c.args.shelf.now in
    let shelf' = g.S.Shelf.model c.serve.new.shelf in (
      refusal 500,
      Some Memory,
      answered_out_of_memory told shelf.observable on c.args.setup.now.place c.args.message (state_of shelf) (state_of shelf') c.serve.new.out
          (subst (λ (b : List ℕ). Served shelf.observable c.args.setup.now.place c.args.message shelf.account shelf'.account b c.serve.new.out (Err fault.Memory)) c.new-text.ensures
          (rw c.in-Err-Memory.field-0-is at c.in-Err-Memory.ensures.served))
          (rw c.in-Err-Memory.field-0-is at c.in-Err-Memory.ensures.keeps.faults),
      subst (λ (b : List ℕ). Sends before.begun 0 b (Some Memory) before.sent c.send_piece-in-Err-Memory.result after.sent)
          (c.as_slice-in-Err-Memory.ensures ∙ c.args.setup.now.ready.out_of_memory) (c.send_piece-in-Err-Memory.ensures.effect observable),
    )
