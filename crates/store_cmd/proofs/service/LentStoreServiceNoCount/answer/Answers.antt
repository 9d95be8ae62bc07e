use Rattle.std.proofs.Common.{refl, sym, subst}
use Rattle.store_cmd.specs.Connection.{StoreAnswers, state_of}
use Rattle.store_cmd.proofs.service.LentStoreServiceNoCount.answer.Goals as goal

pub returns-in-Message-clause-answers : goal.returns-in-Message-clause-answers
returns-in-Message-clause-answers g c = λ told given observable.
    let before = (g.N.Line.model c.args.line.now).transcript in
    let after = (g.N.Line.model c.answer_message.new.line).transcript in
    subst (λ received. (note : Unit {0}) × StoreAnswers told c.args.self.now.setup.now.place before.begun received (state_of (g.S.Shelf.model c.args.self.now.shelf.now)) before.sent note c.answer_message.result
    (state_of (g.S.Shelf.model c.answer_message.new.shelf)) after.sent)
    (sym c.in-Message.is) (tt, c.answer_message.ensures.answers told given observable)

pub returns-in-Refused-clause-answers : goal.returns-in-Refused-clause-answers
returns-in-Refused-clause-answers g c = λ told given observable.
    let before = (g.N.Line.model c.args.line.now).transcript in
    let after = (g.N.Line.model c.answer_bad_request.new.line).transcript in
    subst (λ received. (note : Unit {0}) × StoreAnswers told c.args.self.now.setup.now.place before.begun received (state_of (g.S.Shelf.model c.args.self.now.shelf.now)) before.sent note c.answer_bad_request.result
    (state_of (g.S.Shelf.model c.args.self.now.shelf.now)) after.sent)
    (sym c.in-Refused.is) (tt, (refl, c.answer_bad_request.ensures.sends observable))
