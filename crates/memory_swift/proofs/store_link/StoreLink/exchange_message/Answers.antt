use Rattle.std.proofs.Common.{◌<◌, ◌^◌, ◌+◌, List, length, refl, ap, subst, ◌∙◌}
use Rattle.swift_calls.specs.Outcomes.{outcome_of}
use Rattle.memory_swift.specs.declared.store.Store.{Store}
use Rattle.memory_swift.specs.declared.store_link.Entry.{Entry}
use Rattle.memory_swift.proofs.Logged.{wanted_by, lost_by, answered_by, vec_small, sure_kept, sure_noted, never_lost, noted_untold}
use Rattle.memory_swift.proofs.store_link.StoreLink.exchange_message.Goals as goal

pub returns-in_err-lost-clause-exchanges : goal.returns-in_err-lost-clause-exchanges
returns-in_err-lost-clause-exchanges g c =
    wanted_by {E = Entry g.row.S.Denot g.S.Shelf} {T = Store g.row.S.Denot g.S.Shelf} (λ s. (g.S.Shelf.model s.shelf).observable) (λ s. (g.S.Shelf.model s.shelf).account) (λ e. e.was.value) (λ e. e.lost)
    c.args.self.now.store.place c.args.request.now c.args.reply.now c.args.self.now.log.items c.args.self.now.store c.hand_or_lose_message.new.store (c.in_err-lost.ensures.observable, c.in_err-lost.ensures.told)
    _ _ (sure_kept _ _ _ _ _ _ c.in_err-lost.ensures.sure refl refl)
    c.reserve.new.self.items c.reserve.ensures.items c.in_err-lost.ensures.same c.from_residual.result c.from_residual.ensures.1

pub returns-then-lost-clause-exchanges : goal.returns-then-lost-clause-exchanges
returns-then-lost-clause-exchanges g c =
    let small = subst (λ t. length t < 2 ^ 63) c.answer.view_is (vec_small c.answer.inside.items) in
    lost_by {E = Entry g.row.S.Denot g.S.Shelf} {T = Store g.row.S.Denot g.S.Shelf} (λ s. (g.S.Shelf.model s.shelf).observable) (λ s. (g.S.Shelf.model s.shelf).account) (λ e. e.was.value) (λ e. e.lost)
    c.args.self.now.store.place c.args.request.now c.args.reply.now c.args.self.now.log.items c.args.self.now.store c.hand_or_lose_message.new.store (c.in_ok-lost.ensures.observable, c.in_ok-lost.ensures.told)
    _ _ (sure_noted {T = Store g.row.S.Denot g.S.Shelf} (λ s. (g.S.Shelf.model s.shelf).sure) c.args.self.now.store c.hand_or_lose_message.new.store c.note.new.self.store _ _ _ _ c.in_ok-lost.ensures.sure c.note.ensures.store c.note.ensures.before c.note.ensures.after)
    c.reserve.new.self.items c.note.new.self.log.items c.note.new.self.store _ c.reserve.ensures.items c.note.ensures.log c.note.ensures.store c.of-was.ensures
    (never_lost _ _ _ _ _ _ c.outcome-outcome.ensures c.if-lost.true c.in_ok-lost.ensures.never) c.hand_or_lose_message.new.answer c.in_ok-lost.lost c.if-lost.true refl (c.in_ok-lost.ensures.hands c.new-answer.ensures small)

pub returns-clause-exchanges : goal.returns-clause-exchanges
returns-clause-exchanges g c =
    let small = subst (λ t. length t < 2 ^ 63) c.answer.view_is (vec_small c.answer.inside.items) in
    answered_by {E = Entry g.row.S.Denot g.S.Shelf} {T = Store g.row.S.Denot g.S.Shelf} (λ s. (g.S.Shelf.model s.shelf).observable) (λ s. (g.S.Shelf.model s.shelf).account) (λ e. e.was.value) (λ e. e.lost)
    c.args.self.now.store.place c.args.request.now c.hand_or_lose_message.new.answer c.args.self.now.log.items c.args.self.now.store c.hand_or_lose_message.new.store (c.in_ok-lost.ensures.observable, c.in_ok-lost.ensures.told)
    _ _ (sure_noted {T = Store g.row.S.Denot g.S.Shelf} (λ s. (g.S.Shelf.model s.shelf).sure) c.args.self.now.store c.hand_or_lose_message.new.store c.note.new.self.store _ _ _ _ c.in_ok-lost.ensures.sure c.note.ensures.store c.note.ensures.before c.note.ensures.after)
    c.reserve.new.self.items c.note.new.self.log.items c.note.new.self.store _ c.reserve.ensures.items c.note.ensures.log c.note.ensures.store c.of-was.ensures
    c.in_ok-lost.lost c.if-lost.false refl (c.in_ok-lost.ensures.hands c.new-answer.ensures small)

pub returns-then-lost-clause-untold : goal.returns-then-lost-clause-untold
returns-then-lost-clause-untold g c = λ lost failed o.
    let small = subst (λ t. length t < 2 ^ 63) c.answer.view_is (vec_small c.answer.inside.items) in
    noted_untold {T = Store g.row.S.Denot g.S.Shelf} (λ s. (g.S.Shelf.model s.shelf).account) (λ s. (g.S.Shelf.model s.shelf).faults)
    c.args.self.now.store.place c.args.request.now c.args.self.now.store c.hand_or_lose_message.new.store c.note.new.self.store _ _ c.note.ensures.store
    (c.outcome-outcome.ensures ∙ ap (λ (l : List (Entry g.row.S.Denot g.S.Shelf)). outcome_of c.args.self.now.before c.args.self.now.after 0 (length l + 1)) (c.as_slice.ensures.value ∙ c.reserve.ensures.items))
    (λ is. c.in_ok-lost.ensures.untold is c.new-answer.ensures small o) lost
