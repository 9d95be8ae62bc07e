use Rattle.std.proofs.Common.{◌≡◌, ◌<◌, ◌++◌, ◌∙◌, ap, arith, sym, subst}
use Rattle.swift_calls.specs.History.{budget}
use Rattle.swift_requests.specs.Calls.{SpellsRequest}
use Rattle.swift_requests.specs.CallText.{body_with}
use Rattle.swift_client.proofs.Calling.{read_as, lost, unread}
use Rattle.swift_client.proofs.client.SwiftClient.exchange_written.Goals as goal

pub returns-in-Ok : goal.returns-in-Ok
returns-in-Ok g c =
    let counted = g.met.L.Link.counted c.args.self.now.link in
    let some = c.requires.left in
    let left : (g.L.Link.history c.args.self.now.link).called < budget = omega (arith, counted, some) in
    let sent : c.as_slice.result.now ++ c.body.result.now ≡ c.args.written.now.head ++ body_with c.args.request.now c.args.written.now.made =
    ap (λ head. head ++ c.body.result.now) c.as_slice.ensures ∙ ap (λ body. c.args.written.now.head ++ body) c.body.ensures in
    let spells = subst (SpellsRequest c.args.self.now.place c.args.request.now) (sym sent) c.requires.spells in
    rw (c.read.ensures.link, c.read.ensures.place)
    (read_as _ _ _ _ _ left c.requires.fit _ _ spells _ _ c.exchange.ensures.place c.in-Ok.ensures.exchanges _ _ c.read.ensures.reads c.read.ensures.own)

pub returns-in-Err-Failed : goal.returns-in-Err-Failed
returns-in-Err-Failed g c =
    let counted = g.met.L.Link.counted c.args.self.now.link in
    let some = c.requires.left in
    let left : (g.L.Link.history c.args.self.now.link).called < budget = omega (arith, counted, some) in
    let sent : c.as_slice.result.now ++ c.body.result.now ≡ c.args.written.now.head ++ body_with c.args.request.now c.args.written.now.made =
    ap (λ head. head ++ c.body.result.now) c.as_slice.ensures ∙ ap (λ body. c.args.written.now.head ++ body) c.body.ensures in
    let spells = subst (SpellsRequest c.args.self.now.place c.args.request.now) (sym sent) c.requires.spells in
    lost _ _ _ _ _ left c.requires.fit _ _ spells _ _ c.exchange.ensures.place _ c.in-Err-Failed.field-0-is c.in-Err-Failed.ensures.exchanges

pub returns-in-Err-Memory : goal.returns-in-Err-Memory
returns-in-Err-Memory g c =
    let counted = g.met.L.Link.counted c.args.self.now.link in
    let some = c.requires.left in
    let left : (g.L.Link.history c.args.self.now.link).called < budget = omega (arith, counted, some) in
    let sent : c.as_slice.result.now ++ c.body.result.now ≡ c.args.written.now.head ++ body_with c.args.request.now c.args.written.now.made =
    ap (λ head. head ++ c.body.result.now) c.as_slice.ensures ∙ ap (λ body. c.args.written.now.head ++ body) c.body.ensures in
    let spells = subst (SpellsRequest c.args.self.now.place c.args.request.now) (sym sent) c.requires.spells in
    unread _ _ _ _ _ left c.requires.fit _ _ spells _ _ c.exchange.ensures.place _ c.in-Err-Memory.field-0-is c.in-Err-Memory.ensures.exchanges
