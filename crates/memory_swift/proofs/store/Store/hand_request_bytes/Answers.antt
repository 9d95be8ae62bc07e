use Rattle.std.proofs.Common.{subst}
use Rattle.swift_calls.specs.Step.{swift_step}
use Rattle.memory_swift.specs.Handing.{IsMessageIn}
use Rattle.memory_swift.proofs.Handed.{handed, failed, no_request}
use Rattle.swift_store.proofs.lemmas.Made.{has_spelling}
use Rattle.memory_swift.proofs.store.Store.hand_request_bytes.Goals as goal

pub returns-in-Ok-clause-hands : goal.returns-in-Ok-clause-hands
returns-in-Ok-clause-hands g c = λ empty bound o call fit request.
    let account = (g.S.Shelf.model c.args.self.now.shelf).account in
    let spells = subst (IsMessageIn c.args.bytes.now) c.in-Some.is c.in_ok-message.ensures in
    handed c.args.self.now.place c.in-Some.message c.args.bytes.now call spells request _ account (g.S.Shelf.model c.serve.new.self.shelf).account c.args.out.now c.serve.new.out empty o
    c.in-Ok.ensures.served (c.law_reads_back.ensures call (swift_step call account).reply (has_spelling call account fit (g.met.S.Shelf.made c.args.self.now.shelf o))) bound

pub returns-in-Err-Failed-clause-hands : goal.returns-in-Err-Failed-clause-hands
returns-in-Err-Failed-clause-hands g c = λ empty bound o call fit request.
    let spells = subst (IsMessageIn c.args.bytes.now) c.in-Some.is c.in_ok-message.ensures in
    failed c.args.self.now.place c.in-Some.message c.args.bytes.now call spells request _ (g.S.Shelf.model c.args.self.now.shelf).account (g.S.Shelf.model c.serve.new.self.shelf).account c.args.out.now c.serve.new.out empty o
    _ c.in-Err-Failed.field-0-is c.in-Err-Failed.ensures.served

pub returns-in_ok-append-in-None-clause-hands : goal.returns-in_ok-append-in-None-clause-hands
returns-in_ok-append-in-None-clause-hands g c = λ empty bound o call fit request.
    no_request c.args.self.now.place c.args.bytes.now call (subst (IsMessageIn c.args.bytes.now) c.in-None.is c.in_ok-message.ensures) request
