use Rattle.std.proofs.Common.{◌≡◌, ap, subst, rules}
use Rattle.account_calls.specs.declared.state.Known.{Known}
use Rattle.account_calls.specs.declared.state.Known.TheVariants.{Unsure}
use Rattle.gateway.specs.World.{World, world, world_as, world_known}
use Rattle.gateway_cmd.specs.Facts.{Does}
use Rattle.gateway_cmd.specs.Tasks.{asked_for}
use Rattle.gateway_cmd.proofs.attempt.attempt.Goals as goal

-- what was lent as one is what was lent singly
pub returns-clause-does : goal.returns-clause-does
returns-clause-does g c =
    let over = c.over-lent in
    let lent = c.perform_by_words.new.lent in
    let line : lent.line.now ≡ c.line-1.given.0 = search rules in
    let store : lent.store.now ≡ c.store-1.given.0 = search rules in
    let clock : lent.clock.now ≡ c.clock-1.given.0 = search rules in
    let draws : lent.draws.now ≡ c.draws-1.given.0 = search rules in
    let line' : over.result.line.now ≡ c.args.line.now = ap (λ r. r.now) over.ensures.line in
    let store' : over.result.store.now ≡ c.args.store.now = ap (λ r. r.now) over.ensures.store in
    let clock' : over.result.clock.now ≡ c.args.clock.now = ap (λ r. r.now) over.ensures.clock in
    let draws' : over.result.draws.now ≡ c.args.draws.now = ap (λ r. r.now) over.ensures.draws in
    let begun : world_as g.N.Line.model g.W.Swift.history g.C.Clock.model g.D.Draws.model over.result Unsure
    ≡ world (g.N.Line.model c.args.line.now) (g.W.Swift.history c.args.store.now) Unsure (g.C.Clock.model c.args.clock.now) (g.D.Draws.model c.args.draws.now) =
    λ i. world (g.N.Line.model (line' i)) (g.W.Swift.history (store' i)) Unsure (g.C.Clock.model (clock' i)) (g.D.Draws.model (draws' i)) in
    let ended : world_as g.N.Line.model g.W.Swift.history g.C.Clock.model g.D.Draws.model lent
    ≡ world_known (g.N.Line.model c.line-1.given.0) (g.W.Swift.history c.store-1.given.0) (g.C.Clock.model c.clock-1.given.0) (g.D.Draws.model c.draws-1.given.0) =
    λ i known. world (g.N.Line.model (line i)) (g.W.Swift.history (store i)) known (g.C.Clock.model (clock i)) (g.D.Draws.model (draws i)) in
    subst (λ (new : Known → World). Does (asked_for c.args.words.now) c.args.keys.now c.perform_by_words.result (world (g.N.Line.model c.args.line.now) (g.W.Swift.history c.args.store.now) Unsure (g.C.Clock.model c.args.clock.now) (g.D.Draws.model c.args.draws.now)) new) ended
    (subst (λ (old : World). Does (asked_for c.args.words.now) c.args.keys.now c.perform_by_words.result old (world_as g.N.Line.model g.W.Swift.history g.C.Clock.model g.D.Draws.model lent)) begun c.perform_by_words.ensures.does)
