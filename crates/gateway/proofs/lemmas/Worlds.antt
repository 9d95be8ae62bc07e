-- How requests that are served over a world follow one another.
use Rattle.std.proofs.Common.{◌≡◌, Bool, IsTrue, refl, ◌∙◌}
use Rattle.gate_base.specs.Line.{LineModel}
use Rattle.gate_base.specs.Told.{SourceModel}
use Rattle.s3_machine.specs.declared.operation.Settings.{Settings}
use Rattle.swift_calls.specs.History.{History, Extends}
use Rattle.account_calls.specs.declared.state.Known.{Known}
use Rattle.account_calls.specs.declared.state.Known.TheVariants.{Settled, Unsure}
use Rattle.account_calls.specs.Calls.{Any, Met}
use Rattle.account_calls.specs.Known.{IsKnown}
use Rattle.account_calls.proofs.lemmas.Idle.{goes_none, goes_trans}
use Rattle.gateway.specs.Exchange.{ReplyRelation, RepliesBy, Where}
use Rattle.gateway.specs.World.{World, world, IsObservable, Continues, ServesOver, StaysLent}
use Rattle.gateway.specs.declared.world.World.{World as Lent}
use Rattle.gateway.proofs.Replying.{stands_still}
use Rattle.gateway.proofs.Looping.{where_map, met_now, stands_trans}

-- nothing is known of the store as it is begun with
pub unsure_met : {h : History} → Met Any h → Met (IsKnown Unsure) h
unsure_met met = record { observable = met.observable; sound = met.sound; has = λ is. absurd (let clash : Unsure ≡ Settled = is in cc) }

-- what was observable still is
pub observable_on : {old new : World} → Continues old new → IsObservable old → IsObservable new
observable_on on told = record { line = on.line told.line; clock = on.clock told.clock; draws = on.draws told.draws }

module _ {settings : Settings} {T : ReplyRelation → World → World → Type 0} {store : History} {known : Known} {clock draws : SourceModel} where
  -- no request was: the line alone was used
  pub serves_none : {line line' : LineModel} → (IsTrue line.observable → IsTrue line'.observable)
      → (IsObservable (world line store known clock draws) → (R : ReplyRelation) → T R (world line store known clock draws) (world line' store known clock draws))
      → ServesOver settings T (world line store known clock draws) (world line' store known clock draws)
  serves_none observable told = record {
    on = record { line = observable; store = goes_none store; clock = λ observable. observable; draws = λ observable. observable };
    knows = λ known. known;
    stands = stands_still settings known store;
    effect = λ known all met. told known _;
  }

  -- requests were, after the line alone was used
  pub serves_after : {U : ReplyRelation → World → World → Type 0} {line line' : LineModel} {new : World} → (IsTrue line.observable → IsTrue line'.observable) → ServesOver settings U (world line' store known clock draws) new
      → (IsObservable (world line store known clock draws) → (R : ReplyRelation) → U R (world line' store known clock draws) new → T R (world line store known clock draws) new)
      → ServesOver settings T (world line store known clock draws) new
  serves_after observable serves told = record {
    on = record { line = λ t. serves.on.line (observable t); store = serves.on.store; clock = serves.on.clock; draws = serves.on.draws };
    knows = serves.knows;
    stands = serves.stands;
    effect = λ t all met. told t _ (serves.effect (record { line = observable t.line; clock = t.clock; draws = t.draws }) all met);
  }

-- requests, and then others
pub serves_trans : {settings : Settings} {T U V : ReplyRelation → World → World → Type 0} {old middle new : World} → ServesOver settings T old middle → ServesOver settings U middle new
    → (IsObservable old → (all : Bool) → Where all (Extends middle.store.called middle.store new.store) → T (RepliesBy all settings middle.store) old middle → U (RepliesBy all settings new.store) middle new → V (RepliesBy all settings new.store) old new)
    → ServesOver settings V old new
serves_trans {middle = middle} first then joined = record {
  on = record {
    line = λ t. then.on.line (first.on.line t);
    store = goes_trans first.on.store then.on.store;
    clock = λ t. then.on.clock (first.on.clock t);
    draws = λ t. then.on.draws (first.on.draws t);
  };
  knows = λ known. then.knows (first.knows known);
  stands = stands_trans first.on.store then.on.store first.stands then.stands;
  effect = λ t all met.
      let given = where_map all (met_now first.on.store first.stands) met in
      joined t all (where_map all (λ (m : Met (IsKnown middle.known) middle.store). then.on.store.kept m.observable) given)
      (first.effect t all met) (then.effect (observable_on first.on t) all given);
}

-- ---- what is lent

pub stays_none : {N W C D : Type 0} {lent : Lent N W C D} → StaysLent lent lent
stays_none = record { line = refl; store = refl; clock = refl; draws = refl }

pub stays_on : {N W C D : Type 0} {old middle new : Lent N W C D} → StaysLent old middle → StaysLent middle new → StaysLent old new
stays_on first then = record { line = then.line ∙ first.line; store = then.store ∙ first.store; clock = then.clock ∙ first.clock; draws = then.draws ∙ first.draws }
