-- How a store is settled: the PUT of the gateway's own container, and the whole.
use Rattle.std.specs.Prelude.{◌≡◌, ℕ, IsTrue, List, None, Ok, Err}
use Rattle.std.specs.FinMap.{get}
use Rattle.std.proofs.Common.{refl, sym, subst, inl, inr, lit≤}
use Rattle.swift_calls.specs.History.{History, Calls, present}
use Rattle.swift_calls.specs.declared.account.ReadList.TheVariants.{Nobody}
use Rattle.swift_calls.specs.declared.calls.SwiftReply.{SwiftReply}
use Rattle.swift_calls.specs.declared.calls.SwiftRequest.TheVariants.{PutContainer}
use Rattle.upload_records.specs.Layout.{gateway_name}
use Rattle.upload_records.specs.Native.{IsSettled}
use Rattle.upload_records.proofs.lemmas.SideCalls.{gateway_made, gateway_seals, gateway_settled, gateway_there}
use Rattle.account_calls.specs.declared.fault.PlanFault.{PlanFault}
use Rattle.account_calls.specs.declared.fault.PlanFault.TheVariants as plan
use Rattle.account_calls.specs.Calls.{always, Any, Asks}
use Rattle.account_calls.specs.Purging.{placed_due}
use Rattle.account_calls.proofs.lemmas.Quiet.{IsQuietOf, asks_left, asks_untold}
use Rattle.account_calls.proofs.lemmas.Sides.{placed}
use Rattle.recovery.specs.declared.state.SettleFault.{SettleFault}
use Rattle.recovery.specs.Rolls.{FinishesSealed, HasGateway, IsCounted, Leaves, OpensGateway}
use Rattle.recovery.specs.Settling.{settle_fault, IsNamedFault, NamesSealed, Settles, SettlesIt}
use Rattle.recovery.proofs.SubCalls.{asks_counted}

-- ---- the PUT of the container

gateway_put : IsQuietOf Any (PutContainer gateway_name Nobody None) placed_due OpensGateway
gateway_put = record {
  effect = λ tree sound any.
      let made = gateway_made tree None sound in
      record { told = tt; says = placed (get tree gateway_name) gateway_name tree; sound = made.sound; same = made.same; tells = record { there = made.there; same = gateway_seals tree None } };
  settled = λ tree settled. gateway_settled tree None settled;
}

pub puts_gateway : {name : List ℕ} → name ≡ gateway_name → IsQuietOf Any (PutContainer name Nobody None) placed_due OpensGateway
puts_gateway named = subst (λ n. IsQuietOf Any (PutContainer n Nobody None) placed_due OpensGateway) (sym named) gateway_put

there_by : {a b : History} {reply : SwiftReply} → Calls a b (PutContainer gateway_name Nobody None) (Ok reply) → IsTrue a.observable → HasGateway (present b)
there_by {a = a} {b = b} calls observable = subst HasGateway (sym (calls.effect observable).tree) (gateway_there (b.account_at a.called) None)

-- over every account it is there after an answer
pub gateway_put_there : {a b : History} {name : List ℕ} {reply : SwiftReply} → name ≡ gateway_name → Calls a b (PutContainer name Nobody None) (Ok reply) → IsTrue a.observable → HasGateway (present b)
gateway_put_there {a = a} {b = b} {reply = reply} named calls = there_by (subst (λ n. Calls a b (PutContainer n Nobody None) (Ok reply)) named calls)

-- ---- the whole

names_of : (f : PlanFault) (e : SettleFault) → IsNamedFault f e → NamesSealed (Err e)
names_of plan.Failed e is = subst (λ e. NamesSealed (Err e)) (sym is) tt
names_of plan.Memory e is = subst (λ e. NamesSealed (Err e)) (sym is) tt
names_of plan.Inconsistent e (inl is) = subst (λ e. NamesSealed (Err e)) (sym is) tt
names_of plan.Inconsistent e (inr is) = subst (λ e. NamesSealed (Err e)) (sym is) (refl, refl)

module _ {a b : History} (counted : IsCounted 5 Any a b) where
  pub settles_done : Asks (always 15) a b Any (Leaves IsSettled) (Ok tt) → (IsTrue a.observable → IsSettled (present b)) → FinishesSealed {T = Unit {0}} a b (Ok tt) → Settles a b (Ok tt)
  settles_done asks settled finishes = record {
    within = asks.grows.calls;
    asks = asks_counted {n = 15} (asks_left tt (lit≤ tt) asks (λ old new sound same given clear. clear)) counted;
    done = λ observable e. settled observable;
    named = tt;
    finishes = finishes;
  }

  fault_same : (f : PlanFault) (e : SettleFault) → IsNamedFault f e → Asks (always 15) a b Any SettlesIt (Err f) → Asks (always 15) a b Any SettlesIt (Err (settle_fault e))
  fault_same plan.Failed e is asks = subst (λ e. Asks (always 15) a b Any SettlesIt (Err (settle_fault e))) (sym is) asks
  fault_same plan.Memory e is asks = subst (λ e. Asks (always 15) a b Any SettlesIt (Err (settle_fault e))) (sym is) asks
  fault_same plan.Inconsistent e (inl is) asks =
      subst (λ e. Asks (always 15) a b Any SettlesIt (Err (settle_fault e))) (sym is) (record { grows = asks.grows; cause = asks.cause; effect = λ met. absurd (asks.effect met); settled = asks.settled })
  fault_same plan.Inconsistent e (inr is) asks = subst (λ e. Asks (always 15) a b Any SettlesIt (Err (settle_fault e))) (sym is) asks

  pub settles_fault : {f : PlanFault} {e : SettleFault} → IsNamedFault f e → Asks (always 15) a b Any (Leaves IsSettled) (Err f) → FinishesSealed {T = Unit {0}} a b (Err f) → Settles a b (Err e)
  settles_fault {f = f} {e = e} is asks finishes = record {
    within = asks.grows.calls;
    asks = asks_counted (fault_same f e is (asks_untold f asks)) counted;
    done = λ observable no. cc;
    named = names_of f e is;
    finishes = record { rolls = finishes.rolls; done = λ observable. tt };
  }
