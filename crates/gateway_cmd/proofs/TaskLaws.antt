-- What holds of each task, by its row of facts: one row a task. And what follows for any task.
use Rattle.std.specs.Prelude.{◌≡◌, ◌&&◌, ℕ, false, List, is_some}
use Rattle.std.proofs.Common.{refl, sym, ap, subst, ◌∙◌}
use Rattle.gate_base.specs.Line.{LineModel}
use Rattle.gate_base.specs.Told.{SourceModel}
use Rattle.sigv4.specs.Keys.{keys_of, are_keys, secret_of}
use Rattle.swift_calls.specs.History.{History}
use Rattle.account_calls.specs.declared.state.Known.{Known}
use Rattle.account_calls.specs.declared.state.Known.TheVariants.{Unsure}
use Rattle.account_calls.specs.Calls.{Met, Any}
use Rattle.account_calls.specs.Known.{IsKnown}
use Rattle.account_calls.proofs.lemmas.Idle.{none_made}
use Rattle.gateway.specs.World.{World, world}
use Rattle.gateway.proofs.lemmas.Worlds.{unsure_met}
use Rattle.trial_cmd.specs.Served.{trial_service}
use Rattle.gateway_cmd.specs.declared.status.RunOutcome.{RunOutcome}
use Rattle.gateway_cmd.specs.declared.status.RunOutcome.TheVariants.{Plain}
use Rattle.gateway_cmd.specs.declared.status.Status.TheVariants.{Memory, Usage}
use Rattle.gateway_cmd.specs.Facts.{Needs, impossible, any_keys, key_of_id, are_enough, facts_of, is_possible, Apart, Does, HasWorked}
use Rattle.gateway_cmd.specs.Lives.{answering, upkeep, forgetting, RunPromises}
use Rattle.gateway_cmd.specs.Report.{Admits}
use Rattle.gateway_cmd.specs.Session.{IsIdle, out_of_memory, keys_refused, nothing_done, none_swept, none_surveyed, nothing_tried}
use Rattle.gateway_cmd.specs.Tasks.{Task, nothing, to_serve, to_sign, to_presign, to_recover, to_sweep, to_check, to_try}
use Rattle.gateway_cmd.proofs.Recoveries.{recovers_quietly}
use Rattle.gateway_cmd.proofs.Sessions.{run_serves_none, run_signs_none, run_presigns_none, idle_fails, idle_ends, idle_never, idle_refused}
use Rattle.gateway_cmd.proofs.Surveying.{surveys_quietly}
use Rattle.gateway_cmd.proofs.SweepRuns.{sweeps_forget}
use Rattle.gateway_cmd.proofs.Trials.{tries_work}

-- ---- a row

pub record TaskLaws (task : Task) : Type 1 where
  -- a run that did nothing, as memory ran out before, or the keys are refused
  pub idle : (keys : List ℕ) (ended : RunOutcome) (line : LineModel) (store : History) (clock draws : SourceModel) → IsIdle keys ended
      → Does task keys ended (world line store Unsure clock draws) (λ known. world line store known clock draws)
  -- what the run is among others, one after another
  pub among : (L S C D : Type 0) (keys : List ℕ) (ended : RunOutcome) (old : World) (new : Known → World) → Does task keys ended old new → Apart task L S C D
      → (S → (new Unsure).store ≡ old.store) → ((known : Known) → (new known).store ≡ (new Unsure).store) → Met Any old.store → old.known ≡ Unsure → HasWorked task old.store (new Unsure).store

-- the store was left alone
still : {h h' : History} → h' ≡ h → Met Any h → RunPromises h' h.called h'.called upkeep
still {h = h} same met = subst (λ h'. RunPromises h' h.called h'.called upkeep) (sym same) (none_made refl met.sound)

laws_of : (task : Task) → TaskLaws task
laws_of nothing = record {
  idle = λ keys ended line store clock draws idle. tt;
  among = λ L S C D keys ended old new does apart same own met unsure. record { work = upkeep; is = refl; promises = still (same apart.1) met };
}
laws_of (to_serve serving) = record {
  idle = λ keys ended line store clock draws idle. run_serves_none serving keys ended line store clock draws (idle_fails idle) (idle_ends idle);
  among = λ L S C D keys ended old new does apart same own met unsure.
      let stood = does.serves.stands (subst (λ known. Met (IsKnown known) old.store) (sym unsure) (unsure_met met)) in
      record {
        work = answering serving.settings stood.spans;
        is = (stood.spans, refl);
        promises = subst (λ h. RunPromises h old.store.called h.called (answering serving.settings stood.spans)) (own does.known) (stood.follows, stood.passes);
      };
}
laws_of (to_sign id region) = record {
  idle = λ keys ended line store clock draws idle. run_signs_none id region keys store.called ended line (idle_fails idle) (idle_never idle);
  among = λ L S C D keys ended old new does apart same own met unsure. record { work = upkeep; is = refl; promises = still (same apart.0) met };
}
laws_of (to_presign id region expires) = record {
  idle = λ keys ended line store clock draws idle. run_presigns_none id region expires keys store.called ended line clock (idle_fails idle) (idle_never idle);
  among = λ L S C D keys ended old new does apart same own met unsure. record { work = upkeep; is = refl; promises = still (same apart.0) met };
}
laws_of to_recover = record {
  idle = λ keys ended line store clock draws idle. nothing_done refl idle;
  among = λ L S C D keys ended old new does apart same own met unsure. record { work = upkeep; is = refl; promises = recovers_quietly does met };
}
laws_of (to_sweep before) = record {
  idle = λ keys ended line store clock draws idle. none_swept refl idle;
  among = λ L S C D keys ended old new does apart same own met unsure. record { work = forgetting before; is = refl; promises = sweeps_forget does met };
}
laws_of to_check = record {
  idle = λ keys ended line store clock draws idle. none_surveyed refl idle;
  among = λ L S C D keys ended old new does apart same own met unsure. record { work = upkeep; is = refl; promises = surveys_quietly does met };
}
laws_of (to_try number requests) = record {
  idle = λ keys ended line store clock draws idle. nothing_tried refl idle;
  among = λ L S C D keys ended old new does apart same own met unsure.
      let work = tries_work does met in
      record { work = answering trial_service.settings work.spans; is = (work.spans, refl); promises = work.promises };
}

-- ---- of any task

pub does_none : (task : Task) (keys : List ℕ) (ended : RunOutcome) (line : LineModel) (store : History) (clock draws : SourceModel) → IsIdle keys ended
    → Does task keys ended (world line store Unsure clock draws) (λ known. world line store known clock draws)
does_none task keys ended line store clock draws idle = (laws_of task).idle keys ended line store clock draws idle

pub works : (L S C D : Type 0) (task : Task) (keys : List ℕ) (ended : RunOutcome) (old : World) (new : Known → World) → Does task keys ended old new → Apart task L S C D
    → (S → (new Unsure).store ≡ old.store) → ((known : Known) → (new known).store ≡ (new Unsure).store) → Met Any old.store → old.known ≡ Unsure → HasWorked task old.store (new Unsure).store
works L S C D task keys ended old new does apart same own met unsure = (laws_of task).among L S C D keys ended old new does apart same own met unsure

-- by keys that are refused nothing can be done
refused_by : (needs : Needs) (keys : List ℕ) → are_keys (keys_of keys) ≡ false → are_enough needs keys ≡ false
refused_by impossible keys bad = refl
refused_by any_keys keys bad = bad
refused_by (key_of_id id) keys bad = ap (λ b. b && is_some (secret_of id (keys_of keys))) bad

idle_usage : (task : Task) (keys : List ℕ) (ended : RunOutcome) → IsIdle keys ended → ended ≡ Plain Usage → is_possible task keys ≡ false
idle_usage task keys ended (out_of_memory memory) usage = absurd (let clash : Plain Memory ≡ Plain Usage = sym memory ∙ usage in cc)
idle_usage task keys ended (keys_refused usage bad) same = refused_by (facts_of task).needs keys bad

pub idle_admits : (task : Task) (keys : List ℕ) (ended : RunOutcome) → IsIdle keys ended → Admits (is_possible task keys) ended
idle_admits task keys ended idle = record { usage = idle_usage task keys ended idle; refused = λ no other. idle_refused keys ended idle other }
