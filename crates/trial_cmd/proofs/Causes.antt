-- Why the connection of a trial ended, and what was given to it.
use Rattle.std.specs.Prelude.{◌≡◌, ℕ, Bool, true, false, List}
use Rattle.std.proofs.Common.{sym, subst}
use Rattle.gate_base.specs.Causes.{Rose}
use Rattle.gate_base.specs.Line.{LineModel}
use Rattle.gate_base.specs.ListTold.{source_of}
use Rattle.swift_calls.specs.History.{History}
use Rattle.account_calls.specs.Calls.{Any, Met}
use Rattle.account_calls.specs.Known.{IsKnown}
use Rattle.account_calls.specs.declared.state.Known.TheVariants.{Unsure}
use Rattle.gateway.specs.declared.ended.Ended.{Ended}
use Rattle.gateway.specs.declared.ended.Ended.TheVariants.{StoreFailed, Inconsistent}
use Rattle.gateway.specs.declared.service.Service.{Service}
use Rattle.gateway.specs.Connection.{ConnectionTrace}
use Rattle.gateway.specs.Exchange.{Span, RepliesBy, Where}
use Rattle.gateway.specs.Laws.{FailedStoreRose, FoundConsistent}
use Rattle.gateway.specs.World.{World, IsObservable, ServesOver, progress_of, start_of}
use Rattle.gateway.proofs.lemmas.Worlds.{unsure_met}
use Rattle.trial_cmd.specs.declared.serve.Trial.{Trial}
use Rattle.trial_cmd.specs.Replied.{OwnReplies, RepliesAlone, is_replied_end}
use Rattle.trial_cmd.specs.Served.{TrialTalks}
use Rattle.trial_cmd.proofs.Replying.{replies_alone}

-- the clause of a connection that was served
abbrev pub Serves : Service → Ended → World → World → Type 0
Serves service ended old new =
    ServesOver service.settings (λ R from to. (spans : List Span) × ConnectionTrace service R from.line.transcript.begun ended (start_of from) spans (progress_of to)) old new

pub failed_rose : (service : Service) (ended : Ended) (old new : World) → FailedStoreRose → Serves service ended old new → IsObservable old → ended ≡ StoreFailed → Rose old.store.faults new.store.faults
failed_rose service ended old new law serves told is =
    let trace = serves.effect told false tt in
    law service false new.store old.line.transcript.begun (start_of old) trace.0 (progress_of new)
    (subst (λ ended. ConnectionTrace service (RepliesBy false service.settings new.store) old.line.transcript.begun ended (start_of old) trace.0 (progress_of new)) is trace.1)

pub never_found : (service : Service) (ended : Ended) (old new : World) → FoundConsistent → Serves service ended old new → IsObservable old → old.known ≡ Unsure → Met Any old.store
    → (container name : List ℕ) → ended ≡ Inconsistent container name → ⊥
never_found service ended old new law serves told unsure met container name is =
    let trace = serves.effect told true (subst (λ known. Met (IsKnown known) old.store) (sym unsure) (unsure_met met)) in
    law service new.store old.line.transcript.begun container name (start_of old) trace.0 (progress_of new)
    (subst (λ ended. ConnectionTrace service (RepliesBy true service.settings new.store) old.line.transcript.begun ended (start_of old) trace.0 (progress_of new)) is trace.1)

-- what was written, where the connection was served to its end and no fault was counted
pub written_alone : (service : Service) (ended : Ended) (old new : World) → Serves service ended old new → IsObservable old → old.known ≡ Unsure → is_replied_end ended ≡ true → (Rose old.store.faults new.store.faults → ⊥)
    → (all : Bool) → Where all (Met Any old.store) → (output : List ℕ) × RepliesAlone service (OwnReplies all service.settings new.store) old.line.transcript.begun ended (start_of old) output (progress_of new)
written_alone service ended old new serves told unsure is still true met =
    replies_alone true service new.store ended is still (serves.effect told true (subst (λ known. Met (IsKnown known) old.store) (sym unsure) (unsure_met met))).1
written_alone service ended old new serves told unsure is still false none = replies_alone false service new.store ended is still (serves.effect told false tt).1

-- the same service, the same moments and the same draws
pub talks_by : {service service' : Service} {line : LineModel} {moments moments' draws draws' : List ℕ} {old new : History} {trial : Trial} → service ≡ service' → moments ≡ moments' → draws ≡ draws'
    → TrialTalks service line (source_of moments) (source_of draws) old trial new → TrialTalks service' line (source_of moments') (source_of draws') old trial new
talks_by {service' = service'} {line = line} {moments = moments} {moments' = moments'} {draws = draws} {old = old} {new = new} {trial = trial} services times draws_are talks =
    subst (λ ds. TrialTalks service' line (source_of moments') (source_of ds) old trial new) draws_are
    (subst (λ ms. TrialTalks service' line (source_of ms) (source_of draws) old trial new) times
    (subst (λ s. TrialTalks s line (source_of moments) (source_of draws) old trial new) services talks))
