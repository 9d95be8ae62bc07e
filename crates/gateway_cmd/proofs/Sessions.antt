-- A session, connection by connection, over a history that grows, and the run that it is.
use Rattle.std.proofs.Common.{◌≡◌, ◌≢◌, ◌++◌, ◌∷◌, ℕ, Bool, true, false, List, [], Option, None, Some, refl, sym, ap, subst, inl, ◌∙◌, arith}
use Rattle.gate_base.specs.Line.{LineModel, TranscriptServes}
use Rattle.gate_base.specs.Told.{SourceModel}
use Rattle.gate_base.specs.Transcript.{Begins}
use Rattle.gate_base.specs.declared.outside.Piece.{Piece}
use Rattle.s3_machine.specs.declared.operation.Settings.{Settings}
use Rattle.swift_calls.specs.History.{History, Extends}
use Rattle.upload_records.specs.Consistent.{IsConsistent}
use Rattle.sigv4.specs.Keys.{keys_of, are_keys}
use Rattle.sigv4.specs.declared.keys.AccessKey.{AccessKey}
use Rattle.sign_cmd.specs.Signing.{SignsOn}
use Rattle.account_calls.specs.declared.state.Known.{Known}
use Rattle.account_calls.specs.declared.state.Known.TheVariants.{Unsure}
use Rattle.account_calls.specs.Calls.{GoesOn, Met, Any}
use Rattle.account_calls.specs.Known.{IsKnown}
use Rattle.gateway.specs.declared.ended.Ended.{Ended as Close}
use Rattle.gateway.specs.declared.service.Service.{Service}
use Rattle.gateway.specs.Connection.{ConnectionTrace, is_failed_end, cursor, progress}
use Rattle.gateway.specs.Exchange.{ReplyRelation, Span, store_cursor, RepliesBy, Where}
use Rattle.gateway.specs.Stands.{Stands}
use Rattle.gateway.specs.World.{World, world, progress_of, start_of, IsObservable, ServesOver}
use Rattle.gateway.proofs.lemmas.Standing.{stands_throughout}
use Rattle.gateway.proofs.lemmas.Worlds.{serves_none, unsure_met}
use Rattle.http_service.specs.Running.{LineServesAll}
use Rattle.http_service.specs.declared.run.Stopped.{Stopped}
use Rattle.http_service.specs.declared.run.Stopped.TheVariants.{Done, Line}
use Rattle.http_service.proofs.lemmas.NoneFaulty.{none_faulty_of_none, faulty_then}
use Rattle.gateway_cmd.specs.Facts.{Fits}
use Rattle.gateway_cmd.specs.declared.status.RunOutcome.{RunOutcome}
use Rattle.gateway_cmd.specs.declared.status.RunOutcome.TheVariants.{Plain}
use Rattle.gateway_cmd.specs.declared.status.Status.{Status}
use Rattle.gateway_cmd.specs.declared.status.Status.TheVariants.{Usage, Memory}
use Rattle.gateway_cmd.specs.Report.{is_failed_run, is_done}
use Rattle.gateway_cmd.specs.Tasks.{settings_of, Serving, service_of, Task}
use Rattle.gateway_cmd.specs.Run.{run_cursor_of, RunTrace, none, more, RunTraces, RunTraced, RunStands, RunRefines}
use Rattle.gateway_cmd.specs.Session.{NextCursor, LineServed, RunServes, RunSigns, RunPresigns, IsIdle, out_of_memory, keys_refused}
use Rattle.gateway_cmd.proofs.RunTraces.{run_trace_agree, run_trace_follow, run_trace_pass, run_trace_stands}

-- ---- the connections served since the run began

-- they are so in a longer history
run_traces_agree : (all : Bool) (service : Service) (old middle new : World) → Where all (Extends middle.store.called middle.store new.store) → RunTraces service (RepliesBy all service.settings middle.store) old middle
    → RunTraces service (RepliesBy all service.settings new.store) old middle
run_traces_agree true service old middle new kept traces = (traces.0, run_trace_agree true service kept traces.1)
run_traces_agree false service old middle new kept traces = traces

-- one connection more
pub run_traces_more : (all : Bool) (service : Service) (old middle new : World) → Where all (Extends middle.store.called middle.store new.store) → RunTraces service (RepliesBy all service.settings middle.store) old middle
    → NextCursor service (RepliesBy all service.settings new.store) None middle new → RunTraces service (RepliesBy all service.settings new.store) old new
run_traces_more all service old middle new kept traces next =
    let before = run_traces_agree all service old middle new kept traces in
    (before.0 ++ next.0, more (run_cursor_of old) (run_cursor_of middle) (run_cursor_of new) before.0 next.0 before.1 next.1)

-- nothing more
pub run_traces_end : (all : Bool) (service : Service) (old middle new : World) (stopped : Stopped) → Where all (Extends middle.store.called middle.store new.store) → RunTraces service (RepliesBy all service.settings middle.store) old middle
    → NextCursor service (RepliesBy all service.settings new.store) (Some stopped) middle new → RunTraces service (RepliesBy all service.settings new.store) old new
run_traces_end all service old middle new stopped kept traces same =
    let before = run_traces_agree all service old middle new kept traces in
    (before.0, subst (RunTrace service (RepliesBy all service.settings new.store) (run_cursor_of old) before.0) (sym same) before.1)

-- a connection that began was served
pub next_served : (service : Service) (R : ReplyRelation) (line line' : LineModel) (store : History) (known : Known) (clock draws : SourceModel) (new : World) (ended : Close)
    → Begins true line.transcript line'.transcript → TranscriptServes (is_failed_end ended) line'.transcript new.line.transcript
    → ((spans : List Span) × ConnectionTrace service R line'.transcript.begun ended (start_of (world line' store known clock draws)) spans (progress_of new))
    → NextCursor service R None (world line store known clock draws) new
next_served service R line line' store known clock draws new ended begins serves trace =
    let P : (ℕ × List Piece) → Type 0 = λ x. ConnectionTrace service R x.0 ended (cursor line'.transcript.rest 0 (progress (store_cursor store known) clock.values draws.values x.1)) trace.0 (progress_of new) in (
      trace.0,
      record {
        bytes = line'.transcript.rest;
        ended = ended;
        waiting = begins.0 ∙ ap (λ w. line'.transcript.rest ∷ w) (sym serves.waiting);
        begun = serves.begun ∙ begins.1;
        faulty = faulty_then (is_failed_end ended) line.transcript.faulty line'.transcript.faulty new.line.transcript.faulty line'.transcript.begun new.line.transcript.begun begins.3 serves.begun serves.faulty;
        trace = subst P (λ i. (sym serves.begun i, begins.2 i)) trace.1;
      },
    )

-- none began
pub next_none : (line line' : LineModel) (store : History) (known : Known) (clock draws : SourceModel) → line'.transcript ≡ line.transcript → run_cursor_of (world line' store known clock draws) ≡ run_cursor_of (world line store known clock draws)
next_none line line' store known clock draws same = ap (λ w. run_cursor_of (world (record line { transcript = w }) store known clock draws)) same

-- ---- a run but for its report

line_served_none : (serving : Serving) (failed complete : Bool) (line : LineModel) → failed ≡ false → complete ≡ false → LineServed serving failed complete line line
line_served_none serving true complete line fails ends = cc
line_served_none serving false complete line fails ends = record {
  next_faults = refl;
  served_out = λ observable all. absurd (let clash : false ≡ true = sym ends ∙ all in cc);
  within = λ observable n is. omega arith;
  none_faulty = λ observable still. none_faulty_of_none _ _ refl;
}

-- a run that made no call
pub run_serves_none : (serving : Serving) (keys : List ℕ) (ended : RunOutcome) (line : LineModel) (store : History) (clock draws : SourceModel) → is_failed_run ended ≡ false → is_done ended ≡ false
    → RunServes serving keys ended (world line store Unsure clock draws) (λ known. world line store known clock draws)
run_serves_none serving keys ended line store clock draws fails ends = record {
  known = Unsure;
  line = line_served_none serving (is_failed_run ended) (is_done ended) line fails ends;
  serves = serves_none (λ t. t) (λ told R. ([], none (run_cursor_of (world line store Unsure clock draws))));
}

signs_on_none : (failed : Bool) (at : ℕ) (line : LineModel) → failed ≡ false → SignsOn failed at line line
signs_on_none true at line fails = cc
signs_on_none false at line fails = record { faults = refl; next_faults = λ same. refl; observable = λ t. t; begun = λ t. omega arith; sent = λ t. inl refl }

pub run_signs_none : (id region keys : List ℕ) (at : ℕ) (ended : RunOutcome) (line : LineModel) → is_failed_run ended ≡ false → (are_keys (keys_of keys) ≡ true → ended ≢ Plain Memory → ⊥) → RunSigns id region keys at ended line line
run_signs_none id region keys at ended line fails never = record {
  line = signs_on_none (is_failed_run ended) at line fails;
  effect = λ secret good has observable memory. absurd (never good memory);
}

pub run_presigns_none : (id region : List ℕ) (expires : ℕ) (keys : List ℕ) (at : ℕ) (ended : RunOutcome) (line : LineModel) (clock : SourceModel) → is_failed_run ended ≡ false → (are_keys (keys_of keys) ≡ true → ended ≢ Plain Memory → ⊥)
    → RunPresigns id region expires keys at ended line line clock clock
run_presigns_none id region expires keys at ended line clock fails never = record {
  line = signs_on_none (is_failed_run ended) at line fails;
  effect = λ secret good has observable memory. absurd (never good memory);
}

-- a run that did nothing: the line didn't fail, not all was done, and where the keys are taken memory ran out
pub idle_fails : {keys : List ℕ} {ended : RunOutcome} → IsIdle keys ended → is_failed_run ended ≡ false
idle_fails (out_of_memory memory) = ap is_failed_run memory
idle_fails (keys_refused usage bad) = ap is_failed_run usage

pub idle_ends : {keys : List ℕ} {ended : RunOutcome} → IsIdle keys ended → is_done ended ≡ false
idle_ends (out_of_memory memory) = ap is_done memory
idle_ends (keys_refused usage bad) = ap is_done usage

pub idle_never : {keys : List ℕ} {ended : RunOutcome} → IsIdle keys ended → are_keys (keys_of keys) ≡ true → ended ≢ Plain Memory → ⊥
idle_never (out_of_memory memory) good other = other memory
idle_never (keys_refused usage bad) good other = absurd (let no : true ≡ false = sym good ∙ bad in cc)

pub idle_refused : (keys : List ℕ) (ended : RunOutcome) → IsIdle keys ended → ended ≢ Plain Memory → ended ≡ Plain Usage
idle_refused keys ended (out_of_memory memory) other = absurd (other memory)
idle_refused keys ended (keys_refused usage bad) other = usage

pub idle_fits : (task : Task) (keys : List ℕ) (ended : RunOutcome) → IsIdle keys ended → Fits task ended
idle_fits task keys ended (out_of_memory memory) = subst (Fits task) (sym memory) tt
idle_fits task keys ended (keys_refused usage bad) = subst (Fits task) (sym usage) tt

-- what connections are served by as a region, with a least part, at most so many
abbrev pub as_region : List ℕ → ℕ → ℕ → Bool → Option ℕ → Serving
as_region region least largest extended most = record { settings = settings_of region least largest extended; most = most }

-- a run that is a session, with such a number of connections
pub run_session : (serving : Serving) (keys : List ℕ) {read : List AccessKey} {status : Status} {old : World} {new : Known → World} (known : Known) → read ≡ keys_of keys
    → LineServed serving (is_failed_run (Plain status)) (is_done (Plain status)) old.line (new known).line → ServesOver serving.settings (RunTraces (record { settings = serving.settings; keys = read })) old (new known)
    → RunServes serving keys (Plain status) old new
run_session serving keys {status = status} {old = old} {new = new} known read line serves = record {
  known = known;
  line = line;
  serves = subst (λ (k : List AccessKey). ServesOver serving.settings (RunTraces (record { settings = serving.settings; keys = k })) old (new known)) read serves;
}

-- what the connections did to the line, where none is left, and where the line failed to give another
pub line_served_out : (serving : Serving) (old new : LineModel) → LineServesAll serving.most Done old new → LineServed serving false true old new
line_served_out serving old new line = record { next_faults = line.next_faults; served_out = λ observable all. line.done observable refl; within = line.within; none_faulty = line.none_faulty }

pub line_served_on : (serving : Serving) (old new : LineModel) → LineServesAll serving.most Line old new → LineServed serving true false old new
line_served_on serving old new line = record {
  next_faults = line.next_faults;
  served_out = λ observable all. absurd (let clash : false ≡ true = all in cc);
  within = line.within;
  none_faulty = line.none_faulty;
}

-- ---- what a run promises

-- what requests did whatever the line tells, they did in the run
pub run_stands : {settings : Settings} {was now : Known} {old new : History} → GoesOn old new → Stands settings was now old new → Met (IsKnown was) old → RunStands settings new old.called new.called
run_stands {settings = settings} {old = old} {new = new} on stands met =
    let stood = stands met in
    let sound = subst IsConsistent (sym ((on.kept met.observable).accounts old.called (omega arith))) met.sound in
    record { spans = stood.spans; follows = stood.follows; passes = stood.passes; stands = stands_throughout settings new stood.spans old.called new.called sound stood.follows stood.passes }

-- a trace by what is said over every store
pub run_traced : {serving : Serving} {keys : List ℕ} {ended : RunOutcome} {old : World} {new : Known → World} → IsObservable old → RunServes serving keys ended old new → RunTraced (service_of serving keys) old new
run_traced told run =
    let trace = run.serves.effect told false tt in
    record { known = run.known; spans = trace.0; trace = trace.1; follows = run_trace_follow trace.1 }

-- and over an observable store
pub run_refines : {serving : Serving} {keys : List ℕ} {ended : RunOutcome} (old : World) (new : Known → World) (h : History) → ((known : Known) → (new known).store ≡ h) → IsObservable old → Met Any old.store → old.known ≡ Unsure → RunServes serving keys ended old new → RunRefines (service_of serving keys) h old new
run_refines {serving = serving} {keys = keys} old new h same told met unsure run =
    let given : Met (IsKnown old.known) old.store = subst (λ known. Met (IsKnown known) old.store) (sym unsure) (unsure_met met) in
    let trace = subst (λ h. (spans : List Span) × RunTrace (service_of serving keys) (RepliesBy true serving.settings h) (run_cursor_of old) spans (run_cursor_of (new run.known))) (same run.known) (run.serves.effect told true given) in
    let on : GoesOn old.store h = subst (GoesOn old.store) (same run.known) run.serves.on.store in
    let sound = subst IsConsistent (sym ((on.kept met.observable).accounts old.store.called (omega arith))) met.sound in
    record {
      known = run.known;
      spans = trace.0;
      trace = trace.1;
      follows = run_trace_follow trace.1;
      passes = run_trace_pass trace.1;
      stands = run_trace_stands sound trace.1;
    }
