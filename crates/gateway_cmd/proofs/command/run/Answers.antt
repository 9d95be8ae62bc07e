use Rattle.std.proofs.Common.{◌∙◌, refl, sym, ap, subst, inl, inr, arith}
use Rattle.gate_base.specs.Causes.{Rose}
use Rattle.swift_calls.proofs.lemmas.Histories.{is_fault_free}
use Rattle.account_calls.specs.declared.state.Known.TheVariants.{Unsure}
use Rattle.sign_cmd.specs.Signing.{SignsOn}
use Rattle.gateway.specs.World.{world}
use Rattle.gateway.proofs.lemmas.Worlds.{unsure_met}
use Rattle.gateway_cmd.specs.Facts.{is_serving}
use Rattle.gateway_cmd.specs.declared.status.Status.TheVariants.{Memory}
use Rattle.gateway_cmd.specs.Report.{Says}
use Rattle.gateway_cmd.specs.Tasks.{asked_for}
use Rattle.gateway_cmd.proofs.Exits.{Exits, says_exits, exits_status, exits_usage, asked_by, exits_asked, exits_done, exits_other, exits_told_of, told_of, admitted, serving_plain, exits_failed_run, serving_line}
use Rattle.gateway_cmd.proofs.Sessions.{run_traced, run_stands, run_refines}
use Rattle.gateway_cmd.proofs.Recoveries.{store_recovered, was_tried}
use Rattle.gateway_cmd.proofs.Surveying.{store_surveyed, survey_reports, was_counted}
use Rattle.gateway_cmd.proofs.SweepRuns.{was_cleared}
use Rattle.gateway_cmd.proofs.SweptBy.{store_swept, sweep_reports}
use Rattle.gateway_cmd.proofs.Trials.{store_tried, trial_reports, was_answered}
use Rattle.gateway_cmd.proofs.TaskLaws.{works}
use Rattle.gateway_cmd.proofs.command.run.Goals as goal

pub returns-clause-status : goal.returns-clause-status
returns-clause-status g c = exits_status _ _ (says_exits _ _ _ c.tell.ensures.says.1)

pub returns-clause-usage : goal.returns-clause-usage
returns-clause-usage g c = λ e. c.attempt-ended.ensures.admits.usage (exits_usage _ _ (says_exits _ _ _ c.tell.ensures.says.1) e)

pub returns-clause-refused : goal.returns-clause-refused
returns-clause-refused g c = λ not other.
    let exits = says_exits _ _ _ c.tell.ensures.says.1 in
    subst (λ how. Exits how c.tell.result) (c.attempt-ended.ensures.admits.refused not (exits_other _ Memory _ exits other)) exits

pub returns-clause-request : goal.returns-clause-request
returns-clause-request g c = λ e.
    let task = asked_for c.args.words.now in
    let exits = says_exits _ _ _ c.tell.ensures.says.1 in
    let a = c.attempt-ended.ensures in
    (admitted _ _ c.tell.result exits (λ five. omega arith) (λ two. omega arith) a.admits, sym (ap (asked_by task) e) ∙ exits_asked task _ _ exits a.fits)

pub returns-clause-line : goal.returns-clause-line
returns-clause-line g c = λ e.
    let task = asked_for c.args.words.now in
    sym (ap (asked_by task) e) ∙ exits_asked task _ _ (says_exits _ _ _ c.tell.ensures.says.1) c.attempt-ended.ensures.fits

pub returns-clause-store : goal.returns-clause-store
returns-clause-store g c = λ either.
    let task = asked_for c.args.words.now in
    let exits = says_exits _ _ _ c.tell.ensures.says.1 in
    let a = c.attempt-ended.ensures in
    elim either [
      | inl four ↦ (admitted _ _ c.tell.result exits (λ five. omega arith) (λ two. omega arith) a.admits, sym (ap (asked_by task) four) ∙ exits_asked task _ _ exits a.fits)
      | inr seven ↦ (admitted _ _ c.tell.result exits (λ five. omega arith) (λ two. omega arith) a.admits, sym (ap (asked_by task) seven) ∙ exits_asked task _ _ exits a.fits)
    ]

pub returns-clause-serving : goal.returns-clause-serving
returns-clause-serving g c = λ serving is.
    let a = c.attempt-ended.ensures in
    let plain = serving_plain _ _ (ap is_serving is) a.fits in
    let run = rw is at a.does in
    serving_line {old = g.N.Line.model c.args.line.now} {new = g.N.Line.model c.attempt-ended.new.line} _ _ plain (says_exits _ _ _ c.tell.ensures.says.1) run.line

pub returns-clause-signing : goal.returns-clause-signing
returns-clause-signing g c = λ id region is.
    let run = rw is at c.attempt-ended.ensures.does in
    let exits = says_exits _ _ _ c.tell.ensures.says.1 in
    subst (λ failed. SignsOn failed (g.W.Swift.history c.args.store.now).called (g.N.Line.model c.args.line.now) (g.N.Line.model c.attempt-ended.new.line)) (exits_failed_run _ _ exits) run.line

pub returns-clause-presigning : goal.returns-clause-presigning
returns-clause-presigning g c = λ id region expires is.
    let run = rw is at c.attempt-ended.ensures.does in
    let exits = says_exits _ _ _ c.tell.ensures.says.1 in
    subst (λ failed. SignsOn failed (g.W.Swift.history c.args.store.now).called (g.N.Line.model c.args.line.now) (g.N.Line.model c.attempt-ended.new.line)) (exits_failed_run _ _ exits) run.line

pub returns-clause-recovering : goal.returns-clause-recovering
returns-clause-recovering g c = λ is.
    let run = rw is at c.attempt-ended.ensures.does in
    store_recovered {old = g.W.Swift.history c.args.store.now} {new = g.W.Swift.history c.attempt-ended.new.store} c.tell.result (says_exits _ _ _ c.tell.ensures.says.1) run

pub returns-clause-sweeping : goal.returns-clause-sweeping
returns-clause-sweeping g c = λ before is.
    let run = rw is at c.attempt-ended.ensures.does in
    store_swept {old = g.W.Swift.history c.args.store.now} {new = g.W.Swift.history c.attempt-ended.new.store} c.tell.result (says_exits _ _ _ c.tell.ensures.says.1) run

pub returns-clause-swept : goal.returns-clause-swept
returns-clause-swept g c = λ before is met e.
    let run = rw is at c.attempt-ended.ensures.does in
    let says = c.tell.ensures.says in
    sweep_reports {old = g.W.Swift.history c.args.store.now} {new = g.W.Swift.history c.attempt-ended.new.store} c.tell.result says.0 says.1 says.2 run met e

pub returns-clause-checking : goal.returns-clause-checking
returns-clause-checking g c = λ is.
    let run = rw is at c.attempt-ended.ensures.does in
    store_surveyed {old = g.W.Swift.history c.args.store.now} {new = g.W.Swift.history c.attempt-ended.new.store} c.tell.result (says_exits _ _ _ c.tell.ensures.says.1) run

pub returns-clause-surveyed : goal.returns-clause-surveyed
returns-clause-surveyed g c = λ is met e.
    let run = rw is at c.attempt-ended.ensures.does in
    let says = c.tell.ensures.says in
    survey_reports {old = g.W.Swift.history c.args.store.now} {new = g.W.Swift.history c.attempt-ended.new.store} c.tell.result says.0 says.1 says.2 run met e

pub returns-clause-trying : goal.returns-clause-trying
returns-clause-trying g c = λ number requests is.
    let run = rw is at c.attempt-ended.ensures.does in
    store_tried {old = g.W.Swift.history c.args.store.now} {new = g.W.Swift.history c.attempt-ended.new.store} c.tell.result (says_exits _ _ _ c.tell.ensures.says.1) run

pub returns-clause-replied : goal.returns-clause-replied
returns-clause-replied g c = λ number requests is e still all met.
    let run = rw is at c.attempt-ended.ensures.does in
    let says = c.tell.ensures.says in
    trial_reports {all = all} {old = g.W.Swift.history c.args.store.now} {new = g.W.Swift.history c.attempt-ended.new.store} c.tell.result says.0 says.1 says.2 run e still met

pub returns-clause-report : goal.returns-clause-report
returns-clause-report g c =
    let says = c.tell.ensures.says in
    (_, says.0, c.attempt-ended.ensures.fits, c.attempt-ended.ensures.does, says.1, says.2)

pub returns-clause-silent : goal.returns-clause-silent
returns-clause-silent g c = λ serving e. c.tell.ensures.silent (exits_done _ _ _ (says_exits _ _ _ c.tell.ensures.says.1) e serving c.attempt-ended.ensures.fits)

pub returns-clause-unreported : goal.returns-clause-unreported
returns-clause-unreported g c = λ e.
    let told = c.tell.ensures.unreported e in
    (told_of _ _ told.0 c.attempt-ended.ensures.fits, told.1)

pub returns-clause-reported : goal.returns-clause-reported
returns-clause-reported g c = λ some e. c.tell.ensures.reported (exits_told_of _ _ _ (says_exits _ _ _ c.tell.ensures.says.1) e some c.attempt-ended.ensures.fits) e

pub returns-clause-fault_free : goal.returns-clause-fault_free
returns-clause-fault_free g c = λ observable left still.
    let old = g.W.Swift.history c.args.store.now in
    let new = g.W.Swift.history c.attempt-ended.new.store in
    let before = g.met.W.Swift.is_history c.args.store.now in
    let after = g.met.W.Swift.is_history c.attempt-ended.new.store in
    let on = c.attempt-ended.ensures.on.store in
    let later = on.observable observable in
    let ordered = on.ordered in
    let first = (on.kept observable).counts old.called (omega arith) ∙ before.last observable (omega arith) in
    is_fault_free new old.called new.called (after.rise later) left
    (λ rose. still (subst (λ n. Rose n new.faults) first (subst (Rose (new.faults_at old.called)) (after.last later left) rose)))

pub returns-clause-traced : goal.returns-clause-traced
returns-clause-traced g c = λ serving is told. run_traced told (rw is at c.attempt-ended.ensures.does)

pub returns-clause-account : goal.returns-clause-account
returns-clause-account g c = λ serving is met.
    let run = rw is at c.attempt-ended.ensures.does in
    run_stands run.serves.on.store run.serves.stands (unsure_met met)

pub returns-clause-refines : goal.returns-clause-refines
returns-clause-refines g c = λ serving is told met.
    run_refines
    (world (g.N.Line.model c.args.line.now) (g.W.Swift.history c.args.store.now) Unsure (g.C.Clock.model c.args.clock.now) (g.D.Draws.model c.args.draws.now))
    (λ known. world (g.N.Line.model c.attempt-ended.new.line) (g.W.Swift.history c.attempt-ended.new.store) known (g.C.Clock.model c.attempt-ended.new.clock) (g.D.Draws.model c.attempt-ended.new.draws))
    (g.W.Swift.history c.attempt-ended.new.store) (λ known. refl) told met refl (rw is at c.attempt-ended.ensures.does)

pub returns-clause-effect_signed : goal.returns-clause-effect_signed
returns-clause-effect_signed g c = λ id region secret asked good known observable other.
    let says = c.tell.ensures.says in
    let run = rw asked at c.attempt-ended.ensures.does in
    let signs = run.effect secret good known observable (exits_other _ Memory _ (says_exits _ _ _ says.1) other) in
    (signs.0, signs.1, signs.2, says.0, subst (λ how. Says how c.tell.result says.0) signs.3 says.1, says.2)

pub returns-clause-effect_presigned : goal.returns-clause-effect_presigned
returns-clause-effect_presigned g c = λ id region secret expires asked good known observable other.
    let says = c.tell.ensures.says in
    let run = rw asked at c.attempt-ended.ensures.does in
    let made = run.effect secret good known observable (exits_other _ Memory _ (says_exits _ _ _ says.1) other) in
    (made.0, made.1, made.2, made.3, made.4, says.0, subst (λ how. Says how c.tell.result says.0) made.5 says.1, says.2)

pub returns-clause-effect_recovered : goal.returns-clause-effect_recovered
returns-clause-effect_recovered g c = λ asked good other.
    let says = c.tell.ensures.says in
    let run = rw asked at c.attempt-ended.ensures.does in
    let tried = was_tried run good (exits_other _ Memory _ (says_exits _ _ _ says.1) other) in
    (tried.0, tried.1, says.0, subst (λ how. Says how c.tell.result says.0) tried.2 says.1, says.2)

pub returns-clause-effect_swept : goal.returns-clause-effect_swept
returns-clause-effect_swept g c = λ before asked good other.
    let says = c.tell.ensures.says in
    let run = rw asked at c.attempt-ended.ensures.does in
    (_, was_cleared run good (exits_other _ Memory _ (says_exits _ _ _ says.1) other), says.0, says.1, says.2)

pub returns-clause-effect_surveyed : goal.returns-clause-effect_surveyed
returns-clause-effect_surveyed g c = λ asked good other.
    let says = c.tell.ensures.says in
    let run = rw asked at c.attempt-ended.ensures.does in
    (_, was_counted run good (exits_other _ Memory _ (says_exits _ _ _ says.1) other), says.0, says.1, says.2)

pub returns-clause-effect_tried : goal.returns-clause-effect_tried
returns-clause-effect_tried g c = λ number requests asked good other.
    let says = c.tell.ensures.says in
    let run = rw asked at c.attempt-ended.ensures.does in
    let served = was_answered run good (exits_other _ Memory _ (says_exits _ _ _ says.1) other) in
    (served.0, served.1, says.0, subst (λ how. Says how c.tell.result says.0) served.2 says.1, says.2)

pub returns-clause-works : goal.returns-clause-works
returns-clause-works g c = λ met.
    works _ _ _ _ _ c.args.keys.now _
    (world (g.N.Line.model c.args.line.now) (g.W.Swift.history c.args.store.now) Unsure (g.C.Clock.model c.args.clock.now) (g.D.Draws.model c.args.draws.now))
    (λ known. world (g.N.Line.model c.attempt-ended.new.line) (g.W.Swift.history c.attempt-ended.new.store) known (g.C.Clock.model c.attempt-ended.new.clock) (g.D.Draws.model c.attempt-ended.new.draws))
    c.attempt-ended.ensures.does c.attempt-ended.ensures.apart (λ same. ap (g.W.Swift.history) same) (λ known. refl) met refl
