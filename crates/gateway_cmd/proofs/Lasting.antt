-- What the account represents where a run of any command was stopped, and after one run after another.
use Rattle.std.specs.Prelude.{◌≡◌, ◌≤◌, ℕ, [], ◌∷◌}
use Rattle.std.proofs.Common.{sym, ap, subst, ◌∙◌}
use Rattle.swift_calls.specs.History.{History}
use Rattle.upload_records.specs.Native.{s3_state}
use Rattle.upload_records.specs.Consistent.{IsConsistent}
use Rattle.sweep.specs.Forgetting.{forgotten}
use Rattle.gateway.specs.Life.{OneRun}
use Rattle.gateway.proofs.lemmas.Standing.{stands_throughout}
use Rattle.gateway_cmd.specs.Lives.{RunWork, answering, upkeep, forgetting, RunPromises, RunWorked, RunLives, AfterRuns, OneRunOfAny, ManyRunsOfAll, GoneAreCounted, gone_between}

by_work : OneRun → GoneAreCounted → (h : History) {entry stop exit : ℕ} (work : RunWork) → IsConsistent (h.account_at entry) → entry ≤ stop → stop ≤ exit → RunPromises h entry exit work
    → IsConsistent (h.account_at stop) × RunWorked work stop (s3_state (h.account_at entry)) (s3_state (h.account_at stop))
by_work one counted h {entry = entry} {stop = stop} {exit = exit} (answering settings spans) sound since until (follows, passes) = (
  (stands_throughout settings h spans entry exit sound follows passes stop since until).sound,
  one settings h spans entry exit stop follows passes since until,
)
by_work one counted h {stop = stop} upkeep sound since until still = (still.sound stop since until, still.same stop since until)
by_work one counted h {entry = entry} {stop = stop} (forgetting before) sound since until forgets =
    let old = s3_state (h.account_at entry) in
    let is = forgets.is stop since until in
    let gone : gone_between before old (s3_state (h.account_at stop)) ≡ forgets.gone stop = ap (gone_between before old) is ∙ counted before old (forgets.gone stop) (forgets.most stop since until) in
    (forgets.sound stop since until, is ∙ ap (forgotten old before) (sym gone))

pub one_run_of_any : OneRun → GoneAreCounted → OneRunOfAny
one_run_of_any one counted life is sound = by_work one counted life.history life.work sound is.since is.until (is.keeps sound)

pub many_runs_of_all : OneRunOfAny → ManyRunsOfAll
unfolding RunLives AfterRuns
many_runs_of_all one old new [] sound same = (subst IsConsistent (sym same) sound, ap s3_state same)
many_runs_of_all one old new (life ∷ lives) sound (begins, is, then) =
    let here = subst IsConsistent (sym begins) sound in
    let done = one life is here in
    let later = many_runs_of_all one (life.history.account_at life.stop) new lives done.0 then in
    (later.0, (s3_state (life.history.account_at life.stop), subst (λ tree. RunWorked life.work life.stop (s3_state tree) (s3_state (life.history.account_at life.stop))) begins done.1, later.1))
