-- Runs of all commands, one after another: what the account represents where one was stopped. Source: this profile.
use Rattle.std.specs.Prelude.{◌≡◌, ◌≤◌, ℕ, Bool, not, is_some, List, [], ◌∷◌, length, option_and_then}
use Rattle.std.specs.List.{filter}
use Rattle.std.specs.FinMap.{get}
use Rattle.s3_machine.specs.State.{Bucket, State}
use Rattle.s3_machine.specs.declared.operation.Settings.{Settings}
use Rattle.swift_calls.specs.Account.{SwiftAccount}
use Rattle.swift_calls.specs.History.{History}
use Rattle.upload_records.specs.Native.{s3_state}
use Rattle.upload_records.specs.Consistent.{IsConsistent}
use Rattle.account_calls.specs.Stutters.{Stutters}
use Rattle.sweep.specs.Forgetting.{all_old, forgotten}
use Rattle.sweep.specs.Swept.{Forgets}
use Rattle.gateway.specs.Exchange.{Span}
use Rattle.gateway.specs.Life.{After}
use Rattle.gateway.specs.Stands.{Follows, AllPass}

-- what a run does to the account: it answers requests; or it leaves the state; or it forgets the kept completions from before a
-- moment
pub data RunWork : Type 0 where
  answering : Settings → List Span → RunWork
  upkeep : RunWork
  forgetting : ℕ → RunWork

-- what a run promises between two numbers of calls, where its account is consistent at the first
abbrev pub RunPromises : History → ℕ → ℕ → RunWork → Type 0
RunPromises h entry exit (answering settings spans) = Follows entry spans exit × AllPass settings h spans
RunPromises h entry exit upkeep = Stutters h entry exit
RunPromises h entry exit (forgetting before) = Forgets before h entry exit

-- a completion is kept in the state, by the name of its bucket and its id
abbrev pub is_kept : State → List ℕ × List ℕ → Bool
is_kept state one = is_some (option_and_then (λ (b : Bucket). get b.kept one.1) (get state one.0))

-- how many of the completions from before a moment that the old state has as kept the new one has not
abbrev pub gone_between : ℕ → State → State → ℕ
gone_between before old new = length (filter (λ one. not (is_kept new one)) (all_old before old))

-- what a run's work up to the number k of calls makes of the state: of the completions that are to be forgotten those that are gone
-- are the first ones, by bucket and then by id in byte order, and nothing else is
abbrev pub RunWorked : RunWork → ℕ → State → State → Type 0
RunWorked (answering settings spans) k old new = After settings k old spans new
RunWorked upkeep k old new = new ≡ old
RunWorked (forgetting before) k old new = new ≡ forgotten old before (gone_between before old new)

-- a run that was stopped, or had ended, after `stop` calls of its store; one that was stopped would have gone on to `exit`
pub record RunLife : Type 0 where
  pub work : RunWork
  pub history : History
  pub entry : ℕ
  pub stop : ℕ
  pub exit : ℕ

pub record IsRunLife (life : RunLife) : Type 0 where
  pub since : life.entry ≤ life.stop
  pub until : life.stop ≤ life.exit
  pub keeps : IsConsistent (life.history.account_at life.entry) → RunPromises life.history life.entry life.exit life.work

-- each run begins on what the one before it left where it was stopped
unfoldable pub RunLives : SwiftAccount → List RunLife → SwiftAccount → Type 0
RunLives old [] new = new ≡ old
RunLives old (life ∷ lives) new = (life.history.account_at life.entry ≡ old) × IsRunLife life × RunLives (life.history.account_at life.stop) lives new

-- the work of each run up to where it was stopped, run after run, leads from the old state to the new one
unfoldable pub AfterRuns : State → List RunLife → State → Type 0
AfterRuns old [] new = new ≡ old
AfterRuns old (life ∷ lives) new = (middle : State) × RunWorked life.work life.stop old middle × AfterRuns middle lives new

-- over one run of any command: where it was stopped the account is consistent, and the run's work up to there leads to its state
abbrev pub OneRunOfAny : Type 0
OneRunOfAny = (life : RunLife) → IsRunLife life → IsConsistent (life.history.account_at life.entry)
    → IsConsistent (life.history.account_at life.stop)
    × RunWorked life.work life.stop (s3_state (life.history.account_at life.entry)) (s3_state (life.history.account_at life.stop))

-- over one run after another: so they do from the first account to the last, which is consistent
abbrev pub ManyRunsOfAll : Type 0
ManyRunsOfAll = (old new : SwiftAccount) (lives : List RunLife) → IsConsistent old → RunLives old lives new
    → IsConsistent new × AfterRuns (s3_state old) lives (s3_state new)

-- before the first moment there is no completion to forget: such a sweep leaves the state
abbrev pub NoneBeforeFirst : Type 0
NoneBeforeFirst = (state : State) (n : ℕ) → forgotten state 0 n ≡ state

-- of a state without the first n of the completions from before a moment n are gone
abbrev pub GoneAreCounted : Type 0
GoneAreCounted = (before : ℕ) (state : State) (n : ℕ) → n ≤ length (all_old before state) → gone_between before state (forgotten state before n) ≡ n
