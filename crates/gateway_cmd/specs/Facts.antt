-- What is said of a run by its task: one row a task. Source: this profile.
use Rattle.std.specs.Prelude.{◌≡◌, ℕ, Bool, true, false, ◌&&◌, List, is_some, Option, Some, None}
use Rattle.swift_calls.specs.History.{History}
use Rattle.account_calls.specs.declared.state.Known.{Known}
use Rattle.account_calls.specs.declared.state.Known.TheVariants.{Unsure}
use Rattle.sigv4.specs.Keys.{keys_of, are_keys, secret_of}
use Rattle.trial_cmd.specs.Served.{trial_service}
use Rattle.s3_machine.specs.declared.operation.Settings.{Settings}
use Rattle.gateway.specs.Exchange.{Span}
use Rattle.gateway.specs.World.{World}
use Rattle.gateway_cmd.specs.declared.status.Status.TheVariants.{Done, Usage, Line, Store, Request, Memory}
use Rattle.gateway_cmd.specs.declared.status.RunOutcome.{RunOutcome}
use Rattle.gateway_cmd.specs.declared.status.RunOutcome.TheVariants.{Told, Inconsistent, Plain}
use Rattle.gateway_cmd.specs.Lives.{RunWork, answering, upkeep, forgetting, RunPromises}
use Rattle.gateway_cmd.specs.Report.{Kind, a_signature, a_url, a_recovery, a_sweep, a_survey, a_trial, kind_of}
use Rattle.gateway_cmd.specs.Session.{RunServes, RunSigns, RunPresigns, RunRecovers, RunSweeps, RunSurveys, RunTries}
use Rattle.gateway_cmd.specs.Tasks.{Task, nothing, to_serve, to_sign, to_presign, to_recover, to_sweep, to_check, to_try}

-- ---- a row

-- by which key texts a task can be done: by none; by one each of whose lines is a key, no id twice; or by such a one that has this id
pub data Needs : Type 0 where
  impossible : Needs
  any_keys : Needs
  key_of_id : List ℕ → Needs

-- how a task is done: it can't be; with nothing to tell, as connections are served; or with something of this kind to tell
pub data Finish : Type 0 where
  unfinished : Finish
  served_out : Finish
  telling : Kind → Finish

-- what a run is among others: it leaves the state, or it answers requests
abbrev pub IsUpkeep : RunWork → Type 0
IsUpkeep work = work ≡ upkeep

abbrev pub IsAnswering : Settings → RunWork → Type 0
IsAnswering settings work = (spans : List Span) × (work ≡ answering settings spans)

-- what is said of a run by its task
pub record TaskFacts : Type 1 where
  -- by which key texts the task can be done, and what is told where it is
  pub needs : Needs
  pub finish : Finish
  -- the line is used; its first request is signed, in a header or in a URL; and the run ends where the store fails, or answers what
  -- it doesn't over a consistent account
  pub of_line : Bool
  pub of_request : Bool
  pub of_store : Bool
  -- of these four facts, that line, store, clock and draws are left alone, those that hold
  pub apart : Type 0 → Type 0 → Type 0 → Type 0 → Type 0
  -- what the run does by a key text, by how it ended; its last argument is the world at its end, by what is known of the store then
  pub does : List ℕ → RunOutcome → World → (Known → World) → Type 0
  -- what it is among others, one after another
  pub work : RunWork → Type 0

-- the first request of the line is signed, in a header or in a URL
abbrev pub of_first : List ℕ → Kind → (Type 0 → Type 0 → Type 0 → Type 0 → Type 0) → (List ℕ → RunOutcome → World → (Known → World) → Type 0) → TaskFacts
of_first id kind apart does =
    record {
      needs = key_of_id id;
      finish = telling kind;
      of_line = true;
      of_request = true;
      of_store = false;
      apart = apart;
      does = does;
      work = IsUpkeep;
    }

-- the store alone is used, and the state stays
abbrev pub of_store_alone : Kind → (List ℕ → RunOutcome → History → History → Type 0) → TaskFacts
of_store_alone kind does =
    record {
      needs = any_keys;
      finish = telling kind;
      of_line = false;
      of_request = false;
      of_store = true;
      apart = λ line store clock draws. line × clock × draws;
      does = λ keys ended old new. does keys ended old.store (new Unsure).store;
      work = IsUpkeep;
    }

abbrev pub facts_of : Task → TaskFacts
facts_of nothing =
    record {
      needs = impossible;
      finish = unfinished;
      of_line = false;
      of_request = false;
      of_store = false;
      apart = λ line store clock draws. line × store × clock × draws;
      does = λ keys ended old new. Unit {0};
      work = IsUpkeep;
    }
facts_of (to_serve serving) =
    record {
      needs = any_keys;
      finish = served_out;
      of_line = true;
      of_request = false;
      of_store = false;
      apart = λ line store clock draws. Unit {0};
      does = λ keys ended old new. RunServes serving keys ended old new;
      work = IsAnswering serving.settings;
    }
facts_of (to_sign id region) = of_first id a_signature (λ line store clock draws. store × clock × draws)
    (λ keys ended old new. RunSigns id region keys old.store.called ended old.line (new Unsure).line)
facts_of (to_presign id region expires) = of_first id a_url (λ line store clock draws. store × draws)
    (λ keys ended old new. RunPresigns id region expires keys old.store.called ended old.line (new Unsure).line old.clock (new Unsure).clock)
facts_of to_recover = of_store_alone a_recovery RunRecovers
facts_of (to_sweep before) = record (of_store_alone a_sweep (RunSweeps before)) { work = λ work. work ≡ forgetting before }
facts_of to_check = of_store_alone a_survey RunSurveys
facts_of (to_try number requests) = record (of_store_alone a_trial (RunTries number requests)) { work = IsAnswering trial_service.settings }

-- ---- the words for its fields

abbrev pub are_enough : Needs → List ℕ → Bool
are_enough impossible keys = false
are_enough any_keys keys = are_keys (keys_of keys)
are_enough (key_of_id id) keys = are_keys (keys_of keys) && is_some (secret_of id (keys_of keys))

abbrev pub is_served_out : Finish → Bool
is_served_out unfinished = false
is_served_out served_out = true
is_served_out (telling kind) = false

abbrev pub told_by : Finish → Option Kind
told_by unfinished = None
told_by served_out = None
told_by (telling kind) = Some kind

-- the task can be done by the key text: each of its lines is a key, no id twice; and to sign or to make a URL, one of them has the id
abbrev pub is_possible : Task → List ℕ → Bool
is_possible task keys = are_enough (facts_of task).needs keys

-- connections of the line are served
abbrev pub is_serving : Task → Bool
is_serving task = is_served_out (facts_of task).finish

-- what is told where the task is done: nothing, where connections are served
abbrev pub tells : Task → Option Kind
tells task = told_by (facts_of task).finish

-- the line is used
abbrev pub uses_line : Task → Bool
uses_line task = (facts_of task).of_line

-- the first request of the line is signed, in a header or in a URL
abbrev pub is_signing : Task → Bool
is_signing task = (facts_of task).of_request

-- the run ends where the store fails, or answers what it doesn't over a consistent account
abbrev pub ends_by_store : Task → Bool
ends_by_store task = (facts_of task).of_store

-- of these four facts, that line, store, clock and draws are left alone, those that hold by the task
abbrev pub Apart : Task → Type 0 → Type 0 → Type 0 → Type 0 → Type 0
Apart task line store clock draws = (facts_of task).apart line store clock draws

-- what a run does by its task, whose words are taken; `new` is the world at its end, by what is known of the store then
abbrev pub Does : Task → List ℕ → RunOutcome → World → (Known → World) → Type 0
Does task keys ended old new = (facts_of task).does keys ended old new

-- requests are answered where connections are served, or the store is tried; a sweep forgets the completions from before its moment;
-- and else the state stays
abbrev pub IsWorkOf : Task → RunWork → Type 0
IsWorkOf task work = (facts_of task).work work

-- ---- what follows from a row

-- how a run may end, by what is asked for: with what is to be told; done with nothing to tell, where connections are served; for
-- the line where it is used; for the store, or what it answered of an object, where that ends the run; without a request
-- where one is to be signed; and, whatever is asked for, with words or keys that are refused (`Admits` says when), or because
-- memory ran out
abbrev pub Fits : Task → RunOutcome → Type 0
Fits task (Told told) = tells task ≡ Some (kind_of told)
Fits task (Inconsistent container name) = ends_by_store task ≡ true
Fits task (Plain Done) = is_serving task ≡ true
Fits task (Plain Usage) = Unit {0}
Fits task (Plain Line) = uses_line task ≡ true
Fits task (Plain Store) = ends_by_store task ≡ true
Fits task (Plain Memory) = Unit {0}
Fits task (Plain Request) = is_signing task ≡ true

-- the work of a task was done between two numbers of calls, where the account was consistent at the first
pub record HasWorked (task : Task) (old new : History) : Type 0 where
  pub work : RunWork
  pub is : IsWorkOf task work
  pub promises : RunPromises new old.called new.called work
