-- A sweep of a whole account: container by container. Source: this profile.
use Rattle.std.specs.Prelude.{◌≡◌, ◌≤◌, ◌+◌, ◌*◌, ℕ, Bool, true, false, IsTrue, length, sum_by, is_some, Option, None, Some, Result, Ok, Err}
use Rattle.std.specs.FinMap.{keys, len}
use Rattle.swift_calls.specs.Account.{SwiftAccount, files}
use Rattle.swift_calls.specs.History.{History, present}
use Rattle.upload_texts.specs.declared.record.Record.{Record}
use Rattle.upload_texts.specs.declared.record.Record.TheVariants.{Open, Done}
use Rattle.upload_records.specs.Layout.{uploads_name}
use Rattle.upload_records.specs.Native.{IsSettled, s3_state, seal_of}
use Rattle.upload_records.specs.Consistent.{IsConsistent}
use Rattle.account_calls.specs.declared.fault.PlanFault.{PlanFault}
use Rattle.account_calls.specs.declared.fault.PlanFault.TheVariants as fault
use Rattle.account_calls.specs.Calls.{by_account, Any, Asks, Grows, Met}
use Rattle.account_calls.specs.Fault.{CausesFault}
use Rattle.account_calls.specs.Listing.{TellsOf}
use Rattle.account_calls.specs.Stutters.{LastFailed}
use Rattle.sweep.specs.Forgetting.{AreDated, buckets_in, count_records, all_old, forgotten, undated_left}
use Rattle.leftovers.specs.Leftovers.{IsClean, Leftovers, is_open, leftovers}
use Rattle.leftovers.specs.Faults.{as_plan}
use Rattle.leftovers.specs.declared.fault.SweepFault.{SweepFault}
use Rattle.sweep.specs.declared.account.Swept.{Swept}
use Rattle.sweep.specs.declared.counting.Surveyed.{Surveyed}

-- ---- the account

-- the objects of all containers
abbrev pub files_in : SwiftAccount → ℕ
files_in tree = sum_by (λ name. len (files tree name)) (keys tree)

-- at most so many calls
abbrev pub account_calls : SwiftAccount → ℕ
account_calls tree = 4 + 16 * (len tree + files_in tree)

abbrev pub removed : Swept → Leftovers
removed swept = record { segments = swept.segments; records = swept.records; containers = swept.containers }

-- what was left over is removed and counted
pub record TellsSwept (old new : SwiftAccount) (swept : Swept) : Type 0 where
  pub counted : removed swept ≡ leftovers old
  pub clean : IsClean new

-- ---- a sweep that forgets nothing

-- an account was swept: the state stays; after Ok nothing is left over, and what was is counted
abbrev pub SweepsAccount : History → History → Result Swept SweepFault → Type 0
SweepsAccount old new result = Asks (by_account (account_calls (present old))) old new IsSettled TellsSwept (as_plan result)

-- ---- a sweep that forgets kept completions from before a moment

-- how many of them are forgotten at each number of calls
pub record Forgets (before : ℕ) (h : History) (p q : ℕ) : Type 0 where
  pub ordered : p ≤ q
  pub gone : ℕ → ℕ
  pub most : (k : ℕ) → p ≤ k → k ≤ q → gone k ≤ length (all_old before (s3_state (h.account_at p)))
  pub rises : (j k : ℕ) → p ≤ j → j ≤ k → k ≤ q → gone j ≤ gone k
  pub is : (k : ℕ) → p ≤ k → k ≤ q → s3_state (h.account_at k) ≡ forgotten (s3_state (h.account_at p)) before (gone k)
  pub sound : (k : ℕ) → p ≤ k → k ≤ q → IsConsistent (h.account_at k)

-- and after Ok: all of them, nothing is left over, each record has its moment, and the counts are those
pub record TellsForgotten (before : ℕ) (h : History) (p q : ℕ) (swept : Swept) : Type 0 where
  pub sweeps : TellsSwept (h.account_at p) (h.account_at q) swept
  pub dated : AreDated (h.account_at q)
  pub all : s3_state (h.account_at q) ≡ forgotten (s3_state (h.account_at p)) before swept.forgotten
  pub counted : swept.forgotten ≡ length (all_old before (s3_state (h.account_at p)))
  pub migrated : swept.migrated ≡ undated_left before (h.account_at p)

-- what a sweep leaves, by how it ended
abbrev pub ForgetsBy : ℕ → History → ℕ → ℕ → Result Swept PlanFault → Type 0
ForgetsBy before h p q (Ok swept) = Forgets before h p q × (h.faults_at q ≡ h.faults_at p) × TellsForgotten before h p q swept
ForgetsBy before h p q (Err fault.Failed) = Forgets before h p q × LastFailed h p q
ForgetsBy before h p q (Err fault.Memory) = Forgets before h p q × (h.faults_at q ≡ h.faults_at p)
ForgetsBy before h p q (Err fault.Inconsistent) = ⊥

-- a sweep that forgets: how many calls it makes, the causes of its faults, and what it leaves of an account that was settled
pub record SweepsBefore (before : ℕ) (old new : History) (result : Result Swept SweepFault) : Type 0 where
  pub grows : Grows (by_account (account_calls (present old))) IsSettled old new
  pub cause : CausesFault old.faults new.faults (as_plan result)
  pub effect : Met IsSettled old → ForgetsBy before new old.called new.called (as_plan result)
  pub settled : IsTrue old.observable → IsSettled (present old) → IsSettled (present new)

-- ---- a survey

abbrev pub is_done : Option Record → Bool
is_done None = false
is_done (Some (Open key content_type meta started)) = false
is_done (Some (Done key list etag started moment)) = true

-- an account as it stands, whatever is sealed on it
abbrev pub survey_of : SwiftAccount → Surveyed
survey_of tree = record {
  buckets = length (buckets_in tree);
  objects = sum_by (λ bucket. len (files tree bucket)) (buckets_in tree);
  uploads = sum_by (λ bucket. count_records is_open (files tree (uploads_name bucket))) (buckets_in tree);
  kept = sum_by (λ bucket. count_records is_done (files tree (uploads_name bucket))) (buckets_in tree);
  orphans = (leftovers tree).segments;
  sealed = is_some (seal_of tree);
}

abbrev pub TellsSurvey : SwiftAccount → Surveyed → Type 0
TellsSurvey tree told = told ≡ survey_of tree

-- an account was surveyed: it is left as it is
abbrev pub SurveysAccount : History → History → Result Surveyed SweepFault → Type 0
SurveysAccount old new result = Asks (by_account (account_calls (present old))) old new Any (TellsOf TellsSurvey) (as_plan result)
