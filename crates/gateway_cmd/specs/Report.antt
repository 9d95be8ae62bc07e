-- The statuses of the program `s3gate` and the lines that it reports. Source: this profile.
use Rattle.std.specs.Prelude.{◌≡◌, ◌≢◌, ◌⊎◌, ℕ, Bool, true, false, List, [], ◌∷◌, ◌++◌, codes, decimal, IsTrue, Result, Ok, Err}
use Rattle.gate_base.specs.Causes.{Rose}
use Rattle.gate_base.specs.Told.{SinkModel, PutsPrefix}
use Rattle.hex.specs.Hex.{encode_lower}
use Rattle.s3_names.specs.Escapes.{escaped_all}
use Rattle.recovery.specs.declared.state.SettleFault.{SettleFault}
use Rattle.recovery.specs.declared.state.SettleFault.TheVariants as settling
use Rattle.sigv4.specs.declared.signature.Signed.{Signed}
use Rattle.leftovers.specs.declared.fault.SweepFault.{SweepFault}
use Rattle.leftovers.specs.declared.fault.SweepFault.TheVariants as sweeping
use Rattle.sweep.specs.declared.account.Swept.{Swept}
use Rattle.sweep.specs.declared.counting.Surveyed.{Surveyed}
use Rattle.sign_cmd.specs.declared.first.Signing.{Signing}
use Rattle.sign_cmd.specs.declared.first.Signing.TheVariants as signing
use Rattle.presign_cmd.specs.declared.first.Presigning.{Presigning}
use Rattle.presign_cmd.specs.declared.first.Presigning.TheVariants as presigning
use Rattle.trial_cmd.specs.declared.serve.Trial.{Trial as TrialEnd}
use Rattle.gateway.specs.declared.ended.Ended.{Ended}
use Rattle.gateway.specs.declared.ended.Ended.TheVariants as connection
use Rattle.gateway_cmd.specs.declared.status.Status.{Status}
use Rattle.gateway_cmd.specs.declared.status.Status.TheVariants.{Done, Usage, Line, Store, Request, Memory}
use Rattle.gateway_cmd.specs.declared.status.RunOutcome.{RunOutcome}
use Rattle.gateway_cmd.specs.declared.status.RunOutcome.TheVariants.{Told, Inconsistent, Plain}
use Rattle.gateway_cmd.specs.declared.status.Told.{Told as Reported}
use Rattle.gateway_cmd.specs.declared.status.Told.TheVariants.{Signature, Url, Settled, Sweep, Survey, Trial}

-- the exit status
abbrev pub code_of : Status → ℕ
code_of Done = 0
code_of Usage = 2
code_of Line = 3
code_of Store = 4
code_of Memory = 5
code_of Request = 8

abbrev pub line_feed : List ℕ
line_feed = 10 ∷ []

-- the line that is reported, none where all connections were served that were to be
unfoldable pub line_of : Status → List ℕ
line_of Done = []
line_of Usage = codes "usage: s3gate session|serve|recover|sweep|check|sign|trial|presign" ++ line_feed
line_of Line = codes "s3gate: line" ++ line_feed
line_of Store = codes "s3gate: store" ++ line_feed
line_of Memory = codes "s3gate: memory" ++ line_feed
line_of Request = codes "s3gate: request" ++ line_feed

-- the two lines of a signature
unfoldable pub signed_lines : Signed → List ℕ
signed_lines signed =
    (((codes "canonical " ++ encode_lower signed.canonical_hash) ++ (line_feed ++ codes "signature ")) ++ encode_lower signed.signature) ++ line_feed

-- the line of a URL
abbrev pub url_report_line : List ℕ → List ℕ
url_report_line url = codes "url " ++ (url ++ line_feed)

-- the line of a sweep: what it removed, how many records it gave their moment, and how many completions it forgot
unfoldable pub swept_line : Swept → List ℕ
swept_line s =
    (((((codes "swept segments " ++ decimal s.segments)
    ++ (codes " records " ++ decimal s.records))
    ++ (codes " containers " ++ decimal s.containers))
    ++ (codes " migrated " ++ decimal s.migrated))
    ++ (codes " forgotten " ++ decimal s.forgotten))
    ++ line_feed

abbrev pub sealed_word : Bool → List ℕ
sealed_word true = codes " sealed yes" ++ line_feed
sealed_word false = codes " sealed no" ++ line_feed

-- the line of a survey: what stands on the account, and whether a completion is sealed on it
unfoldable pub surveyed_line : Surveyed → List ℕ
surveyed_line s =
    (((((codes "buckets " ++ decimal s.buckets)
    ++ (codes " objects " ++ decimal s.objects))
    ++ (codes " uploads " ++ decimal s.uploads))
    ++ (codes " kept " ++ decimal s.kept))
    ++ (codes " orphans " ++ decimal s.orphans))
    ++ sealed_word s.sealed

-- the line of a trial
abbrev pub trial_report_line : ℕ → ℕ → List ℕ → List ℕ
trial_report_line requests size hash =
    codes "requests " ++ decimal requests ++ codes " output " ++ decimal size ++ codes " " ++ encode_lower hash ++ line_feed

-- the line that names an object of which the store answered what it doesn't over a consistent account
abbrev pub inconsistent_line : List ℕ → List ℕ → List ℕ
inconsistent_line container name = codes "s3gate: inconsistent " ++ (escaped_all container ++ (codes " " ++ (escaped_all name ++ line_feed)))

-- the statuses that there are
abbrev pub IsStatus : ℕ → Type 0
IsStatus status =
    (status ≡ 0) ⊎ ((status ≡ 2) ⊎ ((status ≡ 3) ⊎ ((status ≡ 5) ⊎ ((status ≡ 6) ⊎ ((status ≡ 8) ⊎ ((status ≡ 4) ⊎ (status ≡ 7)))))))

-- how a run ended that signed, or couldn't
abbrev pub end_of : Signing → RunOutcome
end_of (signing.Signed signed) = Told (Signature signed)
end_of signing.NoRequest = Plain Request
end_of signing.LineFailed = Plain Line
end_of signing.Memory = Plain Memory

-- how a run ended that made a URL, or couldn't
abbrev pub outcome_of_presigning : Presigning → RunOutcome
outcome_of_presigning (presigning.Url url) = Told (Url url)
outcome_of_presigning presigning.NoRequest = Plain Request
outcome_of_presigning presigning.LineFailed = Plain Line
outcome_of_presigning presigning.Memory = Plain Memory

-- how a run ended that settled the store, or couldn't
abbrev pub recovered : Result (Unit {0}) SettleFault → RunOutcome
recovered (Ok done) = Told Settled
recovered (Err settling.Failed) = Plain Store
recovered (Err settling.Memory) = Plain Memory
recovered (Err (settling.Inconsistent container name)) = Inconsistent container name

-- how a run ended whose account could not be swept or surveyed
abbrev pub unswept : SweepFault → RunOutcome
unswept sweeping.Failed = Plain Store
unswept sweeping.Memory = Plain Memory
unswept (sweeping.Inconsistent container name) = Inconsistent container name

-- how a run ended that swept the account, once it was settled, or couldn't
abbrev pub swept_outcome : Result Swept SweepFault → RunOutcome
swept_outcome (Ok swept) = Told (Sweep swept)
swept_outcome (Err fault) = unswept fault

-- how a run ended that surveyed the account, or couldn't
abbrev pub surveyed_outcome : Result Surveyed SweepFault → RunOutcome
surveyed_outcome (Ok surveyed) = Told (Survey surveyed)
surveyed_outcome (Err fault) = unswept fault

-- how a run ended that tried the store, by how its connection did; its own line fails by want of memory alone
abbrev pub tried : ℕ → ℕ → List ℕ → Ended → RunOutcome
tried requests size hash connection.End = Told (Trial requests size hash)
tried requests size hash connection.Closed = Told (Trial requests size hash)
tried requests size hash (connection.CutShort place) = Told (Trial requests size hash)
tried requests size hash (connection.Refused kind place) = Told (Trial requests size hash)
tried requests size hash connection.LineFailed = Plain Memory
tried requests size hash connection.StoreFailed = Plain Store
tried requests size hash (connection.Inconsistent container name) = Inconsistent container name
tried requests size hash connection.Memory = Plain Memory

abbrev pub outcome_of_trial : ℕ → TrialEnd → RunOutcome
outcome_of_trial requests trial = tried requests trial.size trial.hash trial.ended

-- the lines that are reported of what a run has to tell
abbrev pub lines_of : Reported → List ℕ
lines_of (Signature signed) = signed_lines signed
lines_of (Url url) = url_report_line url
lines_of Settled = codes "settled" ++ line_feed
lines_of (Sweep swept) = swept_line swept
lines_of (Survey surveyed) = surveyed_line surveyed
lines_of (Trial requests size hash) = trial_report_line requests size hash

-- the run ended with nothing to tell of what it did
abbrev pub is_plain : RunOutcome → Bool
is_plain (Told told) = false
is_plain (Inconsistent container name) = true
is_plain (Plain status) = true

-- what a run may have to tell
pub data Kind : Type 0 where
  a_signature : Kind
  a_url : Kind
  a_recovery : Kind
  a_sweep : Kind
  a_survey : Kind
  a_trial : Kind

abbrev pub kind_of : Reported → Kind
kind_of (Signature signed) = a_signature
kind_of (Url url) = a_url
kind_of Settled = a_recovery
kind_of (Sweep swept) = a_sweep
kind_of (Survey surveyed) = a_survey
kind_of (Trial requests size hash) = a_trial

-- the exit status of a run that ended so, and what it reports: 6 where the report of what it has to tell failed; its lines may
-- find no memory, and neither may the names of an object
abbrev pub Says : RunOutcome → ℕ → List ℕ → Type 0
Says (Told told) status text = (((status ≡ 0) ⊎ (status ≡ 6)) × (text ≡ lines_of told)) ⊎ ((status ≡ 5) × (text ≡ line_of Memory))
Says (Inconsistent container name) status text = ((status ≡ 7) × (text ≡ inconsistent_line container name)) ⊎ ((status ≡ 5) × (text ≡ line_of Memory))
Says (Plain ended) status text = (status ≡ code_of ended) × (text ≡ line_of ended)

-- the text was put, or the sink's count of faults rose, and the first bytes of the text were put and nothing else
pub record Reports (text : List ℕ) (old new : SinkModel) : Type 0 where
  pub observable : IsTrue old.observable → IsTrue new.observable
  pub effect : IsTrue old.observable → (new.bytes ≡ old.bytes ++ text) ⊎ (Rose old.faults new.faults × PutsPrefix old.bytes text new.bytes)

-- the run ended for the line, and the run ended with all served
abbrev pub is_failed_status : Status → Bool
is_failed_status Done = false
is_failed_status Usage = false
is_failed_status Line = true
is_failed_status Store = false
is_failed_status Request = false
is_failed_status Memory = false

abbrev pub is_failed_run : RunOutcome → Bool
is_failed_run (Told told) = false
is_failed_run (Inconsistent container name) = false
is_failed_run (Plain status) = is_failed_status status

abbrev pub is_done_status : Status → Bool
is_done_status Done = true
is_done_status Usage = false
is_done_status Line = false
is_done_status Store = false
is_done_status Request = false
is_done_status Memory = false

abbrev pub is_done : RunOutcome → Bool
is_done (Told told) = false
is_done (Inconsistent container name) = false
is_done (Plain status) = is_done_status status

-- how a run ended, by whether what is asked for can be done: just where it can't it is refused, unless memory ran out
pub record Admits (possible : Bool) (ended : RunOutcome) : Type 0 where
  pub usage : ended ≡ Plain Usage → possible ≡ false
  pub refused : possible ≡ false → ended ≢ Plain Memory → ended ≡ Plain Usage
