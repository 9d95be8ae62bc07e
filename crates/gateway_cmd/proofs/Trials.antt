-- A run that tries the store, by how that ended, and by its exit status.
use Rattle.std.specs.Prelude.{◌≡◌, ◌≢◌, ◌⊎◌, ◌-◌, ◌^◌, ℕ, Bool, true, false, List, [], ◌∷◌, ◌++◌, length, min, Ok}
use Rattle.std.proofs.Common.{refl, sym, ap, subst, ◌∙◌, inl, inr, arith}
use Rattle.sha2.specs.Sha256.{sha256}
use Rattle.gate_base.specs.Causes.{Rose}
use Rattle.gate_base.specs.Told.{SinkModel}
use Rattle.gate_base.specs.declared.outside.Piece.{Piece}
use Rattle.sigv4.specs.Keys.{keys_of, are_keys}
use Rattle.swift_calls.specs.History.{History}
use Rattle.account_calls.specs.Calls.{Met, Any}
use Rattle.account_calls.specs.declared.state.Known.TheVariants.{Unsure}
use Rattle.gateway.specs.declared.ended.Ended.{Ended}
use Rattle.gateway.specs.declared.ended.Ended.TheVariants.{End, Closed, CutShort, Refused, LineFailed, StoreFailed, Inconsistent, Memory}
use Rattle.gateway.specs.Connection.{Progress, cursor, progress}
use Rattle.gateway.specs.Exchange.{Span, Where, store_cursor}
use Rattle.gateway.specs.Stands.{Follows, AllPass}
use Rattle.gateway.specs.World.{world, progress_of}
use Rattle.gateway.proofs.lemmas.Worlds.{unsure_met}
use Rattle.trial_cmd.specs.declared.serve.Trial.{Trial}
use Rattle.trial_cmd.specs.Replied.{OwnReplies, RepliesAlone, is_replied_end, output_of}
use Rattle.trial_cmd.specs.Served.{TrialDoes, TrialReplied, trial_moments, trial_service}
use Rattle.gateway_cmd.specs.declared.status.RunOutcome.{RunOutcome}
use Rattle.gateway_cmd.specs.declared.status.RunOutcome.TheVariants.{Plain}
use Rattle.gateway_cmd.specs.declared.status.Status.TheVariants as status
use Rattle.gateway_cmd.specs.Lives.{answering, RunPromises}
use Rattle.gateway_cmd.specs.Report.{Admits, Reports, Says, tried, trial_report_line, outcome_of_trial}
use Rattle.gateway_cmd.specs.Session.{out_of_memory, keys_refused, RunTries, nothing_tried, was_served, StoreTried}
use Rattle.gateway_cmd.proofs.Exits.{Exits, says_exits}
use Rattle.gateway_cmd.proofs.Recoveries.{idle_status}

-- where the keys are taken and memory did not run out, the requests were answered
pub was_answered : {number requests : ℕ} {keys : List ℕ} {ended : RunOutcome} {old new : History} → RunTries number requests keys ended old new → are_keys (keys_of keys) ≡ true → ended ≢ Plain status.Memory
    → (trial : Trial) × TrialDoes number requests old (Ok trial) new × (ended ≡ outcome_of_trial requests trial)
was_answered (nothing_tried same (out_of_memory memory)) good other = absurd (other memory)
was_answered (nothing_tried same (keys_refused usage bad)) good other = absurd (let no : true ≡ false = sym good ∙ bad in cc)
was_answered (was_served trial does is) good other = (trial, does, is)

-- it doesn't end as where the words are refused
pub tries_admits : (possible : Bool) (ended : RunOutcome) → possible ≡ true → ended ≢ Plain status.Usage → Admits possible ended
tries_admits possible ended on other = record { usage = λ e. absurd (other e); refused = λ off. absurd (let no : true ≡ false = sym on ∙ off in cc) }

-- ---- by the status

failed_by : (requests size : ℕ) (hash : List ℕ) (ended : Ended) (n : ℕ) → Exits (tried requests size hash ended) n → n ≡ 4 → ended ≡ StoreFailed
failed_by requests size hash End n (inl zero) four = absurd (omega arith)
failed_by requests size hash End n (inr (inl five)) four = absurd (omega arith)
failed_by requests size hash End n (inr (inr six)) four = absurd (omega arith)
failed_by requests size hash Closed n (inl zero) four = absurd (omega arith)
failed_by requests size hash Closed n (inr (inl five)) four = absurd (omega arith)
failed_by requests size hash Closed n (inr (inr six)) four = absurd (omega arith)
failed_by requests size hash (CutShort place) n (inl zero) four = absurd (omega arith)
failed_by requests size hash (CutShort place) n (inr (inl five)) four = absurd (omega arith)
failed_by requests size hash (CutShort place) n (inr (inr six)) four = absurd (omega arith)
failed_by requests size hash (Refused kind place) n (inl zero) four = absurd (omega arith)
failed_by requests size hash (Refused kind place) n (inr (inl five)) four = absurd (omega arith)
failed_by requests size hash (Refused kind place) n (inr (inr six)) four = absurd (omega arith)
failed_by requests size hash LineFailed n five four = absurd (omega arith)
failed_by requests size hash StoreFailed n exits four = refl
failed_by requests size hash (Inconsistent container name) n (inl seven) four = absurd (omega arith)
failed_by requests size hash (Inconsistent container name) n (inr five) four = absurd (omega arith)
failed_by requests size hash Memory n five four = absurd (omega arith)

found_by : (requests size : ℕ) (hash : List ℕ) (ended : Ended) (n : ℕ) → Exits (tried requests size hash ended) n → n ≡ 7 → ((container name : List ℕ) → ended ≡ Inconsistent container name → ⊥) → ⊥
found_by requests size hash End n (inl zero) seven never = omega arith
found_by requests size hash End n (inr (inl five)) seven never = omega arith
found_by requests size hash End n (inr (inr six)) seven never = omega arith
found_by requests size hash Closed n (inl zero) seven never = omega arith
found_by requests size hash Closed n (inr (inl five)) seven never = omega arith
found_by requests size hash Closed n (inr (inr six)) seven never = omega arith
found_by requests size hash (CutShort place) n (inl zero) seven never = omega arith
found_by requests size hash (CutShort place) n (inr (inl five)) seven never = omega arith
found_by requests size hash (CutShort place) n (inr (inr six)) seven never = omega arith
found_by requests size hash (Refused kind place) n (inl zero) seven never = omega arith
found_by requests size hash (Refused kind place) n (inr (inl five)) seven never = omega arith
found_by requests size hash (Refused kind place) n (inr (inr six)) seven never = omega arith
found_by requests size hash LineFailed n five seven never = omega arith
found_by requests size hash StoreFailed n four seven never = omega arith
found_by requests size hash (Inconsistent container name) n exits seven never = never container name refl
found_by requests size hash Memory n five seven never = omega arith

pub store_tried : {number requests : ℕ} {keys : List ℕ} {ended : RunOutcome} {old new : History} (n : ℕ) → Exits ended n → RunTries number requests keys ended old new → StoreTried n old new
store_tried n x (nothing_tried same idle) = record {
  faults = λ four. elim (idle_status n idle x) [ inl two ↦ absurd (omega arith) | inr five ↦ absurd (omega arith) ];
  consistent = λ met seven. elim (idle_status n idle x) [ inl two ↦ omega arith | inr five ↦ omega arith ];
}
store_tried {requests = requests} n x (was_served trial does is) =
    let exits = subst (λ how. Exits how n) is x in
    record {
      faults = λ four. does.2.failed (failed_by requests trial.size trial.hash trial.ended n exits four);
      consistent = λ met seven. found_by requests trial.size trial.hash trial.ended n exits seven (does.2.consistent met);
    }

-- ---- by 0 and 6

never_done : (n m : ℕ) → n ≡ m → m ≢ 0 → m ≢ 6 → (n ≡ 0) ⊎ (n ≡ 6) → ⊥
never_done n m is zero six (inl e) = zero (sym is ∙ e)
never_done n m is zero six (inr e) = six (sym is ∙ e)

not_five : (n : ℕ) → n ≡ 5 → (n ≡ 0) ⊎ (n ≡ 6) → ⊥
not_five n five e = never_done n 5 five (λ no. omega arith) (λ no. omega arith) e

-- the connection ended by its bytes or by a reply, and its size and its hash were reported
replied_by : (requests size : ℕ) (hash : List ℕ) (ended : Ended) (n : ℕ) (text : List ℕ) → Says (tried requests size hash ended) n text → (n ≡ 0) ⊎ (n ≡ 6)
    → (is_replied_end ended ≡ true) × (text ≡ trial_report_line requests size hash)
replied_by requests size hash End n text (inl (status, is)) e = (refl, is)
replied_by requests size hash End n text (inr (five, is)) e = absurd (not_five n five e)
replied_by requests size hash Closed n text (inl (status, is)) e = (refl, is)
replied_by requests size hash Closed n text (inr (five, is)) e = absurd (not_five n five e)
replied_by requests size hash (CutShort place) n text (inl (status, is)) e = (refl, is)
replied_by requests size hash (CutShort place) n text (inr (five, is)) e = absurd (not_five n five e)
replied_by requests size hash (Refused kind place) n text (inl (status, is)) e = (refl, is)
replied_by requests size hash (Refused kind place) n text (inr (five, is)) e = absurd (not_five n five e)
replied_by requests size hash LineFailed n text (five, is) e = absurd (not_five n five e)
replied_by requests size hash StoreFailed n text (four, is) e = absurd (never_done n 4 four (λ no. omega arith) (λ no. omega arith) e)
replied_by requests size hash (Inconsistent container name) n text (inl (seven, is)) e = absurd (never_done n 7 seven (λ no. omega arith) (λ no. omega arith) e)
replied_by requests size hash (Inconsistent container name) n text (inr (five, is)) e = absurd (not_five n five e)
replied_by requests size hash Memory n text (five, is) e = absurd (not_five n five e)

-- what was written are the replies alone, and its size and its hash are the trial's
trial_replied : (all : Bool) (number requests : ℕ) (old new : History) (trial : Trial) → TrialDoes number requests old (Ok trial) new → is_replied_end trial.ended ≡ true → (Rose old.faults new.faults → ⊥) → Where all (Met Any old)
    → (output : List ℕ) × TrialReplied all number requests old output new × (trial.size ≡ min (length output) (2 ^ 64 - 1)) × (trial.hash ≡ sha256 output)
trial_replied all number requests old new trial (line, is, talks) ended still met =
    let alone = talks.alone ended still all met in
    let output = alone.0 in
    let exit : Progress = progress_of (world talks.line' new talks.known talks.clock' talks.draws') in
    let P : (ℕ × List ℕ × List Piece) → Type 0 = λ x. RepliesAlone trial_service (OwnReplies all trial_service.settings new) x.0 trial.ended
    (cursor x.1 0 (progress (store_cursor old Unsure) (trial_moments requests) (1 ∷ []) x.2)) output exit in
    let written : output_of talks.line'.transcript.sent ≡ output = alone.1.written ∙ ap (λ sent. output_of sent ++ output) is.sent in (
      output,
      record { ended = trial.ended; exit = exit; replies = subst P (λ i. (is.begun i, is.rest i, is.sent i)) alone.1; calls = refl },
      talks.size ∙ ap (λ bytes. min (length bytes) (2 ^ 64 - 1)) written,
      talks.hash ∙ ap sha256 written,
    )

pub trial_reports : {all : Bool} {number requests : ℕ} {keys : List ℕ} {ended : RunOutcome} {old new : History} {sink sink' : SinkModel} (n : ℕ) (text : List ℕ) → Says ended n text → Reports text sink sink'
    → RunTries number requests keys ended old new → (n ≡ 0) ⊎ (n ≡ 6) → (Rose old.faults new.faults → ⊥) → Where all (Met Any old)
    → (output : List ℕ) × TrialReplied all number requests old output new × Reports (trial_report_line requests (min (length output) (2 ^ 64 - 1)) (sha256 output)) sink sink'
trial_reports {ended = ended} n text says reports (nothing_tried same idle) e still met =
    absurd (elim (idle_status n idle (says_exits ended n text says)) [
      | inl two ↦ never_done n 2 two (λ no. omega arith) (λ no. omega arith) e
      | inr five ↦ not_five n five e
    ])
trial_reports {all = all} {number = number} {requests = requests} {old = old} {new = new} {sink = sink} {sink' = sink'} n text says reports (was_served trial does is) e still met =
    let said = replied_by requests trial.size trial.hash trial.ended n text (subst (λ how. Says how n text) is says) e in
    let replied = trial_replied all number requests old new trial does said.0 still met in
    let line = said.1 ∙ (λ i. trial_report_line requests (replied.2 i) (replied.3 i)) in
    (replied.0, replied.1, subst (λ t. Reports t sink sink') line reports)

-- ---- what it is among others

pub record TriesWork (old new : History) : Type 0 where
  pub spans : List Span
  pub promises : RunPromises new old.called new.called (answering trial_service.settings spans)

no_requests : (h : History) → RunPromises h h.called h.called (answering trial_service.settings [])
unfolding Follows AllPass
no_requests h = (refl, tt)

pub tries_work : {number requests : ℕ} {keys : List ℕ} {ended : RunOutcome} {old new : History} → RunTries number requests keys ended old new → Met Any old → TriesWork old new
tries_work {old = old} (nothing_tried same idle) met = record { spans = []; promises = subst (λ h. RunPromises h old.called h.called (answering trial_service.settings [])) (sym same) (no_requests old) }
tries_work (was_served trial does is) met =
    let stood = does.2.serves.stands (unsure_met met) in record { spans = stood.spans; promises = (stood.follows, stood.passes) }
