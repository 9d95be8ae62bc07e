-- What the calls of an operation amounted to is so in each later history too; and how two stretches are joined.
use Rattle.std.specs.Prelude.{◌≡◌, ◌⊎◌, ◌<◌, ◌≤◌, ◌+◌, ℕ, Bool, cond, nat_lt, true, false, is_some, List}
use Rattle.std.specs.FinMap.{get}
use Rattle.std.proofs.Common.{refl, sym, ap, subst, ◌∙◌, inl, inr, arith}
use Rattle.std.proofs.lemmas.Bool.{cases_lt}
use Rattle.std.proofs.lemmas.Bool.Decides.{nat_tests}
use Rattle.gate_base.specs.Causes.{Rose}
use Rattle.s3_machine.specs.declared.operation.Label.{Label}
use Rattle.s3_machine.specs.declared.operation.Settings.{Settings}
use Rattle.s3_machine.specs.declared.operation.Op.{Op}
use Rattle.s3_machine.specs.declared.operation.Reply.{Reply}
use Rattle.s3_machine.specs.declared.operation.Reply.TheVariants.{Memory, Gone}
use Rattle.s3_machine.specs.State.{State}
use Rattle.s3_machine.specs.Step.{S3Step}
use Rattle.swift_calls.specs.Account.{files}
use Rattle.swift_calls.specs.History.{History, budget, Extends, FaultFree}
use Rattle.upload_records.specs.Layout.{segments_name}
use Rattle.upload_records.specs.Native.{s3_state}
use Rattle.upload_records.specs.Consistent.{IsConsistent}
use Rattle.account_calls.specs.Stutters.{Stutters, OldBefore, LastFailed}
use Rattle.account_calls.specs.Calls.{Commits}
use Rattle.account_calls.specs.Answers.{steps_of, IsStage, before_step, after_step, Passes, is_old_if_failed, is_old_if_out_of_memory, OldIf, AnswersBy, machine, unavailable, memory, Answers, Beside, nothing_beside, opens_in, clears, upload_at, IsFirstFree, ClearsOrFails, SaysBeside}

-- ---- later histories

-- the state at a number that is kept
same_at : {old new : History} {q : ℕ} → Extends q old new → (k p : ℕ) → k ≤ q → p ≤ q → s3_state (old.account_at k) ≡ s3_state (old.account_at p) → s3_state (new.account_at k) ≡ s3_state (new.account_at p)
same_at kept k p to from e = ap s3_state (kept.accounts k to) ∙ e ∙ sym (ap s3_state (kept.accounts p from))

sound_at : {old new : History} {q : ℕ} → Extends q old new → (k : ℕ) → k ≤ q → IsConsistent (old.account_at k) → IsConsistent (new.account_at k)
sound_at kept k to sound = subst IsConsistent (sym (kept.accounts k to)) sound

pub quiet_agree : {old new : History} {p q : ℕ} → Extends q old new → Stutters old p q → Stutters new p q
quiet_agree {p = p} kept quiet = record {
  ordered = quiet.ordered;
  same = λ k from to. same_at kept k p to quiet.ordered (quiet.same k from to);
  sound = λ k from to. sound_at kept k to (quiet.sound k from to);
}

-- at each number up to q
pub old_before_agree : {old new : History} {p n q : ℕ} → n ≤ q + 1 → Extends q old new → OldBefore old p n → OldBefore new p n
old_before_agree {p = p} within kept old = λ k from to. same_at kept k p (omega arith) (omega arith) (old k from to)

rose_at : {old new : History} {q : ℕ} → Extends q old new → (j k : ℕ) → j ≤ q → k ≤ q → Rose (old.faults_at j) (old.faults_at k) → Rose (new.faults_at j) (new.faults_at k)
rose_at {old = old} {new = new} kept j k from to rose = subst (λ n. Rose n (new.faults_at k)) (sym (kept.counts j from)) (subst (Rose (old.faults_at j)) (sym (kept.counts k to)) rose)

-- the call that failed was the last one
pub last_within : {h : History} {p q : ℕ} (failed : LastFailed h p q) → failed.last ≤ q
last_within {h = h} {q = q} failed = by failed.last failed.fails
  where
    by : (last : ℕ) → ((q ≡ last + 1) × Rose (h.faults_at last) (h.faults_at q)) ⊎ ((q ≡ last) × (budget ≤ last)) → last ≤ q
    by last (inl (next, rose)) = omega arith
    by last (inr (same, spent)) = omega arith

pub last_failed_agree : {old new : History} {p q : ℕ} → p ≤ q → Extends q old new → LastFailed old p q → LastFailed new p q
last_failed_agree {old = old} {new = new} {p = p} {q = q} ordered kept failed = record {
  last = failed.last;
  after_p = failed.after_p;
  no_fault = kept.counts failed.last (last_within failed) ∙ failed.no_fault ∙ sym (kept.counts p ordered);
  fails = by failed.last (last_within failed) failed.fails;
}
  where
    by : (last : ℕ) → last ≤ q → ((q ≡ last + 1) × Rose (old.faults_at last) (old.faults_at q)) ⊎ ((q ≡ last) × (budget ≤ last))
        → ((q ≡ last + 1) × Rose (new.faults_at last) (new.faults_at q)) ⊎ ((q ≡ last) × (budget ≤ last))
    by last within (inl (next, rose)) = inl (next, rose_at kept last q within (omega arith) rose)
    by last within (inr spent) = inr spent

-- over the same states
step_at : {old old' new new' : State} (settings : Settings) (op : Op) (label : Label) (reply : Reply) → old ≡ old' → new ≡ new' → S3Step settings old op label reply new → S3Step settings old' op label reply new'
step_at settings op label reply from to step = subst {A = State × State} (λ s. S3Step settings s.0 op label reply s.1) (λ i. (from i, to i)) step

stage_at : {old old' new new' : State} (settings : Settings) (op : Op) (label : Label) (n : ℕ) → old ≡ old' → new ≡ new' → IsStage settings old op label n new → IsStage settings old' op label n new'
stage_at settings op label n from to stage = subst {A = State × State} (λ s. IsStage settings s.0 op label n s.1) (λ i. (from i, to i)) stage

pub passes_agree : {old new : History} {settings : Settings} {p t q : ℕ} {op : Op} {label : Label} {takes : ℕ} → Extends q old new → Passes settings old p t q op label takes → Passes settings new p t q op label takes
passes_agree {settings = settings} {p = p} {t = t} {q = q} {op = op} {label = label} kept passes =
    let first = passes.after_p in
    let last = passes.up_to_q in
    record {
      after_p = first;
      up_to_q = last;
      stage = passes.stage;
      rises = passes.rises;
      before = passes.before;
      since = passes.since;
      is = λ k from to. stage_at settings op label (passes.stage k) (ap s3_state (sym (kept.accounts p (omega arith)))) (ap s3_state (sym (kept.accounts k to))) (passes.is k from to);
      sound = λ k from to. sound_at kept k to (passes.sound k from to);
    }

old_if_agree : (t : Bool) {old new : History} (p n q : ℕ) → n ≤ q + 1 → Extends q old new → OldIf t old p n → OldIf t new p n
old_if_agree true p n q within kept old = old_before_agree within kept old
old_if_agree false p n q within kept old = tt

answers_by_agree : {old new : History} {settings : Settings} {p q : ℕ} {op : Op} {label : Label} {takes : ℕ} {reply : Reply} → p ≤ q → Extends q old new → AnswersBy settings old p q op label takes reply → AnswersBy settings new p q op label takes reply
unfolding last_failed_agree
answers_by_agree {settings = settings} {p = p} {q = q} {op = op} {label = label} {reply = reply} ordered kept (machine all step) =
    machine all (step_at settings op label reply (ap s3_state (sym (kept.accounts p ordered))) (ap s3_state (sym (kept.accounts q (omega arith)))) step)
answers_by_agree {p = p} {q = q} {op = op} ordered kept (unavailable is failed old) =
    let within = last_within failed in unavailable is (last_failed_agree ordered kept failed) (old_if_agree (is_old_if_failed op) p (failed.last + 1) q (omega arith) kept old)
answers_by_agree {p = p} {q = q} {op = op} ordered kept (memory is old) = memory is (old_if_agree (is_old_if_out_of_memory op) p q q (omega arith) kept old)

pub answers_agree : {old new : History} {settings : Settings} {p t q : ℕ} {op : Op} {label : Label} {takes : ℕ} {reply : Reply} → Extends q old new → Answers settings old p t q op label takes reply → Answers settings new p t q op label takes reply
answers_agree kept answers =
    let first = answers.passes.after_p in
    let last = answers.passes.up_to_q in
    record { passes = passes_agree kept answers.passes; by = answers_by_agree (omega arith) kept answers.by }

-- no call failed in the history as it was told before
fault_free_before : {old new : History} {p q : ℕ} → Extends q old new → FaultFree new p q → FaultFree old p q
fault_free_before {old = old} {new = new} kept none j k from order to (inl rose) =
    none j k from order to (inl (subst (λ n. Rose n (new.faults_at k)) (sym (kept.counts j (omega arith))) (subst (Rose (old.faults_at j)) (sym (kept.counts k to)) rose)))
fault_free_before kept none j k from order to (inr spent) = none j k from order to (inr spent)

clears_agree : {old new : History} {bucket id : List ℕ} {p q : ℕ} → p ≤ q → Extends q old new → ClearsOrFails bucket id old p q → ClearsOrFails bucket id new p q
clears_agree {old = old} {new = new} {bucket = bucket} {p = p} {q = q} ordered kept says = record {
  cleared = λ none name named.
      ap (λ tree. get (files tree (segments_name bucket)) name) (kept.accounts q (omega arith)) ∙ says.cleared (fault_free_before kept none) name named;
  last = by says.last;
}
  where
    by : (old.faults_at q ≡ old.faults_at p) ⊎ LastFailed old p q → (new.faults_at q ≡ new.faults_at p) ⊎ LastFailed new p q
    by (inl same) = inl (kept.counts q (omega arith) ∙ same ∙ sym (kept.counts p ordered))
    by (inr failed) = inr (last_failed_agree ordered kept failed)

-- what is said of the account beside the state
pub beside_agree : (b : Beside) {old new : History} (label : Label) {p q : ℕ} (reply : Reply) → p ≤ q → Extends q old new → SaysBeside b label old p q reply → SaysBeside b label new p q reply
beside_agree nothing_beside label reply ordered kept says = tt
beside_agree (opens_in bucket) label {p = p} {q = q} reply ordered kept says = λ id none some.
    let first = kept.accounts p ordered in
    let last = kept.accounts q (omega arith) in
    subst (λ tree. IsFirstFree tree bucket label.draw id) (sym first)
    (says id (ap (λ tree. upload_at (get (s3_state tree) bucket) id) (sym first) ∙ none) (ap (λ tree. is_some (upload_at (get (s3_state tree) bucket) id)) (sym last) ∙ some))
beside_agree (clears bucket id) label reply ordered kept says = λ gone. clears_agree ordered kept (says gone)

-- where no call was made and memory ran out, it is nothing
pub beside_memory : (b : Beside) (label : Label) (h : History) (p : ℕ) → SaysBeside b label h p p Memory
beside_memory nothing_beside label h p = tt
beside_memory (opens_in bucket) label h p = λ id none some. absurd (let no : false ≡ true = sym (ap is_some none) ∙ some in cc)
beside_memory (clears bucket id) label h p = λ gone. absurd (let no : Memory ≡ Gone = gone in cc)

-- ---- stretches

pub quiet_trans : {h : History} {p q r : ℕ} → Stutters h p q → Stutters h q r → Stutters h p r
quiet_trans {h = h} {p = p} {q = q} {r = r} first then =
    let first_ordered = first.ordered in
    let then_ordered = then.ordered in
    record {
      ordered = omega arith;
      same = λ k from to. elim (cases_lt k q) as (λ _. s3_state (h.account_at k) ≡ s3_state (h.account_at p)) [
        | inl near ↦ first.same k from (omega arith)
        | inr far ↦ then.same k far to ∙ first.same q first_ordered (omega arith)
      ];
      sound = λ k from to. elim (cases_lt k q) as (λ _. IsConsistent (h.account_at k)) [
        | inl near ↦ first.sound k from (omega arith)
        | inr far ↦ then.sound k far to
      ];
    }

-- quiet calls go through no step
pub passes_still : {settings : Settings} {h : History} {p q : ℕ} {op : Op} {label : Label} → Stutters h p q → Passes settings h p p q op label 0
passes_still {p = p} quiet = record {
  after_p = omega arith;
  up_to_q = quiet.ordered;
  stage = λ k. 0;
  rises = λ j k from order to. omega arith;
  before = λ some k from to. absurd (omega arith);
  since = λ k from to. refl;
  is = λ k from to. before_step refl (quiet.same k from to);
  sound = quiet.sound;
}

-- quiet calls go through a step that leaves the state, at once
pub passes_at_once : {settings : Settings} {h : History} {p q : ℕ} {op : Op} {label : Label} {reply : Reply} → Stutters h p q → S3Step settings (s3_state (h.account_at p)) op label reply (s3_state (h.account_at p)) → Passes settings h p p q op label (steps_of op)
passes_at_once {settings = settings} {h = h} {p = p} {op = op} {label = label} {reply = reply} quiet step = record {
  after_p = omega arith;
  up_to_q = quiet.ordered;
  stage = λ k. steps_of op;
  rises = λ j k from order to. omega arith;
  before = λ some k from to. absurd (omega arith);
  since = λ k from to. refl;
  is = λ k from to. after_step refl reply (subst (S3Step settings (s3_state (h.account_at p)) op label reply) (sym (quiet.same k from to)) step);
  sound = quiet.sound;
}

lt_is : (k q : ℕ) → k < q → nat_lt k q ≡ true
lt_is k q near = grind (arith, nat_tests)

not_lt : (k q : ℕ) → q ≤ k → nat_lt k q ≡ false
not_lt k q far = grind (arith, nat_tests)

-- calls of which the last one commits go through the whole at once
pub passes_once : {settings : Settings} {h : History} {p q : ℕ} {op : Op} {label : Label} {reply : Reply} {S : State → State → Type 0} → Commits h p q S → S3Step settings (s3_state (h.account_at p)) op label reply (s3_state (h.account_at q))
    → Passes settings h p q q op label (steps_of op)
passes_once {settings = settings} {h = h} {p = p} {q = q} {op = op} {label = label} {reply = reply} commits step =
    let next = commits.next in
    let quiet = commits.quiet in
    let ordered = quiet.ordered in
    record {
      after_p = omega arith;
      up_to_q = omega arith;
      stage = λ k. cond (nat_lt k q) 0 (steps_of op);
      rises = λ j k from order to. elim (cases_lt j q) as (λ _. cond (nat_lt j q) 0 (steps_of op) ≤ cond (nat_lt k q) 0 (steps_of op)) [
        | inl near ↦ subst (λ n. n ≤ cond (nat_lt k q) 0 (steps_of op)) (sym (below j near)) (omega arith)
        | inr far ↦ subst {A = ℕ × ℕ} (λ n. n.0 ≤ n.1) (λ i. (sym (above j far) i, sym (above k (omega arith)) i)) (omega arith)
      ];
      before = λ some k from to. subst (λ n. n < steps_of op) (sym (below k to)) some;
      since = λ k from to. above k from;
      is = λ k from to. elim (cases_lt k q) as (λ _. IsStage settings (s3_state (h.account_at p)) op label (cond (nat_lt k q) 0 (steps_of op)) (s3_state (h.account_at k))) [
        | inl near ↦ before_step (below k near) (quiet.same k from (omega arith))
        | inr far ↦ let e : q ≡ k = omega arith in after_step (above k far) reply (subst (λ j. S3Step settings (s3_state (h.account_at p)) op label reply (s3_state (h.account_at j))) e step)
      ];
      sound = λ k from to. elim (cases_lt k q) as (λ _. IsConsistent (h.account_at k)) [
        | inl near ↦ quiet.sound k from (omega arith)
        | inr far ↦ let e : q ≡ k = omega arith in subst (λ j. IsConsistent (h.account_at j)) e commits.sound
      ];
    }
  where
    below : (k : ℕ) → k < q → cond (nat_lt k q) 0 (steps_of op) ≡ 0
    below k near = ap (λ t. cond t 0 (steps_of op)) (lt_is k q near)

    above : (k : ℕ) → q ≤ k → cond (nat_lt k q) 0 (steps_of op) ≡ steps_of op
    above k far = ap (λ t. cond t 0 (steps_of op)) (not_lt k q far)

-- quiet calls go on from where an operation's steps were taken
pub passes_rest : {settings : Settings} {h : History} {p t q r : ℕ} {op : Op} {label : Label} {takes : ℕ} → Passes settings h p t q op label takes → Stutters h q r → Passes settings h p t r op label takes
passes_rest {settings = settings} {h = h} {p = p} {t = t} {q = q} {r = r} {op = op} {label = label} {takes = takes} passes rest =
    let first = passes.after_p in
    let last = passes.up_to_q in
    let ordered = rest.ordered in
    let stage : ℕ → ℕ = λ k. cond (nat_lt k q) (passes.stage k) takes in
    record {
      after_p = first;
      up_to_q = omega arith;
      stage = stage;
      rises = λ j k from order to. elim (cases_lt k q) as (λ _. stage j ≤ stage k) [
        | inl near ↦ subst {A = ℕ × ℕ} (λ n. n.0 ≤ n.1) (λ i. (sym (below j (omega arith)) i, sym (below k near) i)) (passes.rises j k from order (omega arith))
        | inr far ↦ elim (cases_lt j q) as (λ _. stage j ≤ stage k) [
          | inl near ↦ subst {A = ℕ × ℕ} (λ n. n.0 ≤ n.1) (λ i. (sym (below j near) i, (passes.since q last (omega arith) ∙ sym (above k far)) i)) (passes.rises j q from (omega arith) (omega arith))
          | inr later ↦ subst {A = ℕ × ℕ} (λ n. n.0 ≤ n.1) (λ i. (sym (above j later) i, sym (above k far) i)) (omega arith)
        ]
      ];
      before = λ some k from to. subst (λ n. n < takes) (sym (below k (omega arith))) (passes.before some k from to);
      since = λ k from to. elim (cases_lt k q) as (λ _. stage k ≡ takes) [
        | inl near ↦ below k near ∙ passes.since k from (omega arith)
        | inr far ↦ above k far
      ];
      is = λ k from to. elim (cases_lt k q) as (λ _. IsStage settings (s3_state (h.account_at p)) op label (stage k) (s3_state (h.account_at k))) [
        | inl near ↦ subst (λ n. IsStage settings (s3_state (h.account_at p)) op label n (s3_state (h.account_at k))) (sym (below k near)) (passes.is k from (omega arith))
        | inr far ↦ stage_at' (passes.since q last (omega arith) ∙ sym (above k far)) (sym (rest.same k far to)) (passes.is q (omega arith) (omega arith))
      ];
      sound = λ k from to. elim (cases_lt k q) as (λ _. IsConsistent (h.account_at k)) [
        | inl near ↦ passes.sound k from (omega arith)
        | inr far ↦ rest.sound k far to
      ];
    }
  where
    below : (k : ℕ) → k < q → cond (nat_lt k q) (passes.stage k) takes ≡ passes.stage k
    below k near = ap (λ t. cond t (passes.stage k) takes) (lt_is k q near)

    above : (k : ℕ) → q ≤ k → cond (nat_lt k q) (passes.stage k) takes ≡ takes
    above k far = ap (λ t. cond t (passes.stage k) takes) (not_lt k q far)

    stage_at' : {m n : ℕ} {one other : State} → m ≡ n → one ≡ other → IsStage settings (s3_state (h.account_at p)) op label m one → IsStage settings (s3_state (h.account_at p)) op label n other
    stage_at' to same stage = subst {A = ℕ × State} (λ s. IsStage settings (s3_state (h.account_at p)) op label s.0 s.1) (λ i. (to i, same i)) stage

-- calls of which none failed, and then one that did
pub failed_behind : {h : History} {p q r : ℕ} → p ≤ q → h.faults_at q ≡ h.faults_at p → LastFailed h q r → LastFailed h p r
failed_behind ordered same failed = let after_q = failed.after_p in record { last = failed.last; after_p = omega arith; no_fault = failed.no_fault ∙ same; fails = failed.fails }

module _ {h : History} {p q : ℕ} (quiet : Stutters h p q) where
  same_state : s3_state (h.account_at q) ≡ s3_state (h.account_at p)
  same_state = quiet.same q quiet.ordered (omega arith)

  before_after : {r : ℕ} → OldBefore h q r → OldBefore h p r
  before_after then k from to =
      let ordered = quiet.ordered in
      elim (cases_lt k q) as (λ _. s3_state (h.account_at k) ≡ s3_state (h.account_at p)) [
        | inl near ↦ quiet.same k from (omega arith)
        | inr far ↦ then k far to ∙ quiet.same q ordered (omega arith)
      ]

  pub failed_after : {r : ℕ} → h.faults_at q ≡ h.faults_at p → LastFailed h q r → LastFailed h p r
  failed_after same failed = failed_behind quiet.ordered same failed

  old_if_after : (t : Bool) (r : ℕ) → OldIf t h q r → OldIf t h p r
  old_if_after true r old = before_after old
  old_if_after false r old = tt

module _ {settings : Settings} {h : History} {p q : ℕ} {op : Op} {label : Label} (quiet : Stutters h p q) where
  step_after : {reply : Reply} {new : State} → S3Step settings (s3_state (h.account_at q)) op label reply new → S3Step settings (s3_state (h.account_at p)) op label reply new
  step_after {reply = reply} step = step_at settings op label reply (same_state quiet) refl step

  stage_after : {n : ℕ} {new : State} → IsStage settings (s3_state (h.account_at q)) op label n new → IsStage settings (s3_state (h.account_at p)) op label n new
  stage_after {n = n} stage = stage_at settings op label n (same_state quiet) refl stage

  by_after : {r takes : ℕ} {reply : Reply} → h.faults_at q ≡ h.faults_at p → AnswersBy settings h q r op label takes reply → AnswersBy settings h p r op label takes reply
  unfolding failed_after failed_behind
  by_after same (machine all step) = machine all (step_after step)
  by_after same (unavailable is failed old) = unavailable is (failed_after quiet same failed) (old_if_after quiet (is_old_if_failed op) (failed.last + 1) old)
  by_after {r = r} same (memory is old) = memory is (old_if_after quiet (is_old_if_out_of_memory op) r old)

  passes_after : {t r takes : ℕ} → Passes settings h q t r op label takes → Passes settings h p t r op label takes
  passes_after {t = t} {r = r} {takes = takes} passes =
      let ordered = quiet.ordered in
      let first = passes.after_p in
      let stage : ℕ → ℕ = λ k. cond (nat_lt k q) 0 (passes.stage k) in
      record {
        after_p = omega arith;
        up_to_q = passes.up_to_q;
        stage = stage;
        rises = λ j k from order to. elim (cases_lt j q) as (λ _. stage j ≤ stage k) [
          | inl near ↦ subst (λ n. n ≤ stage k) (sym (below j near)) (omega arith)
          | inr far ↦ subst {A = ℕ × ℕ} (λ n. n.0 ≤ n.1) (λ i. (sym (above j far) i, sym (above k (omega arith)) i)) (passes.rises j k far order to)
        ];
        before = λ some k from to. elim (cases_lt k q) as (λ _. stage k < takes) [
          | inl near ↦ subst (λ n. n < takes) (sym (below k near)) some
          | inr far ↦ subst (λ n. n < takes) (sym (above k far)) (passes.before some k far to)
        ];
        since = λ k from to. above k (omega arith) ∙ passes.since k from to;
        is = λ k from to. elim (cases_lt k q) as (λ _. IsStage settings (s3_state (h.account_at p)) op label (stage k) (s3_state (h.account_at k))) [
          | inl near ↦ before_step (below k near) (quiet.same k from (omega arith))
          | inr far ↦ subst (λ n. IsStage settings (s3_state (h.account_at p)) op label n (s3_state (h.account_at k))) (sym (above k far)) (stage_after (passes.is k far to))
        ];
        sound = λ k from to. elim (cases_lt k q) as (λ _. IsConsistent (h.account_at k)) [
          | inl near ↦ quiet.sound k from (omega arith)
          | inr far ↦ passes.sound k far to
        ];
      }
    where
      below : (k : ℕ) → k < q → cond (nat_lt k q) 0 (passes.stage k) ≡ 0
      below k near = ap (λ t. cond t 0 (passes.stage k)) (lt_is k q near)

      above : (k : ℕ) → q ≤ k → cond (nat_lt k q) 0 (passes.stage k) ≡ passes.stage k
      above k far = ap (λ t. cond t 0 (passes.stage k)) (not_lt k q far)

  -- quiet calls without a fault, and then those of the whole answer
  pub answers_after : {t r takes : ℕ} {reply : Reply} → h.faults_at q ≡ h.faults_at p → Answers settings h q t r op label takes reply → Answers settings h p t r op label takes reply
  answers_after same answers = record { passes = passes_after answers.passes; by = by_after same answers.by }
