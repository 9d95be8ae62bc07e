-- An operation of many parts: one part more is done by a call that commits, and the whole where all were.
use Rattle.std.specs.Prelude.{◌≡◌, ◌<◌, ◌≤◌, ℕ, zero, suc, cond, nat_lt, true, false, List, [], ◌∷◌, ◌++◌, length, take, slice_get, None, Some}
use Rattle.std.proofs.Common.{refl, sym, ap, subst, inl, inr, arith}
use Rattle.std.proofs.lemmas.Bool.{cases_lt}
use Rattle.std.proofs.lemmas.Bool.Decides.{nat_tests}
use Rattle.s3_machine.specs.declared.operation.Label.{Label}
use Rattle.s3_machine.specs.declared.operation.Op.{Op}
use Rattle.s3_machine.specs.declared.operation.Reply.{Reply}
use Rattle.s3_machine.specs.declared.operation.Settings.{Settings}
use Rattle.s3_machine.specs.State.{State}
use Rattle.s3_machine.specs.Step.{S3Step}
use Rattle.swift_calls.specs.History.{History}
use Rattle.upload_records.specs.Native.{s3_state}
use Rattle.upload_records.specs.Consistent.{IsConsistent}
use Rattle.account_calls.specs.Calls.{Commits}
use Rattle.account_calls.specs.Answers.{parts_of, steps_of, StepsThrough, IsStage, part_way, after_step, Passes}
use Rattle.account_calls.proofs.lemmas.Agree.{passes_rest}

through_more : (settings : Settings) (label : Label) (old middle new : State) (ops : List Op) (op : Op) (reply : Reply) → StepsThrough settings label old ops middle → S3Step settings middle op label reply new
    → StepsThrough settings label old (ops ++ op ∷ []) new
unfolding StepsThrough
through_more settings label old middle new [] op reply same step = (new, reply, subst (λ state. S3Step settings state op label reply new) same step, refl)
through_more settings label old middle new (first ∷ ops) op reply (next, answer, one, others) step = (next, answer, one, through_more settings label next middle new ops op reply others step)

take_more : (ops : List Op) (n : ℕ) (op : Op) → slice_get ops n ≡ Some op → take (suc n) ops ≡ take n ops ++ op ∷ []
take_more [] n op at = absurd (let no : None ≡ Some op = at in cc)
take_more (first ∷ ops) zero op at = (let same : first ≡ op = cc in ap (λ o. o ∷ []) same)
take_more (first ∷ ops) (suc n) op at = ap (λ rest. first ∷ rest) (take_more ops n op at)

at_within : (ops : List Op) (n : ℕ) (op : Op) → slice_get ops n ≡ Some op → suc n ≤ length ops
at_within [] n op at = absurd (let no : None ≡ Some op = at in cc)
at_within (first ∷ ops) zero op at = omega arith
at_within (first ∷ ops) (suc n) op at = let near = at_within ops n op at in omega arith

-- none of the operations is gone by
pub through_none : (settings : Settings) (label : Label) (state : State) (ops : List Op) → StepsThrough settings label state (take 0 ops) state
unfolding StepsThrough
through_none settings label state [] = refl
through_none settings label state (op ∷ ops) = refl

lt_is : (k j : ℕ) → k < j → nat_lt k j ≡ true
lt_is k j near = grind (arith, nat_tests)

not_lt : (k j : ℕ) → j ≤ k → nat_lt k j ≡ false
not_lt k j far = grind (arith, nat_tests)

-- n steps were taken by q, and the next call commits; after it the account is at a later stage of the operation
module _ {settings : Settings} {h : History} {p t q r : ℕ} {op : Op} {label : Label} {n m : ℕ} {S : State → State → Type 0} (passes : Passes settings h p t q op label n) (commits : Commits h q r S) (later : n < m)
    (stage_is : IsStage settings (s3_state (h.account_at p)) op label m (s3_state (h.account_at r))) where
  quiet_passes : Passes settings h p t commits.last op label n
  quiet_passes = passes_rest passes commits.quiet

  abbrev stage : ℕ → ℕ
  stage k = cond (nat_lt k r) (quiet_passes.stage k) m

  below : (k : ℕ) → k < r → stage k ≡ quiet_passes.stage k
  below k near = ap (λ b. cond b (quiet_passes.stage k) m) (lt_is k r near)

  above : (k : ℕ) → r ≤ k → stage k ≡ m
  above k far = ap (λ b. cond b (quiet_passes.stage k) m) (not_lt k r far)

  few : (k : ℕ) → p ≤ k → k < r → quiet_passes.stage k ≤ n
  few k from near =
      let next = commits.next in
      let last = quiet_passes.up_to_q in
      subst (λ j. quiet_passes.stage k ≤ j) (quiet_passes.since commits.last last (omega arith)) (quiet_passes.rises k commits.last from (omega arith) (omega arith))

  passes_next : Passes settings h p r r op label m
  passes_next =
      let next = commits.next in
      let first = quiet_passes.after_p in
      let last = quiet_passes.up_to_q in
      record {
        after_p = omega arith;
        up_to_q = omega arith;
        stage = stage;
        rises = λ j k from order to. elim (cases_lt k r) as (λ _. stage j ≤ stage k) [
          | inl near ↦ subst {A = ℕ × ℕ} (λ i. i.0 ≤ i.1) (λ i. (sym (below j (omega arith)) i, sym (below k near) i)) (quiet_passes.rises j k from order (omega arith))
          | inr far ↦ elim (cases_lt j r) as (λ _. stage j ≤ stage k) [
            | inl near ↦ let small = few j from near in subst {A = ℕ × ℕ} (λ i. i.0 ≤ i.1) (λ i. (sym (below j near) i, sym (above k far) i)) (omega arith)
            | inr after ↦ subst {A = ℕ × ℕ} (λ i. i.0 ≤ i.1) (λ i. (sym (above j after) i, sym (above k far) i)) (omega arith)
          ]
        ];
        before = λ some k from to. let small = few k from to in subst (λ i. i < m) (sym (below k to)) (omega arith);
        since = λ k from to. above k from;
        is = λ k from to. elim (cases_lt k r) as (λ _. IsStage settings (s3_state (h.account_at p)) op label (stage k) (s3_state (h.account_at k))) [
          | inl near ↦ subst (λ i. IsStage settings (s3_state (h.account_at p)) op label i (s3_state (h.account_at k))) (sym (below k near)) (quiet_passes.is k from (omega arith))
          | inr far ↦
              let e : r ≡ k = omega arith in
              subst {A = ℕ × State} (λ s. IsStage settings (s3_state (h.account_at p)) op label s.0 s.1) (λ i. (sym (above k far) i, ap (λ j. s3_state (h.account_at j)) e i)) stage_is
        ];
        sound = λ k from to. elim (cases_lt k r) as (λ _. IsConsistent (h.account_at k)) [
          | inl near ↦ quiet_passes.sound k from (omega arith)
          | inr far ↦ let e : r ≡ k = omega arith in subst (λ j. IsConsistent (h.account_at j)) e commits.sound
        ];
      }

-- one part more
module _ {settings : Settings} {h : History} {p t q r : ℕ} {op : Op} {label : Label} {n : ℕ} {S : State → State → Type 0} (passes : Passes settings h p t q op label n)
    (done : StepsThrough settings label (s3_state (h.account_at p)) (take n (parts_of op)) (s3_state (h.account_at q))) (commits : Commits h q r S)
    (part : Op) (at : slice_get (parts_of op) n ≡ Some part) (reply : Reply) (step : S3Step settings (s3_state (h.account_at q)) part label reply (s3_state (h.account_at r))) where
  pub part_done : StepsThrough settings label (s3_state (h.account_at p)) (take (suc n) (parts_of op)) (s3_state (h.account_at r))
  part_done = subst (λ ops. StepsThrough settings label (s3_state (h.account_at p)) ops (s3_state (h.account_at r))) (sym (take_more (parts_of op) n part at))
      (through_more settings label (s3_state (h.account_at p)) (s3_state (h.account_at q)) (s3_state (h.account_at r)) (take n (parts_of op)) part reply done step)

  pub part_passes : Passes settings h p r r op label (suc n)
  part_passes = passes_next passes commits (omega arith) (part_way (at_within (parts_of op) n part at) part_done)

-- where the last of the parts was done, the whole was
module _ {settings : Settings} {h : History} {p t q : ℕ} {op : Op} {label : Label} {n : ℕ} {reply : Reply} (passes : Passes settings h p t q op label n) (few : n < steps_of op)
    (step : (k : ℕ) → t ≤ k → k ≤ q → S3Step settings (s3_state (h.account_at p)) op label reply (s3_state (h.account_at k))) where
  abbrev whole : ℕ → ℕ
  whole k = cond (nat_lt k t) (passes.stage k) (steps_of op)

  whole_before : (k : ℕ) → k < t → whole k ≡ passes.stage k
  whole_before k near = ap (λ b. cond b (passes.stage k) (steps_of op)) (lt_is k t near)

  whole_since : (k : ℕ) → t ≤ k → whole k ≡ steps_of op
  whole_since k far = ap (λ b. cond b (passes.stage k) (steps_of op)) (not_lt k t far)

  part_only : (k : ℕ) → p ≤ k → k < t → passes.stage k < steps_of op
  part_only k from near =
      let last = passes.up_to_q in
      let small : passes.stage k ≤ n = subst (λ j. passes.stage k ≤ j) (passes.since t (omega arith) last) (passes.rises k t from (omega arith) last) in
      omega arith

  pub passes_whole : Passes settings h p t q op label (steps_of op)
  passes_whole = record {
    after_p = passes.after_p;
    up_to_q = passes.up_to_q;
    stage = whole;
    rises = λ j k from order to. elim (cases_lt k t) as (λ _. whole j ≤ whole k) [
      | inl near ↦ subst {A = ℕ × ℕ} (λ i. i.0 ≤ i.1) (λ i. (sym (whole_before j (omega arith)) i, sym (whole_before k near) i)) (passes.rises j k from order to)
      | inr far ↦ elim (cases_lt j t) as (λ _. whole j ≤ whole k) [
        | inl near ↦ let small = part_only j from near in subst {A = ℕ × ℕ} (λ i. i.0 ≤ i.1) (λ i. (sym (whole_before j near) i, sym (whole_since k far) i)) (omega arith)
        | inr after ↦ subst {A = ℕ × ℕ} (λ i. i.0 ≤ i.1) (λ i. (sym (whole_since j after) i, sym (whole_since k far) i)) (omega arith)
      ]
    ];
    before = λ some k from to. subst (λ i. i < steps_of op) (sym (whole_before k to)) (part_only k from to);
    since = λ k from to. whole_since k from;
    is = λ k from to. elim (cases_lt k t) as (λ _. IsStage settings (s3_state (h.account_at p)) op label (whole k) (s3_state (h.account_at k))) [
      | inl near ↦ subst (λ i. IsStage settings (s3_state (h.account_at p)) op label i (s3_state (h.account_at k))) (sym (whole_before k near)) (passes.is k from to)
      | inr far ↦ after_step (whole_since k far) reply (step k far to)
    ];
    sound = passes.sound;
  }
