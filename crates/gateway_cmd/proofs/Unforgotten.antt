-- Completions that are forgotten, through calls of which the first leave the state.
use Rattle.std.specs.Prelude.{◌≡◌, ◌⊎◌, ◌≤◌, ◌<◌, ℕ, zero, suc, List, [], ◌∷◌, ◌++◌, map, flat_map, length, take}
use Rattle.std.specs.List.{filter}
use Rattle.std.specs.FinMap.{entries}
use Rattle.std.proofs.Common.{refl, sym, ap, subst, ◌∙◌, cond, inl, inr, arith}
use Rattle.std.proofs.lemmas.Bool.{cases_lt, le-ltb}
use Rattle.s3_machine.specs.State.{Bucket, Completion, State}
use Rattle.swift_calls.specs.History.{History}
use Rattle.upload_records.specs.Native.{s3_state}
use Rattle.upload_records.specs.Consistent.{IsConsistent}
use Rattle.account_calls.specs.Stutters.{Stutters}
use Rattle.sweep.specs.Forgetting.{all_old, forgotten, is_older, old_in, without_kept}
use Rattle.sweep.specs.Swept.{Forgets}
use Rattle.gateway_cmd.specs.Lives.{NoneBeforeFirst}

-- ---- the S3 state

pub none_gone : (before : ℕ) (state : State) → forgotten state before 0 ≡ state
unfolding without_kept
none_gone before state = refl

-- before the first moment there is none
none_older : (kept : List (List ℕ × Completion)) → filter (λ k. is_older 0 k.1) kept ≡ []
none_older [] = refl
none_older (k ∷ kept) = ap (λ b. cond b (k ∷ filter (λ k. is_older 0 k.1) kept) (filter (λ k. is_older 0 k.1) kept)) (le-ltb k.1.moment 0 (omega arith)) ∙ none_older kept

none_old_in : (entry : List ℕ × Bucket) → old_in 0 entry ≡ []
none_old_in entry = ap (map (λ kept. (entry.0, kept.0))) (none_older (entries entry.1.kept))

none_old : (buckets : List (List ℕ × Bucket)) → flat_map (old_in 0) buckets ≡ []
none_old [] = refl
none_old (entry ∷ buckets) = ap (λ first. first ++ flat_map (old_in 0) buckets) (none_old_in entry) ∙ none_old buckets

take_none : {A : Type 0} (n : ℕ) → take {A = A} n [] ≡ []
take_none zero = refl
take_none (suc n) = refl

pub none_before_first : NoneBeforeFirst
unfolding without_kept
none_before_first state n = ap (λ old. without_kept (take n old) state) (none_old (entries state)) ∙ ap (λ gone. without_kept gone state) (take_none n)

-- ---- the calls

-- calls that leave the state forget none
pub forgets_none : {before : ℕ} {h : History} {p q : ℕ} → Stutters h p q → Forgets before h p q
forgets_none {before = before} {h = h} {p = p} still = record {
  ordered = still.ordered;
  gone = λ k. 0;
  most = λ k from to. omega arith;
  rises = λ j k from on to. omega arith;
  is = λ k from to. still.same k from to ∙ sym (none_gone before (s3_state (h.account_at p)));
  sound = still.sound;
}

-- before the first moment such calls leave the state
pub forgets_still : {h : History} {p q : ℕ} → Forgets 0 h p q → Stutters h p q
forgets_still {h = h} {p = p} forgets = record {
  ordered = forgets.ordered;
  same = λ k from to. forgets.is k from to ∙ none_before_first (s3_state (h.account_at p)) (forgets.gone k);
  sound = forgets.sound;
}

-- calls that leave the state, and then some that forget
module _ {before : ℕ} {h : History} {p q r : ℕ} (still : Stutters h p q) (forgets : Forgets before h q r) where
  first_same : s3_state (h.account_at q) ≡ s3_state (h.account_at p)
  first_same = let ordered = still.ordered in still.same q ordered (omega arith)

  -- how many are gone, by whether the first calls are over
  abbrev gone_by : (k : ℕ) → (k < q) ⊎ (q ≤ k) → ℕ
  gone_by k (inl near) = 0
  gone_by k (inr far) = forgets.gone k

  most_by : (k : ℕ) (by : (k < q) ⊎ (q ≤ k)) → k ≤ r → gone_by k by ≤ length (all_old before (s3_state (h.account_at p)))
  most_by k (inl near) to = omega arith
  most_by k (inr far) to = subst (λ state. forgets.gone k ≤ length (all_old before state)) first_same (forgets.most k far to)

  rises_by : (j k : ℕ) (by : (j < q) ⊎ (q ≤ j)) (by' : (k < q) ⊎ (q ≤ k)) → j ≤ k → k ≤ r → gone_by j by ≤ gone_by k by'
  rises_by j k (inl near) by' on to = omega arith
  rises_by j k (inr far) (inl near') on to = absurd (omega arith)
  rises_by j k (inr far) (inr far') on to = forgets.rises j k far on to

  is_by : (k : ℕ) (by : (k < q) ⊎ (q ≤ k)) → p ≤ k → k ≤ r → s3_state (h.account_at k) ≡ forgotten (s3_state (h.account_at p)) before (gone_by k by)
  is_by k (inl near) from to = still.same k from (omega arith) ∙ sym (none_gone before (s3_state (h.account_at p)))
  is_by k (inr far) from to = forgets.is k far to ∙ ap (λ state. forgotten state before (forgets.gone k)) first_same

  sound_by : (k : ℕ) (by : (k < q) ⊎ (q ≤ k)) → p ≤ k → k ≤ r → IsConsistent (h.account_at k)
  sound_by k (inl near) from to = still.sound k from (omega arith)
  sound_by k (inr far) from to = forgets.sound k far to

  pub forgets_after : Forgets before h p r
  forgets_after =
      let ordered = still.ordered in
      let more = forgets.ordered in
      record {
        ordered = omega (arith, ordered, more);
        gone = λ k. gone_by k (cases_lt k q);
        most = λ k from to. most_by k (cases_lt k q) to;
        rises = λ j k from on to. rises_by j k (cases_lt j q) (cases_lt k q) on to;
        is = λ k from to. is_by k (cases_lt k q) from to;
        sound = λ k from to. sound_by k (cases_lt k q) from to;
      }
