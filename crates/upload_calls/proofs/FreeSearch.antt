-- The search of a free id, try by try.
use Rattle.std.specs.Prelude.{◌≡◌, ◌<◌, ◌≤◌, ◌+◌, ◌*◌, ◌%◌, ◌^◌, ℕ, Bool, true, false, List, Result, Ok, Err}
use Rattle.std.specs.Result.{IsErrAnd}
use Rattle.std.proofs.Common.{ap, subst, ◌∙◌, inl, inr, arith}
use Rattle.std.proofs.lemmas.Bool.{cases_lt}
use Rattle.s3_names.specs.Id.{id_digits}
use Rattle.swift_calls.specs.Account.{SwiftAccount}
use Rattle.swift_calls.specs.History.{History, present}
use Rattle.account_calls.specs.Answers.{IsFirstFree, IsTaken, id_at, records_of, segments_of}
use Rattle.account_calls.specs.declared.fault.PlanFault.{PlanFault}
use Rattle.account_calls.specs.declared.fault.PlanFault.TheVariants as fault
use Rattle.account_calls.specs.Listing.{TellsOf}
use Rattle.account_calls.specs.Calls.{always, by_account, Asks, GivenOf, Met}
use Rattle.account_calls.specs.Told.{Told}
use Rattle.account_calls.proofs.lemmas.Told.{told_none, told_more, told_end, told_fault, told_out_of_memory}
use Rattle.upload_calls.specs.Records.{InBucket, TellsFree, TellsTaken}
use Rattle.upload_calls.proofs.FreeIds.{tries_few}

-- the first ids from the draw on are taken
abbrev pub AllTaken : List ℕ → ℕ → ℕ → SwiftAccount → Type 0
AllTaken bucket draw n tree = (k : ℕ) → k < n → IsTaken tree bucket (id_at (draw + k))

-- so many tries found a taken id, by two calls each at most
pub record Tried (a b : History) (bucket : List ℕ) (draw n : ℕ) : Type 0 where
  pub told : Told a b (GivenOf (InBucket bucket)) (AllTaken bucket draw n) (2 * n)
  pub few : n ≤ 2 ^ 128

pub tried_none : (a : History) (bucket : List ℕ) (draw : ℕ) → Tried a a bucket draw 0
tried_none a bucket draw = record { told = told_none a (λ tree k never. absurd (omega (arith, never))); few = omega arith }

-- the greatest number of calls, on the account as it began
abbrev most_of : List ℕ → History → ℕ
most_of bucket a = 2 * (records_of (present a) bucket + segments_of (present a) bucket + 1)

module _ {a b : History} {bucket : List ℕ} {draw n : ℕ} (tried : Tried a b bucket draw n) (small : draw < 2 ^ 128) where
  within : (q extra : ℕ) → extra ≤ 2 → q ≤ a.called + (2 * n + extra) → Met (GivenOf (InBucket bucket)) a → q ≤ a.called + most_of bucket a
  within q extra two near met =
      let few = tries_few (present a) bucket draw small n tried.few (tried.told.so met) in
      omega (arith, two, near, few)

  -- a try that wasn't told
  pub tried_fault : {c : History} {f : PlanFault} (id : ℕ) → Asks (always 2) b c (GivenOf (InBucket bucket)) (TellsOf (TellsTaken bucket id)) (Err f)
      → (result : Result ℕ PlanFault) → IsErrAnd result (λ e. e ≡ f) → Asks (by_account (most_of bucket a)) a c (GivenOf (InBucket bucket)) (TellsOf (TellsFree bucket draw)) result
  tried_fault {c = c} id asks result is = told_fault tried.told {P = TellsTaken bucket id} asks result is (λ near met. within c.called 2 (omega arith) near met)

  -- the last try
  pub tried_end : {c : History} {t : Bool} (id : ℕ) → id ≡ (draw + n) % 2 ^ 128 → Asks (always 2) b c (GivenOf (InBucket bucket)) (TellsOf (TellsTaken bucket id)) (Ok t) → t ≡ false
      → Asks (by_account (most_of bucket a)) a c (GivenOf (InBucket bucket)) (TellsOf (TellsFree bucket draw)) (Ok id)
  tried_end {c = c} id is asks not =
      told_end (told_more tried.told {P = TellsTaken bucket id} {S = λ tree. TellsFree bucket draw tree id} asks (λ tree before free. first tree before (subst (TellsTaken bucket id tree) not free))) id (λ tree free. free)
      (λ near met. within c.called 2 (omega arith) near met)
    where
      first : (tree : SwiftAccount) → AllTaken bucket draw n tree → TellsTaken bucket id tree false → IsFirstFree tree bucket draw (id_digits id)
      first tree before free = record { tries = n; is = ap id_digits is; free = free; before = before }

  -- all ids that are tried are taken
  pub tried_out : Asks (by_account (most_of bucket a)) a b (GivenOf (InBucket bucket)) (TellsOf (TellsFree bucket draw)) (Err fault.Memory)
  tried_out = told_out_of_memory tried.told (λ near met. within b.called 0 (omega arith) (omega (arith, near)) met)

-- a try, and more
pub tried_more : {a b c : History} {bucket : List ℕ} {draw n : ℕ} {t : Bool} → Tried a b bucket draw n → n < 2 ^ 128 → (id : ℕ) → id ≡ (draw + n) % 2 ^ 128
    → Asks (always 2) b c (GivenOf (InBucket bucket)) (TellsOf (TellsTaken bucket id)) (Ok t) → t ≡ true → Tried a c bucket draw (n + 1)
tried_more {a = a} {c = c} {bucket = bucket} {draw = draw} {n = n} tried near id is asks has = record {
  told = subst (Told a c (GivenOf (InBucket bucket)) (AllTaken bucket draw (n + 1))) (omega arith)
      (told_more tried.told {P = TellsTaken bucket id} {S = AllTaken bucket draw (n + 1)} asks (λ tree before taken k below. elim (cases_lt k n) [
        | inl sooner ↦ before k sooner
        | inr here ↦ subst (λ m. IsTaken tree bucket (id_digits m)) (is ∙ (let same : n ≡ k = omega (arith, below, here) in ap (λ k. (draw + k) % 2 ^ 128) same)) (subst (TellsTaken bucket id tree) has taken)
      ]));
  few = omega (arith, near);
}
