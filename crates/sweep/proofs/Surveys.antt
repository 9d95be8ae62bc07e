-- An account is surveyed: what is sealed, the names of its containers, and what each of these has.
use Rattle.std.specs.Prelude.{◌≡◌, ◌≤◌, ◌+◌, ℕ, Bool, is_some, List, Option, Result, Ok, Err}
use Rattle.std.specs.Result.{IsErrAnd}
use Rattle.std.specs.FinMap.{len}
use Rattle.std.proofs.Common.{refl, sym, ap, subst, ◌∙◌, arith}
use Rattle.swift_calls.specs.Account.{SwiftAccount}
use Rattle.swift_calls.specs.History.{History, present}
use Rattle.upload_texts.specs.declared.sealed.Sealed.{Sealed}
use Rattle.account_calls.specs.declared.fault.PlanFault.{PlanFault}
use Rattle.account_calls.specs.Answers.{pages}
use Rattle.account_calls.specs.Calls.{always, by_account, Any, Asks}
use Rattle.account_calls.specs.Listing.{TellsNames, TellsOf}
use Rattle.leftovers.specs.declared.fault.SweepFault.{SweepFault}
use Rattle.sweep.specs.declared.counting.Surveyed.{Surveyed}
use Rattle.sweep.specs.Surveying.{shares_calls, HasAllNames, TellsSealed, TellsShares}
use Rattle.sweep.specs.Swept.{account_calls, SurveysAccount, TellsSurvey}
use Rattle.leftovers.specs.Faults.{plan_of}
use Rattle.leftovers.proofs.lemmas.Readings.{asks_account}
use Rattle.sweep.proofs.Steps.{first_fault, reads_then_fault, reads_then_told}
use Rattle.sweep.proofs.SurveyCalls.{survey_paid}
use Rattle.sweep.proofs.SurveySums.{survey_is}

err_as : {T : Type 0} (result : Result T SweepFault) (f : SweepFault) → IsErrAnd result (λ e. e ≡ f) → result ≡ Err f
err_as (Ok x) f is = absurd is
err_as (Err e) f is = ap Err is

-- a fault is handed on
handed_on : {a b : History} (f : SweepFault) (result : Result Surveyed SweepFault) → IsErrAnd result (λ e. e ≡ f)
    → Asks (by_account (account_calls (present a))) a b Any (TellsOf TellsSurvey) (Err (plan_of f)) → SurveysAccount a b result
handed_on {a = a} {b = b} f result is asks = subst (SurveysAccount a b) (sym (err_as result f is)) asks

one_paid : (tree : SwiftAccount) → 1 ≤ account_calls tree
one_paid tree = omega arith

two_paid : (tree : SwiftAccount) → 1 + pages (len tree) ≤ account_calls tree
two_paid tree = omega arith

module _ {a b : History} where
  -- what is sealed wasn't told
  pub survey_unsealed : (f : SweepFault) (result : Result Surveyed SweepFault) → IsErrAnd result (λ e. e ≡ f) → Asks (always 1) a b Any (TellsOf TellsSealed) (Err (plan_of f)) → SurveysAccount a b result
  survey_unsealed f result is first = handed_on f result is (first_fault (λ tree has. has) (one_paid (present a)) (asks_account (λ met. omega arith) first) (Err (plan_of f)) refl)

  module _ {sealed : Option Sealed} (first : Asks (always 1) a b Any (TellsOf TellsSealed) (Ok sealed)) where
    told_sealed : Asks (by_account 1) a b Any (TellsOf TellsSealed) (Ok sealed)
    told_sealed = asks_account (λ met. omega arith) first

    same_paid : present b ≡ present a → 1 + pages (len (present b)) ≤ 1 + pages (len (present a))
    same_paid same = omega (arith, ap (λ tree. pages (len tree)) same)

    -- the names weren't
    pub survey_unnamed : {c : History} (f : SweepFault) (result : Result Surveyed SweepFault) → IsErrAnd result (λ e. e ≡ f) → Asks (by_account (pages (len (present b)))) b c Any (TellsOf TellsNames) (Err (plan_of f)) → SurveysAccount a c result
    survey_unnamed f result is then =
        handed_on f result is (reads_then_fault told_sealed (λ tree sound has p. tt) (λ met p same. let one = same_paid same in let two = two_paid (present a) in omega (arith, one, two)) then (Err (plan_of f)) refl)

    module _ {c : History} {names : List (List ℕ)} (then : Asks (by_account (pages (len (present b)))) b c Any (TellsOf TellsNames) (Ok names)) {handed : List (List ℕ)} (alike : handed ≡ names) where
      named : Asks (by_account (1 + pages (len (present a)))) a c Any (TellsOf (λ tree (done : Unit {0}). HasAllNames sealed names tree)) (Ok tt)
      named = reads_then_told told_sealed (λ tree sound has p. tt) (λ met p same. same_paid same) tt then (λ tree sound has p q. record { all = q; seals = sym p })

      all_paid : HasAllNames sealed names (present a) → present c ≡ present a → 1 + pages (len (present a)) + shares_calls (present c) names ≤ account_calls (present a)
      all_paid has same =
          let paid = survey_paid (present a) in
          omega (arith, paid, ap (λ tree. shares_calls tree names) same, ap (shares_calls (present a)) has.all)

      as_named : {d : History} (result : Result Surveyed PlanFault) → Asks (by_account (shares_calls (present c) handed)) c d (HasAllNames sealed handed) (TellsOf (TellsShares handed)) result
          → Asks (by_account (shares_calls (present c) names)) c d (HasAllNames sealed names) (TellsOf (TellsShares names)) result
      as_named {d = d} result last = subst (λ l. Asks (by_account (shares_calls (present c) l)) c d (HasAllNames sealed l) (TellsOf (TellsShares l)) result) alike last

      pub survey_told : {d : History} {told : Surveyed} → Asks (by_account (shares_calls (present c) handed)) c d (HasAllNames sealed handed) (TellsOf (TellsShares handed)) (Ok told) → (is : Bool) → is ≡ is_some sealed
          → Asks (by_account (account_calls (present a))) a d Any (TellsOf TellsSurvey) (Ok (record { buckets = told.buckets; objects = told.objects; uploads = told.uploads; kept = told.kept; orphans = told.orphans; sealed = is }))
      survey_told {told = told} last is same_seal =
          reads_then_told named (λ tree sound has p. p) (λ met p same. all_paid p same)
          (record { buckets = told.buckets; objects = told.objects; uploads = told.uploads; kept = told.kept; orphans = told.orphans; sealed = is }) (as_named (Ok told) last)
          (λ tree sound has p q. survey_is tree told (subst (λ l. TellsShares l tree told) p.all q) is (same_seal ∙ ap is_some (sym p.seals)))

      -- a container wasn't surveyed
      pub survey_stopped : {d : History} (f : SweepFault) (result : Result Surveyed SweepFault) → IsErrAnd result (λ e. e ≡ f)
          → Asks (by_account (shares_calls (present c) handed)) c d (HasAllNames sealed handed) (TellsOf (TellsShares handed)) (Err (plan_of f)) → SurveysAccount a d result
      survey_stopped f result is last =
          handed_on f result is (reads_then_fault named (λ tree sound has p. p) (λ met p same. all_paid p same) (as_named (Err (plan_of f)) last) (Err (plan_of f)) refl)
