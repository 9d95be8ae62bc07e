-- How a completion ends before its first call, and how it goes on without one.
use Rattle.std.specs.Prelude.{◌≡◌, ℕ, List, Result, Ok, Err}
use Rattle.std.specs.Result.{IsErrAnd}
use Rattle.std.proofs.Common.{refl, sym, subst}
use Rattle.s3_machine.specs.Step.{S3Step}
use Rattle.s3_machine.specs.declared.code.Code.{Code}
use Rattle.s3_machine.specs.declared.operation.Label.{Label}
use Rattle.s3_machine.specs.declared.operation.Listed.{Listed}
use Rattle.s3_machine.specs.declared.operation.Op.{Op}
use Rattle.s3_machine.specs.declared.only_if.OnlyIf.TheVariants.{Always}
use Rattle.s3_machine.specs.Ops.{CompleteUpload}
use Rattle.s3_machine.specs.declared.operation.Reply.{Reply}
use Rattle.s3_machine.specs.declared.operation.Reply.TheVariants.{Refused}
use Rattle.s3_machine.specs.declared.operation.Settings.{Settings}
use Rattle.swift_calls.specs.Account.{SwiftAccount}
use Rattle.swift_calls.specs.History.{History, present}
use Rattle.upload_texts.specs.declared.sealed.Sealed.{Sealed}
use Rattle.upload_records.specs.Consistent.{IsConsistent}
use Rattle.upload_records.specs.Native.{s3_state}
use Rattle.account_calls.specs.declared.fault.PlanFault.{PlanFault}
use Rattle.account_calls.specs.declared.fault.PlanFault.TheVariants.{Memory}
use Rattle.account_calls.specs.declared.state.Known.{Known}
use Rattle.account_calls.specs.Calls.{Asks, Bound, GivenOf, Met, always}
use Rattle.account_calls.specs.Listing.{TellsOf}
use Rattle.account_calls.specs.Plan.{IsOwnReply, Plans}
use Rattle.account_calls.proofs.lemmas.Ends.{IsBoth, IsWider, goes_on_from, out_of_memory}
use Rattle.account_calls.proofs.lemmas.Faults.{err_is}
use Rattle.account_calls.proofs.lemmas.Idle.{grows_none, none_made}
use Rattle.upload_calls.proofs.lemmas.Asking.{asked_in_vain, asked_reply}
use Rattle.plan_uploads.specs.declared.complete.Completing.{Completing}
use Rattle.plan_uploads.specs.Completing.{MayComplete, answered_by, end_in, known_after_completion, known_in}

-- without a call it is known that the account is consistent
abbrev Sound : SwiftAccount → Unit {0} → Type 0
Sound tree told = IsConsistent tree

sound_here : (given : SwiftAccount → Type 0) (h : History) → Asks (always 0) h h (GivenOf given) (TellsOf Sound) (Ok tt)
sound_here given h = record {
  grows = grows_none (always 0) (GivenOf given) h;
  cause = refl;
  effect = λ met. (none_made refl met.sound, refl, record { of_account = met.sound; same = refl });
  settled = λ observable settled. settled;
}

module _ {settings : Settings} {given : SwiftAccount → Type 0} {op : Op} {label : Label} {most : Bound} where
  -- memory ran out
  pub lacks_memory : (h : History) (result : Result Completing PlanFault) → IsErrAnd result (λ e. e ≡ Memory) → Plans most h h settings (GivenOf given) op label (known_in result) (end_in result)
  lacks_memory h result is = subst (λ r. Plans most h h settings (GivenOf given) op label (known_in r) (end_in r)) (sym (err_is result Memory is)) (out_of_memory h (Err Memory) refl)

  -- it is refused
  pub refused_at_once : IsWider (always 0) most → (h : History) (code : Code) → IsOwnReply (Refused code)
      → ((tree : SwiftAccount) → IsConsistent tree → given tree → S3Step settings (s3_state tree) op label (Refused code) (s3_state tree))
      → (completing : Completing) → completing ≡ answered_by (Refused code) → Plans most h h settings (GivenOf given) op label (known_after_completion completing.unfinished) completing.end
  refused_at_once within h code own step completing is =
      subst (λ k. Plans most h h settings (GivenOf given) op label (known_after_completion k.unfinished) k.end) (sym is)
      (asked_reply (always 0) within (λ tree has. has) tt refl (Refused code) (sound_here given h) own (λ tree sound has told. step tree sound has.is))

  -- calls told nothing, and their fault is handed on
  pub asked_nothing : {T : Type 0} {asked : SwiftAccount → Type 0} {Q : SwiftAccount → SwiftAccount → T → Type 0} {a b : History} {fault : PlanFault} (m : Bound) → IsWider m most → (Met (GivenOf given) a → Met asked a)
      → Asks m a b asked Q (Err fault) → (result : Result Completing PlanFault) → IsErrAnd result (λ e. e ≡ fault) → Plans most a b settings (GivenOf given) op label (known_in result) (end_in result)
  asked_nothing {a = a} {b = b} {fault = fault} m within under asks result is =
      subst (λ r. Plans most a b settings (GivenOf given) op label (known_in r) (end_in r)) (sym (err_is result fault is)) (asked_in_vain m within under asks (Err fault) refl)

  -- the rest of it begins on the same account
  pub goes_on_sound : {h c : History} {rest : SwiftAccount → Type 0} {after : Known} {end : Result Reply PlanFault} {n : ℕ} → IsBoth (always 0) (always n) most (given (present h) × TellsOf Sound (present h) (present h) tt)
      → ((tree : SwiftAccount) → IsConsistent tree → given tree → rest tree) → Plans (always n) h c settings (GivenOf rest) op label after end → Plans most h c settings (GivenOf given) op label after end
  goes_on_sound {h = h} {rest = rest} within gives plans =
      goes_on_from (λ met. met) refl (sound_here given h) plans (λ has tells. gives (present h) tells.of_account has) within

-- a plan that seals a completion is one by whatever is that completion
pub seals_same : {settings : Settings} {h c : History} {most : Bound} {after : Known} {end : Result Reply PlanFault} (text : List ℕ) (list : List Listed) (label : Label) (s t : Sealed) → s ≡ t
    → Plans most h c settings (GivenOf (MayComplete settings text list label s)) (CompleteUpload s.bucket s.key text list Always) label after end
    → Plans most h c settings (GivenOf (MayComplete settings text list label t)) (CompleteUpload t.bucket t.key text list Always) label after end
seals_same {settings = settings} {h = h} {c = c} {most = most} {after = after} {end = end} text list label s t same plans =
    subst (λ s. Plans most h c settings (GivenOf (MayComplete settings text list label s)) (CompleteUpload s.bucket s.key text list Always) label after end) same plans
