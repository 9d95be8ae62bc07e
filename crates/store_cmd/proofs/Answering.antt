-- What was answered to a message, by what serving it said.
use Rattle.std.specs.Prelude.{◌≡◌, ℕ, Bool, IsTrue, List, [], Some, Ok, Err}
use Rattle.std.proofs.Common.{sym, subst, inl, inr}
use Rattle.gate_base.specs.Causes.{Rose}
use Rattle.http_wire.specs.declared.message.Message.{Message}
use Rattle.http_service.specs.declared.ended.Ended.TheVariants.{ServiceFailed, Memory}
use Rattle.swift_replies.specs.AnswerText.{refusal}
use Rattle.swift_requests.specs.declared.place.Place.{Place}
use Rattle.swift_store.specs.Serving.{Served}
use Rattle.swift_store.specs.declared.faults.StoreFault.TheVariants as fault
use Rattle.store_cmd.specs.Connection.{StoreState, Answered, replied, stranger, no_call, failed, out_of_memory, end_after}

module _ (told now : Bool) (on : IsTrue told → IsTrue now) (place : Place) (message : Message) (old new : StoreState) where
  pub answered_ok : (text : List ℕ) → Served now place message old.account new.account [] text (Ok tt) → new.faults ≡ old.faults → Answered told place message old new text (end_after message)
  answered_ok text (inl (who, (text_is, same))) counts = subst (λ t. Answered told place message old new t (end_after message)) (sym text_is) (stranger who counts (λ t. same (on t)))
  answered_ok text (inr (inl (what, (text_is, same)))) counts = subst (λ t. Answered told place message old new t (end_after message)) (sym text_is) (no_call what counts (λ t. same (on t)))
  answered_ok text (inr (inr (call, is, (reply, text_is, did)))) counts = subst (λ t. Answered told place message old new t (end_after message)) (sym text_is) (replied call reply is counts (λ t. did (on t)))

  pub answered_failed : (text : List ℕ) → Served now place message old.account new.account [] text (Err fault.Failed) → Rose old.faults new.faults → Answered told place message old new (refusal 503) (Some ServiceFailed)
  answered_failed text (call, is, (same, did)) rose = failed call is rose (λ t. did (on t))

  pub answered_out_of_memory : (text : List ℕ) → Served now place message old.account new.account [] text (Err fault.Memory) → new.faults ≡ old.faults → Answered told place message old new (refusal 500) (Some Memory)
  answered_out_of_memory text (same, stays) counts = out_of_memory counts (λ t. stays (on t))
