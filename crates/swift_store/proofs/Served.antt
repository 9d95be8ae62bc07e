-- What serving did, by its parts.
use Rattle.std.specs.Prelude.{◌≡◌, ◌⊎◌, ℕ, Bool, IsTrue, List, ◌++◌, Result, Ok, Err, IfOk, OnErr}
use Rattle.std.proofs.Common.{sym, ap, ◌∙◌, inl, inr}
use Rattle.swift_calls.specs.Account.{SwiftAccount}
use Rattle.swift_calls.specs.Step.{swift_step}
use Rattle.swift_calls.specs.declared.calls.SwiftRequest.{SwiftRequest}
use Rattle.swift_calls.specs.declared.calls.SwiftReply.{SwiftReply}
use Rattle.swift_replies.specs.AnswerText.{answer_text}
use Rattle.swift_store.specs.Shelf.{Writes}
use Rattle.swift_store.specs.Serving.{Answers, Served}
use Rattle.http_wire.specs.declared.message.Message.{Message}
use Rattle.swift_requests.specs.Calls.{SpellsCall}
use Rattle.swift_requests.specs.Place.{HasToken}
use Rattle.swift_requests.specs.declared.place.Place.{Place}
use Rattle.swift_store.specs.declared.faults.StoreFault.{StoreFault}
use Rattle.swift_store.specs.declared.faults.StoreFault.TheVariants.{Failed, Memory}

-- the reply is the step's from the account as it is now
still : (call : SwiftRequest) (old middle : SwiftAccount) (reply : SwiftReply) → middle ≡ old → reply ≡ (swift_step call old).reply → reply ≡ (swift_step call middle).reply
still call old middle reply same answered = answered ∙ ap (λ a. (swift_step call a).reply) (sym same)

-- all went well
pub answers_done : (told later : Bool) (call : SwiftRequest) (old middle new : SwiftAccount) (reply : SwiftReply) (before after : List ℕ) → after ≡ before ++ answer_text call reply → (IsTrue told → reply ≡ (swift_step call old).reply) → (IsTrue told → IsTrue later)
    → (IsTrue told → middle ≡ old) → (IsTrue later → reply ≡ (swift_step call middle).reply → new ≡ (swift_step call middle).tree) → Answers told call old new before after (Ok tt)
answers_done told later call old middle new reply before after text answered on same written = (reply, text, λ t. (answered t, written (on t) (still call old middle reply (same t) (answered t)) ∙ ap (λ a. (swift_step call a).tree) (same t)))

-- nothing was written yet
pub answers_unwritten : (told : Bool) (call : SwiftRequest) (old new : SwiftAccount) (before after : List ℕ) (fault : StoreFault) → after ≡ before → (IsTrue told → new ≡ old) → Answers told call old new before after (Err fault)
answers_unwritten told call old new before after Failed text same = (text, λ t. inl (same t))
answers_unwritten told call old new before after Memory text same = (text, same)

-- what was to be written failed
pub answers_failed : (told later : Bool) (call : SwiftRequest) (old middle new : SwiftAccount) (reply : SwiftReply) (before after : List ℕ) (fault : StoreFault) → after ≡ before → (IsTrue told → reply ≡ (swift_step call old).reply) → (IsTrue told → IsTrue later) → (IsTrue told → middle ≡ old)
    → (IsTrue later → reply ≡ (swift_step call middle).reply → Writes {A = Unit {0}} middle (swift_step call middle).tree new (Err fault)) → Answers told call old new before after (Err fault)
answers_failed told later call old middle new reply before after Failed text answered on same written = (text, λ t. either (same t) (written (on t) (still call old middle reply (same t) (answered t))))
  where
    either : middle ≡ old → (new ≡ middle) ⊎ (new ≡ (swift_step call middle).tree) → (new ≡ old) ⊎ (new ≡ (swift_step call old).tree)
    either same (inl stayed) = inl (stayed ∙ same)
    either same (inr done) = inr (done ∙ ap (λ a. (swift_step call a).tree) same)
answers_failed told later call old middle new reply before after Memory text answered on same written = (text, λ t. written (on t) (still call old middle reply (same t) (answered t)) ∙ same t)

-- the reply was found, and then all went well or failed
pub answers_by : (told later : Bool) (call : SwiftRequest) (old middle new : SwiftAccount) (reply : SwiftReply) (before after : List ℕ) (result : Result (Unit {0}) StoreFault) → IfOk result (λ done. after ≡ before ++ answer_text call reply) → OnErr result (after ≡ before)
    → (IsTrue told → reply ≡ (swift_step call old).reply) → (IsTrue told → IsTrue later) → (IsTrue told → middle ≡ old)
    → (IsTrue later → reply ≡ (swift_step call middle).reply → Writes middle (swift_step call middle).tree new result) → Answers told call old new before after result
answers_by told later call old middle new reply before after (Ok done) text kept answered on same written = answers_done told later call old middle new reply before after text answered on same written
answers_by told later call old middle new reply before after (Err fault) text kept answered on same written = answers_failed told later call old middle new reply before after fault kept answered on same written

-- a call was served
pub served_call : (told : Bool) (place : Place) (message : Message) (call : SwiftRequest) (old new : SwiftAccount) (before after : List ℕ) (result : Result (Unit {0}) StoreFault) → HasToken place message → SpellsCall place call message → Answers told call old new before after result
    → Served told place message old new before after result
served_call told place message call old new before after (Ok done) token spells answers = inr (inr (call, (token, spells), answers))
served_call told place message call old new before after (Err Failed) token spells answers = (call, (token, spells), answers)
served_call told place message call old new before after (Err Memory) token spells answers = answers
