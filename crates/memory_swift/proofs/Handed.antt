-- What handing the bytes of a request to a store comes to, by what serving its message did.
use Rattle.std.specs.Prelude.{◌≡◌, ◌⊎◌, ℕ, ◌<◌, ◌^◌, Bool, true, false, IsTrue, List, [], ◌++◌, length, Ok, Err}
use Rattle.std.proofs.Common.{sym, ap, subst, ◌∙◌, inl, inr}
use Rattle.std.proofs.Math.Nat.{le_refl}
use Rattle.std.proofs.Math.Seq.{take-length}
use Rattle.std.proofs.lemmas.Option.{same_Some}
use Rattle.http_wire.specs.declared.message.Message.{Message}
use Rattle.http_wire.specs.declared.judge.TheConstants.{MOST_BODY_LIMIT}
use Rattle.http_wire.specs.FirstMessage.{Spells}
use Rattle.http_wire.proofs.lemmas.UniqueLemmas.{one_spelling}
use Rattle.swift_calls.specs.Account.{SwiftAccount}
use Rattle.swift_calls.specs.Step.{swift_step}
use Rattle.swift_calls.specs.declared.calls.SwiftRequest.{SwiftRequest}
use Rattle.swift_replies.specs.Answers.{SpellsAnswer}
use Rattle.swift_replies.specs.AnswerText.{answer_text}
use Rattle.swift_requests.specs.Calls.{SpellsCall, SpellsRequest}
use Rattle.swift_requests.specs.Place.{HasToken}
use Rattle.swift_requests.specs.declared.place.Place.{Place}
use Rattle.memory_swift.specs.Handing.{Hands}
use Rattle.swift_store.specs.Serving.{Answers, Served}
use Rattle.swift_store.specs.declared.faults.StoreFault.{StoreFault}
use Rattle.swift_store.specs.declared.faults.StoreFault.TheVariants.{Failed}

one_message : (bytes : List ℕ) (a b : Message) → Spells MOST_BODY_LIMIT bytes a → Spells MOST_BODY_LIMIT bytes b → a ≡ b
one_message bytes a b is_a is_b =
    let whole = sym (take-length bytes) in
    (one_spelling MOST_BODY_LIMIT bytes a b (length bytes) (length bytes) (le_refl (length bytes)) (le_refl (length bytes)) (subst (λ t. Spells MOST_BODY_LIMIT t a) whole is_a) (subst (λ t. Spells MOST_BODY_LIMIT t b) whole is_b)).1

same_call : (place : Place) (message : Message) (a b : SwiftRequest) → SpellsCall place a message → SpellsCall place b message → a ≡ b
same_call place message a b is_a is_b = same_Some a b (sym is_a.0 ∙ is_b.0)

module _ (place : Place) (message : Message) (bytes : List ℕ) (call : SwiftRequest) (spells : Spells MOST_BODY_LIMIT bytes message) (request : SpellsRequest place call bytes) where
  -- the message is the request's
  is_call : HasToken place message × SpellsCall place call message
  is_call = by request
    where
      by : SpellsRequest place call bytes → HasToken place message × SpellsCall place call message
      by (other, is_other, token, calls) = subst (λ m. HasToken place m × SpellsCall place call m) (one_message bytes other message is_other spells) (token, calls)

  module _ (told : Bool) (old new : SwiftAccount) (before after : List ℕ) (empty : before ≡ []) (o : IsTrue told) where
    -- it was answered
    pub handed : Served told place message old new before after (Ok tt) → (length (answer_text call (swift_step call old).reply) < 2 ^ 63 → SpellsAnswer call (swift_step call old).reply (answer_text call (swift_step call old).reply))
        → length after < 2 ^ 63 → Hands call old new after (Ok false)
    handed (inl (stranger, refused)) reads bound = absurd (stranger is_call.0)
    handed (inr (inl (none, refused))) reads bound = absurd (none.1 call is_call.1)
    handed (inr (inr (other, is_other, answers))) reads bound = by answers
      where
        by : Answers told other old new before after (Ok tt) → Hands call old new after (Ok false)
        by (reply, text, done) =
            let same : other ≡ call = same_call place message other call is_other.1 is_call.1 in
            let said : reply ≡ (swift_step call old).reply = (done o).0 ∙ ap (λ c. (swift_step c old).reply) same in
            let all : after ≡ answer_text call (swift_step call old).reply = text ∙ ap (λ b. b ++ answer_text other reply) empty ∙ (λ i. answer_text (same i) (said i)) in
            (subst (λ t. SpellsAnswer call (swift_step call old).reply t) (sym all) (reads (subst (λ t. length t < 2 ^ 63) all bound)), (done o).1 ∙ ap (λ c. (swift_step c old).tree) same)

    -- the shelf failed
    pub failed : (fault : StoreFault) → fault ≡ Failed → Served told place message old new before after (Err fault) → Hands call old new after (Ok true)
    failed fault is served = by (subst (λ f. Served told place message old new before after (Err f)) is served)
      where
        either : (other : SwiftRequest) → other ≡ call → (new ≡ old) ⊎ (new ≡ (swift_step other old).tree) → (new ≡ old) ⊎ (new ≡ (swift_step call old).tree)
        either other same (inl stayed) = inl stayed
        either other same (inr all) = inr (all ∙ ap (λ c. (swift_step c old).tree) same)

        by : Served told place message old new before after (Err Failed) → Hands call old new after (Ok true)
        by (other, is_other, answers) = either other (same_call place message other call is_other.1 is_call.1) (answers.1 o)

-- bytes that spell a request are a message
pub no_request : {A : Type 0} (place : Place) (bytes : List ℕ) (call : SwiftRequest) → ((message : Message) → ¬ (Spells MOST_BODY_LIMIT bytes message)) → SpellsRequest place call bytes → A
no_request place bytes call none (message, is, token, calls) = absurd (none message is)
