-- What a link tells that writes down what each exchange found: its history, and what one more exchange does to it.
use Rattle.std.specs.Prelude.{◌≡◌, ◌⊎◌, ℕ, zero, suc, ◌≤◌, ◌<◌, ◌^◌, ◌+◌, Bool, true, false, cond, List, [], ◌∷◌, ◌++◌, length, count_by, IsTrue, Result, Ok, Err}
use Rattle.std.proofs.Common.{refl, sym, ap, subst, ◌∙◌, inl, inr, arith, append-nil, length-append, true≢false}
use Rattle.std.proofs.Math.Nat.{le_refl}
use Rattle.std.proofs.Math.Seq.{take-length}
use Rattle.std.proofs.lemmas.Bool.{and_parts, and_from}
use Rattle.std.proofs.lemmas.List.{take-append-le}
use Rattle.std.proofs.lemmas.List.Sums.{sum_by_push}
use Rattle.std.proofs.lemmas.Result.{err_from_is_err_and}
use Rattle.std.specs.Result.{IsErrAnd}
use Rattle.std.specs.Global.{Vec}
use Rattle.gate_base.specs.Causes.{RisesIf, Rose}
use Rattle.swift_calls.specs.Account.{SwiftAccount}
use Rattle.swift_calls.specs.Step.{Fit, swift_step}
use Rattle.swift_calls.specs.History.{History, Extends}
use Rattle.swift_calls.specs.Outcomes.{loses_none, outcome_of}
use Rattle.swift_calls.specs.declared.calls.SwiftRequest.{SwiftRequest}
use Rattle.swift_calls.specs.declared.outcome.Outcome.{Outcome}
use Rattle.swift_calls.specs.declared.outcome.Outcome.TheVariants.{Answered, LostAfter}
use Rattle.swift_replies.specs.Answers.{SpellsAnswer}
use Rattle.swift_requests.specs.Calls.{SpellsRequest}
use Rattle.swift_requests.specs.Link.{Exchanges}
use Rattle.swift_requests.specs.declared.place.Place.{Place}
use Rattle.swift_requests.specs.declared.link.LinkFault.{LinkFault}
use Rattle.swift_requests.specs.declared.link.LinkFault.TheVariants.{Failed as NoLink, Memory as NoMemory}
use Rattle.memory_swift.specs.Handing.{Hands}
use Rattle.memory_swift.specs.Log.{Serves, state_at, lost_after, history_by, is_sure_by}

-- where the lists are empty each exchange is answered
all_answered : (before after : List ℕ) (number : ℕ) → IsTrue (loses_none before after 0) → outcome_of before after 0 number ≡ Answered
all_answered [] [] number none = refl
all_answered [] (x ∷ after) number none = absurd (true≢false (sym none))
all_answered (x ∷ before) after number none = absurd (true≢false (sym none))

-- a vector has fewer than 2^63 items
pub vec_small : (v : Vec ℕ) → length v.items < 2 ^ 63
vec_small v = let ok = v.ok in let small = v.small in omega (arith, ok, small)

-- ---- where no exchange fails

-- it stays so where the store's own word does, and the lists are the same
pub sure_kept : (own own' : Bool) (before after before' after' : List ℕ) → (IsTrue own → IsTrue own') → before' ≡ before → after' ≡ after
    → IsTrue (is_sure_by own before after) → IsTrue (is_sure_by own' before' after')
sure_kept own own' before after before' after' keep same same' sure =
    let p = and_parts _ _ sure in and_from _ _ (keep p.0) ((λ i. loses_none (same i) (same' i) 0) ∙ p.1)

-- the same for what was noted of the store
pub sure_noted : {T : Type 0} (own : T → Bool) (old new later : T) (before after before' after' : List ℕ) → (IsTrue (own old) → IsTrue (own new)) → later ≡ new
    → before' ≡ before → after' ≡ after → IsTrue (is_sure_by (own old) before after) → IsTrue (is_sure_by (own later) before' after')
sure_noted own old new later before after before' after' keep stays = sure_kept _ _ _ _ _ _ (λ s. ap own stays ∙ keep s)

-- no exchange is lost
pub never_lost : (own : Bool) (before after : List ℕ) (number : ℕ) (outcome : Outcome) (lost : Bool) → outcome ≡ outcome_of before after 0 number → lost ≡ true
    → (outcome ≡ Answered → IsTrue own → lost ≡ false) → IsTrue (is_sure_by own before after) → ⊥
never_lost own before after number outcome lost is is_lost none sure =
    let p = and_parts _ _ sure in true≢false (sym is_lost ∙ none (is ∙ all_answered before after number p.1) p.0)

-- ---- the states

module _ {E T : Type 0} (was : E → T) where
  state_last : (log : List E) (present : T) → state_at was log present (length log) ≡ present
  state_last [] present = refl
  state_last (e ∷ log) present = state_last log present

  -- what one more exchange found was there before it
  state_kept : (log : List E) (old new : T) (e : E) → was e ≡ old → (k : ℕ) → k ≤ length log → state_at was (log ++ e ∷ []) new k ≡ state_at was log old k
  state_kept [] old new e is zero within = is
  state_kept [] old new e is (suc k) within = absurd (omega (arith, within))
  state_kept (x ∷ log) old new e is zero within = refl
  state_kept (x ∷ log) old new e is (suc k) within = state_kept log old new e is k (omega (arith, within))

  -- where what is there shows the same, each state does
  state_same : {A : Type 0} (shown : T → A) (log : List E) (old new : T) → shown new ≡ shown old → (k : ℕ) → shown (state_at was log new k) ≡ shown (state_at was log old k)
  state_same shown [] old new same k = same
  state_same shown (x ∷ log) old new same zero = refl
  state_same shown (x ∷ log) old new same (suc k) = state_same shown log old new same k

-- ---- the counts

module _ {E : Type 0} (lost : E → Bool) where
  lost_kept : (log : List E) (e : E) (k : ℕ) → k ≤ length log → lost_after lost (log ++ e ∷ []) k ≡ lost_after lost log k
  lost_kept log e k within = ap (count_by lost) (take-append-le k log (e ∷ []) within)

  lost_of_all : (log : List E) → lost_after lost log (length log) ≡ count_by lost log
  lost_of_all log = ap (count_by lost) (take-length log)

  one_lost : (log : List E) (e : E) → lost e ≡ true → count_by lost (log ++ e ∷ []) ≡ count_by lost log + 1
  one_lost log e is = sum_by_push _ log e ∙ ap (λ b. count_by lost log + cond b 1 0) is

  none_lost : (log : List E) (e : E) → lost e ≡ false → count_by lost (log ++ e ∷ []) ≡ count_by lost log
  none_lost log e is = sum_by_push _ log e ∙ ap (λ b. count_by lost log + cond b 1 0) is ∙ plus_none (count_by lost log)
    where
      plus_none : (n : ℕ) → n + 0 ≡ n
      plus_none n = omega arith

-- ---- one exchange more

one_more : {E : Type 0} (log : List E) (e : E) → length (log ++ e ∷ []) ≡ length log + 1
one_more log e = length-append log (e ∷ [])

risen : (before now : ℕ) → now ≡ before + 1 → Rose before now
risen before now e = omega (arith, e)

module _ {E T : Type 0} (told : T → Bool) (account : T → SwiftAccount) (was : E → T) (lost : E → Bool) where
  module _ (place : Place) (request reply : List ℕ) (log : List E) (old new : T) (on : (IsTrue (told old) → IsTrue (told new)) × (IsTrue (told new) → IsTrue (told old))) (sure sure' : Bool) (stays_sure : IsTrue sure → IsTrue sure') where
    -- memory ran out, and nothing was written down
    wanted : (log' : List E) → log' ≡ log → (IsTrue (told old) → account new ≡ account old)
        → Exchanges place (history_by told account was lost sure log old) request reply (Err NoMemory) (history_by told account was lost sure' log' new)
    wanted log' e same = subst (λ (l : List E). Exchanges place (history_by told account was lost sure log old) request reply (Err NoMemory) (history_by told account was lost sure' l new)) (sym e)
        (record {
          counts = inr refl;
          faults = refl;
          observable = on.0;
          told = on.1;
          sure = stays_sure;
          never = λ is_sure failed. cc;
          kept = λ o. record { accounts = λ k within. state_same was account log old new (same o) k; counts = λ k within. refl };
          effect = λ o call fit spells. inr refl;
        })

    module _ (e : E) (is : was e ≡ old) where
      kept_by : Extends (length log) (history_by told account was lost sure log old) (history_by told account was lost sure' (log ++ e ∷ []) new)
      kept_by = record { accounts = λ k within. ap account (state_kept was log old new e is k within); counts = λ k within. lost_kept lost log e k within }

      -- the account before the exchange and after it
      before : account (state_at was (log ++ e ∷ []) new (length log)) ≡ account old
      before = ap account (state_kept was log old new e is (length log) (le_refl (length log)) ∙ state_last was log old)

      after : account (state_at was (log ++ e ∷ []) new (length (log ++ e ∷ []))) ≡ account new
      after = ap account (state_last was (log ++ e ∷ []) new)

      stepped : (call : SwiftRequest) → account new ≡ (swift_step call (account old)).tree
          → account (state_at was (log ++ e ∷ []) new (length (log ++ e ∷ []))) ≡ (swift_step call (account (state_at was (log ++ e ∷ []) new (length log)))).tree
      stepped call done = after ∙ done ∙ ap (λ a. (swift_step call a).tree) (sym before)

      either_by : (call : SwiftRequest) → (account new ≡ account old) ⊎ (account new ≡ (swift_step call (account old)).tree)
          → (account (state_at was (log ++ e ∷ []) new (length (log ++ e ∷ []))) ≡ account (state_at was (log ++ e ∷ []) new (length log)))
          ⊎ (account (state_at was (log ++ e ∷ []) new (length (log ++ e ∷ []))) ≡ (swift_step call (account (state_at was (log ++ e ∷ []) new (length log)))).tree)
      either_by call (inl same) = inl (after ∙ same ∙ sym before)
      either_by call (inr done) = inr (stepped call done)

      lost_at_end : lost_after lost (log ++ e ∷ []) (length (log ++ e ∷ [])) ≡ count_by lost (log ++ e ∷ [])
      lost_at_end = lost_of_all lost (log ++ e ∷ [])

      lost_before : lost_after lost (log ++ e ∷ []) (length log) ≡ count_by lost log
      lost_before = lost_kept lost log e (length log) (le_refl (length log)) ∙ lost_of_all lost log

      -- the exchange was lost
      noted_lost : (never_lost : IsTrue sure → ⊥) (answer : List ℕ) (none : Bool) → none ≡ true → lost e ≡ none → (log' : List E) → log' ≡ log ++ e ∷ []
          → (IsTrue (told old) → (call : SwiftRequest) → Fit call → SpellsRequest place call request → Hands call (account old) (account new) answer (Ok none))
          → Exchanges place (history_by told account was lost sure log old) request reply (Err NoLink) (history_by told account was lost sure' log' new)
      noted_lost never_lost answer none is_none is_lost log' more hands = subst (λ (l : List E). Exchanges place (history_by told account was lost sure log old) request reply (Err NoLink) (history_by told account was lost sure' l new)) (sym more)
          (record {
            counts = one_more log e;
            faults = risen _ _ (one_lost lost log e (is_lost ∙ is_none));
            observable = on.0;
            told = on.1;
            sure = stays_sure;
            never = λ is_sure failed. never_lost is_sure;
            kept = λ o. kept_by;
            effect = λ o call fit spells. (
              either_by call (subst (λ b. Hands call (account old) (account new) answer (Ok b)) is_none (hands o call fit spells)),
              risen _ _ (lost_at_end ∙ one_lost lost log e (is_lost ∙ is_none) ∙ ap (λ n. n + 1) (sym lost_before)),
            );
          })

      -- or answered
      noted_answered : (none : Bool) → none ≡ false → lost e ≡ none → (log' : List E) → log' ≡ log ++ e ∷ []
          → (IsTrue (told old) → (call : SwiftRequest) → Fit call → SpellsRequest place call request → Hands call (account old) (account new) reply (Ok none))
          → Exchanges place (history_by told account was lost sure log old) request reply (Ok tt) (history_by told account was lost sure' log' new)
      noted_answered none is_none is_lost log' more hands = subst (λ (l : List E). Exchanges place (history_by told account was lost sure log old) request reply (Ok tt) (history_by told account was lost sure' l new)) (sym more)
          (record {
            counts = one_more log e;
            faults = none_lost lost log e (is_lost ∙ is_none);
            observable = on.0;
            told = on.1;
            sure = stays_sure;
            never = λ is_sure failed. cc;
            kept = λ o. kept_by;
            effect = λ o call fit spells.
                let h = subst (λ b. Hands call (account old) (account new) reply (Ok b)) is_none (hands o call fit spells) in
                record {
                  next = one_more log e;
                  spells = subst (λ a. SpellsAnswer call (swift_step call a).reply reply) (sym before) h.0;
                  tree = stepped call h.1;
                  quiet = lost_at_end ∙ none_lost lost log e (is_lost ∙ is_none) ∙ sym lost_before;
                };
          })

    -- the same, by what each step of the exchange gave
    pub wanted_by : (log' : List E) → log' ≡ log → (IsTrue (told old) → account new ≡ account old) → (result : Result (Unit {0}) LinkFault) → IsErrAnd result (λ fault. fault ≡ NoMemory)
        → Exchanges place (history_by told account was lost sure log old) request reply result (history_by told account was lost sure' log' new)
    wanted_by log' e same result is =
        let p = err_from_is_err_and result is in
        subst (λ (r : Result (Unit {0}) LinkFault). Exchanges place (history_by told account was lost sure log old) request reply r (history_by told account was lost sure' log' new)) (sym (p.1 ∙ ap Err p.2)) (wanted log' e same)

    module _ (middle log' : List E) (later : T) (e : E) (same : middle ≡ log) (more : log' ≡ middle ++ e ∷ []) (stays : later ≡ new) (is : was e ≡ old) where
      grown : log' ≡ log ++ e ∷ []
      grown = more ∙ ap (λ (l : List E). l ++ e ∷ []) same

      pub lost_by : (IsTrue sure → ⊥) → (answer : List ℕ) (none : Bool) → none ≡ true → lost e ≡ none
          → (IsTrue (told old) → (call : SwiftRequest) → Fit call → SpellsRequest place call request → Hands call (account old) (account new) answer (Ok none))
          → Exchanges place (history_by told account was lost sure log old) request reply (Err NoLink) (history_by told account was lost sure' log' later)
      lost_by never_lost answer none is_none is_lost hands = subst (λ (s : T). Exchanges place (history_by told account was lost sure log old) request reply (Err NoLink) (history_by told account was lost sure' log' s)) (sym stays)
          (noted_lost e is never_lost answer none is_none is_lost log' grown hands)

      pub answered_by : (none : Bool) → none ≡ false → lost e ≡ none
          → (IsTrue (told old) → (call : SwiftRequest) → Fit call → SpellsRequest place call request → Hands call (account old) (account new) reply (Ok none))
          → Exchanges place (history_by told account was lost sure log old) request reply (Ok tt) (history_by told account was lost sure' log' later)
      answered_by none is_none is_lost hands = subst (λ (s : T). Exchanges place (history_by told account was lost sure log old) request reply (Ok tt) (history_by told account was lost sure' log' s)) (sym stays)
          (noted_answered e is none is_none is_lost log' grown hands)

-- ---- one exchange in pieces

-- what an exchange of the joined request did, whose answer came in one piece with an empty one behind it
pub exchanged_in_pieces : (place : Place) (old new : History) (joined request front rest : List ℕ) (result : Result (Unit {0}) LinkFault) → joined ≡ request → rest ≡ []
    → Exchanges place old joined front result new → Exchanges place old request (front ++ rest) result new
exchanged_in_pieces place old new joined request front rest result asked none exchange =
    subst (λ reply. Exchanges place old request reply result new) (sym (ap (λ piece. front ++ piece) none ∙ append-nil front))
    (subst (λ bytes. Exchanges place old bytes front result new) asked exchange)

-- ---- requests whose answer is lost

-- one that the store was handed, which didn't fail, was served
pub served_untold : (place : Place) (request answer : List ℕ) (failed : Bool) (earlier now : ℕ) (old new : SwiftAccount) → RisesIf failed earlier now
    → ((call : SwiftRequest) → Fit call → SpellsRequest place call request → Hands call old new answer (Ok failed)) → (Rose earlier now → ⊥) → Serves place request old new
served_untold place request answer false earlier now old new counts hands quiet = λ call fit spells. (hands call fit spells).1
served_untold place request answer true earlier now old new counts hands quiet = absurd (quiet counts)

-- the same, by what each step of the exchange gave
pub noted_untold : {T : Type 0} (account : T → SwiftAccount) (faults : T → ℕ) (place : Place) (request : List ℕ) (old new later : T) (outcome due : Outcome) → later ≡ new → outcome ≡ due
    → (outcome ≡ LostAfter → (Rose (faults old) (faults new) → ⊥) → Serves place request (account old) (account new))
    → due ≡ LostAfter → (Rose (faults old) (faults later) → ⊥) → Serves place request (account old) (account later)
noted_untold account faults place request old new later outcome due stays is served lost =
    subst (λ s. (Rose (faults old) (faults s) → ⊥) → Serves place request (account old) (account s)) (sym stays) (served (is ∙ lost))
