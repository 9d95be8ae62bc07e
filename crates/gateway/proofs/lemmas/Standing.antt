-- At each number of calls of a run the account is consistent, and one that the request which has the number goes through.
use Rattle.std.specs.Prelude.{◌≡◌, ◌⊎◌, ◌<◌, ℕ, List, [], ◌∷◌, Contains}
use Rattle.std.proofs.Common.{sym, subst, inl, inr, arith}
use Rattle.std.proofs.lemmas.Bool.{cases_lt}
use Rattle.std.proofs.lemmas.List.Elements.{Contains-push, Contains-append_left, Contains-append_right}
use Rattle.s3_machine.specs.declared.operation.Settings.{Settings}
use Rattle.swift_calls.specs.History.{History}
use Rattle.upload_records.specs.Consistent.{IsConsistent}
use Rattle.gateway.specs.Exchange.{Span}
use Rattle.gateway.specs.Stands.{Follows, AllPass, SpanPasses, Within, StandsAt, StandsThroughout}
use Rattle.gateway.proofs.lemmas.Passing.{span_sound}

-- where the account stands at one number
abbrev IsOneOf : Settings → History → List Span → ℕ → ℕ → Type 0
IsOneOf settings h spans entry k = (k ≡ entry) ⊎ ((span : Span) × Contains spans span × Within span k × SpanPasses settings h span span.asked)

-- past the first request it stands so with that request before
one_of_more : (settings : Settings) (h : History) (span : Span) (spans : List Span) (entry k : ℕ) → span.to < k → IsOneOf settings h spans span.to k → IsOneOf settings h (span ∷ spans) entry k
one_of_more settings h span spans entry k late (inl same) = absurd (omega arith)
one_of_more settings h span spans entry k late (inr (other, one, within, passes)) = inr (other, Contains-append_right (span ∷ []) spans other one, within, passes)

pub stands_throughout : (settings : Settings) (h : History) (spans : List Span) (entry exit : ℕ) → IsConsistent (h.account_at entry) → Follows entry spans exit → AllPass settings h spans
    → StandsThroughout settings h spans entry exit
unfolding Follows AllPass
stands_throughout settings h [] entry exit sound same passes = λ k from to.
    let one : k ≡ entry = omega arith in
    record { sound = subst (λ n. IsConsistent (h.account_at n)) (sym one) sound; stands = inl one }
stands_throughout settings h (span ∷ spans) entry exit sound (begins, settled, committed, ends, then) (passes, rest) = λ k from to.
    elim (cases_lt span.to k) as (λ _. StandsAt settings h (span ∷ spans) entry k) [
      | inl late ↦
          let left = span_sound settings h span span.asked span.to (omega arith) (omega arith) passes in
          let stands = stands_throughout settings h spans span.to exit left then rest k (omega arith) to in
          record { sound = stands.sound; stands = one_of_more settings h span spans entry k late stands.stands }
      | inr soon ↦ record {
        sound = span_sound settings h span span.asked k (omega arith) soon passes;
        stands = inr (span, Contains-append_left (span ∷ []) spans span (Contains-push [] span), record { since = omega arith; until = soon }, passes);
      }
    ]
