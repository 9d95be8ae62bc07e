-- What the account represents at each number of calls, and how the spans of requests follow one another. Source:
-- this profile.
use Rattle.std.specs.Prelude.{◌≡◌, ◌≤◌, ◌⊎◌, ℕ, ◌+◌, List, [], ◌∷◌, Contains, Option, None, Some}
use Rattle.s3_machine.specs.declared.operation.Settings.{Settings}
use Rattle.swift_calls.specs.History.{History, present}
use Rattle.upload_records.specs.Consistent.{IsConsistent}
use Rattle.account_calls.specs.declared.state.Known.{Known}
use Rattle.account_calls.specs.Answers.{Passes, most_calls, most_settling}
use Rattle.account_calls.specs.Calls.{Met, amount}
use Rattle.account_calls.specs.Known.{IsKnown}
use Rattle.account_calls.specs.Stutters.{Stutters}
use Rattle.gateway.specs.Exchange.{Asked, Span}

-- the first span begins at p, each begins where the one before it ended, and the last ends at q
unfoldable pub Follows : ℕ → List Span → ℕ → Type 0
Follows p [] q = p ≡ q
Follows p (span ∷ spans) q = (span.from ≡ p) × (span.from ≤ span.begins) × (span.begins ≤ span.committed) × (span.committed ≤ span.to) × Follows span.to spans q

-- a request with an operation: the account is consistent, and its state stays until the operation begins, and then goes
-- through the steps that are taken; no more calls are made than settling (`most_settling`) and the operation (`most_calls`) may
-- make
pub record OpPasses (settings : Settings) (h : History) (span : Span) (asked : Asked) : Type 0 where
  pub settles : Stutters h span.from span.begins
  pub passes : Passes settings h span.begins span.committed span.to asked.op asked.label span.takes
  pub settling : span.begins ≤ span.from + amount (most_settling (h.account_at span.from))
  pub calls : span.to ≤ span.begins + amount (most_calls asked.op (h.account_at span.begins))

-- one without an operation: no call, no step, and the account is consistent
pub record NonePasses (h : History) (span : Span) : Type 0 where
  pub none : span.to ≡ span.from
  pub takes : span.takes ≡ 0
  pub sound : IsConsistent (h.account_at span.from)

abbrev pub SpanPasses : Settings → History → Span → Option Asked → Type 0
SpanPasses settings h span None = NonePasses h span
SpanPasses settings h span (Some asked) = OpPasses settings h span asked

-- so it is of each request of a list
unfoldable pub AllPass : Settings → History → List Span → Type 0
AllPass settings h [] = Unit {0}
AllPass settings h (span ∷ spans) = SpanPasses settings h span span.asked × AllPass settings h spans

-- the number k is one of a request's
pub record Within (span : Span) (k : ℕ) : Type 0 where
  pub since : span.from ≤ k
  pub until : k ≤ span.to

-- the account at the number k of calls: it is consistent, and it is that at the run's entry, or one that a request which has
-- the number goes through
pub record StandsAt (settings : Settings) (h : History) (spans : List Span) (entry k : ℕ) : Type 0 where
  pub sound : IsConsistent (h.account_at k)
  pub stands : (k ≡ entry) ⊎ ((span : Span) × Contains spans span × Within span k × SpanPasses settings h span span.asked)

-- at each number of calls from the run's entry to its exit
abbrev pub StandsThroughout : Settings → History → List Span → ℕ → ℕ → Type 0
StandsThroughout settings h spans entry exit = (k : ℕ) → entry ≤ k → k ≤ exit → StandsAt settings h spans entry k

-- requests were answered, whatever the line told of them: their spans follow one another, the account goes through the steps
-- of each, and what is known of it at the end is so
pub record Stood (settings : Settings) (was now : Known) (old new : History) : Type 0 where
  pub spans : List Span
  pub follows : Follows old.called spans new.called
  pub passes : AllPass settings new spans
  pub known : IsKnown now (present new)

-- `Stood`, where the store was observable, its account consistent, and what was known of it so
abbrev pub Stands : Settings → Known → Known → History → History → Type 0
Stands settings known known' old new = Met (IsKnown known) old → Stood settings known known' old new
