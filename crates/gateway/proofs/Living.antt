-- What the account represents at each number of calls of a run: the requests that are counted there, in order through the
-- machine's step, lead to it.
use Rattle.std.specs.Prelude.{◌≡◌, ◌≤◌, ◌<◌, ℕ, List, [], ◌∷◌, length, take, Option, None, Some}
use Rattle.std.proofs.Common.{refl, sym, ap, subst, ◌∙◌, inl, inr, arith}
use Rattle.std.proofs.lemmas.Bool.{cases_lt}
use Rattle.std.proofs.lemmas.List.Elements.{All-weaker}
use Rattle.s3_machine.specs.declared.operation.Label.{Label}
use Rattle.s3_machine.specs.declared.operation.Op.{Op}
use Rattle.s3_machine.specs.declared.operation.Settings.{Settings}
use Rattle.s3_machine.specs.State.{State}
use Rattle.swift_calls.specs.History.{History}
use Rattle.upload_records.specs.Native.{s3_state}
use Rattle.account_calls.specs.Answers.{parts_of, steps_of, StepsThrough, IsStage, before_step, part_way, after_step, Passes}
use Rattle.gateway.specs.Exchange.{Asked, Span, IsPiece}
use Rattle.gateway.specs.Stands.{Follows, AllPass, SpanPasses}
use Rattle.gateway.specs.Life.{CountedAt, IsWholeOrNone, Counted, After, OneRun, SentIsCounted, pieces_of}
use Rattle.gateway.proofs.lemmas.Counted.{replies_take}

-- ---- one request

-- from another state that is the same
stage_from : (settings : Settings) (op : Op) (label : Label) (n : ℕ) {old old' new : State} → old ≡ old' → IsStage settings old op label n new → IsStage settings old' op label n new
stage_from settings op label n {new = new} same stage = subst (λ old. IsStage settings old op label n new) same stage

-- what is counted of an operation at a number, where its commit point is by the number m exactly where it is by k
module _ (settings : Settings) (h : History) (span : Span) (asked : Asked) (m k : ℕ) (up : span.committed ≤ k → span.committed ≤ m) (down : k < span.committed → m < span.committed) (begun : k < span.begins → m < span.begins) where
  -- before it began
  counted_early : m < span.begins → span.begins ≤ span.committed → s3_state (h.account_at m) ≡ s3_state (h.account_at span.from) → CountedAt settings k span asked (s3_state (h.account_at span.from)) (s3_state (h.account_at m))
  counted_early near first same = record {
    stage = 0;
    most = omega arith;
    unbegun = λ early. refl;
    before = λ some early. some;
    since = λ late. absurd (let late' = up late in omega arith);
    is = before_step refl same;
  }

  counted_begun : s3_state (h.account_at span.begins) ≡ s3_state (h.account_at span.from) → Passes settings h span.begins span.committed span.to asked.op asked.label span.takes → span.begins ≤ m → m ≤ span.to
      → CountedAt settings k span asked (s3_state (h.account_at span.from)) (s3_state (h.account_at m))
  counted_begun still passes from to =
      let last = passes.up_to_q in
      record {
        stage = passes.stage m;
        most = subst (λ n. passes.stage m ≤ n) (passes.since span.to last (omega arith)) (passes.rises m span.to from to (omega arith));
        unbegun = λ early. absurd (let early' = begun early in omega arith);
        before = λ some early. passes.before some m from (down early);
        since = λ late. passes.since m (up late) to;
        is = stage_from settings asked.op asked.label (passes.stage m) still (passes.is m from to);
      }

-- and of a request
span_counted : (settings : Settings) (h : History) (span : Span) (asked : Option Asked) (m k : ℕ) → span.from ≤ span.begins → span.begins ≤ span.committed → (span.committed ≤ k → span.committed ≤ m)
    → (k < span.committed → m < span.committed) → (k < span.begins → m < span.begins) → span.from ≤ m → m ≤ span.to → SpanPasses settings h span asked
    → Counted settings k span asked (s3_state (h.account_at span.from)) (s3_state (h.account_at m))
span_counted settings h span None m k settles first up down begun from to passes =
    let one = passes.none in
    let e : m ≡ span.from = omega arith in
    ap (λ n. s3_state (h.account_at n)) e
span_counted settings h span (Some asked) m k settles first up down begun from to passes =
    elim (cases_lt m span.begins) as (λ _. CountedAt settings k span asked (s3_state (h.account_at span.from)) (s3_state (h.account_at m))) [
      | inl near ↦ counted_early settings h span asked m k up down begun near first (passes.settles.same m from (omega arith))
      | inr far ↦ counted_begun settings h span asked m k up down begun (passes.settles.same span.begins settles (omega arith)) passes.passes far to
    ]

-- of a request that begins past the number nothing is counted
late_uncounted : (settings : Settings) (k : ℕ) (span : Span) (asked : Option Asked) (state : State) → span.begins ≤ span.committed → k < span.begins → Counted settings k span asked state state
late_uncounted settings k span None state first late = refl
late_uncounted settings k span (Some asked) state first late = record {
  stage = 0;
  most = omega arith;
  unbegun = λ early. refl;
  before = λ some early. some;
  since = λ by. absurd (omega arith);
  is = before_step refl refl;
}

-- an operation that counts as one step is counted where it was taken and its commit point is by then, and else not
pub counted_whole : {settings : Settings} {k : ℕ} {span : Span} {asked : Asked} {old new : State} → parts_of asked.op ≡ [] → span.takes ≤ steps_of asked.op → CountedAt settings k span asked old new
    → IsWholeOrNone settings k span asked old new
unfolding StepsThrough
counted_whole {settings = settings} {k = k} {span = span} {asked = asked} {old = old} {new = new} whole few counts = by_stage counts.is
  where
    not_counted : counts.stage ≡ 0 → new ≡ old → IsWholeOrNone settings k span asked old new
    not_counted no_step same = elim (cases_lt k span.committed) [
      | inl near ↦ inr (inr near, same)
      | inr far ↦ inr (inl (sym (counts.since far) ∙ no_step), same)
    ]

    by_stage : IsStage settings old asked.op asked.label counts.stage new → IsWholeOrNone settings k span asked old new
    by_stage (before_step no_step same) = not_counted no_step same
    by_stage (part_way within through) =
        let short : length (parts_of asked.op) ≡ 0 = ap length whole in
        let no_step : counts.stage ≡ 0 = omega arith in
        not_counted no_step (subst (λ n. StepsThrough settings asked.label old (take n (parts_of asked.op)) new) no_step through)
    by_stage (after_step all reply step) = elim (cases_lt k span.committed) [
      | inl near ↦ (let most = counts.most in let less = counts.before (omega arith) near in absurd (omega arith))
      | inr far ↦ inl (sym (counts.since far) ∙ all, far, reply, step)
    ]

-- ---- one run

-- of requests that begin past the number none is counted
none_counted : (settings : Settings) (k p q : ℕ) (spans : List Span) (state : State) → k < p → Follows p spans q → After settings k state spans state
unfolding Follows After
none_counted settings k p q [] state late follows = refl
none_counted settings k p q (span ∷ spans) state late (begins, settled, committed, ends, then) =
    (state, late_uncounted settings k span span.asked state committed (omega arith), none_counted settings k span.to q spans state (omega arith) then)

-- the request that has the number is counted by its commit point, and those after it are not counted
pub one_run : OneRun
unfolding Follows AllPass After
one_run settings h [] entry exit k same passes from to =
    let e : k ≡ entry = omega arith in
    ap (λ n. s3_state (h.account_at n)) e
one_run settings h (span ∷ spans) entry exit k (begins, settled, committed, ends, then) (passes, rest) from to =
    subst (λ n. After settings k (s3_state (h.account_at n)) (span ∷ spans) (s3_state (h.account_at k))) begins
    (elim (cases_lt k span.to) as (λ _. After settings k (s3_state (h.account_at span.from)) (span ∷ spans) (s3_state (h.account_at k))) [
      | inl within ↦ (
        s3_state (h.account_at k),
        span_counted settings h span span.asked k k settled committed (λ by. by) (λ late. late) (λ early. early) (omega arith) (omega arith) passes,
        none_counted settings k span.to exit spans (s3_state (h.account_at k)) within then,
      )
      | inr past ↦ (
        s3_state (h.account_at span.to),
        span_counted settings h span span.asked span.to k settled committed (λ by. ends) (λ late. absurd (omega arith)) (λ early. absurd (omega arith)) (omega arith) (omega arith) passes,
        one_run settings h spans span.to exit k then rest past to,
      )
    ])

-- ---- what was sent

pub sent_is_counted : SentIsCounted
sent_is_counted settings h connection old span new request label end sent sent' exchange op asks known steady = (
  replies_take op asks known steady exchange.replies,
  All-weaker (IsPiece connection span.committed new.number) (λ piece. span.committed ≤ piece.at) (λ piece is. is.since) (pieces_of exchange.sends) exchange.sends.each,
)
