-- How calls go whose numbers lose nothing.
use Rattle.std.specs.Prelude.{◌≡◌, ℕ, zero, suc, List, [], ◌∷◌, IsTrue}
use Rattle.std.proofs.Common.{refl, sym, true≢false}
use Rattle.swift_calls.specs.Outcomes.{loses_none, outcome_of}
use Rattle.swift_calls.specs.declared.outcome.Outcome.TheVariants.{Answered}

-- each is answered
pub all_answered : (before after : List ℕ) (stop number : ℕ) → IsTrue (loses_none before after stop) → outcome_of before after stop number ≡ Answered
all_answered [] [] zero number none = refl
all_answered [] [] (suc stop) number none = absurd (true≢false (sym none))
all_answered [] (x ∷ after) stop number none = absurd (true≢false (sym none))
all_answered (x ∷ before) after stop number none = absurd (true≢false (sym none))
