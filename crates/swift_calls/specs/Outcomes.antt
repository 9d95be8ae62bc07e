-- How the calls of a store go that was told which of them to lose. Source: this profile.
use Rattle.std.specs.Prelude.{ℕ, zero, suc, Bool, true, false, ◌&&◌, ◌||◌, if◌then◌else◌, ◌==◌, nat_lt, nat_le, List, [], ◌∷◌}
use Rattle.std.specs.List.{list_any}
use Rattle.swift_calls.specs.declared.outcome.Outcome.{Outcome}
use Rattle.swift_calls.specs.declared.outcome.Outcome.TheVariants.{Answered, LostBefore, LostAfter}

-- how the call of a number goes: lost in `before` and from `stop` on, unless that is 0, and else its answer lost in `after`
abbrev pub outcome_of : List ℕ → List ℕ → ℕ → ℕ → Outcome
outcome_of before after stop number =
    if list_any (λ k. k == number) before || (nat_lt 0 stop && nat_le stop number) then LostBefore
    else if list_any (λ k. k == number) after then LostAfter else Answered

-- neither list has a number, and no call stops the store, so that nothing is lost
abbrev pub loses_none : List ℕ → List ℕ → ℕ → Bool
loses_none [] [] zero = true
loses_none [] [] (suc stop) = false
loses_none [] (number ∷ after) stop = false
loses_none (number ∷ before) after stop = false

-- it is lost, or its answer is
abbrev pub is_lost : Outcome → Bool
is_lost Answered = false
is_lost LostBefore = true
is_lost LostAfter = true
