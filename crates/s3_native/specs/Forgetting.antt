-- Which kept completions are forgotten. Source: this profile.
use Rattle.std.specs.Prelude.{◌≡◌, ℕ, nat_lt, Bool, cond, List, map, flat_map, Option, None, Some, IsSomeAnd}
use Rattle.std.specs.List.{filter}
use Rattle.std.specs.Option.{option_and_then}
use Rattle.std.specs.FinMap.{entries, get}
use Rattle.gate_base.specs.Maps.{Names, picked}
use Rattle.s3_machine.specs.State.{Completion, Bucket, State}

-- a completion's moment is before this one
abbrev pub is_older : ℕ → Completion → Bool
is_older before kept = nat_lt kept.moment before

-- the kept completions of a bucket with a moment before this one, by id in byte order, each with the bucket's name
abbrev pub old_in : ℕ → List ℕ × Bucket → List (List ℕ × List ℕ)
old_in before entry = map (λ kept. (entry.0, kept.0)) (filter (λ kept. is_older before kept.1) (entries entry.1.kept))

-- the kept completions of a state with a moment before this one, by bucket and then by id in byte order
abbrev pub all_old : ℕ → State → List (List ℕ × List ℕ)
all_old before state = flat_map (old_in before) (entries state)

-- ---- the state before and after

-- a kept completion stays, unless its moment is before this one
abbrev pub unless_older : ℕ → Completion → Option Completion
unless_older before kept = cond (is_older before kept) None (Some kept)

-- a bucket is as it was, but for its kept completions, of which those are gone whose moment is before this one
pub record ForgetsIn (before : ℕ) (old new : Bucket) : Type 0 where
  pub but_for_kept : new ≡ record old { kept = new.kept }
  pub kept : (id : List ℕ) → get new.kept id ≡ option_and_then (unless_older before) (get old.kept id)

-- a bucket is there so where one was, and else none is
abbrev pub ForgetsAt : ℕ → Option Bucket → Option Bucket → Type 0
ForgetsAt before None new = new ≡ None
ForgetsAt before (Some old) new = IsSomeAnd new (ForgetsIn before old)

-- a state without the kept completions with a moment before this one, in which all else is as it was: so it is under each name
abbrev pub Forgets : ℕ → State → State → Type 0
Forgets before old new = (name : List ℕ) → ForgetsAt before (get old name) (get new name)

-- ---- the same as the maps that are left

abbrev pub newer : ℕ → Names Completion → Names Completion
newer before kept = picked (λ id one. unless_older before one) kept

abbrev pub newer_in : ℕ → Bucket → Bucket
newer_in before b = record b { kept = newer before b.kept }

abbrev pub newer_in_each : ℕ → State → State
newer_in_each before state = picked (λ name b. Some (newer_in before b)) state
