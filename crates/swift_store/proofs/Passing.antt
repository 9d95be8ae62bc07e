-- The loops that ask a shelf of each segment whether it passes a test.
use Rattle.std.specs.Prelude.{◌≡◌, ℕ, ◌+◌, ◌<◌, ◌≤◌, Bool, true, false, ◌&&◌, List, length, drop, Ok, Err}
use Rattle.std.specs.List.{list_all}
use Rattle.std.proofs.Common.{refl, sym, ap, ◌∙◌, get_or}
use Rattle.std.proofs.lemmas.List.{drop_all}
use Rattle.slo_manifest.specs.declared.Segment.{Segment}
use Rattle.swift_calls.specs.Account.{SwiftAccount}
use Rattle.swift_store.specs.Shelf.{ShelfModel, ShelfReads}
use Rattle.swift_store.specs.declared.faults.StoreFault.{StoreFault}
use Rattle.swift_store.proofs.Calls.{reads_fault, reads_none, reads_ok, reads_then}
use Rattle.swift_store.proofs.Listed.{drop_at}

-- what a loop tells: whether all pass
abbrev pub Tells : (SwiftAccount → Segment → Bool) → List Segment → SwiftAccount → Bool → Type 0
Tells test segments account is = is ≡ list_all (test account) segments

-- the first i segments pass
abbrev pub Passing : (SwiftAccount → Segment → Bool) → List Segment → ℕ → ShelfModel → ShelfModel → Type 0
Passing test segments i old now = ShelfReads (λ account (done : Unit {0}). list_all (test account) segments ≡ list_all (test account) (drop i segments)) old (Ok tt) now

module _ (test : SwiftAccount → Segment → Bool) (segments : List Segment) where
  pub passing_start : (old : ShelfModel) → Passing test segments 0 old old
  passing_start old = reads_none (λ account. refl)

  at_one : (account : SwiftAccount) (i : ℕ) (s : Segment) (b : Bool) → i < length segments → s ≡ get_or segments i s → list_all (test account) segments ≡ list_all (test account) (drop i segments) → b ≡ test account s
      → list_all (test account) segments ≡ b && list_all (test account) (drop (i + 1) segments)
  at_one account i s b within at so is =
      so ∙ ap (list_all (test account)) (drop_at segments i s within at) ∙ ap (λ c. c && list_all (test account) (drop (i + 1) segments)) (sym is)

  -- one more passes
  pub passing_next : (i : ℕ) (s : Segment) (old middle new : ShelfModel) → i < length segments → s ≡ get_or segments i s → Passing test segments i old middle
      → ShelfReads (λ account is. is ≡ test account s) middle (Ok true) new → Passing test segments (i + 1) old new
  passing_next i s old middle new within at passes one =
      reads_then passes one (λ account so is. at_one account i s true within at so is)

  -- one does not pass
  pub passing_lost : (i : ℕ) (s : Segment) (old middle new : ShelfModel) → i < length segments → s ≡ get_or segments i s → Passing test segments i old middle
      → ShelfReads (λ account is. is ≡ test account s) middle (Ok false) new → ShelfReads (Tells test segments) old (Ok false) new
  passing_lost i s old middle new within at passes one =
      reads_then passes one (λ account so is. sym (at_one account i s false within at so is))

  -- one is not told
  pub passing_fault : (i : ℕ) (s : Segment) (old middle new : ShelfModel) (fault : StoreFault) → Passing test segments i old middle
      → ShelfReads (λ account is. is ≡ test account s) middle (Err fault) new → ShelfReads (Tells test segments) old (Err fault) new
  passing_fault i s old middle new fault passes one = reads_fault fault passes one

  -- all pass
  pub passing_end : (i : ℕ) (old now : ShelfModel) → length segments ≤ i → Passing test segments i old now → ShelfReads (Tells test segments) old (Ok true) now
  passing_end i old now past passes = reads_ok passes (λ account so. sym (so ∙ ap (list_all (test account)) (drop_all i segments past)))
