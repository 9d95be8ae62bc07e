-- The loops over segments that may be listed, and what the calls on manifests answer.
use Rattle.std.specs.Prelude.{◌≡◌, ℕ, ◌+◌, ◌-◌, ◌<◌, ◌≤◌, Bool, true, false, ◌&&◌, List, length, drop, sum_by}
use Rattle.std.specs.List.{list_all}
use Rattle.std.proofs.Common.{refl, sym, ap, ◌∙◌, arith, get_or}
use Rattle.std.proofs.lemmas.List.{drop_all}
use Rattle.std.proofs.lemmas.List.Sums.{sum_by-cons}
use Rattle.slo_manifest.specs.declared.Segment.{Segment}
use Rattle.planned_swift.proofs.Joining.{drop_at}

-- ---- each passes a test

-- the first i segments pass
pub record Passes (test : Segment → Bool) (segments : List Segment) (i : ℕ) : Type 0 where
  pub so : list_all test segments ≡ list_all test (drop i segments)

pub passes_start : (test : Segment → Bool) (segments : List Segment) → Passes test segments 0
passes_start test segments = record { so = refl }

passes_at : (test : Segment → Bool) (segments : List Segment) (i : ℕ) (s : Segment) (b : Bool) → Passes test segments i → i < length segments → s ≡ get_or segments i s → b ≡ test s
    → list_all test segments ≡ b && list_all test (drop (i + 1) segments)
passes_at test segments i s b passes within at is = passes.so ∙ ap (list_all test) (drop_at segments i s within at) ∙ ap (λ c. c && list_all test (drop (i + 1) segments)) (sym is)

-- one more passes
pub passes_next : (test : Segment → Bool) (segments : List Segment) (i : ℕ) (s : Segment) → Passes test segments i → i < length segments → s ≡ get_or segments i s → true ≡ test s → Passes test segments (i + 1)
passes_next test segments i s passes within at is = record { so = passes_at test segments i s true passes within at is }

-- one does not pass
pub passes_lost : (test : Segment → Bool) (segments : List Segment) (i : ℕ) (s : Segment) → Passes test segments i → i < length segments → s ≡ get_or segments i s → false ≡ test s → false ≡ list_all test segments
passes_lost test segments i s passes within at is = sym (passes_at test segments i s false passes within at is)

-- all pass
pub passes_end : (test : Segment → Bool) (segments : List Segment) (i : ℕ) → Passes test segments i → length segments ≤ i → true ≡ list_all test segments
passes_end test segments i passes past = sym (passes.so ∙ ap (list_all test) (drop_all i segments past))

-- ---- sizes together

abbrev pub sizes : List Segment → ℕ
sizes segments = sum_by (λ s. s.size) segments

-- what is left of a limit after the first i sizes
pub record Leaves (limit : ℕ) (segments : List Segment) (i left : ℕ) : Type 0 where
  pub some : 0 < left
  pub so : sizes segments + left ≡ limit + sizes (drop i segments)

sizes_at : (segments : List Segment) (i : ℕ) (s : Segment) → i < length segments → s ≡ get_or segments i s → sizes (drop i segments) ≡ s.size + sizes (drop (i + 1) segments)
sizes_at segments i s within at = ap sizes (drop_at segments i s within at) ∙ sum_by-cons (λ x. x.size) s (drop (i + 1) segments)

pub leaves_next : (limit : ℕ) (segments : List Segment) (i left : ℕ) (s : Segment) → Leaves limit segments i left → i < length segments → s ≡ get_or segments i s → s.size < left → Leaves limit segments (i + 1) (left - s.size)
leaves_next limit segments i left s leaves within at less =
    let step = sizes_at segments i s within at in
    record { some = omega arith; so = omega (arith, leaves.so, step) }

pub leaves_lost : (limit : ℕ) (segments : List Segment) (i left : ℕ) (s : Segment) → Leaves limit segments i left → i < length segments → s ≡ get_or segments i s → left ≤ s.size → limit ≤ sizes segments
leaves_lost limit segments i left s leaves within at more =
    let step = sizes_at segments i s within at in
    omega (arith, leaves.so, step)

pub leaves_end : (limit : ℕ) (segments : List Segment) (i left : ℕ) → Leaves limit segments i left → length segments ≤ i → sizes segments < limit
leaves_end limit segments i left leaves past =
    let none : sizes (drop i segments) ≡ 0 = ap sizes (drop_all i segments past) in
    omega (arith, leaves.so, leaves.some, none)
