-- The bytes of metadata, counted entry by entry.
use Rattle.std.proofs.Common.{◌≡◌, ℕ, ◌+◌, ◌-◌, ◌<◌, ◌≤◌, leb, false, List, length, get_or, drop, ap, sym, ◌∙◌, arith}
use Rattle.std.specs.List.{sum_by}
use Rattle.std.proofs.lemmas.Bool.Decides.{nat_tests}
use Rattle.std.proofs.lemmas.List.Sums.{sum_by-drop_more}
use Rattle.gate_base.specs.declared.page.Pair.{Pair}
use Rattle.s3_machine.specs.Limits.{pair_bytes, bare_name}

module _ (pairs : List Pair) (i : ℕ) (pair : Pair) (within : i < length pairs) (is : pair ≡ get_or pairs i pair) where
  more : sum_by pair_bytes (drop i pairs) ≡ length (bare_name pair.name) + length pair.value + sum_by pair_bytes (drop (i + 1) pairs)
  more = sum_by-drop_more pair_bytes pairs i pair within ∙ ap (λ p. pair_bytes p + sum_by pair_bytes (drop (i + 1) pairs)) (sym is)

  -- an entry that has no more bytes than are left
  pub fits_more : (name value left : ℕ) → name ≡ length (bare_name pair.name) → value ≡ length pair.value → name ≤ left → value ≤ left - name
      → leb (sum_by pair_bytes (drop i pairs)) left ≡ leb (sum_by pair_bytes (drop (i + 1) pairs)) (left - name - value)
  fits_more name value left n v low high = ap (λ s. leb s left) more ∙ grind (arith, nat_tests)

  -- one that has more
  pub fits_no_more : (name value left : ℕ) → name ≡ length (bare_name pair.name) → value ≡ length pair.value → left < name + value → leb (sum_by pair_bytes (drop i pairs)) left ≡ false
  fits_no_more name value left n v past = ap (λ s. leb s left) more ∙ grind (arith, nat_tests)
