-- Headers that are shown one after another.
use Rattle.std.proofs.Common.{◌≡◌, ◌≤◌, ℕ, ◌+◌, ◌<◌, List, length, drop, get_or, sym, ap, ◌∙◌}
use Rattle.std.proofs.lemmas.List.{at_drop_all, at_drop_more}
use Rattle.gate_base.specs.declared.page.Pair.{Pair}
use Rattle.s3_pages.specs.Pages.{overlaid, with_shown}

-- one more is shown
pub overlaid_more : (shown headers next : List Pair) (i : ℕ) (pair : Pair) → i < length shown → pair ≡ get_or shown i pair → next ≡ with_shown pair headers
    → overlaid (drop i shown) headers ≡ overlaid (drop (i + 1) shown) next
unfolding overlaid
overlaid_more shown headers next i pair h is e =
    at_drop_more (λ (list : List Pair). overlaid list headers) shown i pair h
    ∙ ap (λ (p : Pair). overlaid (drop (i + 1) shown) (with_shown p headers)) (sym is)
    ∙ ap (λ (now : List Pair). overlaid (drop (i + 1) shown) now) (sym e)

-- all are shown
pub overlaid_all : (shown headers : List Pair) (i : ℕ) → length shown ≤ i → overlaid (drop i shown) headers ≡ headers
unfolding overlaid
overlaid_all shown headers i h = at_drop_all (λ (list : List Pair). overlaid list headers) shown i h
