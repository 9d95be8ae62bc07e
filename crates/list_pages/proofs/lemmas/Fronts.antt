-- The front of a page is a page, so a page breaks nowhere.
use Rattle.std.proofs.Common.{ℕ, List, [], ◌∷◌, ◌++◌, sym, subst, ◌∙◌, arith, append_assoc}
use Rattle.std.specs.List.{list_all}
use Rattle.std.proofs.lemmas.Bool.{and_parts}
use Rattle.std.proofs.lemmas.List.{length-append}
use Rattle.std.proofs.lemmas.List.Folds.{list_all-append}
use Rattle.list_pages.specs.Listing.{Ascends, IsPageOf, BreaksAt, is_listed_name_with_prefix}

ascends_front : (marker : List ℕ) (front rest : List (List ℕ)) → Ascends marker (front ++ rest) → Ascends marker front
ascends_front marker [] rest h = tt
ascends_front marker (n ∷ front) rest h = (h.0, ascends_front n front rest h.1)

page_front : (prefix marker : List ℕ) (front rest : List (List ℕ)) → IsPageOf prefix marker (front ++ rest) → IsPageOf prefix marker front
page_front prefix marker front rest page =
    let within = page.within in
    record {
      within = omega (arith, length-append front rest, within);
      ascends = ascends_front marker front rest page.ascends;
      named = (and_parts (list_all (is_listed_name_with_prefix prefix) front) (list_all (is_listed_name_with_prefix prefix) rest) (sym (list_all-append (is_listed_name_with_prefix prefix) front rest) ∙ page.named)).0;
    }

pub breaks_nowhere : (prefix marker : List ℕ) (names : List (List ℕ)) (name : List ℕ) → IsPageOf prefix marker names → BreaksAt prefix marker names name → ⊥
breaks_nowhere prefix marker names name page breaks =
    breaks.odd (page_front prefix marker (breaks.front ++ name ∷ []) breaks.rest (subst (IsPageOf prefix marker) (breaks.at ∙ sym (append_assoc breaks.front (name ∷ []) breaks.rest)) page))
