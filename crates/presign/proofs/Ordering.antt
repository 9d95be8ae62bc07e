-- The pairs of a query in the order in which they are signed.
use Rattle.std.proofs.Common.{◌≡◌, List, [], ◌∷◌, All, map, refl, ap, sym, subst}
use Rattle.std.specs.Prelude.{IsPermutation}
use Rattle.std.specs.List.{join_with_byte}
use Rattle.std.proofs.lemmas.List.Elements.{All-head, All-tail, All-map, All-weaker}
use Rattle.std.proofs.lemmas.List.Sorted.{All-permutation, IsPermutation-map, IsPermutation-trans}
use Rattle.percent_encoding.specs.Percent.{percent_decode}
use Rattle.gate_base.specs.declared.page.Pair.{Pair}
use Rattle.s3_names.specs.Escapes.{escaped_all}
use Rattle.s3_names.proofs.lemmas.EscapeLemmas.{decoded_all}
use Rattle.sigv4.specs.Canonical.{escaped_pair, pair_text, ordered, canonical_query}
use Rattle.sigv4.proofs.lemmas.Orders.{stands_ordered, stands_permuted, only_order}
use Rattle.presign.specs.Laws.{IsBytePair}
use Rattle.presign.proofs.Pieces.{reads}

-- an escaped pair as it was
abbrev back : Pair → Pair
back pair = record { name = percent_decode pair.name; value = percent_decode pair.value }

back_of : (pair : Pair) → IsBytePair pair → back (escaped_pair pair) ≡ pair
back_of pair small =
    let name : percent_decode (escaped_all pair.name) ≡ pair.name = (reads (escaped_all pair.name) pair.name (decoded_all pair.name small.0)).1 in
    let value : percent_decode (escaped_all pair.value) ≡ pair.value = (reads (escaped_all pair.value) pair.value (decoded_all pair.value small.1)).1 in
    λ i. record { name = name i; value = value i }

all_back : (pairs : List Pair) → All IsBytePair pairs → map back (map escaped_pair pairs) ≡ pairs
all_back [] small = refl
all_back (pair ∷ pairs) small =
    let here : back (escaped_pair pair) ≡ pair = back_of pair (All-head IsBytePair pair pairs small) in
    let rest : map back (map escaped_pair pairs) ≡ pairs = all_back pairs (All-tail IsBytePair pair pairs small) in
    λ i. here i ∷ rest i

-- a pair that was escaped
abbrev Escapes : Pair → Type 0
Escapes pair = escaped_pair (back pair) ≡ pair

all_escape : (pairs : List Pair) → All IsBytePair pairs → All Escapes (map escaped_pair pairs)
all_escape pairs small =
    All-map Escapes escaped_pair pairs (All-weaker IsBytePair (λ pair. Escapes (escaped_pair pair)) (λ pair h. ap escaped_pair (back_of pair h)) pairs small)

all_again : (pairs : List Pair) → All Escapes pairs → map escaped_pair (map back pairs) ≡ pairs
all_again [] h = refl
all_again (pair ∷ pairs) h =
    let here : escaped_pair (back pair) ≡ pair = All-head Escapes pair pairs h in
    let rest : map escaped_pair (map back pairs) ≡ pairs = all_again pairs (All-tail Escapes pair pairs h) in
    λ i. here i ∷ rest i

-- the same pairs, in the order of what they are escaped to
pub record InOrder (pairs : List Pair) : Type 0 where
  pub sorted : List Pair
  pub moved : IsPermutation pairs sorted
  pub shown : ordered (map escaped_pair pairs) ≡ map escaped_pair sorted

pub in_order : (pairs : List Pair) → All IsBytePair pairs → InOrder pairs
in_order pairs small =
    let placed : List Pair = ordered (map escaped_pair pairs) in
    let same : IsPermutation (map escaped_pair pairs) placed = stands_permuted (map escaped_pair pairs) in
    record {
      sorted = map back placed;
      moved = subst (λ ps. IsPermutation ps (map back placed)) (all_back pairs small) (IsPermutation-map back (map escaped_pair pairs) placed same);
      shown = sym (all_again placed (All-permutation Escapes (map escaped_pair pairs) placed same (all_escape pairs small)));
    }

-- the order of the pairs that are signed is of no account
pub moved_query : (pairs others : List Pair) → IsPermutation pairs others → canonical_query others ≡ canonical_query pairs
moved_query pairs others moved =
    let ps : List Pair = map escaped_pair pairs in
    let qs : List Pair = map escaped_pair others in
    let same : ordered qs ≡ ordered ps = only_order ps (ordered qs) (stands_ordered qs) (IsPermutation-trans ps qs (ordered qs) (IsPermutation-map escaped_pair pairs others moved) (stands_permuted qs)) in
    ap (λ sorted. join_with_byte 38 (map pair_text sorted)) same
