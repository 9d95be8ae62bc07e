-- The pieces of a query that is made, and what they are read as.
use Rattle.std.proofs.Common.{◌≡◌, ℕ, ◌<◌, Bool, true, false, cond, not, ◌||◌, eqb, List, [], ◌∷◌, ◌++◌, length, All, Ok, Err, Result, map, append_assoc, length-append, refl, ap, sym, ◌∙◌, inl, inr, arith}
use Rattle.std.specs.Prelude.{filter}
use Rattle.std.specs.List.{list_all, list_any, join_with_byte}
use Rattle.std.proofs.lemmas.Bool.{cases_Bool, and_from, false≢true, eqb-true}
use Rattle.std.proofs.lemmas.Bool.Decides.{nat_tests}
use Rattle.std.proofs.lemmas.List.Elements.{All-head, All-tail}
use Rattle.percent_encoding.specs.Percent.{percent_decode}
use Rattle.gate_base.specs.declared.page.Pair.{Pair}
use Rattle.s3_names.specs.declared.fault.NameFault.{NameFault}
use Rattle.s3_names.specs.declared.fault.NameFault.TheVariants.{BadEscape, NotUtf8}
use Rattle.s3_names.specs.declared.target.Target.{Target}
use Rattle.s3_names.specs.Escapes.{is_unreserved, is_escaped_byte, escaped_all, has_bad_escape, decoded}
use Rattle.s3_names.specs.Query.{is_ampersand, is_equals, is_filled, pieces, name_text, value_text, pair_of, has_bad_side, is_text_pair, text_pairs, query_of}
use Rattle.s3_names.specs.Target.{path_text, query_text, bucket_text, key_text, is_path, target_with, target_of}
use Rattle.s3_names.specs.Text.{is_text}
use Rattle.s3_names.proofs.lemmas.EscapeLemmas.{escaped_bytes_all, decoded_all}
use Rattle.sigv4.specs.Canonical.{escaped_pair, pair_text}
use Rattle.sigv4.proofs.lemmas.Cuts.{is_free, before_of, after_of, all_joined, all_weaker, split_joined}
use Rattle.presign.specs.Laws.{IsBytes, IsBytePair}

-- a byte that passes isn't one that doesn't
pub apart : (test : ℕ → Bool) (c : ℕ) → test c ≡ false → (b : ℕ) → test b ≡ true → not (eqb b c) ≡ true
apart test c fails b passes =
    elim (cases_Bool (eqb b c)) [
      | inl same ↦ absurd (false≢true (sym fails ∙ (ap test (sym (eqb-true b c same)) ∙ passes)))
      | inr other ↦ ap not other
    ]

-- no byte that has to be escaped stands in an escaped text
pub free_of : (c : ℕ) (text : List ℕ) → is_escaped_byte is_unreserved c ≡ false → IsBytes text → is_free (λ b. eqb b c) (escaped_all text) ≡ true
free_of c text fails small =
    all_weaker (is_escaped_byte is_unreserved) (λ b. not (eqb b c)) (apart (is_escaped_byte is_unreserved) c fails) (escaped_all text) (escaped_bytes_all text small)

-- a text that is read has no bad escape
pub reads : (text bytes : List ℕ) → decoded text ≡ Ok bytes → (has_bad_escape text ≡ false) × (percent_decode text ≡ bytes)
reads text bytes h = by_test (has_bad_escape text) refl h
  where
    by_test : (b : Bool) → has_bad_escape text ≡ b → cond b (Err BadEscape) (Ok (percent_decode text)) ≡ Ok bytes → (has_bad_escape text ≡ false) × (percent_decode text ≡ bytes)
    by_test true e k = cc
    by_test false e k = (e, (cc))

-- a pair escaped
abbrev pub piece : Pair → List ℕ
piece pair = escaped_all pair.name ++ 61 ∷ escaped_all pair.value

name_back : (pair : Pair) → IsBytePair pair → name_text (piece pair) ≡ escaped_all pair.name
name_back pair small = before_of is_equals (escaped_all pair.name) 61 (escaped_all pair.value) (free_of 61 pair.name refl small.0) refl

value_back : (pair : Pair) → IsBytePair pair → value_text (piece pair) ≡ escaped_all pair.value
value_back pair small = after_of is_equals (escaped_all pair.name) 61 (escaped_all pair.value) (free_of 61 pair.name refl small.0) refl

pair_back : (pair : Pair) → IsBytePair pair → pair_of (piece pair) ≡ pair
pair_back pair small =
    let name : percent_decode (name_text (piece pair)) ≡ pair.name = ap percent_decode (name_back pair small) ∙ (reads (escaped_all pair.name) pair.name (decoded_all pair.name small.0)).1 in
    let value : percent_decode (value_text (piece pair)) ≡ pair.value = ap percent_decode (value_back pair small) ∙ (reads (escaped_all pair.value) pair.value (decoded_all pair.value small.1)).1 in
    λ i. record { name = name i; value = value i }

piece_is_good : (pair : Pair) → IsBytePair pair → has_bad_side (piece pair) ≡ false
piece_is_good pair small =
    let name : has_bad_escape (name_text (piece pair)) ≡ false = ap has_bad_escape (name_back pair small) ∙ (reads (escaped_all pair.name) pair.name (decoded_all pair.name small.0)).0 in
    let value : has_bad_escape (value_text (piece pair)) ≡ false = ap has_bad_escape (value_back pair small) ∙ (reads (escaped_all pair.value) pair.value (decoded_all pair.value small.1)).0 in
    ap (λ b. b || has_bad_escape (value_text (piece pair))) name ∙ value

filled_text : (xs : List ℕ) (y : ℕ) (ys : List ℕ) → is_filled (xs ++ y ∷ ys) ≡ true
filled_text xs y ys =
    let long : 0 < length (xs ++ y ∷ ys) = omega (arith, length-append xs (y ∷ ys)) in
    grind (arith, nat_tests)

piece_is_free : (pair : Pair) → IsBytePair pair → is_free is_ampersand (piece pair) ≡ true
piece_is_free pair small =
    all_joined (λ b. not (is_ampersand b)) (escaped_all pair.name) (61 ∷ escaped_all pair.value) (free_of 38 pair.name refl small.0) (free_of 38 pair.value refl small.1)

all_free : (pairs : List Pair) → All IsBytePair pairs → list_all (λ t. is_free is_ampersand t) (map piece pairs) ≡ true
all_free [] small = refl
all_free (pair ∷ pairs) small =
    and_from (is_free is_ampersand (piece pair)) (list_all (λ t. is_free is_ampersand t) (map piece pairs)) (piece_is_free pair (All-head IsBytePair pair pairs small)) (all_free pairs (All-tail IsBytePair pair pairs small))

all_filled : (pairs : List Pair) → filter is_filled (map piece pairs) ≡ map piece pairs
all_filled [] = refl
all_filled (pair ∷ pairs) =
    ap (λ b. cond b (piece pair ∷ filter is_filled (map piece pairs)) (filter is_filled (map piece pairs))) (filled_text (escaped_all pair.name) 61 (escaped_all pair.value)) ∙ ap (λ ts. piece pair ∷ ts) (all_filled pairs)

some_pieces : (pairs : List Pair) → 0 < length pairs → 0 < length (map piece pairs)
some_pieces [] some = absurd (omega arith)
some_pieces (pair ∷ pairs) some = omega arith

-- the pieces of pairs that are escaped and joined
pub pieces_joined : (pairs : List Pair) → 0 < length pairs → All IsBytePair pairs → pieces (join_with_byte 38 (map piece pairs)) ≡ map piece pairs
unfolding pieces
pieces_joined pairs some small =
    ap (filter is_filled) (split_joined is_ampersand 38 (map piece pairs) refl (some_pieces pairs some) (all_free pairs small)) ∙ all_filled pairs

-- and the pairs that they are read as
pub pairs_back : (pairs : List Pair) → All IsBytePair pairs → map pair_of (map piece pairs) ≡ pairs
pairs_back [] small = refl
pairs_back (pair ∷ pairs) small =
    let here : pair_of (piece pair) ≡ pair = pair_back pair (All-head IsBytePair pair pairs small) in
    let rest : map pair_of (map piece pairs) ≡ pairs = pairs_back pairs (All-tail IsBytePair pair pairs small) in
    λ i. here i ∷ rest i

all_good : (pairs : List Pair) → All IsBytePair pairs → list_any has_bad_side (map piece pairs) ≡ false
all_good [] small = refl
all_good (pair ∷ pairs) small =
    ap (λ b. b || list_any has_bad_side (map piece pairs)) (piece_is_good pair (All-head IsBytePair pair pairs small)) ∙ all_good pairs (All-tail IsBytePair pair pairs small)

-- they are read, where they are texts
pub query_back : (pairs : List Pair) → 0 < length pairs → All IsBytePair pairs → list_all is_text_pair pairs ≡ true → query_of (join_with_byte 38 (map piece pairs)) ≡ Ok pairs
unfolding query_of
query_back pairs some small texts =
    ap (λ ts. cond (list_any has_bad_side ts) (Err BadEscape) (text_pairs (map pair_of ts))) (pieces_joined pairs some small)
    ∙ (ap (λ b. cond b (Err BadEscape) (text_pairs (map pair_of (map piece pairs)))) (all_good pairs small)
    ∙ (ap text_pairs (pairs_back pairs small) ∙ ap (λ b. cond b (Ok pairs) (Err NotUtf8)) texts))

texts_of : (pairs : List Pair) → map pair_text (map escaped_pair pairs) ≡ map piece pairs
texts_of [] = refl
texts_of (pair ∷ pairs) =
    let here : pair_text (escaped_pair pair) ≡ piece pair = append_assoc (escaped_all pair.name) (61 ∷ []) (escaped_all pair.value) in
    let rest : map pair_text (map escaped_pair pairs) ≡ map piece pairs = texts_of pairs in
    λ i. here i ∷ rest i

join_more : (text : List ℕ) (texts : List (List ℕ)) (last : List ℕ) → join_with_byte 38 (text ∷ texts) ++ 38 ∷ last ≡ join_with_byte 38 ((text ∷ texts) ++ last ∷ [])
join_more text [] last = refl
join_more text (next ∷ texts) last =
    append_assoc text (38 ∷ join_with_byte 38 (next ∷ texts)) (38 ∷ last) ∙ ap (λ t. text ++ 38 ∷ t) (join_more next texts last)

pieces_more : (pairs : List Pair) (last : Pair) → map piece pairs ++ piece last ∷ [] ≡ map piece (pairs ++ last ∷ [])
pieces_more [] last = refl
pieces_more (pair ∷ pairs) last = ap (λ ts. piece pair ∷ ts) (pieces_more pairs last)

-- some pairs escaped and joined, and one more behind them
pub joined_more : (pairs : List Pair) (last : Pair) → 0 < length pairs → join_with_byte 38 (map pair_text (map escaped_pair pairs)) ++ 38 ∷ piece last ≡ join_with_byte 38 (map piece (pairs ++ last ∷ []))
joined_more [] last some = absurd (omega arith)
joined_more (pair ∷ pairs) last some =
    ap (λ ts. join_with_byte 38 ts ++ 38 ∷ piece last) (texts_of (pair ∷ pairs)) ∙ (join_more (piece pair) (map piece pairs) (piece last) ∙ ap (join_with_byte 38) (pieces_more (pair ∷ pairs) last))

-- ---- targets and their texts

query_pairs : (text : List ℕ) (query : List Pair) → query_of text ≡ Ok query → query ≡ map pair_of (pieces text)
unfolding query_of
query_pairs text query h = by_tests (list_any has_bad_side (pieces text)) (list_all is_text_pair (map pair_of (pieces text))) h
  where
    by_tests : (a b : Bool) → cond a (Err BadEscape) (cond b (Ok (map pair_of (pieces text))) (Err NotUtf8)) ≡ Ok query → query ≡ map pair_of (pieces text)
    by_tests true b k = cc
    by_tests false true k = cc
    by_tests false false k = cc

pub target_is : (text path : List ℕ) (query : List Pair) → path_text text ≡ path → is_path path ≡ true → is_text (percent_decode (key_text path)) ≡ true → query_of (query_text text) ≡ Ok query
    → target_of text ≡ Ok (record { raw_path = path; path = percent_decode path; bucket = percent_decode (bucket_text path); key = percent_decode (key_text path); query = query })
unfolding target_of
target_is text path query front fit clean pairs = rw (front, fit, clean, pairs) refl

pub target_parts : (text : List ℕ) (read : Target) → target_of text ≡ Ok read → (read.path ≡ percent_decode (path_text text)) × (read.query ≡ map pair_of (pieces (query_text text)))
unfolding target_of
target_parts text read h =
    by_tests (is_path (path_text text)) (is_text (percent_decode (key_text (path_text text)))) (query_of (query_text text)) refl h
  where
    by_tests : (a b : Bool) (answer : Result (List Pair) NameFault) → query_of (query_text text) ≡ answer → cond a (cond b (target_with (path_text text) answer) (Err NotUtf8)) (Err BadEscape) ≡ Ok read → (read.path ≡ percent_decode (path_text text)) × (read.query ≡ map pair_of (pieces (query_text text)))
    by_tests false b answer e k = let never : ⊥ = cc in absurd never
    by_tests true false answer e k = let never : ⊥ = cc in absurd never
    by_tests true true (Err fault) e k = let never : ⊥ = cc in absurd never
    by_tests true true (Ok query) e k =
        let path : percent_decode (path_text text) ≡ read.path = cc in
        let pairs : query ≡ read.query = cc in
        (sym path, sym pairs ∙ query_pairs (query_text text) query e)
