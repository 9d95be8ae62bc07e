-- Lists that are read or written item by item.
use Rattle.std.specs.Prelude.{◌≡◌, ℕ, zero, suc, ◌+◌, ◌<◌, ◌≤◌, ◌^◌, Bool, true, not, if◌then◌else◌, List, [], ◌∷◌, ◌++◌, map, length, take, drop, get_or, nat_le}
use Rattle.std.specs.List.{list_all}
use Rattle.std.proofs.Common.{refl, sym, ap, ◌∙◌, arith}
use Rattle.std.proofs.lemmas.Bool.{and_from, and_parts}
use Rattle.std.proofs.lemmas.Bool.Decides.{nat_tests}
use Rattle.std.proofs.lemmas.List.{map-append, take-append-drop, take_all, take_more}
use Rattle.std.proofs.lemmas.List.Folds.{list_all-append}
use Rattle.serde_json.specs.Data.{Data}
use Rattle.serde_json.specs.Find.{at}
use Rattle.serde_json.specs.View.{items_of, view}
use Rattle.serde_json.specs.declared.value.Value.{Value}
use Rattle.gate_base.specs.declared.page.Pair.{Pair}
use Rattle.s3_names.specs.Meta.{has_name, is_before, names_ascend, with_pair}
use Rattle.s3_names.proofs.lemmas.MetaLemmas.{with_pair_push}
use Rattle.s3_machine.specs.Limits.{is_proper_pair}
use Rattle.s3_machine.specs.Uploads.{greatest_part}
use Rattle.s3_machine.specs.declared.operation.Listed.{Listed}
use Rattle.slo_manifest.specs.Segments.{is_etag}
use Rattle.upload_texts.specs.Places.{part_number_fits_record_text, list_of, pair_in, text_in}
use Rattle.upload_texts.specs.Records.{part_fits_record_text}
use Rattle.upload_texts.specs.Sealed.{part_fits_sealed_text}
use Rattle.upload_texts.specs.declared.sealed.SealedPart.{SealedPart}

pub list_back : (ds : List Data) → list_of (items_of ds) ≡ ds
list_back [] = refl
list_back (d ∷ ds) = ap (λ rest. d ∷ rest) (list_back ds)

-- ---- one more item

pub map_more : {X Y : Type 0} (f : X → Y) (xs : List X) (i : ℕ) (x : X) → i < length xs → x ≡ get_or xs i x → map f (take (i + 1) xs) ≡ map f (take i xs) ++ f x ∷ []
map_more f xs i x below same = ap (map f) (take_more xs i x below ∙ ap (λ t. take i xs ++ t ∷ []) (sym same)) ∙ map-append f (take i xs) (x ∷ [])

passes_at : {X : Type 0} (test : X → Bool) (xs : List X) (i : ℕ) (d : X) → list_all test xs ≡ true → i < length xs → test (get_or xs i d) ≡ true
passes_at test [] i d h below = absurd (omega arith)
passes_at test (x ∷ xs) zero d h below = (and_parts (test x) (list_all test xs) h).0
passes_at test (x ∷ xs) (suc i) d h below = passes_at test xs i d (and_parts (test x) (list_all test xs) h).1 (omega arith)

pub pair_there : (ps : List Pair) (i : ℕ) (p : Pair) → list_all is_proper_pair ps ≡ true → i < length ps → p ≡ get_or ps i p → is_proper_pair p ≡ true
pair_there ps i p h below same = ap is_proper_pair same ∙ passes_at is_proper_pair ps i p h below

pub listed_there : (ls : List Listed) (i : ℕ) (l : Listed) → list_all part_fits_record_text ls ≡ true → i < length ls → l ≡ get_or ls i l → part_fits_record_text l ≡ true
listed_there ls i l h below same = ap part_fits_record_text same ∙ passes_at part_fits_record_text ls i l h below

pub part_there : (ps : List SealedPart) (i : ℕ) (p : SealedPart) → list_all part_fits_sealed_text ps ≡ true → i < length ps → p ≡ get_or ps i p → part_fits_sealed_text p ≡ true
part_there ps i p h below same = ap part_fits_sealed_text same ∙ passes_at part_fits_sealed_text ps i p h below

-- the items of values, with one more
module _ {Y : Type 0} (f : Data → Y) (values : List Value) (i : ℕ) (value : Value) (below : i < length values) (same : value ≡ get_or values i value) where
  seen_more : map f (map view (take (i + 1) values)) ≡ map f (map view (take i values)) ++ f (view value) ∷ []
  seen_more = ap (map f) (map_more view values i value below same) ∙ map-append f (map view (take i values)) (view value ∷ [])

  -- and those behind it
  seen_all : map f (map view values) ≡ (map f (map view (take i values)) ++ f (view value) ∷ []) ++ map f (map view (drop (i + 1) values))
  seen_all =
      ap (λ vs. map f (map view vs)) (sym (take-append-drop (i + 1) values))
      ∙ ap (map f) (map-append view (take (i + 1) values) (drop (i + 1) values))
      ∙ map-append f (map view (take (i + 1) values)) (map view (drop (i + 1) values))
      ∙ ap (λ front. front ++ map f (map view (drop (i + 1) values))) seen_more

-- ---- metadata

ascends_front : (xs ys : List Pair) → names_ascend (xs ++ ys) ≡ true → names_ascend xs ≡ true
unfolding names_ascend
ascends_front [] ys h = refl
ascends_front (a ∷ []) ys h = refl
ascends_front (a ∷ b ∷ xs) ys h =
    let both = and_parts (is_before b.name a) (names_ascend (b ∷ (xs ++ ys))) h in
    and_from _ _ both.0 (ascends_front (b ∷ xs) ys both.1)

-- the metadata read so far
abbrev pub ReadsPairs : List Value → ℕ → List Pair → Type 0
ReadsPairs values i meta = names_ascend (map pair_in (map view values)) ≡ true → meta ≡ map pair_in (map view (take i values))

pub meta_more : (values : List Value) (i : ℕ) (value : Value) (old new : List Pair) (added : Bool) (name text : List ℕ) → ReadsPairs values i old
    → i < length values → value ≡ get_or values i value → name ≡ text_in (at 0 (view value)) → text ≡ text_in (at 1 (view value))
    → added ≡ not (has_name name old) → new ≡ (if added then with_pair name text old else old) → ReadsPairs values (i + 1) new
meta_more values i value old new added name text so below same named valued told grown ascends =
    let last : Pair = pair_in (view value) in
    let front = map pair_in (map view (take i values)) in
    let all = ap names_ascend (sym (seen_all pair_in values i value below same)) ∙ ascends in
    let push = with_pair_push front last (ascends_front (front ++ last ∷ []) (map pair_in (map view (drop (i + 1) values))) all) in
    let was = so ascends in
    let is_new : added ≡ true = told ∙ ap not ((λ i. has_name (named i) (was i)) ∙ push.0) in
    grown ∙ ap (λ t. if t then with_pair name text old else old) is_new ∙ (λ i. with_pair (named i) (valued i) (was i)) ∙ push.1 ∙ sym (seen_more pair_in values i value below same)

-- ---- what has a text keeps its limits

pub kept_number : (l : Listed) → part_fits_record_text l ≡ true → l.number < 2 ^ 32
unfolding greatest_part
kept_number l h = let both = and_parts (nat_le 1 l.number) (nat_le l.number greatest_part) (and_parts (part_number_fits_record_text l.number) (is_etag l.etag) h).0 in grind (arith, nat_tests)

pub sealed_number : (p : SealedPart) → part_fits_sealed_text p ≡ true → p.number < 2 ^ 32
unfolding greatest_part
sealed_number p h = let both = and_parts (nat_le 1 p.number) (nat_le p.number greatest_part) (and_parts (part_number_fits_record_text p.number) (is_etag p.etag) (and_parts _ _ h).0).0 in grind (arith, nat_tests)

-- the parts read so far, where each keeps its limits
module _ {Y : Type 0} (test : Y → Bool) (f : Data → Y) where
  abbrev pub ReadsEach : List Value → ℕ → List Y → Type 0
  ReadsEach values i ys = list_all test (map f (map view values)) ≡ true → ys ≡ map f (map view (take i values))

  pub each_more : (values : List Value) (i : ℕ) (value : Value) (old : List Y) (y : Y) → ReadsEach values i old → i < length values → value ≡ get_or values i value
      → (test (f (view value)) ≡ true → y ≡ f (view value)) → ReadsEach values (i + 1) (old ++ y ∷ [])
  each_more values i value old y so below same is all =
      let front = map f (map view (take i values)) in
      let behind = map f (map view (drop (i + 1) values)) in
      let split = ap (list_all test) (sym (seen_all f values i value below same)) ∙ all in
      let first = and_parts (list_all test (front ++ f (view value) ∷ [])) (list_all test behind) (sym (list_all-append test (front ++ f (view value) ∷ []) behind) ∙ split) in
      let last = and_parts (list_all test front) _ (sym (list_all-append test front (f (view value) ∷ [])) ∙ first.0) in
      let passes = (and_parts (test (f (view value))) true last.1).0 in
      (λ i. so all i ++ is passes i ∷ []) ∙ sym (seen_more f values i value below same)

  pub each_read : (values : List Value) (ys : List Y) (i : ℕ) → length values ≤ i → ReadsEach values i ys → list_all test (map f (map view values)) ≡ true → ys ≡ map f (map view values)
  each_read values ys i past so all = so all ∙ ap (λ vs. map f (map view vs)) (take_all i values past)

pub meta_read : (values : List Value) (meta : List Pair) (i : ℕ) → length values ≤ i → ReadsPairs values i meta → names_ascend (map pair_in (map view values)) ≡ true → meta ≡ map pair_in (map view values)
meta_read values meta i past so ascends = so ascends ∙ ap (λ vs. map pair_in (map view vs)) (take_all i values past)
