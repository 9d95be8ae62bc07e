-- A text is read as the source of a copy that it names.
use Rattle.std.proofs.Common.{◌≡◌, ◌<◌, ℕ, ◌+◌, Bool, true, false, not, ◌&&◌, ◌||◌, ◌↔◌, cond, List, [], ◌∷◌, ◌++◌, length, take, drop, Option, Some, None, refl, sym, ap, ◌∙◌, subst, append_assoc, length-drop, arith}
use Rattle.std.specs.Prelude.{codes, Result, Ok, Err}
use Rattle.std.specs.List.{list_any, before_first, after_first, position_or_len}
use Rattle.std.proofs.lemmas.Bool.{and_parts}
use Rattle.std.proofs.lemmas.Bool.Decides.{nat_tests}
use Rattle.std.proofs.lemmas.List.Sums.{split_at_first, passes_at_first}
use Rattle.std.proofs.Math.Seq.{drop-append-add}
use Rattle.gate_base.specs.Ascii.{is_slash}
use Rattle.s3_names.specs.declared.fault.NameFault.{NameFault}
use Rattle.s3_names.specs.Bucket.{is_bucket}
use Rattle.s3_names.specs.Escapes.{decoded, StandsFor}
use Rattle.s3_names.specs.Key.{is_key}
use Rattle.s3_names.proofs.lemmas.BucketLemmas.{bucket_has_no_slash}
use Rattle.s3_names.proofs.lemmas.EscapeLemmas.{decoded_reads}
use Rattle.s3_names.proofs.lemmas.KeyLemmas.{key_length}
use Rattle.request_fields.specs.Copies.{without_slash, place_in, place_decoded, place_named}
use Rattle.request_fields.specs.Laws.{Names}

-- ---- the first slash

-- a text with a key behind its first slash has one
slash_within : (text : List ℕ) → is_key (after_first is_slash text) ≡ true → position_or_len is_slash text < length text
slash_within text h =
    let some = (key_length (after_first is_slash text) h).0 in
    grind (arith, some, length-drop (position_or_len is_slash text + 1) text)

slash_is : (byte : ℕ) → is_slash byte ≡ true → byte ≡ 47
slash_is byte h = grind (arith, nat_tests)

parted : (text : List ℕ) → position_or_len is_slash text < length text → text ≡ before_first is_slash text ++ (47 ∷ after_first is_slash text)
parted text within =
    split_at_first is_slash text 0 within
    ∙ ap (λ byte. before_first is_slash text ++ (byte ∷ after_first is_slash text)) (slash_is _ (passes_at_first is_slash text 0 within))

slash_at : (name rest : List ℕ) → list_any is_slash name ≡ false → position_or_len is_slash (name ++ (47 ∷ rest)) ≡ length name
slash_at [] rest h = refl
slash_at (byte ∷ name) rest h = by_test (is_slash byte) (λ k. slash_at name rest k) h
  where
    by_test : (b : Bool) → (list_any is_slash name ≡ false → position_or_len is_slash (name ++ (47 ∷ rest)) ≡ length name) → (b || list_any is_slash name) ≡ false
        → cond (not b) (1 + position_or_len is_slash (name ++ (47 ∷ rest))) 0 ≡ length (byte ∷ name)
    by_test true others k = cc
    by_test false others k = omega (arith, others k)

take_front : (front rest : List ℕ) → take (length front) (front ++ rest) ≡ front
take_front [] rest = refl
take_front (byte ∷ front) rest = ap (λ bytes. byte ∷ bytes) (take_front front rest)

before_it : (name rest : List ℕ) → list_any is_slash name ≡ false → before_first is_slash (name ++ (47 ∷ rest)) ≡ name
before_it name rest h = ap (λ n. take n (name ++ (47 ∷ rest))) (slash_at name rest h) ∙ take_front name (47 ∷ rest)

behind_it : (name rest : List ℕ) → list_any is_slash name ≡ false → after_first is_slash (name ++ (47 ∷ rest)) ≡ rest
behind_it name rest h = ap (λ n. drop (n + 1) (name ++ (47 ∷ rest))) (slash_at name rest h) ∙ drop-append-add name (47 ∷ rest) 1

-- ---- from the source that is read to the one that is named

pub record Parts (text bucket key : List ℕ) : Type 0 where
  pub named : is_bucket bucket ≡ true
  pub keyed : is_key key ≡ true
  pub is : text ≡ bucket ++ (47 ∷ key)

parts_in : (text bucket key : List ℕ) → place_in text ≡ Some (bucket, key) → Parts text bucket key
parts_in text bucket key h = by_test (is_bucket (before_first is_slash text) && is_key (after_first is_slash text)) refl h
  where
    by_test : (b : Bool) → (is_bucket (before_first is_slash text) && is_key (after_first is_slash text)) ≡ b
        → cond {A = Option (List ℕ × List ℕ)} b (Some (before_first is_slash text, after_first is_slash text)) None ≡ Some (bucket, key) → Parts text bucket key
    by_test true e k =
        let pair : List ℕ × List ℕ = (before_first is_slash text, after_first is_slash text) in
        let same : pair ≡ (bucket, key) = cc in
        let both = and_parts _ (is_key (after_first is_slash text)) e in
        let front : before_first is_slash text ≡ bucket = ap (λ place. place.0) same in
        let behind : after_first is_slash text ≡ key = ap (λ place. place.1) same in
        record {
          named = subst (λ name. is_bucket name ≡ true) front both.0;
          keyed = subst (λ name. is_key name ≡ true) behind both.1;
          is = parted text (slash_within text both.1) ∙ ap (λ name. name ++ (47 ∷ after_first is_slash text)) front ∙ ap (λ name. bucket ++ (47 ∷ name)) behind;
        }
    by_test false e k = cc

named : (text bucket key : List ℕ) (found : Result (List ℕ) NameFault) → decoded (without_slash text) ≡ found → place_decoded found ≡ Some (bucket, key) → Names text bucket key
named text bucket key (Err fault) e h = cc
named text bucket key (Ok value) e h =
    let parts = parts_in value bucket key h in
    record { named = parts.named; keyed = parts.keyed; stands = subst (StandsFor (without_slash text)) (parts.is ∙ sym (append_assoc bucket (codes "/") key)) ((decoded_reads (without_slash text) value).0 e) }

-- ---- and back

read_parts : (bucket key : List ℕ) → is_bucket bucket ≡ true → is_key key ≡ true → place_in (bucket ++ (47 ∷ key)) ≡ Some (bucket, key)
read_parts bucket key bucketed keyed =
    let none = bucket_has_no_slash bucket bucketed in
    ap (λ front. cond {A = Option (List ℕ × List ℕ)} (is_bucket front && is_key (after_first is_slash (bucket ++ (47 ∷ key)))) (Some (front, after_first is_slash (bucket ++ (47 ∷ key)))) None)
    (before_it bucket key none)
    ∙ ap (λ behind. cond {A = Option (List ℕ × List ℕ)} (is_bucket bucket && is_key behind) (Some (bucket, behind)) None) (behind_it bucket key none)
    ∙ ap (λ b. cond {A = Option (List ℕ × List ℕ)} (b && is_key key) (Some (bucket, key)) None) bucketed
    ∙ ap (λ b. cond {A = Option (List ℕ × List ℕ)} b (Some (bucket, key)) None) keyed

read : (text bucket key : List ℕ) → Names text bucket key → place_decoded (decoded (without_slash text)) ≡ Some (bucket, key)
read text bucket key names =
    ap place_decoded ((decoded_reads (without_slash text) (bucket ++ codes "/" ++ key)).1 names.stands)
    ∙ ap place_in (append_assoc bucket (codes "/") key)
    ∙ read_parts bucket key names.named names.keyed

pub source_named : (text bucket key : List ℕ) → (place_named text ≡ Some (bucket, key)) ↔ Names text bucket key
unfolding place_named
source_named text bucket key = (named text bucket key (decoded (without_slash text)) refl, read text bucket key)
