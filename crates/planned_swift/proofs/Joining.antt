-- The loops that join segments, and the bytes of a range.
use Rattle.std.specs.Prelude.{◌≡◌, ℕ, ◌+◌, ◌-◌, ◌<◌, ◌≤◌, min, List, [], ◌∷◌, ◌++◌, length, take, drop, slice_range, Option, None, Some}
use Rattle.std.specs.Option.{option_map}
use Rattle.std.proofs.Common.{refl, sym, ap, ◌∙◌, inl, inr, arith, get_or, add-one, append_assoc, append-nil}
use Rattle.std.proofs.lemmas.Bool.{cases_lt}
use Rattle.std.proofs.lemmas.List.{drop_all}
use Rattle.std.proofs.Math.Seq.{drop-cons}
use Rattle.slo_manifest.specs.declared.Segment.{Segment}
use Rattle.swift_calls.specs.Bodies.{joined, joined_two, joined_etags}

-- what begins at a place is what stands there and the rest
pub drop_at : {A : Type 0} (things : List A) (i : ℕ) (a : A) → i < length things → a ≡ get_or things i a → drop i things ≡ a ∷ drop (i + 1) things
drop_at things i a within at = drop-cons things i a within ∙ (λ j. sym at j ∷ drop (sym (add-one i) j) things)

-- ---- ETags in a row

pub etags_next : (segments : List Segment) (i : ℕ) (s : Segment) (text : List ℕ) → joined_etags segments ≡ text ++ joined_etags (drop i segments) → i < length segments → s ≡ get_or segments i s → joined_etags segments ≡ text ++ s.etag ++ joined_etags (drop (i + 1) segments)
etags_next segments i s text so within at = so ∙ ap (λ l. text ++ joined_etags l) (drop_at segments i s within at) ∙ sym (append_assoc text s.etag _)

pub etags_end : (segments : List Segment) (i : ℕ) (text : List ℕ) → joined_etags segments ≡ text ++ joined_etags (drop i segments) → length segments ≤ i → text ≡ joined_etags segments
etags_end segments i text so past = sym (so ∙ ap (λ l. text ++ joined_etags l) (drop_all i segments past) ∙ append-nil text)

-- ---- bodies in a row

abbrev pub after_body : List ℕ → Option (List ℕ) → Option (List ℕ)
after_body body v = option_map (λ b. body ++ b) v

no_body : (v : Option (List ℕ)) → v ≡ after_body [] v
no_body None = refl
no_body (Some b) = refl

-- body is joined of the first i segments
pub record Joins (f : Segment → Option (List ℕ)) (segments : List Segment) (i : ℕ) (body : List ℕ) : Type 0 where
  pub so : joined f segments ≡ after_body body (joined f (drop i segments))

-- nothing is joined yet
pub joins_start : (f : Segment → Option (List ℕ)) (segments : List Segment) → Joins f segments 0 []
joins_start f segments = record { so = no_body (joined f segments) }

joined_after : (body bytes : List ℕ) (v : Option (List ℕ)) → after_body body (joined_two (Some bytes) v) ≡ after_body (body ++ bytes) v
joined_after body bytes None = refl
joined_after body bytes (Some rest) = ap Some (sym (append_assoc body bytes rest))

joined_cons : (f : Segment → Option (List ℕ)) (s : Segment) (segments : List Segment) → joined f (s ∷ segments) ≡ joined_two (f s) (joined f segments)
unfolding joined
joined_cons f s segments = refl

joined_none : (f : Segment → Option (List ℕ)) → joined f [] ≡ Some []
unfolding joined
joined_none f = refl

joined_at : (f : Segment → Option (List ℕ)) (segments : List Segment) (i : ℕ) (s : Segment) (v : Option (List ℕ)) → i < length segments → s ≡ get_or segments i s → v ≡ f s → joined f (drop i segments) ≡ joined_two v (joined f (drop (i + 1) segments))
joined_at f segments i s v within at is =
    ap (joined f) (drop_at segments i s within at) ∙ joined_cons f s _ ∙ ap (λ o. joined_two o (joined f (drop (i + 1) segments))) (sym is)

-- one more is joined
pub joins_next : (f : Segment → Option (List ℕ)) (segments : List Segment) (i : ℕ) (s : Segment) (body bytes : List ℕ) → Joins f segments i body → i < length segments → s ≡ get_or segments i s → Some bytes ≡ f s → Joins f segments (i + 1) (body ++ bytes)
joins_next f segments i s body bytes joins within at is = record {
  so = joins.so ∙ ap (after_body body) (joined_at f segments i s (Some bytes) within at is) ∙ joined_after body bytes _;
}

-- one is not there
pub joins_lost : (f : Segment → Option (List ℕ)) (segments : List Segment) (i : ℕ) (s : Segment) (body : List ℕ) → Joins f segments i body → i < length segments → s ≡ get_or segments i s → None ≡ f s → None ≡ joined f segments
joins_lost f segments i s body joins within at is = sym (joins.so ∙ ap (after_body body) (joined_at f segments i s None within at is))

-- all are joined
pub joins_end : (f : Segment → Option (List ℕ)) (segments : List Segment) (i : ℕ) (body : List ℕ) → Joins f segments i body → length segments ≤ i → Some body ≡ joined f segments
joins_end f segments i body joins past = sym (joins.so ∙ ap (λ l. after_body body (joined f l)) (drop_all i segments past) ∙ ap (after_body body) (joined_none f) ∙ ap Some (append-nil body))

-- ---- ranges

-- the bytes of a range, by its ends within the bytes
pub range_within : (bytes : List ℕ) (from end : ℕ) → slice_range bytes (min from end) end ≡ slice_range bytes from end
range_within bytes from end = elim (cases_lt end from) [
  | inl above ↦
      let none : end - min from end ≡ 0 = omega arith in
      let empty : end - from ≡ 0 = omega arith in
      ap (λ k. take k (drop (min from end) bytes)) none ∙ sym (ap (λ k. take k (drop from bytes)) empty)
  | inr within ↦ let is : min from end ≡ from = omega arith in ap (λ k. slice_range bytes k end) is
]
