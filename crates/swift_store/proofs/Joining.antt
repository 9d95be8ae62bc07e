-- The loops that read segments in a row, and their bytes.
use Rattle.std.specs.Prelude.{◌≡◌, ◌⊎◌, ℕ, ◌+◌, ◌-◌, ◌<◌, ◌≤◌, min, Bool, true, false, cond, ◌&&◌, nat_eq, nat_le, List, [], ◌∷◌, ◌++◌, length, take, drop, slice_range, sum_by, Option, None, Some, Ok, Err}
use Rattle.std.specs.Option.{option_and_then}
use Rattle.std.proofs.Common.{refl, sym, ap, subst, ◌∙◌, arith, get_or, append_assoc, append-nil, length-append, inl, inr}
use Rattle.std.proofs.lemmas.Bool.{and_parts, cases_lt, cond-true, eqb-true, le-leb}
use Rattle.std.proofs.lemmas.List.{drop_all}
use Rattle.std.proofs.lemmas.List.Sums.{sum_by-cons}
use Rattle.std.proofs.lemmas.Option.{none-some, same_Some}
use Rattle.slo_manifest.specs.declared.Segment.{Segment}
use Rattle.swift_calls.specs.Account.{SwiftAccount, SwiftObject, find_object, size_of}
use Rattle.swift_calls.specs.Bodies.{Look, as_segment, bytes_of, found, has_etag, inner_bytes, is_segment, joined, joined_two, outer_bytes, plain_bytes, segment_bytes_of, listed_in}
use Rattle.swift_calls.specs.declared.account.Content.{Content}
use Rattle.swift_calls.specs.declared.account.Content.TheVariants.{Plain, Segments}
use Rattle.swift_store.specs.Listed.{segments_at, window}
use Rattle.swift_store.specs.Shelf.{ShelfModel, ShelfReads, part, part_of, part_of_content}
use Rattle.swift_store.specs.declared.faults.StoreFault.{StoreFault}
use Rattle.swift_store.proofs.Calls.{reads_fault, reads_none, reads_ok, reads_then}
use Rattle.swift_store.proofs.Listed.{drop_at, joined_cons, joined_none}
use Rattle.swift_store.proofs.Windows.{window_both, window_min, window_nil, window_past}

-- ---- how many bytes

two_are : (v w : Option (List ℕ)) (bytes : List ℕ) → joined_two v w ≡ Some bytes → (first : List ℕ) × (rest : List ℕ) × (v ≡ Some first) × (w ≡ Some rest) × (bytes ≡ first ++ rest)
two_are None w bytes e = absurd (none-some _ e)
two_are (Some first) None bytes e = absurd (none-some _ e)
two_are (Some first) (Some rest) bytes e = (first, rest, refl, refl, sym (same_Some (first ++ rest) bytes e))

-- each has as many bytes as its segment says
abbrev pub AreSized : (Segment → Option (List ℕ)) → Type 0
AreSized f = (s : Segment) (bytes : List ℕ) → f s ≡ Some bytes → length bytes ≡ s.size

pub joined_length : (f : Segment → Option (List ℕ)) → AreSized f → (segments : List Segment) (bytes : List ℕ) → joined f segments ≡ Some bytes → length bytes ≡ sum_by (λ s. s.size) segments
joined_length f sized [] bytes e = sym (ap length (same_Some [] bytes (sym (joined_none f) ∙ e)))
joined_length f sized (s ∷ segments) bytes e =
    let (first, rest, one, others, is) = two_are (f s) (joined f segments) bytes (sym (joined_cons f s segments) ∙ e) in
    ap length is ∙ length-append first rest ∙ (λ i. sized s first one i + joined_length f sized segments rest others i) ∙ sym (sum_by-cons (λ x. x.size) s segments)

module _ (look : Look) where
  size_at : (s : Segment) (v : Option SwiftObject) (content : Content) → as_segment s v ≡ Some content → size_of content ≡ s.size
  size_at s None content e = absurd (none-some _ e)
  size_at s (Some f) content e = by (is_segment s f) refl e
    where
      by : (b : Bool) → is_segment s f ≡ b → cond b (Some f.content) None ≡ Some content → size_of content ≡ s.size
      by true is e = sym (ap size_of (same_Some f.content content e)) ∙ eqb-true (size_of f.content) s.size (and_parts (has_etag s f) (nat_eq (size_of f.content) s.size) is).1
      by false is e = absurd (none-some _ e)

  pub inner_sized : AreSized (inner_bytes look)
  inner_sized s bytes e = by (found look s) refl e
    where
      own : (content : Content) → plain_bytes content ≡ Some bytes → length bytes ≡ size_of content
      own (Plain text) e = sym (ap length (same_Some text bytes e))
      own (Segments segments) e = absurd (none-some _ e)

      by : (v : Option Content) → found look s ≡ v → option_and_then plain_bytes v ≡ Some bytes → length bytes ≡ s.size
      by None at e = absurd (none-some _ e)
      by (Some content) at e = own content e ∙ size_at s (look s.container s.name) content at

  pub outer_sized : AreSized (outer_bytes look)
  outer_sized s bytes e = by (found look s) refl e
    where
      own : (content : Content) → segment_bytes_of look content ≡ Some bytes → length bytes ≡ size_of content
      own (Plain text) e = sym (ap length (same_Some text bytes e))
      own (Segments segments) e = joined_length (inner_bytes look) inner_sized segments bytes e

      by : (v : Option Content) → found look s ≡ v → option_and_then (segment_bytes_of look) v ≡ Some bytes → length bytes ≡ s.size
      by None at e = absurd (none-some _ e)
      by (Some content) at e = own content e ∙ size_at s (look s.container s.name) content at

  -- an object has as many bytes as it is large
  pub bytes_sized : (content : Content) (bytes : List ℕ) → bytes_of look content ≡ Some bytes → length bytes ≡ size_of content
  bytes_sized (Plain text) bytes e = sym (ap length (same_Some text bytes e))
  bytes_sized (Segments segments) bytes e = joined_length (outer_bytes look) outer_sized segments bytes e

-- ---- the loops

-- what is told of a loop: it appends so many bytes behind the first ones
abbrev pub Appends : (Look → Segment → Option (List ℕ)) → List Segment → ℕ → ℕ → List ℕ → List ℕ → SwiftAccount → Unit {0} → Type 0
Appends f segments skip count before after account done = (bytes : List ℕ) → joined (f (find_object account)) segments ≡ Some bytes → after ≡ before ++ window skip count bytes

-- of one segment
abbrev pub AppendsOne : (Look → Segment → Option (List ℕ)) → Segment → ℕ → ℕ → List ℕ → List ℕ → SwiftAccount → Unit {0} → Type 0
AppendsOne f s skip count before after account done = (bytes : List ℕ) → f (find_object account) s ≡ Some bytes → after ≡ before ++ window skip count bytes

-- what is still to be appended of the segments from a place on
abbrev pub Left : (Segment → Option (List ℕ)) → List Segment → ℕ → ℕ → List ℕ → ℕ → ℕ → List ℕ → List ℕ → Type 0
Left f segments skip count before left_skip left_count out bytes =
    (rest : List ℕ) × (joined f segments ≡ Some rest) × (before ++ window skip count bytes ≡ out ++ window left_skip left_count rest)

abbrev pub Reading : (Look → Segment → Option (List ℕ)) → List Segment → ℕ → ℕ → List ℕ → ℕ → ℕ → ℕ → List ℕ → ShelfModel → ShelfModel → Type 0
Reading f segments skip count before i left_skip left_count out old now =
    ShelfReads
    (λ account (done : Unit {0}). (bytes : List ℕ) → joined (f (find_object account)) segments ≡ Some bytes → Left (f (find_object account)) (drop i segments) skip count before left_skip left_count out bytes) old
    (Ok tt) now

module _ (f : Look → Segment → Option (List ℕ)) (sized : (look : Look) → AreSized (f look)) (segments : List Segment) (skip count : ℕ) (before : List ℕ) where
  pub reading_start : (old : ShelfModel) → Reading f segments skip count before 0 skip count before old old
  reading_start old = reads_none (λ account bytes e. (bytes, e, refl))

  one_more : (account : SwiftAccount) (i left_skip left_count : ℕ) (s : Segment) (out now bytes : List ℕ) → i < length segments → s ≡ get_or segments i s
      → Left (f (find_object account)) (drop i segments) skip count before left_skip left_count out bytes → AppendsOne f s left_skip left_count out now account tt
      → Left (f (find_object account)) (drop (i + 1) segments) skip count before (left_skip - s.size) (left_count - (s.size - left_skip)) now bytes
  one_more account i left_skip left_count s out now bytes within at (rest, there, so) appends =
      let look = find_object account in
      let (first, others, one, more, is) = two_are (f look s) (joined (f look) (drop (i + 1) segments)) rest (sym (ap (joined (f look)) (drop_at segments i s within at) ∙ joined_cons (f look) s _) ∙ there) in
      let size = sized look s first one in (
        others,
        more,
        so
            ∙ ap (λ l. out ++ window left_skip left_count l) is
            ∙ ap (λ l. out ++ l) (window_both left_skip left_count first others)
            ∙ sym (append_assoc out (window left_skip left_count first) _)
            ∙ ap (λ l. l ++ window (left_skip - length first) (left_count - (length first - left_skip)) others) (sym (appends first one))
            ∙ ap (λ n. now ++ window (left_skip - n) (left_count - (n - left_skip)) others) size,
      )

  -- one more is read
  pub reading_next : (i left_skip left_count next_skip next_count : ℕ) (s : Segment) (out now : List ℕ) (old middle new : ShelfModel) → i < length segments → s ≡ get_or segments i s
      → next_skip ≡ left_skip - s.size → next_count ≡ left_count - (s.size - left_skip)
      → Reading f segments skip count before i left_skip left_count out old middle → ShelfReads (AppendsOne f s left_skip left_count out now) middle (Ok tt) new
      → Reading f segments skip count before (i + 1) next_skip next_count now old new
  reading_next i left_skip left_count next_skip next_count s out now old middle new within at skips counts reads one =
      reads_then reads one (λ account left appends bytes e.
      subst (λ (k : ℕ). Left (f (find_object account)) (drop (i + 1) segments) skip count before k next_count now bytes) (sym skips)
      (subst (λ (k : ℕ). Left (f (find_object account)) (drop (i + 1) segments) skip count before (left_skip - s.size) k now bytes) (sym counts)
      (one_more account i left_skip left_count s out now bytes within at (left bytes e) appends)))

  -- one is not
  pub reading_fault : (i left_skip left_count : ℕ) (s : Segment) (out now after : List ℕ) (old middle new : ShelfModel) (fault : StoreFault)
      → Reading f segments skip count before i left_skip left_count out old middle → ShelfReads (AppendsOne f s left_skip left_count out now) middle (Err fault) new
      → ShelfReads (Appends f segments skip count before after) old (Err fault) new
  reading_fault i left_skip left_count s out now after old middle new fault reads one = reads_fault fault reads one

  -- all are
  pub reading_end : (i left_skip left_count : ℕ) (out : List ℕ) (old now : ShelfModel) → length segments ≤ i → Reading f segments skip count before i left_skip left_count out old now
      → ShelfReads (Appends f segments skip count before out) old (Ok tt) now
  reading_end i left_skip left_count out old now past reads = reads_ok reads (λ account left bytes e. by account bytes (left bytes e))
    where
      by : (account : SwiftAccount) (bytes : List ℕ) → Left (f (find_object account)) (drop i segments) skip count before left_skip left_count out bytes → out ≡ before ++ window skip count bytes
      by account bytes (rest, there, so) =
          let none : rest ≡ [] = sym (same_Some [] rest (sym (joined_none (f (find_object account))) ∙ sym (ap (joined (f (find_object account))) (drop_all i segments past)) ∙ there)) in
          sym (so ∙ ap (λ l. out ++ window left_skip left_count l) none ∙ ap (λ l. out ++ l) (window_nil left_skip left_count) ∙ append-nil out)

-- ---- one segment

-- none of its bytes is asked for
abbrev pub IsUntouched : Segment → ℕ → ℕ → Type 0
IsUntouched s skip count = (skip < s.size × count ≤ 0) ⊎ (s.size ≤ skip)

nothing : (s : Segment) (skip count : ℕ) (bytes : List ℕ) → length bytes ≡ s.size → IsUntouched s skip count → window skip count bytes ≡ []
nothing s skip count bytes size (inl (below, none)) = (let zero : count ≡ 0 = omega (arith, none) in ap (λ k. take k (drop skip bytes)) zero)
nothing s skip count bytes size (inr past) = window_past skip count bytes (omega (arith, size, past))

pub untouched_inner : (look : Look) (s : Segment) (skip count : ℕ) (before bytes : List ℕ) → IsUntouched s skip count → inner_bytes look s ≡ Some bytes → before ≡ before ++ window skip count bytes
untouched_inner look s skip count before bytes untouched e = sym (ap (λ l. before ++ l) (nothing s skip count bytes (inner_sized look s bytes e) untouched) ∙ append-nil before)

pub untouched_outer : (look : Look) (s : Segment) (skip count : ℕ) (before bytes : List ℕ) → IsUntouched s skip count → outer_bytes look s ≡ Some bytes → before ≡ before ++ window skip count bytes
untouched_outer look s skip count before bytes untouched e = sym (ap (λ l. before ++ l) (nothing s skip count bytes (outer_sized look s bytes e) untouched) ∙ append-nil before)

-- the bytes of a segment are those of the object there
own_part : (skip count : ℕ) (bytes : List ℕ) → part skip (skip + min count (length bytes - skip)) bytes ≡ window skip count bytes
own_part skip count bytes = elim (cases_lt (length bytes) skip) [
  | inl past ↦
      let none : skip + min count (length bytes - skip) ≡ skip = omega arith in
      ap (λ end. part skip end bytes) none ∙ empty (nat_le skip skip && nat_le skip (length bytes)) ∙ sym (window_past skip count bytes (omega arith))
  | inr within ↦
      let end : skip + min count (length bytes - skip) ≤ length bytes = omega arith in
      let from : skip ≤ skip + min count (length bytes - skip) = omega arith in
      let so_many : skip + min count (length bytes - skip) - skip ≡ min count (length bytes - skip) = omega arith in
      cond-true _ _ _ (ap (λ b. b && nat_le (skip + min count (length bytes - skip)) (length bytes)) (le-leb skip _ from) ∙ le-leb _ (length bytes) end)
      ∙ ap (λ k. take k (drop skip bytes)) so_many ∙ window_min skip count bytes
]
  where
    empty : (b : Bool) → cond b (slice_range bytes skip skip) [] ≡ []
    empty true = (let zero : skip - skip ≡ 0 = omega arith in ap (λ k. take k (drop skip bytes)) zero)
    empty false = refl

pub own_read : (look : Look) (s : Segment) (skip count end : ℕ) (before after bytes : List ℕ) → end ≡ skip + min count (s.size - skip) → after ≡ before ++ part_of skip end (look s.container s.name)
    → inner_bytes look s ≡ Some bytes → after ≡ before ++ window skip count bytes
own_read look s skip count end before after bytes ends is e =
    is ∙ ap (λ l. before ++ l) (by (look s.container s.name) e ∙ ap (λ k. part skip k bytes) (ends ∙ ap (λ n. skip + min count (n - skip)) (sym (inner_sized look s bytes e))) ∙ own_part skip count bytes)
  where
    own : (content : Content) → plain_bytes content ≡ Some bytes → part_of_content skip end content ≡ part skip end bytes
    own (Plain text) e = ap (part skip end) (same_Some text bytes e)
    own (Segments segments) e = absurd (none-some _ e)

    by : (v : Option SwiftObject) → option_and_then plain_bytes (as_segment s v) ≡ Some bytes → part_of skip end v ≡ part skip end bytes
    by None e = absurd (none-some _ e)
    by (Some f) e = test (is_segment s f) e
      where
        test : (b : Bool) → option_and_then plain_bytes (cond b (Some f.content) None) ≡ Some bytes → part_of skip end (Some f) ≡ part skip end bytes
        test true e = own f.content e
        test false e = absurd (none-some _ e)

-- ---- a segment that may list segments

-- by what it lists
pub listed_read : (look : Look) (s : Segment) (segments : List Segment) (skip count : ℕ) (before after bytes : List ℕ) → Some segments ≡ segments_at (look s.container s.name)
    → ((text : List ℕ) → joined (inner_bytes look) segments ≡ Some text → after ≡ before ++ window skip count text) → outer_bytes look s ≡ Some bytes → after ≡ before ++ window skip count bytes
listed_read look s segments skip count before after bytes lists reads e = by (look s.container s.name) lists e
  where
    own : (content : Content) → Some segments ≡ listed_in content → segment_bytes_of look content ≡ Some bytes → after ≡ before ++ window skip count bytes
    own (Plain text) at e = absurd (none-some _ (sym at))
    own (Segments inner) at e = reads bytes (ap (joined (inner_bytes look)) (same_Some segments inner at) ∙ e)

    by : (v : Option SwiftObject) → Some segments ≡ segments_at v → option_and_then (segment_bytes_of look) (as_segment s v) ≡ Some bytes → after ≡ before ++ window skip count bytes
    by None at e = absurd (none-some _ e)
    by (Some f) at e = test (is_segment s f) e
      where
        test : (b : Bool) → option_and_then (segment_bytes_of look) (cond b (Some f.content) None) ≡ Some bytes → after ≡ before ++ window skip count bytes
        test true e = own f.content at e
        test false e = absurd (none-some _ e)

-- by its own bytes
pub unlisted_read : (look : Look) (s : Segment) (skip count : ℕ) (before after bytes : List ℕ) → None ≡ segments_at (look s.container s.name)
    → ((text : List ℕ) → inner_bytes look s ≡ Some text → after ≡ before ++ window skip count text) → outer_bytes look s ≡ Some bytes → after ≡ before ++ window skip count bytes
unlisted_read look s skip count before after bytes lists reads e = reads bytes (by (look s.container s.name) lists e)
  where
    own : (content : Content) → None ≡ listed_in content → segment_bytes_of look content ≡ Some bytes → plain_bytes content ≡ Some bytes
    own (Plain text) at e = e
    own (Segments inner) at e = absurd (none-some _ at)

    by : (v : Option SwiftObject) → None ≡ segments_at v → option_and_then (segment_bytes_of look) (as_segment s v) ≡ Some bytes → option_and_then plain_bytes (as_segment s v) ≡ Some bytes
    by None at e = absurd (none-some _ e)
    by (Some f) at e = test (is_segment s f) e
      where
        test : (b : Bool) → option_and_then (segment_bytes_of look) (cond b (Some f.content) None) ≡ Some bytes → option_and_then plain_bytes (cond b (Some f.content) None) ≡ Some bytes
        test true e = own f.content at e
        test false e = absurd (none-some _ e)
