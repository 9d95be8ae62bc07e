-- What a shelf tells of segments, by the heads that it gives.
use Rattle.std.specs.Prelude.{◌≡◌, ℕ, ◌+◌, ◌-◌, ◌<◌, ◌≤◌, ◌^◌, Bool, true, false, not, ◌&&◌, ◌||◌, cond, nat_lt, nat_le, List, [], ◌∷◌, length, drop, sum_by, Option, None, Some, is_some}
use Rattle.std.specs.List.{list_all, list_any}
use Rattle.std.specs.Option.{option_and_then, option_map}
use Rattle.std.proofs.Common.{refl, sym, ap, ◌∙◌, arith, get_or, true≢false}
use Rattle.std.proofs.lemmas.Bool.{and_parts, ltb-true}
use Rattle.std.proofs.lemmas.List.{drop_all}
use Rattle.std.proofs.lemmas.List.Sums.{sum_by-cons}
use Rattle.std.proofs.lemmas.Option.{none-some, same_Some}
use Rattle.std.proofs.Math.Seq.{drop-cons}
use Rattle.std.proofs.Common.{add-one}
use Rattle.slo_manifest.specs.declared.Segment.{Segment}
use Rattle.swift_calls.specs.Account.{SwiftObject}
use Rattle.swift_calls.specs.Bodies.{Look, as_segment, found, head_of, inner_bytes, is_list, is_segment, joined, joined_two, plain_bytes, segment_bytes_of, is_good_list, is_shallow, is_shallow_there, listed_in, lists_at, may_be_listed}
use Rattle.swift_calls.specs.Limits.{most_segments}
use Rattle.swift_calls.specs.declared.account.Content.{Content}
use Rattle.swift_calls.specs.declared.account.Content.TheVariants.{Plain, Segments}
use Rattle.swift_calls.specs.declared.heads.StoredHead.{StoredHead}
use Rattle.swift_store.specs.Listed.{found_lists, is_shelved_as_listed, is_counted, is_inner, is_no_list_on_shelf, is_outer, passes_in, segments_at}
use Rattle.swift_store.specs.Made.{IsSized}

-- what begins at a place is what stands there and the rest
pub drop_at : (segments : List Segment) (i : ℕ) (s : Segment) → i < length segments → s ≡ get_or segments i s → drop i segments ≡ s ∷ drop (i + 1) segments
drop_at segments i s within at = drop-cons segments i s within ∙ (λ j. sym at j ∷ drop (sym (add-one i) j) segments)

-- ---- what is found

module _ (look : Look) (s : Segment) where
  found_so : (head : StoredHead) → Some head ≡ option_map head_of (look s.container s.name) → is_shelved_as_listed s head ≡ true → Some head.manifest ≡ found_lists look s
  found_so head e is = by (look s.container s.name) e
    where
      by : (v : Option SwiftObject) → Some head ≡ option_map head_of v → Some head.manifest ≡ option_map is_list (as_segment s v)
      by None e = absurd (none-some _ (sym e))
      by (Some f) e =
          let same = same_Some head (head_of f) e in
          let there : is_segment s f ≡ true = sym (ap (is_shelved_as_listed s) same) ∙ is in
          ap (λ (h : StoredHead). Some h.manifest) same ∙ sym (ap (λ b. option_map is_list (cond b (Some f.content) None)) there)

  found_other : (head : StoredHead) → Some head ≡ option_map head_of (look s.container s.name) → is_shelved_as_listed s head ≡ false → None ≡ found_lists look s
  found_other head e is = by (look s.container s.name) e
    where
      by : (v : Option SwiftObject) → Some head ≡ option_map head_of v → None ≡ option_map is_list (as_segment s v)
      by None e = refl
      by (Some f) e =
          let other : is_segment s f ≡ false = sym (ap (is_shelved_as_listed s) (same_Some head (head_of f) e)) ∙ is in
          sym (ap (λ b. option_map is_list (cond b (Some f.content) None)) other)

  -- by what is told of a head
  pub found_as : (head : StoredHead) (told : Option Bool) → Some head ≡ option_map head_of (look s.container s.name) → (is_shelved_as_listed s head ≡ true → told ≡ Some head.manifest) → (is_shelved_as_listed s head ≡ false → told ≡ None)
      → told ≡ found_lists look s
  found_as head told e so other = by (is_shelved_as_listed s head) refl
    where
      by : (b : Bool) → is_shelved_as_listed s head ≡ b → told ≡ found_lists look s
      by true is = so is ∙ found_so head e is
      by false is = other is ∙ found_other head e is

  pub found_none : None ≡ option_map head_of (look s.container s.name) → None ≡ found_lists look s
  found_none e = by (look s.container s.name) e
    where
      by : (v : Option SwiftObject) → None ≡ option_map head_of v → None ≡ option_map is_list (as_segment s v)
      by None e = refl
      by (Some f) e = absurd (none-some _ e)

  pub no_list_some : (head : StoredHead) → Some head ≡ option_map head_of (look s.container s.name) → not head.manifest ≡ is_no_list_on_shelf look s
  no_list_some head e = by (look s.container s.name) e
    where
      by : (v : Option SwiftObject) → Some head ≡ option_map head_of v → not head.manifest ≡ not (lists_at v)
      by None e = absurd (none-some _ (sym e))
      by (Some f) e = ap (λ (h : StoredHead). not h.manifest) (same_Some head (head_of f) e)

  pub no_list_none : None ≡ option_map head_of (look s.container s.name) → true ≡ is_no_list_on_shelf look s
  no_list_none e = by (look s.container s.name) e
    where
      by : (v : Option SwiftObject) → None ≡ option_map head_of v → true ≡ not (lists_at v)
      by None e = refl
      by (Some f) e = absurd (none-some _ e)

  -- ---- bytes of its own

  pub inner_by : (lists : Bool) → Some lists ≡ found_lists look s → not lists ≡ is_inner look s
  inner_by lists e = by (found look s) e
    where
      of : (content : Content) → not (is_list content) ≡ is_some (plain_bytes content)
      of (Plain bytes) = refl
      of (Segments segments) = refl

      by : (v : Option Content) → Some lists ≡ option_map is_list v → not lists ≡ is_some (option_and_then plain_bytes v)
      by None e = absurd (none-some _ (sym e))
      by (Some content) e = ap not (same_Some lists (is_list content) e) ∙ of content

  pub inner_none : None ≡ found_lists look s → false ≡ is_inner look s
  inner_none e = by (found look s) e
    where
      by : (v : Option Content) → None ≡ option_map is_list v → false ≡ is_some (option_and_then plain_bytes v)
      by None e = refl
      by (Some content) e = absurd (none-some _ e)

-- ---- each in a row

pub joined_cons : (f : Segment → Option (List ℕ)) (s : Segment) (segments : List Segment) → joined f (s ∷ segments) ≡ joined_two (f s) (joined f segments)
unfolding joined
joined_cons f s segments = refl

pub joined_none : (f : Segment → Option (List ℕ)) → joined f [] ≡ Some []
unfolding joined
joined_none f = refl

two_some : (v w : Option (List ℕ)) → is_some (joined_two v w) ≡ is_some v && is_some w
two_some None w = refl
two_some (Some bytes) None = refl
two_some (Some bytes) (Some rest) = refl

-- the bytes are there where those of each are
pub joined_some : (f : Segment → Option (List ℕ)) (segments : List Segment) → is_some (joined f segments) ≡ list_all (λ s. is_some (f s)) segments
joined_some f [] = ap is_some (joined_none f)
joined_some f (s ∷ segments) =
    ap is_some (joined_cons f s segments) ∙ two_some (f s) (joined f segments) ∙ ap (λ b. is_some (f s) && b) (joined_some f segments)

none_any : {A : Type 0} (p : A → Bool) (things : List A) → list_all (λ a. not (p a)) things ≡ not (list_any p things)
none_any p [] = refl
none_any p (a ∷ rest) = head (p a) (list_any p rest) (none_any p rest)
  where
    head : (b any : Bool) → list_all (λ x. not (p x)) rest ≡ not any → not b && list_all (λ x. not (p x)) rest ≡ not (b || any)
    head true any e = refl
    head false any e = e

-- ---- a segment that may list segments

module _ (look : Look) (s : Segment) where
  outer_of : (content : Content) → Option (List Segment)
  outer_of content = listed_in content

  -- what is found is what stands there
  stands : (v : Option SwiftObject) (content : Content) → as_segment s v ≡ Some content → segments_at v ≡ listed_in content
  stands None content e = absurd (none-some _ e)
  stands (Some f) content e = by (is_segment s f) e
    where
      by : (b : Bool) → cond b (Some f.content) None ≡ Some content → listed_in f.content ≡ listed_in content
      by true e = ap listed_in (same_Some f.content content e)
      by false e = absurd (none-some _ e)

  listed_outer : (content : Content) → is_list content ≡ true → passes_in (is_inner look) (listed_in content) ≡ is_some (segment_bytes_of look content)
  listed_outer (Plain bytes) e = absurd (true≢false (sym e))
  listed_outer (Segments segments) e = sym (joined_some (inner_bytes look) segments)

  pub outer_listed : Some true ≡ found_lists look s → passes_in (is_inner look) (segments_at (look s.container s.name)) ≡ is_outer look s
  outer_listed e = by (found look s) refl e
    where
      by : (v : Option Content) → found look s ≡ v → Some true ≡ option_map is_list v
          → passes_in (is_inner look) (segments_at (look s.container s.name)) ≡ is_some (option_and_then (segment_bytes_of look) v)
      by None at e = absurd (none-some _ (sym e))
      by (Some content) at e =
          ap (passes_in (is_inner look)) (stands (look s.container s.name) content at)
          ∙ listed_outer content (sym (same_Some true (is_list content) e))

  pub outer_own : Some false ≡ found_lists look s → true ≡ is_outer look s
  outer_own e = by (found look s) e
    where
      own : (content : Content) → is_list content ≡ false → true ≡ is_some (segment_bytes_of look content)
      own (Plain bytes) e = refl
      own (Segments segments) e = absurd (true≢false e)

      by : (v : Option Content) → Some false ≡ option_map is_list v → true ≡ is_some (option_and_then (segment_bytes_of look) v)
      by None e = absurd (none-some _ (sym e))
      by (Some content) e = own content (sym (same_Some false (is_list content) e))

  pub outer_none : None ≡ found_lists look s → false ≡ is_outer look s
  outer_none e = by (found look s) e
    where
      by : (v : Option Content) → None ≡ option_map is_list v → false ≡ is_some (option_and_then (segment_bytes_of look) v)
      by None e = refl
      by (Some content) e = absurd (none-some _ e)

  listed_shallow : (content : Content) → is_list content ≡ true → passes_in (is_no_list_on_shelf look) (listed_in content) ≡ is_shallow look content
  listed_shallow (Plain bytes) e = absurd (true≢false (sym e))
  listed_shallow (Segments segments) e = none_any (λ s. lists_at (look s.container s.name)) segments

  pub shallow_listed : Some true ≡ found_lists look s → passes_in (is_no_list_on_shelf look) (segments_at (look s.container s.name)) ≡ is_shallow_there look (found look s)
  shallow_listed e = by (found look s) refl e
    where
      by : (v : Option Content) → found look s ≡ v → Some true ≡ option_map is_list v
          → passes_in (is_no_list_on_shelf look) (segments_at (look s.container s.name)) ≡ is_shallow_there look v
      by None at e = absurd (none-some _ (sym e))
      by (Some content) at e =
          ap (passes_in (is_no_list_on_shelf look)) (stands (look s.container s.name) content at)
          ∙ listed_shallow content (sym (same_Some true (is_list content) e))

  pub shallow_own : Some false ≡ found_lists look s → true ≡ is_shallow_there look (found look s)
  shallow_own e = by (found look s) e
    where
      own : (content : Content) → is_list content ≡ false → true ≡ is_shallow look content
      own (Plain bytes) e = refl
      own (Segments segments) e = absurd (true≢false e)

      by : (v : Option Content) → Some false ≡ option_map is_list v → true ≡ is_shallow_there look v
      by None e = absurd (none-some _ (sym e))
      by (Some content) e = own content (sym (same_Some false (is_list content) e))

  pub shallow_none : None ≡ found_lists look s → false ≡ is_shallow_there look (found look s)
  shallow_none e = by (found look s) e
    where
      by : (v : Option Content) → None ≡ option_map is_list v → false ≡ is_shallow_there look v
      by None e = refl
      by (Some content) e = absurd (none-some _ e)

-- ---- sizes together

abbrev pub sizes : List Segment → ℕ
sizes segments = sum_by (λ s. s.size) segments

-- what is left of a limit after the first i sizes
pub record Leaves (limit : ℕ) (segments : List Segment) (i left : ℕ) : Type 0 where
  pub some : 0 < left
  pub so : sizes segments + left ≡ limit + sizes (drop i segments)

sizes_at : (segments : List Segment) (i : ℕ) (s : Segment) → i < length segments → s ≡ get_or segments i s → sizes (drop i segments) ≡ s.size + sizes (drop (i + 1) segments)
sizes_at segments i s within at = ap sizes (drop_at segments i s within at) ∙ sum_by-cons (λ x. x.size) s (drop (i + 1) segments)

pub leaves_start : (limit : ℕ) (segments : List Segment) → 0 < limit → Leaves limit segments 0 limit
leaves_start limit segments some = record { some = some; so = omega arith }

pub leaves_next : (limit : ℕ) (segments : List Segment) (i left : ℕ) (s : Segment) → Leaves limit segments i left → i < length segments → s ≡ get_or segments i s → s.size < left → Leaves limit segments (i + 1) (left - s.size)
leaves_next limit segments i left s leaves within at less =
    let step = sizes_at segments i s within at in
    record { some = omega arith; so = omega (arith, leaves.so, step) }

pub leaves_lost : (limit : ℕ) (segments : List Segment) (i left : ℕ) (s : Segment) → Leaves limit segments i left → i < length segments → s ≡ get_or segments i s → left ≤ s.size → limit ≤ sizes segments
leaves_lost limit segments i left s leaves within at more =
    let step = sizes_at segments i s within at in
    omega (arith, leaves.so, step)

pub leaves_end : (limit : ℕ) (segments : List Segment) (i left : ℕ) → Leaves limit segments i left → length segments ≤ i → sizes segments < limit
leaves_end limit segments i left leaves past =
    let none : sizes (drop i segments) ≡ 0 = ap sizes (drop_all i segments past) in
    omega (arith, leaves.so, leaves.some, none)

-- ---- a list

good_by : (look : Look) (segments : List Segment) → is_good_list look segments
    ≡ nat_lt 0 (length segments) && nat_le (length segments) most_segments && list_all (may_be_listed look) segments && nat_lt (sizes segments) (2 ^ 63)
unfolding is_good_list
good_by look segments = refl

-- the tests that ask no shelf come first
order : (a b c d : Bool) → a && b && c && d ≡ a && b && d && c
order false b c d = refl
order true false c d = refl
order true true true d = sym (with_true d)
  where
    with_true : (d : Bool) → d && true ≡ d
    with_true true = refl
    with_true false = refl
order true true false d = sym (with_false d)
  where
    with_false : (d : Bool) → d && false ≡ false
    with_false true = refl
    with_false false = refl

counted_by : (look : Look) (segments : List Segment) → is_good_list look segments ≡ is_counted segments && list_all (may_be_listed look) segments
counted_by look segments =
    good_by look segments
    ∙ order (nat_lt 0 (length segments)) (nat_le (length segments) most_segments) (list_all (may_be_listed look) segments) (nat_lt (sizes segments) (2 ^ 63))

pub good_counted : (look : Look) (segments : List Segment) (may : Bool) → is_counted segments ≡ true → may ≡ list_all (may_be_listed look) segments → may ≡ is_good_list look segments
good_counted look segments may counted is =
    is ∙ sym (counted_by look segments ∙ ap (λ b. b && list_all (may_be_listed look) segments) counted)

pub not_counted : (look : Look) (segments : List Segment) → is_counted segments ≡ false → false ≡ is_good_list look segments
not_counted look segments counted =
    sym (counted_by look segments ∙ ap (λ b. b && list_all (may_be_listed look) segments) counted)

pub sized_counted : (segments : List Segment) → is_counted segments ≡ true → IsSized segments
sized_counted segments counted =
    let parts = and_parts (nat_lt 0 (length segments) && nat_le (length segments) most_segments) (nat_lt (sizes segments) (2 ^ 63)) counted in
    let first = and_parts (nat_lt 0 (length segments)) (nat_le (length segments) most_segments) parts.0 in
    record { filled = ltb-true 0 (length segments) first.0; size = ltb-true (sizes segments) (2 ^ 63) parts.1 }

pub good_sized : (look : Look) (segments : List Segment) → is_good_list look segments ≡ true → IsSized segments
good_sized look segments good = sized_counted segments (and_parts (is_counted segments) (list_all (may_be_listed look) segments) (sym (counted_by look segments) ∙ good)).0
