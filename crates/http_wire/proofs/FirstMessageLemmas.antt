-- From what was found in the bytes that came to what stands first in all bytes that are left.
use Rattle.std.proofs.Common.{◌≡◌, ℕ, ◌+◌, ◌-◌, ◌<◌, ◌≤◌, min, Bool, true, false, cond, List, [], ◌∷◌, ◌++◌, length, take, drop, refl, sym, ap, ap₂, subst, ◌∙◌, append_assoc, append-nil, length-append, length-take, take-append-drop, take_all, Ok, Err, codes, arith, inl, inr}
use Rattle.std.specs.Prelude.{Result, nat_lt}
use Rattle.std.specs.Str.Parse.{digits_value}
use Rattle.std.proofs.lemmas.List.{take-append-le, take_min}
use Rattle.std.proofs.Math.Seq.{take-append-add, take-append_seam, drop-append_seam}
use Rattle.httparse.specs.declared.spans.HeaderSpan.{HeaderSpan}
use Rattle.httparse.specs.declared.spans.RequestSpans.{RequestSpans}
use Rattle.httparse.specs.Grammar.{RequestHead, print_request, ReadsRequest, HasNoRequest}
use Rattle.httparse.specs.Spans.{IsRequestAt, IsRequestWithin}
use Rattle.httparse.proofs.GrammarLemmas.{ReadsRequest-append}
use Rattle.http_wire.specs.declared.message.Message.{Message}
use Rattle.http_wire.specs.declared.message.Kind.{Kind}
use Rattle.http_wire.specs.declared.message.Kind.TheVariants.{BadHead, LongHead, ManyHeaders, NoLength, BadLength, LongBody, Transfer, ShortBody}
use Rattle.http_wire.specs.declared.take.Taken.TheVariants.{Whole, Not}
use Rattle.http_wire.specs.FirstMessage.{HasDeadPrefix, HasHead, HasNoHead, CannotBecomeHead, BeginsWith, IsJudged, IsRefused, asks, body_limit, cut_short, is_length, is_put, judge, length_judged, message_of, nothing, refused, value_judged}
use Rattle.http_wire.specs.Headers.{has_header, values_of}
use Rattle.http_wire.specs.Seen.{window}
use Rattle.http_wire.specs.Taken.{TakenFrom}

-- the window and what comes after it
whole : (bytes more : List ℕ) → window bytes ++ (drop 16384 bytes ++ more) ≡ bytes ++ more
whole bytes more =
    sym (append_assoc (window bytes) (drop 16384 bytes) more) ∙ ap (λ v. v ++ more) (take-append-drop 16384 bytes)

-- what comes after a head are the bytes without it
after_head : (bytes : List ℕ) (h : RequestHead) (rest : List ℕ) (n : ℕ) → ReadsRequest bytes h rest → n ≡ length (print_request h)
    → ReadsRequest bytes h (drop n bytes)
after_head bytes h rest n reads size =
    let rest_is : rest ≡ drop n bytes =
    sym (drop-append_seam (print_request h) rest) ∙ ap₂ drop (sym size) (sym reads.1) in
    subst (λ v. ReadsRequest bytes h v) rest_is reads

pub whole_head : (bytes more : List ℕ) (headers : List HeaderSpan) (spans : RequestSpans) (h : RequestHead)
    → IsRequestAt (window bytes) headers spans h → IsRequestWithin (window bytes) headers spans
    → HasHead (bytes ++ more) h spans.len
whole_head bytes more headers spans h at within =
    let reads = ReadsRequest-append (window bytes) h (drop spans.len (window bytes)) (drop 16384 bytes ++ more) at.reads in (
      after_head (bytes ++ more) h _ spans.len (subst (λ v. ReadsRequest v h (drop spans.len (window bytes) ++ (drop 16384 bytes ++ more))) (whole bytes more) reads) at.len,
      at.len,
      omega (arith, within.section.len_fits, length-take 16384 bytes),
    )

dead_has_none : (bytes more : List ℕ) → CannotBecomeHead (window bytes) → HasNoHead (bytes ++ more)
dead_has_none bytes more dead h n has =
    dead.0 (drop 16384 bytes ++ more) h (drop n (bytes ++ more))
    (subst (λ v. ReadsRequest v h (drop n (bytes ++ more))) (sym (whole bytes more)) has.0)

dead_prefix : (bytes more : List ℕ) → CannotBecomeHead (window bytes) → HasDeadPrefix (bytes ++ more)
dead_prefix bytes more dead =
    let n : ℕ = min 16384 (length bytes) in (
      n,
      omega arith,
      subst CannotBecomeHead (sym (take_min 16384 bytes) ∙ sym (take-append-le n bytes more (omega arith))) dead,
    )

-- a head of up to 16,384 bytes ends in the window, where that is full
long_has_none : (bytes more : List ℕ) → HasNoRequest (window bytes) → 16384 ≤ length bytes → HasNoHead (bytes ++ more)
long_has_none bytes more none long h n has =
    let rest : List ℕ = drop n (bytes ++ more) in
    let k : ℕ = 16384 - length (print_request h) in
    let full : length (print_request h) + k ≡ 16384 = omega (arith, has.1, has.2) in
    none h (take k rest) (
      has.0.0,
      sym (take-append-le 16384 bytes more long) ∙ ap₂ take (sym full) has.0.1 ∙ take-append-add (print_request h) rest k,
    )

pub front_bad : (limit : ℕ) (bytes more : List ℕ) → CannotBecomeHead (window bytes) → BeginsWith limit (bytes ++ more) (refused BadHead false)
front_bad limit bytes more dead = (dead_has_none bytes more dead, dead_prefix bytes more dead, refl)

-- a prefix of up to 16,384 bytes is one of the window's, where that is full
long_lives : (bytes more : List ℕ) → 16384 ≤ length bytes → ¬ (HasDeadPrefix (window bytes)) → ¬ (HasDeadPrefix (bytes ++ more))
long_lives bytes more long lives (n, short, dead) =
    let same : take n (window bytes) ≡ take n (bytes ++ more) =
    sym (take-append-le n (window bytes) (drop 16384 bytes ++ more) (omega (arith, short, long, length-take 16384 bytes)))
    ∙ ap (take n) (whole bytes more) in
    lives (n, short, subst CannotBecomeHead (sym same) dead)

pub front_long : (limit : ℕ) (bytes more : List ℕ) → HasNoRequest (window bytes) → ¬ (HasDeadPrefix (window bytes)) → 16384 ≤ length bytes
    → BeginsWith limit (bytes ++ more) (refused LongHead false)
front_long limit bytes more none lives long = (
  long_has_none bytes more none long,
  long_lives bytes more long lives,
  omega (arith, long, length-append bytes more),
  refl,
)

pub front_cut : (limit : ℕ) (bytes more : List ℕ) → 0 < length bytes → length bytes < 16384 → HasNoRequest (window bytes)
    → ¬ (HasDeadPrefix (window bytes)) → more ≡ [] → BeginsWith limit (bytes ++ more) cut_short
front_cut limit bytes more some short none lives end =
    let all : window bytes ≡ bytes ++ more =
    take_all 16384 bytes (omega (arith, short)) ∙ sym (append-nil bytes) ∙ ap (λ v. bytes ++ v) (sym end) in (
      omega (arith, some, length-append bytes more),
      omega (arith, short, length-append bytes more, ap length end),
      λ h n has. subst HasNoRequest all none h (drop n (bytes ++ more)) has.0,
      subst (λ v. ¬ (HasDeadPrefix v)) all lives,
    )

pub front_ends : (limit : ℕ) (bytes more : List ℕ) → bytes ≡ [] → more ≡ [] → BeginsWith limit (bytes ++ more) nothing
front_ends limit bytes more none end = ap₂ (λ a b. a ++ b) none end

-- a vector whose elements were all written through a slice
pub written : (n : ℕ) (new old : List HeaderSpan) → length new ≡ n → new ≡ take n (new ++ drop (length new) old)
written n new old all = sym (ap (λ v. take v (new ++ drop (length new) old)) (sym all) ∙ take-append_seam new (drop (length new) old))

-- ---- a whole head that was judged

-- the kinds for which a whole head is refused
abbrev Judges : Result ℕ Kind → Type 0
Judges (Ok m) = Unit {0}
Judges (Err BadHead) = ⊥
Judges (Err LongHead) = ⊥
Judges (Err ManyHeaders) = Unit {0}
Judges (Err NoLength) = Unit {0}
Judges (Err BadLength) = Unit {0}
Judges (Err LongBody) = Unit {0}
Judges (Err Transfer) = Unit {0}
Judges (Err ShortBody) = ⊥

chosen : (b : Bool) (x y : Result ℕ Kind) → Judges x → Judges y → Judges (cond b x y)
chosen true x y first other = first
chosen false x y first other = other

value_judges : (limit : ℕ) (value : List ℕ) → Judges (value_judged limit value)
value_judges limit value = chosen (is_length value) _ _ (chosen (nat_lt (body_limit limit) (digits_value 10 value)) _ _ tt tt) tt

length_judges : (limit : ℕ) (put : Bool) (values : List (List ℕ)) → Judges (length_judged limit put values)
length_judges limit put [] = chosen put _ _ tt tt
length_judges limit put (value ∷ []) = value_judges limit value
length_judges limit put (value ∷ other ∷ values) = tt

judges : (limit : ℕ) (message : Message) → Judges (judge limit message)
judges limit message =
    chosen (nat_lt 100 (length message.headers)) _ _ tt
    (chosen (has_header (codes "transfer-encoding") message.headers) _ _ tt
    (length_judges limit (is_put message.method) (values_of (codes "content-length") message.headers)))

refused_judged : (limit : ℕ) (bytes : List ℕ) (kind : Kind) (head : Bool) → Judges (Err kind) → IsJudged limit bytes kind head → IsRefused limit bytes kind head
refused_judged limit bytes BadHead head fits is = absurd fits
refused_judged limit bytes LongHead head fits is = absurd fits
refused_judged limit bytes ManyHeaders head fits is = is
refused_judged limit bytes NoLength head fits is = is
refused_judged limit bytes BadLength head fits is = is
refused_judged limit bytes LongBody head fits is = is
refused_judged limit bytes Transfer head fits is = is
refused_judged limit bytes ShortBody head fits is = absurd fits

-- what was taken of a whole head stands first
pub front_taken : (limit : ℕ) (all : List ℕ) (h : RequestHead) (n : ℕ) (message : Message) (size : ℕ) (left : List ℕ) → HasHead all h n
    → TakenFrom limit all h n (Whole message size) left → BeginsWith limit all (asks message size) × (left ≡ drop size all)
front_taken limit all h n message size left has (m, is, sized, within, spelt, rest) =
    ((h, n, m, has, is, sized, omega (arith, sized, within), spelt), rest ∙ ap (λ k. drop k all) (sym sized))

pub front_not : (limit : ℕ) (all : List ℕ) (h : RequestHead) (n : ℕ) (kind : Kind) (head : Bool) (left : List ℕ) → HasHead all h n
    → TakenFrom limit all h n (Not kind head) left → BeginsWith limit all (refused kind head)
front_not limit all h n kind head left has (rest, method, inl is) =
    refused_judged limit all kind head (subst Judges is (judges limit (message_of h))) (h, n, has, is, method)
front_not limit all h n kind head left has (rest, method, inr (which, m, is, short)) =
    subst (λ k. IsRefused limit all k head) (sym which) (h, n, m, has, is, short, method)
