-- At most one thing stands first in a list of bytes; a request has a byte, and no more than there are; and what spells a message.
use Rattle.std.proofs.Common.{◌≡◌, ℕ, ◌+◌, ◌<◌, ◌≤◌, Bool, true, false, cond, List, [], ◌++◌, length, take, drop, Ok, Err, refl, sym, ap, ap₂, subst, ◌∙◌, length-append, length-take, take-append-drop, arith}
use Rattle.std.specs.Prelude.{Result, nat_le}
use Rattle.std.proofs.lemmas.Bool.{cond-true, cond-false}
use Rattle.std.proofs.lemmas.Bool.Decides.{nat_tests}
use Rattle.std.proofs.lemmas.List.{drop-append-le, drop-take}
use Rattle.std.proofs.Math.Seq.{take-append-add}
use Rattle.httparse.specs.Grammar.{RequestHead, print_request, ReadsRequest}
use Rattle.httparse.proofs.GrammarLemmas.{request_unique, ReadsRequest-append}
use Rattle.http_wire.specs.declared.message.Message.{Message}
use Rattle.http_wire.specs.declared.message.Kind.{Kind}
use Rattle.http_wire.specs.declared.message.Kind.TheVariants.{BadHead, LongHead, ManyHeaders, NoLength, BadLength, LongBody, Transfer, ShortBody}
use Rattle.http_wire.specs.FirstMessage.{FirstMessage, EndsInBody, HasDeadPrefix, HasHead, HasNoHead, IsAsked, BeginsWith, IsJudged, IsRefused, Spells, asks, cut_short, is_head, judge, message_of, message_with, nothing, refused}
use Rattle.http_wire.proofs.LookLemmas.{head_has_byte, nothing_lives}

-- the bytes have one head at most, of one size
pub same_head : (bytes : List ℕ) (h k : RequestHead) (n m : ℕ) → HasHead bytes h n → HasHead bytes k m → h ≡ k
same_head bytes h k n m has had = (request_unique bytes h k (drop n bytes) (drop m bytes) has.0 had.0).0

same_size : (bytes : List ℕ) (h k : RequestHead) (n m : ℕ) → HasHead bytes h n → HasHead bytes k m → n ≡ m
same_size bytes h k n m has had =
    has.1 ∙ ap (λ v. length (print_request v)) (same_head bytes h k n m has had) ∙ sym had.1

-- no head is in no byte
pub not_empty : (bytes : List ℕ) (h : RequestHead) (n : ℕ) → HasHead bytes h n → bytes ≡ [] → ⊥
not_empty bytes h n has none =
    omega (arith, head_has_byte h, ap length has.0.1, ap length none, length-append (print_request h) (drop n bytes))

-- ---- what stands first, by the head

-- what stands first where a whole head does, by how it is judged
abbrev behind : List ℕ → RequestHead → ℕ → Result ℕ Kind → FirstMessage
behind bytes h n (Ok m) =
    cond (nat_le (n + m) (length bytes)) (asks (message_with h (take m (drop n bytes))) (n + m)) (refused ShortBody (is_head h.method))
behind bytes h n (Err kind) = refused kind (is_head h.method)

-- either a head stands first, and then only one thing can, or it is one of the four others
data Sort (limit : ℕ) (bytes : List ℕ) (front : FirstMessage) : Type 0 where
  headed : (h : RequestHead) (n : ℕ) → HasHead bytes h n → front ≡ behind bytes h n (judge limit (message_of h)) → Sort limit bytes front
  empty : bytes ≡ [] → front ≡ nothing → Sort limit bytes front
  dead : HasNoHead bytes → HasDeadPrefix bytes → front ≡ refused BadHead false → Sort limit bytes front
  long : HasNoHead bytes → ¬ (HasDeadPrefix bytes) → 16384 ≤ length bytes → front ≡ refused LongHead false → Sort limit bytes front
  cut : HasNoHead bytes → ¬ (HasDeadPrefix bytes) → 0 < length bytes → length bytes < 16384 → front ≡ cut_short → Sort limit bytes front

le_true : (a b : ℕ) → a ≤ b → nat_le a b ≡ true
le_true a b low = grind (arith, nat_tests)

le_false : (a b : ℕ) → b < a → nat_le a b ≡ false
le_false a b high = grind (arith, nat_tests)

asked : (limit : ℕ) (bytes : List ℕ) (message : Message) (size : ℕ) → IsAsked limit bytes message size → Sort limit bytes (asks message size)
asked limit bytes message size (h, n, m, has, is, sized, within, spelt) =
    headed h n has
    (ap₂ asks spelt sized
    ∙ sym (cond-true (nat_le (n + m) (length bytes)) _ (refused ShortBody (is_head h.method)) (le_true (n + m) (length bytes) (omega (arith, sized, within))))
    ∙ sym (ap (behind bytes h n) is))

judged : (limit : ℕ) (bytes : List ℕ) (kind : Kind) (head : Bool) → IsJudged limit bytes kind head → Sort limit bytes (refused kind head)
judged limit bytes kind head (h, n, has, is, method) = headed h n has (ap (refused kind) method ∙ sym (ap (behind bytes h n) is))

shorter : (limit : ℕ) (bytes : List ℕ) (head : Bool) → EndsInBody limit bytes head → Sort limit bytes (refused ShortBody head)
shorter limit bytes head (h, n, m, has, is, short, method) =
    headed h n has
    (ap (refused ShortBody) method
    ∙ sym (cond-false (nat_le (n + m) (length bytes)) (asks (message_with h (take m (drop n bytes))) (n + m)) _ (le_false (n + m) (length bytes) short))
    ∙ sym (ap (behind bytes h n) is))

sort_refused : (limit : ℕ) (bytes : List ℕ) (kind : Kind) (head : Bool) → IsRefused limit bytes kind head → Sort limit bytes (refused kind head)
sort_refused limit bytes BadHead head (none, prefix, is) = dead none prefix (ap (refused BadHead) is)
sort_refused limit bytes LongHead head (none, lives, far, is) = long none lives far (ap (refused LongHead) is)
sort_refused limit bytes ManyHeaders head is = judged limit bytes ManyHeaders head is
sort_refused limit bytes NoLength head is = judged limit bytes NoLength head is
sort_refused limit bytes BadLength head is = judged limit bytes BadLength head is
sort_refused limit bytes LongBody head is = judged limit bytes LongBody head is
sort_refused limit bytes Transfer head is = judged limit bytes Transfer head is
sort_refused limit bytes ShortBody head is = shorter limit bytes head is

sort : (limit : ℕ) (bytes : List ℕ) (front : FirstMessage) → BeginsWith limit bytes front → Sort limit bytes front
sort limit bytes (asks message size) is = asked limit bytes message size is
sort limit bytes nothing is = empty is refl
sort limit bytes cut_short (some, short, none, lives) = cut none lives some short refl
sort limit bytes (refused kind head) is = sort_refused limit bytes kind head is

one : (limit : ℕ) (bytes : List ℕ) (a b : FirstMessage) → Sort limit bytes a → Sort limit bytes b → a ≡ b
one limit bytes a b (headed h n has is) (headed k m had was) =
    is ∙ ap₂ (λ g l. behind bytes g l (judge limit (message_of g))) (same_head bytes h k n m has had) (same_size bytes h k n m has had) ∙ sym was
one limit bytes a b (headed h n has is) (empty none was) = absurd (not_empty bytes h n has none)
one limit bytes a b (headed h n has is) (dead none prefix was) = absurd (none h n has)
one limit bytes a b (headed h n has is) (long none lives far was) = absurd (none h n has)
one limit bytes a b (headed h n has is) (cut none lives some short was) = absurd (none h n has)
one limit bytes a b (empty none is) (headed k m had was) = absurd (not_empty bytes k m had none)
one limit bytes a b (empty none is) (empty too was) = is ∙ sym was
one limit bytes a b (empty none is) (dead without prefix was) = absurd (nothing_lives bytes none prefix)
one limit bytes a b (empty none is) (long without lives far was) = absurd (omega (arith, far, ap length none))
one limit bytes a b (empty none is) (cut without lives some short was) = absurd (omega (arith, some, ap length none))
one limit bytes a b (dead none prefix is) (headed k m had was) = absurd (none k m had)
one limit bytes a b (dead none prefix is) (empty without was) = absurd (nothing_lives bytes without prefix)
one limit bytes a b (dead none prefix is) (dead too other was) = is ∙ sym was
one limit bytes a b (dead none prefix is) (long too lives far was) = absurd (lives prefix)
one limit bytes a b (dead none prefix is) (cut too lives some short was) = absurd (lives prefix)
one limit bytes a b (long none lives far is) (headed k m had was) = absurd (none k m had)
one limit bytes a b (long none lives far is) (empty without was) = absurd (omega (arith, far, ap length without))
one limit bytes a b (long none lives far is) (dead too prefix was) = absurd (lives prefix)
one limit bytes a b (long none lives far is) (long too live away was) = is ∙ sym was
one limit bytes a b (long none lives far is) (cut too live some short was) = absurd (omega (arith, far, short))
one limit bytes a b (cut none lives some short is) (headed k m had was) = absurd (none k m had)
one limit bytes a b (cut none lives some short is) (empty without was) = absurd (omega (arith, some, ap length without))
one limit bytes a b (cut none lives some short is) (dead too prefix was) = absurd (lives prefix)
one limit bytes a b (cut none lives some short is) (long too live far was) = absurd (omega (arith, far, short))
one limit bytes a b (cut none lives some short is) (cut too live any near was) = is ∙ sym was

pub one_front : (limit : ℕ) (bytes : List ℕ) (a b : FirstMessage) → BeginsWith limit bytes a → BeginsWith limit bytes b → a ≡ b
one_front limit bytes a b is was = one limit bytes a b (sort limit bytes a is) (sort limit bytes b was)

-- ---- how long a request is

pub request_some : (limit : ℕ) (bytes : List ℕ) (message : Message) (size : ℕ) → BeginsWith limit bytes (asks message size) → 0 < size
request_some limit bytes message size (h, n, m, has, is, sized, within, spelt) = omega (arith, head_has_byte h, has.1, sized)

pub request_within : (limit : ℕ) (bytes : List ℕ) (message : Message) (size : ℕ) → BeginsWith limit bytes (asks message size) → size ≤ length bytes
request_within limit bytes message size (h, n, m, has, is, sized, within, spelt) = within

-- ---- what spells a message

-- a head that a prefix begins with
longer_head : (bytes : List ℕ) (size : ℕ) (h : RequestHead) (n : ℕ) → HasHead (take size bytes) h n → n ≤ length (take size bytes) → HasHead bytes h n
longer_head bytes size h n has within =
    let all : take size bytes ++ drop size bytes ≡ bytes = take-append-drop size bytes in
    let reads = ReadsRequest-append (take size bytes) h (drop n (take size bytes)) (drop size bytes) has.0 in
    let rest : drop n (take size bytes) ++ drop size bytes ≡ drop n bytes =
    sym (drop-append-le n (take size bytes) (drop size bytes) within) ∙ ap (drop n) all in
    let P : (List ℕ × List ℕ) → Type 0 = λ p. ReadsRequest p.0 h p.1 in
    (subst P (λ i. (all i, rest i)) reads, has.1, has.2)

-- what spells a message stands first
pub spelt_front : (limit : ℕ) (bytes : List ℕ) (message : Message) (size : ℕ) → size ≤ length bytes → Spells limit (take size bytes) message
    → BeginsWith limit bytes (asks message size)
spelt_front limit bytes message size within (h, n, m, has, is, sized, spelt) =
    let exact : size ≡ n + m = omega (arith, within, sized, length-take size bytes) in (
      h,
      n,
      m,
      longer_head bytes size h n has (omega (arith, sized)),
      is,
      exact,
      within,
      spelt ∙ ap (message_with h) (ap (λ k. drop n (take k bytes)) exact ∙ drop-take n m bytes),
    )

-- and what stands first is spelt by its bytes
pub front_spells : (limit : ℕ) (bytes : List ℕ) (message : Message) (size : ℕ) → BeginsWith limit bytes (asks message size) → Spells limit (take size bytes) message
front_spells limit bytes message size (h, n, m, has, is, sized, within, spelt) =
    let reads = has.0 in (
      h,
      n,
      m,
      ((reads.0, cut_head bytes h n m size reads.1 has.1 sized), has.1, has.2),
      is,
      omega (arith, within, sized, length-take size bytes),
      spelt ∙ ap (message_with h) (sym (ap (λ k. drop n (take k bytes)) sized ∙ drop-take n m bytes)),
    )
  where
    cut_head : (bytes : List ℕ) (h : RequestHead) (n m size : ℕ) → bytes ≡ print_request h ++ drop n bytes → n ≡ length (print_request h)
        → size ≡ n + m → take size bytes ≡ print_request h ++ drop n (take size bytes)
    cut_head bytes h n m size e far sized =
        ap₂ take (sized ∙ ap (λ k. k + m) far) e ∙ take-append-add (print_request h) (drop n bytes) m
        ∙ ap (λ v. print_request h ++ v) (sym (ap (λ k. drop n (take k bytes)) sized ∙ drop-take n m bytes))

pub one_spelling : (limit : ℕ) (bytes : List ℕ) (a b : Message) (n m : ℕ) → n ≤ length bytes → m ≤ length bytes → Spells limit (take n bytes) a → Spells limit (take m bytes) b
    → (n ≡ m) × (a ≡ b)
one_spelling limit bytes a b n m low high first other =
    let same : asks a n ≡ asks b m =
    one_front limit bytes (asks a n) (asks b m) (spelt_front limit bytes a n low first) (spelt_front limit bytes b m high other) in
    (cc, cc)
