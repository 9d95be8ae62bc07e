-- Where a text is cut, and what an escaped text has not.
use Rattle.std.proofs.Common.{◌≡◌, ℕ, suc, ◌+◌, ◌/◌, ◌%◌, ◌<◌, Bool, true, false, not, ◌||◌, cond, ltb, List, [], ◌∷◌, ◌++◌, length, take, drop, All, refl, ap, subst, ◌∙◌, inl, inr, arith}
use Rattle.std.specs.Prelude.{IsUtf8}
use lib.Utf8.{scalar, scalars, scalar_cases}
use Rattle.std.specs.Str.{encode_utf8_all}
use Rattle.std.specs.Char.{encode_utf8}
use Rattle.std.specs.List.{list_all, list_any, position_or_len, before_first, after_first}
use Rattle.std.proofs.lemmas.Bool.{and_parts, and_from, or_right, false≢true}
use Rattle.std.proofs.lemmas.Bool.Decides.{nat_tests}
use Rattle.std.proofs.lemmas.List.{take_all}
use Rattle.std.proofs.lemmas.List.Folds.{list_all-append, list_any-append}
use Rattle.std.proofs.lemmas.List.Elements.{All-nil, All-cons, All-head, All-tail}
use Rattle.std.proofs.Math.Seq.{take-append_seam}

abbrev pub IsByte : ℕ → Type 0
IsByte b = b < 256

-- no byte of the text passes the test
abbrev pub Lacks : (ℕ → Bool) → List ℕ → Type 0
Lacks p text = list_all (λ b. not (p b)) text ≡ true

pub weaker : (p q : ℕ → Bool) → ((b : ℕ) → p b ≡ true → q b ≡ true) → (text : List ℕ) → list_all p text ≡ true → list_all q text ≡ true
weaker p q step [] all = refl
weaker p q step (b ∷ text) all =
    let parts = and_parts (p b) (list_all p text) all in
    and_from (q b) (list_all q text) (step b parts.0) (weaker p q step text parts.1)

pub Lacks-append : (p : ℕ → Bool) (front back : List ℕ) → Lacks p front → Lacks p back → Lacks p (front ++ back)
Lacks-append p front back one two = list_all-append (λ b. not (p b)) front back ∙ and_from _ _ one two

-- ---- cuts

position_at : (p : ℕ → Bool) (front rest : List ℕ) (b : ℕ) → p b ≡ true → Lacks p front → position_or_len p (front ++ b ∷ rest) ≡ length front
position_at p [] rest b found lacks = ap (λ t. cond (not t) (1 + position_or_len p rest) 0) found
position_at p (x ∷ front) rest b found lacks =
    let parts = and_parts (not (p x)) (list_all (λ c. not (p c)) front) lacks in
    let step : position_or_len p (x ∷ (front ++ b ∷ rest)) ≡ 1 + position_or_len p (front ++ b ∷ rest) =
    ap (λ t. cond t (1 + position_or_len p (front ++ b ∷ rest)) 0) parts.0 in
    omega (arith, step, position_at p front rest b found parts.1)

position_none : (p : ℕ → Bool) (text : List ℕ) → Lacks p text → position_or_len p text ≡ length text
position_none p [] lacks = refl
position_none p (x ∷ text) lacks =
    let parts = and_parts (not (p x)) (list_all (λ c. not (p c)) text) lacks in
    let step : position_or_len p (x ∷ text) ≡ 1 + position_or_len p text = ap (λ t. cond t (1 + position_or_len p text) 0) parts.0 in
    omega (arith, step, position_none p text parts.1)

drop_past : (front rest : List ℕ) (b : ℕ) → drop (length front + 1) (front ++ b ∷ rest) ≡ rest
drop_past [] rest b = refl
drop_past (x ∷ front) rest b =
    let e : length (x ∷ front) + 1 ≡ suc (length front + 1) = omega arith in
    ap (λ n. drop n (x ∷ (front ++ b ∷ rest))) e ∙ drop_past front rest b

drop_end : (text : List ℕ) → drop (length text + 1) text ≡ []
drop_end [] = refl
drop_end (x ∷ text) =
    let e : length (x ∷ text) + 1 ≡ suc (length text + 1) = omega arith in
    ap (λ n. drop n (x ∷ text)) e ∙ drop_end text

pub before_at : (p : ℕ → Bool) (front rest : List ℕ) (b : ℕ) → p b ≡ true → Lacks p front → before_first p (front ++ b ∷ rest) ≡ front
before_at p front rest b found lacks =
    ap (λ n. take n (front ++ b ∷ rest)) (position_at p front rest b found lacks) ∙ take-append_seam front (b ∷ rest)

pub after_at : (p : ℕ → Bool) (front rest : List ℕ) (b : ℕ) → p b ≡ true → Lacks p front → after_first p (front ++ b ∷ rest) ≡ rest
after_at p front rest b found lacks =
    ap (λ n. drop (n + 1) (front ++ b ∷ rest)) (position_at p front rest b found lacks) ∙ drop_past front rest b

pub before_none : (p : ℕ → Bool) (text : List ℕ) → Lacks p text → before_first p text ≡ text
before_none p text lacks = ap (λ n. take n text) (position_none p text lacks) ∙ take_all (length text) text (omega arith)

pub after_none : (p : ℕ → Bool) (text : List ℕ) → Lacks p text → after_first p text ≡ []
after_none p text lacks = ap (λ n. drop (n + 1) text) (position_none p text lacks) ∙ drop_end text

pub any_none : (p : ℕ → Bool) (text : List ℕ) → Lacks p text → list_any p text ≡ false
any_none p [] lacks = refl
any_none p (x ∷ text) lacks =
    let parts = and_parts (not (p x)) (list_all (λ c. not (p c)) text) lacks in by_test (p x) parts.0 (any_none p text parts.1)
  where
    by_test : (t : Bool) → not t ≡ true → list_any p text ≡ false → (t || list_any p text) ≡ false
    by_test true other more = absurd (false≢true other)
    by_test false other more = more

pub any_at : (p : ℕ → Bool) (front rest : List ℕ) (b : ℕ) → p b ≡ true → list_any p (front ++ b ∷ rest) ≡ true
any_at p front rest b found =
    list_any-append p front (b ∷ rest) ∙ or_right (list_any p front) _ (ap (λ t. t || list_any p rest) found)

-- ---- UTF-8 has bytes

one_char : (c : ℕ) → scalar c ≡ true → All IsByte (encode_utf8 c)
unfolding encode_utf8
one_char c good = by_tests (ltb c 128) (ltb c 2048) (ltb c 65536) refl refl refl
  where
    tail : (n : ℕ) → 128 + n % 64 < 256
    tail n = omega arith

    low : c < 1114112
    low = elim (scalar_cases c good) [ inl h ↦ omega (arith, h) | inr h ↦ h.1 ]

    by_tests : (x y z : Bool) → ltb c 128 ≡ x → ltb c 2048 ≡ y → ltb c 65536 ≡ z
        → All IsByte (cond x (c ∷ []) (cond y ((192 + c / 64) ∷ (128 + c % 64) ∷ []) (cond z ((224 + c / 4096) ∷ (128 + c / 64 % 64) ∷ (128 + c % 64) ∷ []) ((240 + c / 262144) ∷ (128 + c / 4096 % 64) ∷ (128 + c / 64 % 64) ∷ (128 + c % 64) ∷ []))))
    by_tests true y z e f g =
        let h : c < 256 = grind (arith, nat_tests) in
        All-cons IsByte c [] h (All-nil IsByte)
    by_tests false true z e f g =
        let h : c < 2048 = grind (arith, nat_tests) in
        let one : 192 + c / 64 < 256 = omega (arith, h) in
        All-cons IsByte (192 + c / 64) ((128 + c % 64) ∷ []) one (All-cons IsByte (128 + c % 64) [] (tail c) (All-nil IsByte))
    by_tests false false true e f g =
        let h : c < 65536 = grind (arith, nat_tests) in
        let one : 224 + c / 4096 < 256 = omega (arith, h) in
        All-cons IsByte (224 + c / 4096) ((128 + c / 64 % 64) ∷ (128 + c % 64) ∷ []) one
        (All-cons IsByte (128 + c / 64 % 64) ((128 + c % 64) ∷ []) (tail (c / 64)) (All-cons IsByte (128 + c % 64) [] (tail c) (All-nil IsByte)))
    by_tests false false false e f g =
        let one : 240 + c / 262144 < 256 = omega (arith, low) in
        All-cons IsByte (240 + c / 262144) ((128 + c / 4096 % 64) ∷ (128 + c / 64 % 64) ∷ (128 + c % 64) ∷ []) one
        (All-cons IsByte (128 + c / 4096 % 64) ((128 + c / 64 % 64) ∷ (128 + c % 64) ∷ []) (tail (c / 4096))
        (All-cons IsByte (128 + c / 64 % 64) ((128 + c % 64) ∷ []) (tail (c / 64)) (All-cons IsByte (128 + c % 64) [] (tail c) (All-nil IsByte))))

All-both : (front back : List ℕ) → All IsByte front → All IsByte back → All IsByte (front ++ back)
All-both [] back one two = two
All-both (b ∷ front) back one two = All-cons IsByte b (front ++ back) (All-head IsByte b front one) (All-both front back (All-tail IsByte b front one) two)

all_chars : (cs : List ℕ) → scalars cs ≡ true → All IsByte (encode_utf8_all cs)
all_chars [] good = All-nil IsByte
all_chars (c ∷ cs) good =
    let parts = and_parts (scalar c) (scalars cs) good in
    All-both (encode_utf8 c) (encode_utf8_all cs) (one_char c parts.0) (all_chars cs parts.1)

pub utf8_bytes : (text : List ℕ) → IsUtf8 text → All IsByte text
utf8_bytes text (cs, both) = subst (λ t. All IsByte t) both.1 (all_chars cs both.0)
