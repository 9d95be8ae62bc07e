-- No text of UTF-8 comes after the greatest character, so many times that it is longer.
use Rattle.std.specs.Prelude.{IsUtf8, Contains}
use Rattle.std.specs.Char.{encode_utf8}
use Rattle.std.specs.Str.{encode_utf8_all, IsCharBoundary}
use lib.Utf8.{scalar, scalars, scalar_cases}
use Rattle.std.proofs.Common.{◌≡◌, ℕ, zero, suc, ◌+◌, ◌-◌, ◌*◌, ◌/◌, ◌%◌, ◌<◌, ◌≤◌, ltb, nat_lt, Bool, true, false, cond, List, [], ◌∷◌, ◌++◌, length, take, drop, get_or, get_or-append-add, drop_at, take_at, refl, sym, ap, subst, ◌∙◌, arith, inl, inr, append_assoc}
use Rattle.std.specs.Ordering.{is_gt}
use Rattle.std.proofs.lemmas.Bool.{and_parts, le-ltb, ltb-false, ltb-true}
use Rattle.std.proofs.lemmas.Bool.Decides.{nat_tests}
use Rattle.std.proofs.lemmas.List.{append-nil, length-append, get_or_append_left}
use Rattle.std.proofs.lemmas.List.Elements.{Contains-append_cases}
use Rattle.std.proofs.lemmas.Str.{IsUtf8-append, IsUtf8-nil, IsUtf8-take, IsUtf8-drop, IsCharBoundary-at_seam, IsCharBoundary-from_take, IsCharBoundary-start}
use Rattle.swift_calls.specs.Limits.{IsMarker}
use Rattle.list_pages.specs.Jumps.{greatest_times, past_all, times_past}
use Rattle.list_pages.specs.Rolling.{UpTo}
use Rattle.list_pages.proofs.lemmas.Rising.{bytes_order, below, same, above, then_same, then_below, upto_empty}
use Rattle.list_pages.proofs.lemmas.Rolling.{common}

-- ---- the order

-- up to, by the first byte
byte_upto : (a b : ℕ) (x y : List ℕ) → a ≤ b → (a ≡ b → UpTo x y) → UpTo (a ∷ x) (b ∷ y)
byte_upto a b x y le rest = elim (bytes_order a b) [
  | below l e ↦ ap is_gt (then_below a b x y e)
  | same e ↦ ap is_gt (then_same a b x y e) ∙ rest e
  | above l e ↦ absurd (omega (arith, l, le))
]

-- the bytes of a character, by whether it is below 128, below 2048 and below 65536
abbrev char_bytes : ℕ → Bool → Bool → Bool → List ℕ
char_bytes c x y z = cond x (c ∷ []) (cond y ((192 + c / 64) ∷ (128 + c % 64) ∷ []) (cond z ((224 + c / 4096) ∷ (128 + c / 64 % 64) ∷ (128 + c % 64) ∷ []) ((240 + c / 262144) ∷ (128 + c / 4096 % 64) ∷ (128 + c / 64 % 64) ∷ (128 + c % 64) ∷ [])))

-- a character and more is up to the greatest and more, where what follows is if the first has as many bytes
char_upto : (c : ℕ) → scalar c ≡ true → (r s : List ℕ) → (length (encode_utf8 c) ≡ 4 → UpTo r s) → UpTo (encode_utf8 c ++ r) (0xF4 ∷ 0x8F ∷ 0xBF ∷ 0xBF ∷ s)
unfolding encode_utf8
char_upto c good r s rest = by_tests (ltb c 128) (ltb c 2048) (ltb c 65536) refl refl refl rest
  where
    low : c < 1114112
    low = elim (scalar_cases c good) [ inl h ↦ omega (arith, h) | inr h ↦ h.1 ]

    by_tests : (x y z : Bool) → ltb c 128 ≡ x → ltb c 2048 ≡ y → ltb c 65536 ≡ z → (length (char_bytes c x y z) ≡ 4 → UpTo r s) → UpTo (char_bytes c x y z ++ r) (0xF4 ∷ 0x8F ∷ 0xBF ∷ 0xBF ∷ s)
    by_tests true y z e f g k =
        let h : c < 128 = grind (arith, nat_tests) in
        byte_upto c 0xF4 r (0x8F ∷ 0xBF ∷ 0xBF ∷ s) (omega (arith, h)) (λ i. absurd (omega (arith, h, i)))
    by_tests false true z e f g k =
        let h : c < 2048 = grind (arith, nat_tests) in
        byte_upto (192 + c / 64) 0xF4 ((128 + c % 64) ∷ r) (0x8F ∷ 0xBF ∷ 0xBF ∷ s) (omega (arith, h)) (λ i. absurd (omega (arith, h, i)))
    by_tests false false true e f g k =
        let h : c < 65536 = grind (arith, nat_tests) in
        byte_upto (224 + c / 4096) 0xF4 ((128 + c / 64 % 64) ∷ (128 + c % 64) ∷ r) (0x8F ∷ 0xBF ∷ 0xBF ∷ s) (omega (arith, h)) (λ i. absurd (omega (arith, h, i)))
    by_tests false false false e f g k =
        byte_upto (240 + c / 262144) 0xF4 ((128 + c / 4096 % 64) ∷ (128 + c / 64 % 64) ∷ (128 + c % 64) ∷ r) (0x8F ∷ 0xBF ∷ 0xBF ∷ s) (omega (arith, low))
        (λ i. byte_upto (128 + c / 4096 % 64) 0x8F ((128 + c / 64 % 64) ∷ (128 + c % 64) ∷ r) (0xBF ∷ 0xBF ∷ s) (omega (arith, low, i))
        (λ j. byte_upto (128 + c / 64 % 64) 0xBF ((128 + c % 64) ∷ r) (0xBF ∷ s) (omega arith)
        (λ l. byte_upto (128 + c % 64) 0xBF r s (omega arith) (λ m. k refl))))

pub greatest_is : (cs : List ℕ) (n : ℕ) → scalars cs ≡ true → length (encode_utf8_all cs) < 4 * n → UpTo (encode_utf8_all cs) (greatest_times n)
greatest_is [] n good near = upto_empty (greatest_times n)
greatest_is (c ∷ cs) zero good near = absurd (omega (arith, near))
greatest_is (c ∷ cs) (suc n) good near =
    let parts = and_parts (scalar c) (scalars cs) good in
    let long = length-append (encode_utf8 c) (encode_utf8_all cs) in
    char_upto c parts.0 (encode_utf8_all cs) (greatest_times n) (λ four. greatest_is cs n parts.1 (omega (arith, near, long, four)))

times_enough : (bytes : ℕ) → bytes ≤ 1024 → 1024 - bytes < 4 * times_past bytes
times_enough bytes within = subst (λ b. 1024 - bytes < 4 * cond b 0 ((1024 - bytes) / 4 + 1)) (sym (le-ltb 1024 bytes within)) (omega arith)

-- a key is up to what is past all with its beginning
pub key_upto_past : (c v : List ℕ) → IsUtf8 v → length (c ++ v) ≤ 1024 → UpTo (c ++ v) (past_all c)
key_upto_past c v utf8 within =
    let long = length-append c v in
    let enough = times_enough (length c) (omega (arith, within, long)) in
    let rest : UpTo v (greatest_times (times_past (length c))) =
    subst (λ x. UpTo x (greatest_times (times_past (length c)))) utf8.1.1
    (greatest_is utf8.0 (times_past (length c)) utf8.1.0 (omega (arith, within, long, enough, ap length utf8.1.1))) in
    ap is_gt (common c v (greatest_times (times_past (length c)))) ∙ rest

-- ---- as often as it takes

pub record IsAppended (old now : List ℕ) : Type 0 where
  pub times : ℕ
  pub is : now ≡ old ++ greatest_times times
  pub few : 0 < times → length old + 4 * times ≤ 1028

pub appended_none : (text : List ℕ) → IsAppended text text
appended_none text = record { times = 0; is = sym (append-nil text); few = λ some. absurd (omega (arith, some)) }

one_more : (n : ℕ) → greatest_times n ++ (0xF4 ∷ 0x8F ∷ 0xBF ∷ 0xBF ∷ []) ≡ greatest_times (suc n)
one_more zero = refl
one_more (suc n) = ap (λ l. 0xF4 ∷ 0x8F ∷ 0xBF ∷ 0xBF ∷ l) (one_more n)

length_times : (n : ℕ) → length (greatest_times n) ≡ 4 * n
length_times zero = refl
length_times (suc n) = let rest = length_times n in omega (arith, rest)

length_appended : {old now : List ℕ} (so : IsAppended old now) → length now ≡ length old + 4 * so.times
length_appended {old = old} so = let long = length-append old (greatest_times so.times) in let times = length_times so.times in omega (arith, long, times, ap length so.is)

pub appended_more : {old now : List ℕ} (new : List ℕ) → IsAppended old now → length now ≤ 1024 → new ≡ now ++ (0xF4 ∷ 0x8F ∷ 0xBF ∷ 0xBF ∷ []) → IsAppended old new
appended_more {old = old} new so near is =
    let long = length_appended so in
    record {
      times = suc so.times;
      is = is ∙ ap (λ t. t ++ (0xF4 ∷ 0x8F ∷ 0xBF ∷ 0xBF ∷ [])) so.is ∙ append_assoc old (greatest_times so.times) (0xF4 ∷ 0x8F ∷ 0xBF ∷ 0xBF ∷ []) ∙ ap (λ t. old ++ t) (one_more so.times);
      few = λ some. omega (arith, near, long);
    }

pub appended_all : {old now : List ℕ} → IsAppended old now → 1024 < length now → now ≡ past_all old
appended_all {old = old} so far = so.is ∙ ap (λ n. old ++ greatest_times n) (by so.times so.few (nat_lt 1024 (length old)) refl (omega (arith, far, length_appended so)))
  where
    by : (n : ℕ) → (0 < n → length old + 4 * n ≤ 1028) → (b : Bool) → nat_lt 1024 (length old) ≡ b → 1024 < length old + 4 * n → n ≡ cond b 0 ((1024 - length old) / 4 + 1)
    by zero few true e far = refl
    by (suc n) few true e far = let past = ltb-true 1024 (length old) e in let near = few (omega arith) in absurd (omega (arith, past, near))
    by zero few false e far = let near = ltb-false 1024 (length old) e in absurd (omega (arith, near, far))
    by (suc n) few false e far = let near = few (omega arith) in omega (arith, near, far)

-- ---- where a text is cut behind a delimiter

-- what stands before and behind a text of UTF-8 inside another
pub cut_utf8 : (front d back : List ℕ) → 0 < length d → IsUtf8 d → IsUtf8 (front ++ (d ++ back)) → IsUtf8 (front ++ d) × IsUtf8 back
cut_utf8 front d back some of_d all =
    let whole = front ++ (d ++ back) in
    let from : drop (length front) whole ≡ d ++ back = drop_at front (d ++ back) (length front) refl in
    let zero_more : length front + 0 ≡ length front = omega arith in
    let byte : get_or whole (length front) 0 ≡ get_or d 0 0 =
    ap (λ n. get_or whole n 0) (sym zero_more) ∙ get_or-append-add front (d ++ back) 0 0 ∙ get_or_append_left d back 0 0 some in
    let starts = IsCharBoundary-start d of_d in
    let begins : IsCharBoundary whole (length front) = (
      omega (arith, length-append front (d ++ back)),
      λ near high. subst (λ b. 192 ≤ b) (sym byte) (starts.1 some (subst (λ b. 128 ≤ b) byte high)),
    ) in
    let later : IsUtf8 (d ++ back) = subst IsUtf8 from (IsUtf8-drop whole (length front) all begins) in
    let of_back : IsUtf8 back =
    subst IsUtf8 (drop_at d back (length d) refl)
    (IsUtf8-drop (d ++ back) (length d) later
    (IsCharBoundary-from_take (d ++ back) (length d) later (omega (arith, length-append d back)) (subst IsUtf8 (sym (take_at d back (length d) refl)) of_d))) in
    let again : whole ≡ (front ++ d) ++ back = sym (append_assoc front d back) in (
      subst IsUtf8 (ap (take (length (front ++ d))) again ∙ take_at (front ++ d) back (length (front ++ d)) refl)
          (IsUtf8-take whole (length (front ++ d)) all (IsCharBoundary-at_seam whole (front ++ d) back again of_back)),
      of_back,
    )

-- ---- a marker

no_zero_times : (n : ℕ) → Contains (greatest_times n) 0 → ⊥
no_zero_times zero has = absurd (omega (arith, has.1))
no_zero_times (suc n) has = elim (Contains-append_cases (0xF4 ∷ 0x8F ∷ 0xBF ∷ 0xBF ∷ []) (greatest_times n) 0 has) [ inl h ↦ none h | inr h ↦ no_zero_times n h ]
  where
    none : Contains {X = ℕ} (0xF4 ∷ 0x8F ∷ 0xBF ∷ 0xBF ∷ []) 0 → ⊥
    none (zero, near, is) = absurd (omega (arith, is))
    none (suc zero, near, is) = absurd (omega (arith, is))
    none (suc (suc zero), near, is) = absurd (omega (arith, is))
    none (suc (suc (suc zero)), near, is) = absurd (omega (arith, is))
    none (suc (suc (suc (suc k))), near, is) = absurd (omega (arith, near))

utf8_greatest : IsUtf8 (0xF4 ∷ 0x8F ∷ 0xBF ∷ 0xBF ∷ [])
unfolding encode_utf8
utf8_greatest = (0x10FFFF ∷ [], (refl, refl))

utf8_times : (n : ℕ) → IsUtf8 (greatest_times n)
utf8_times zero = IsUtf8-nil
utf8_times (suc n) = IsUtf8-append (0xF4 ∷ 0x8F ∷ 0xBF ∷ 0xBF ∷ []) (greatest_times n) utf8_greatest (utf8_times n)

times_few : (bytes : ℕ) → bytes ≤ 1028 → bytes + 4 * times_past bytes ≤ 1028
times_few bytes within = by (nat_lt 1024 bytes) refl
  where
    by : (b : Bool) → nat_lt 1024 bytes ≡ b → bytes + 4 * cond b 0 ((1024 - bytes) / 4 + 1) ≤ 1028
    by true e = omega (arith, within)
    by false e = let near = ltb-false 1024 bytes e in omega (arith, near)

-- past all with a beginning that may be a marker is a marker
pub past_is_marker : (c : List ℕ) → IsMarker c → IsMarker (past_all c)
past_is_marker c is =
    let long = length-append c (greatest_times (times_past (length c))) in
    let times = length_times (times_past (length c)) in
    let few = times_few (length c) is.within in
    record {
      within = omega (arith, long, times, few);
      utf8 = IsUtf8-append c (greatest_times (times_past (length c))) is.utf8 (utf8_times (times_past (length c)));
      no_zero = λ has. elim (Contains-append_cases c (greatest_times (times_past (length c))) 0 has) [ inl h ↦ is.no_zero h | inr h ↦ no_zero_times (times_past (length c)) h ];
    }
