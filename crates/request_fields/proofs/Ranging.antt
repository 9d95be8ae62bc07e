-- The range that a text is read as is the one that it asks for.
use Rattle.std.proofs.Common.{◌≡◌, ◌≤◌, ◌<◌, ℕ, ◌+◌, suc, Bool, true, false, not, ◌&&◌, ◌||◌, ◌↔◌, cond, List, [], ◌∷◌, ◌++◌, length, take, drop, get_or, Option, Some, None, refl, sym, ap, ◌∙◌, subst, append_assoc, arith}
use Rattle.std.specs.Prelude.{nat_le, nat_eq, option_map, codes}
use Rattle.std.specs.List.{list_all, list_any, starts_with, before_first, after_first, position_or_len}
use Rattle.std.specs.Str.Parse.{digits_value}
use Rattle.std.proofs.lemmas.Bool.{and_parts, leb-true}
use Rattle.std.proofs.lemmas.Bool.Decides.{nat_tests, Decides-eqb}
use Rattle.std.proofs.lemmas.List.Sums.{split_at_first}
use Rattle.std.proofs.lemmas.Slice.Eq.{starts_is}
use Rattle.std.proofs.Math.Seq.{drop-append-add}
use Rattle.gate_base.specs.Ascii.{is_digit}
use Rattle.s3_machine.specs.declared.reading.Range.{Range}
use Rattle.s3_machine.specs.declared.reading.Range.TheVariants.{FromTo, From, Last}
use Rattle.text_forms.specs.Numbers.{is_number, number_of}
use Rattle.request_fields.specs.Ranges.{is_dash, place_of, between, range_by, range_behind, range_of, AsksFor}

abbrev unit : List ℕ
unit = codes "bytes="

-- ---- the first dash

dash_within : (text : List ℕ) → list_any is_dash text ≡ true → position_or_len is_dash text < length text
dash_within [] h = cc
dash_within (byte ∷ text) h = by_test (is_dash byte) (λ k. dash_within text k) h
  where
    by_test : (b : Bool) → (list_any is_dash text ≡ true → position_or_len is_dash text < length text) → (b || list_any is_dash text) ≡ true
        → cond (not b) (1 + position_or_len is_dash text) 0 < length (byte ∷ text)
    by_test true others k = omega arith
    by_test false others k = omega (arith, others k)

is_it : (byte : ℕ) → is_dash byte ≡ true → byte ≡ 45
is_it byte h = grind (arith, nat_tests)

get_behind : (byte n : ℕ) (text : List ℕ) → get_or (byte ∷ text) (1 + n) 0 ≡ get_or text n 0
get_behind byte n text = let e : 1 + n ≡ suc n = omega arith in ap (λ i. get_or (byte ∷ text) i 0) e

dash_there : (text : List ℕ) → list_any is_dash text ≡ true → get_or text (position_or_len is_dash text) 0 ≡ 45
dash_there [] h = cc
dash_there (byte ∷ text) h = by_test (is_dash byte) refl (λ k. dash_there text k) h
  where
    by_test : (b : Bool) → is_dash byte ≡ b → (list_any is_dash text ≡ true → get_or text (position_or_len is_dash text) 0 ≡ 45)
        → (b || list_any is_dash text) ≡ true → get_or (byte ∷ text) (cond (not b) (1 + position_or_len is_dash text) 0) 0 ≡ 45
    by_test true e others k = is_it byte e
    by_test false e others k = get_behind byte (position_or_len is_dash text) text ∙ others k

-- a text is what stands before its first dash, the dash, and what stands behind it
parted : (text : List ℕ) → list_any is_dash text ≡ true → text ≡ before_first is_dash text ++ (45 ∷ after_first is_dash text)
parted text h =
    split_at_first is_dash text 0 (dash_within text h)
    ∙ ap (λ byte. before_first is_dash text ++ (byte ∷ after_first is_dash text)) (dash_there text h)

no_dash : (byte : ℕ) → is_digit byte ≡ true → is_dash byte ≡ false
no_dash byte h = grind (arith, nat_tests)

dash_at : (digits rest : List ℕ) → list_all is_digit digits ≡ true → position_or_len is_dash (digits ++ (45 ∷ rest)) ≡ length digits
dash_at [] rest h = refl
dash_at (byte ∷ digits) rest h =
    let parts = and_parts (is_digit byte) (list_all is_digit digits) h in
    let others = dash_at digits rest parts.1 in
    ap (λ b. cond (not b) (1 + position_or_len is_dash (digits ++ (45 ∷ rest))) 0) (no_dash byte parts.0) ∙ omega (arith, others)

dash_found : (digits rest : List ℕ) → list_any is_dash (digits ++ (45 ∷ rest)) ≡ true
dash_found [] rest = refl
dash_found (byte ∷ digits) rest = by_test (is_dash byte) (dash_found digits rest)
  where
    by_test : (b : Bool) → list_any is_dash (digits ++ (45 ∷ rest)) ≡ true → (b || list_any is_dash (digits ++ (45 ∷ rest))) ≡ true
    by_test true others = refl
    by_test false others = others

take_front : (front rest : List ℕ) → take (length front) (front ++ rest) ≡ front
take_front [] rest = refl
take_front (byte ∷ front) rest = ap (λ bytes. byte ∷ bytes) (take_front front rest)

before_it : (digits rest : List ℕ) → list_all is_digit digits ≡ true → before_first is_dash (digits ++ (45 ∷ rest)) ≡ digits
before_it digits rest h =
    ap (λ n. take n (digits ++ (45 ∷ rest))) (dash_at digits rest h) ∙ take_front digits (45 ∷ rest)

behind_it : (digits rest : List ℕ) → list_all is_digit digits ≡ true → after_first is_dash (digits ++ (45 ∷ rest)) ≡ rest
behind_it digits rest h =
    ap (λ n. drop (n + 1) (digits ++ (45 ∷ rest))) (dash_at digits rest h) ∙ drop-append-add digits (45 ∷ rest) 1

-- ---- from the range that is read to the one that is asked for

texts_of : (a b : List ℕ) → unit ++ (a ++ (45 ∷ b)) ≡ unit ++ a ++ codes "-" ++ b
texts_of a b = ap (λ text. unit ++ text) (sym (append_assoc a (codes "-") b))

same_last : (o : Option ℕ) (range : Range) → option_map Last o ≡ Some range → (n : ℕ) × (o ≡ Some n) × (Last n ≡ range)
same_last None range h = cc
same_last (Some n) range h = (n, refl, cc)

same_from : (o : Option ℕ) (range : Range) → option_map From o ≡ Some range → (n : ℕ) × (o ≡ Some n) × (From n ≡ range)
same_from None range h = cc
same_from (Some n) range h = (n, refl, cc)

pub record Between (first last : Option ℕ) (range : Range) : Type 0 where
  pub low : ℕ
  pub high : ℕ
  pub first_is : first ≡ Some low
  pub last_is : last ≡ Some high
  pub rises : low ≤ high
  pub is : FromTo low high ≡ range

same_between : (first last : Option ℕ) (range : Range) → between first last ≡ Some range → Between first last range
same_between None last range h = cc
same_between (Some first) None range h = cc
same_between (Some first) (Some last) range h = by_test (nat_le first last) refl h
  where
    by_test : (b : Bool) → nat_le first last ≡ b → cond b (Some (FromTo first last)) None ≡ Some range → Between (Some first) (Some last) range
    by_test true e k = record { low = first; high = last; first_is = refl; last_is = refl; rises = leb-true first last e; is = cc }
    by_test false e k = cc

asks_by : (a b : List ℕ) (range : Range) → range_by a b ≡ Some range → AsksFor (unit ++ (a ++ (45 ∷ b))) range
asks_by [] b range h =
    let found = same_last (place_of b) range h in
    subst (AsksFor (unit ++ (45 ∷ b))) found.2 (b, refl, found.1)
asks_by (digit ∷ a) [] range h =
    let found = same_from (place_of (digit ∷ a)) range h in
    subst (AsksFor (unit ++ ((digit ∷ a) ++ (45 ∷ [])))) found.2 (digit ∷ a, refl, found.1)
asks_by (digit ∷ a) (other ∷ b) range h =
    let found = same_between (place_of (digit ∷ a)) (place_of (other ∷ b)) range h in
    subst (AsksFor (unit ++ ((digit ∷ a) ++ (45 ∷ (other ∷ b))))) found.is
    (digit ∷ a, other ∷ b, texts_of (digit ∷ a) (other ∷ b), found.first_is, found.last_is, found.rises)

asks_behind : (text : List ℕ) (range : Range) → range_behind text ≡ Some range → AsksFor (unit ++ text) range
asks_behind text range h = by_test (list_any is_dash text) refl h
  where
    by_test : (b : Bool) → list_any is_dash text ≡ b → cond b (range_by (before_first is_dash text) (after_first is_dash text)) None ≡ Some range → AsksFor (unit ++ text) range
    by_test true e k =
        subst (λ t. AsksFor (unit ++ t) range) (sym (parted text e)) (asks_by (before_first is_dash text) (after_first is_dash text) range k)
    by_test false e k = cc

begins_unit : (text : List ℕ) → starts_with nat_eq text unit ≡ true → text ≡ unit ++ drop 6 text
begins_unit text h = (starts_is Decides-eqb text unit (starts_with nat_eq text unit) refl).0 h

asks : (text : List ℕ) (range : Range) → range_of text ≡ Some range → AsksFor text range
unfolding range_of
asks text range h = by_test (starts_with nat_eq text unit) refl h
  where
    by_test : (b : Bool) → starts_with nat_eq text unit ≡ b → cond b (range_behind (drop 6 text)) None ≡ Some range → AsksFor text range
    by_test true e k = subst (λ t. AsksFor t range) (sym (begins_unit text e)) (asks_behind (drop 6 text) range k)
    by_test false e k = cc

-- ---- and back

numbered : (text : List ℕ) (n : ℕ) → place_of text ≡ Some n → is_number 18 text ≡ true
unfolding number_of
numbered text n h = by_test (is_number 18 text) h
  where
    by_test : (b : Bool) → cond b (Some (digits_value 10 text)) None ≡ Some n → b ≡ true
    by_test true k = refl
    by_test false k = cc

digits_of : (text : List ℕ) (n : ℕ) → place_of text ≡ Some n → list_all is_digit text ≡ true
digits_of text n h = (and_parts (nat_le 1 (length text) && nat_le (length text) 18) (list_all is_digit text) (numbered text n h)).1

behind_parted : (a b : List ℕ) → list_all is_digit a ≡ true → range_behind (a ++ (45 ∷ b)) ≡ range_by a b
behind_parted a b h =
    ap (λ found. cond found (range_by (before_first is_dash (a ++ (45 ∷ b))) (after_first is_dash (a ++ (45 ∷ b)))) None) (dash_found a b)
    ∙ ap (λ front. range_by front (after_first is_dash (a ++ (45 ∷ b)))) (before_it a b h)
    ∙ ap (λ rest. range_by a rest) (behind_it a b h)

read_unit : (text : List ℕ) → range_of (unit ++ text) ≡ range_behind text
unfolding range_of
read_unit text = refl

read_parted : (a b : List ℕ) → list_all is_digit a ≡ true → range_of (unit ++ (a ++ (45 ∷ b))) ≡ range_by a b
read_parted a b h = read_unit (a ++ (45 ∷ b)) ∙ behind_parted a b h

no_number : (n : ℕ) → place_of [] ≡ Some n → ⊥
no_number n h = let none : is_number 18 [] ≡ true = numbered [] n h in cc

by_last : (b : List ℕ) (n : ℕ) → place_of b ≡ Some n → range_by [] b ≡ Some (Last n)
by_last b n h = ap (option_map Last) h

by_from : (a : List ℕ) (n : ℕ) → place_of a ≡ Some n → range_by a [] ≡ Some (From n)
by_from [] n h = absurd (no_number n h)
by_from (digit ∷ a) n h = ap (option_map From) h

rising : (first last : ℕ) → first ≤ last → between (Some first) (Some last) ≡ Some (FromTo first last)
rising first last h =
    let e : nat_le first last ≡ true = grind (arith, nat_tests) in
    ap (λ b. cond b (Some (FromTo first last)) None) e

by_between : (a b : List ℕ) (first last : ℕ) → place_of a ≡ Some first → place_of b ≡ Some last → first ≤ last → range_by a b ≡ Some (FromTo first last)
by_between [] b first last h k le = absurd (no_number first h)
by_between (digit ∷ a) [] first last h k le = absurd (no_number last k)
by_between (digit ∷ a) (other ∷ b) first last h k le =
    ap (λ o. between o (place_of (other ∷ b))) h ∙ ap (between (Some first)) k ∙ rising first last le

reads : (text : List ℕ) (range : Range) → AsksFor text range → range_of text ≡ Some range
reads text (FromTo first last) (a, b, e, h, k, le) =
    ap range_of (e ∙ sym (texts_of a b)) ∙ read_parted a b (digits_of a first h) ∙ by_between a b first last h k le
reads text (From first) (a, e, h) = ap range_of e ∙ read_parted a [] (digits_of a first h) ∙ by_from a first h
reads text (Last count) (b, e, h) = ap range_of e ∙ read_parted [] b refl ∙ by_last b count h

pub range_of_asked : (text : List ℕ) (range : Range) → (range_of text ≡ Some range) ↔ AsksFor text range
range_of_asked text range = (asks text range, reads text range)
