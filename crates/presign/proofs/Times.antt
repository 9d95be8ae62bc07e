-- The form of a time, and the time of a moment.
use Rattle.std.proofs.Common.{◌≡◌, ℕ, ◌+◌, ◌-◌, ◌*◌, ◌/◌, ◌%◌, ◌<◌, ◌≤◌, Bool, true, ◌&&◌, List, [], ◌∷◌, nat_lt, nat_le, refl, sym, ap, subst, ◌∙◌, arith, rules, ℤ, pos, negsuc, neg_ℤ, ◌+ℤ◌, ◌≤ℤ◌, unsigned_abs, FitsSigned, to_z, of_z}
use Rattle.std.proofs.lemmas.Bool.{and_parts, and_from}
use Rattle.std.proofs.lemmas.Bool.Decides.{nat_tests}
use Rattle.std.proofs.lemmas.Int.{by_lt_z, ints, to_z-of_z}
use mir.Syntax.{w16}
use Rattle.jiff_core.specs.declared.civil.date.Date.{Date}
use Rattle.jiff_core.specs.Calendar.{days_in_month, days_from_civil}
use Rattle.jiff_core.specs.Date.{epoch_day}
use Rattle.jiff_core.proofs.CalendarLemmas.{day_count-epoch, day_count-lt_year, days_from_civil-day_count, days_in_month_bounds}
use Rattle.jiff_core.proofs.DateLemmas.{civil}
use Rattle.jiff_core.proofs.SignedLemmas.{signed_arith}
use Rattle.gate_base.specs.Ascii.{is_digit}
use Rattle.sigv4.specs.Moment.{two_digits, year_of, is_year, is_month, is_day, is_time, signing_day_number}
use Rattle.sigv4.specs.Sign.{is_date_time}
use Rattle.presign.specs.Url.{IsTimeOf}

first_of_five : (a b c d e : Bool) → (a && b && c && d && e) ≡ true → a ≡ true
first_of_five a b c d e h = (and_parts a b (and_parts (a && b) c (and_parts (a && b && c) d (and_parts (a && b && c && d) e h).0).0).0).0

pub time_has_form : (time : List ℕ) → is_time time ≡ true → is_date_time time ≡ true
time_has_form time h =
    first_of_five (is_date_time time) (is_day (year_of time) (two_digits time 4) (two_digits time 6)) (nat_lt (two_digits time 9) 24) (nat_lt (two_digits time 11) 60) (nat_lt (two_digits time 13) 60) h

-- ---- dates

pub shifted : (z : ℤ) (n k : ℕ) → z +ℤ pos k ≡ pos (n + k) → z ≡ pos n
shifted z n k h = omega (arith, signed_arith)

-- a date that isn't before the first of January 1970 isn't of an earlier year
late : (d : Date) → pos 0 ≤ℤ epoch_day d → pos 1970 ≤ℤ d.year
late d h =
    by_lt_z d.year (pos 1970)
    (λ lt. absurd (omega (arith, signed_arith, h, days_from_civil-day_count d.year d.month d.day, day_count-epoch, day_count-lt_year d.year d.month d.day (pos 1970) 1 1 (civil d) (omega arith) lt)))
    (λ le. le)

year_is : (year : ℕ) → 1970 ≤ year → year ≤ 9999 → is_year year ≡ true
year_is year low high = grind (arith, nat_tests)

abs_is : (z : ℤ) → pos 1970 ≤ℤ z → pos (unsigned_abs z) ≡ z
abs_is (pos n) low = refl
abs_is (negsuc n) low = absurd (omega (arith, signed_arith))

abs_late : (z : ℤ) → pos 1970 ≤ℤ z → z ≤ℤ pos 9999 → is_year (unsigned_abs z) ≡ true
abs_late (pos n) low high = year_is n (omega (arith, signed_arith)) (omega (arith, signed_arith))
abs_late (negsuc n) low high = absurd (omega (arith, signed_arith))

-- as a year is passed to a function
passed : (z : ℤ) → neg_ℤ (pos 9999) ≤ℤ z → z ≤ℤ pos 9999 → to_z w16 (of_z w16 z) ≡ z
passed z low high =
    let fits : FitsSigned w16 z = first_of (omega (arith, ints), search (rules, ints)) in
    to_z-of_z w16 z fits

pub year_passed : (d : Date) → to_z w16 (of_z w16 d.year) ≡ d.year
year_passed d = passed d.year d.year_in.0 d.year_in.1

-- the year of such a date
pub year_abs : (d : Date) → pos 0 ≤ℤ epoch_day d → pos (unsigned_abs d.year) ≡ d.year
year_abs d h = abs_is d.year (late d h)

pub year_late : (d : Date) → pos 0 ≤ℤ epoch_day d → is_year (unsigned_abs d.year) ≡ true
year_late d h = abs_late d.year (late d h) d.year_in.1

test_le : (a b : ℕ) → a ≤ b → nat_le a b ≡ true
test_le a b h = grind (arith, nat_tests)

test_lt : (n m : ℕ) → n < m → nat_lt n m ≡ true
test_lt n m h = grind (arith, nat_tests)

month_is : (m : ℕ) → 1 ≤ m → m ≤ 12 → is_month m ≡ true
month_is m low high = grind (arith, nat_tests)

-- a date of the calendar, by its parts
pub dated_is : (d : Date) (year n : ℕ) → pos year ≡ d.year → is_year year ≡ true → epoch_day d ≡ pos n → (is_day year d.month d.day ≡ true) × (signing_day_number year d.month d.day ≡ n)
dated_is d year n same late is =
    let days : d.day ≤ days_in_month (pos year) d.month = subst (λ y. d.day ≤ days_in_month y d.month) (sym same) d.day_in.1 in
    let month : is_month d.month ≡ true = month_is d.month d.month_in.0 d.month_in.1 in
    let first : nat_le 1 d.day ≡ true = test_le 1 d.day d.day_in.0 in
    let last : nat_le d.day (days_in_month (pos year) d.month) ≡ true = test_le _ _ days in
    let number : days_from_civil (pos year) d.month d.day ≡ pos n = ap (λ y. days_from_civil y d.month d.day) same ∙ is in
    (and_from (is_year year && is_month d.month && nat_le 1 d.day) (nat_le d.day (days_in_month (pos year) d.month)) (and_from (is_year year && is_month d.month) (nat_le 1 d.day) (and_from (is_year year) (is_month d.month) late month) first) last, ap unsigned_abs number)

-- ---- texts

digit_is : (n : ℕ) → n < 10 → is_digit (48 + n) ≡ true
digit_is n h = grind (arith, nat_tests)

tens_is : (n : ℕ) → n < 100 → is_digit (48 + n / 10) ≡ true
tens_is n h = digit_is (n / 10) (omega arith)

ones_is : (n : ℕ) → is_digit (48 + n % 10) ≡ true
ones_is n = digit_is (n % 10) (omega arith)

two_is : (n : ℕ) → (48 + n / 10 - 48) * 10 + (48 + n % 10 - 48) ≡ n
two_is n = omega arith

-- the text of these numbers of two digits
abbrev text_of : ℕ → ℕ → ℕ → ℕ → ℕ → ℕ → ℕ → List ℕ
text_of century rest month day hour minute second =
    (48 + century / 10) ∷ (48 + century % 10) ∷ (48 + rest / 10) ∷ (48 + rest % 10) ∷ (48 + month / 10) ∷ (48 + month % 10) ∷ (48 + day / 10) ∷ (48 + day % 10) ∷ 84
    ∷ (48 + hour / 10) ∷ (48 + hour % 10) ∷ (48 + minute / 10) ∷ (48 + minute % 10) ∷ (48 + second / 10) ∷ (48 + second % 10) ∷ 90 ∷ []

form_is : (century rest month day hour minute second : ℕ) → century < 100 → rest < 100 → month < 100 → day < 100 → hour < 100 → minute < 100 → second < 100
    → is_date_time (text_of century rest month day hour minute second) ≡ true
form_is century rest month day hour minute second a b c d e f g =
    let date = and_from _ _ (tens_is century a) (and_from _ _ (ones_is century) (and_from _ _ (tens_is rest b) (and_from _ _ (ones_is rest) (and_from _ _ (tens_is month c) (and_from _ _ (ones_is month) (and_from _ _ (tens_is day d) (and_from _ true (ones_is day) refl))))))) in
    let clock = and_from _ _ (tens_is hour e) (and_from _ _ (ones_is hour) (and_from _ _ (tens_is minute f) (and_from _ _ (ones_is minute) (and_from _ _ (tens_is second g) (and_from _ true (ones_is second) refl))))) in
    and_from _ true (and_from _ _ (and_from _ true (and_from true _ refl date) refl) clock) refl

text_is_of : (century rest month day hour minute second : ℕ) → century < 100 → rest < 100 → is_day (century * 100 + rest) month day ≡ true → month < 100 → day < 100 → hour < 24 → minute < 60 → second < 60
    → IsTimeOf (signing_day_number (century * 100 + rest) month day * 86400 + hour * 3600 + minute * 60 + second) (text_of century rest month day hour minute second)
text_is_of century rest month day hour minute second a b is c d e f g =
    let form = form_is century rest month day hour minute second a b c d (omega arith) (omega arith) (omega arith) in
    rw (two_is century, two_is rest, two_is month, two_is day, two_is hour, two_is minute, two_is second)
    (and_from _ _ (and_from _ _ (and_from _ _ (and_from _ _ form is) (test_lt hour 24 e)) (test_lt minute 60 f)) (test_lt second 60 g), refl)

day_parts : (year month day : ℕ) → is_day year month day ≡ true → (year ≤ 9999) × (month ≤ 12) × (day ≤ days_in_month (pos year) month)
day_parts year month day h = grind (arith, nat_tests)

pub text_is : (year month day second : ℕ) → is_day year month day ≡ true → second < 86400
    → IsTimeOf (signing_day_number year month day * 86400 + second) (text_of (year / 100) (year % 100) month day (second / 3600) (second / 60 % 60) (second % 60))
text_is year month day second is short =
    let parts = day_parts year month day is in
    let most = (days_in_month_bounds (pos year) month).0 in
    let same : year / 100 * 100 + year % 100 ≡ year = omega arith in
    let shown = text_is_of (year / 100) (year % 100) month day (second / 3600) (second / 60 % 60) (second % 60) (omega (arith, parts.0)) (omega arith) (subst (λ y. is_day y month day ≡ true) (sym same) is) (omega (arith, parts.1)) (omega (arith, parts.2, most)) (omega arith) (omega arith) (omega arith) in
    let sum : signing_day_number (year / 100 * 100 + year % 100) month day * 86400 + second / 3600 * 3600 + second / 60 % 60 * 60 + second % 60 ≡ signing_day_number year month day * 86400 + second =
    ap (λ y. signing_day_number y month day * 86400 + second / 3600 * 3600 + second / 60 % 60 * 60 + second % 60) same ∙ omega arith in
    (shown.0, shown.1 ∙ sum)
