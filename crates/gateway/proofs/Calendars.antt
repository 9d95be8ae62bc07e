-- The calendar of signatures and that of dates.
use borrow.Author.Differences.{up, down}
use Rattle.std.proofs.Common.{◌≡◌, ◌≤◌, true, ℕ, zero, suc, ◌+◌, ◌-◌, refl, ap, arith, ℤ, pos, negsuc, unsigned_abs}
use Rattle.std.proofs.lemmas.Bool.Decides.{nat_tests}
use Rattle.jiff_core.specs.Calendar as jiff
use Rattle.jiff_core.proofs.CalendarLemmas.{day_count-epoch, day_count-next_year, day_count-day_of_year, days_from_civil-day_count}
use Rattle.jiff_core.proofs.SignedLemmas.{signed_arith}
use Rattle.httpdate.specs.Calendar as httpdate
use Rattle.sigv4.specs.Moment.{is_day}
use Rattle.gateway.specs.Laws.{CalendarsAgree}

months : (year n : ℕ) → jiff.days_of_months (pos year) n ≡ httpdate.days_of_months year n
unfolding jiff.days_of_months httpdate.days_of_months
months year zero = refl
months year (suc n) = ap (λ days. days + httpdate.days_in_month year (suc n)) (months year n)

-- the first day of a year
years : (n : ℕ) → jiff.day_count (pos (1970 + n)) 1 1 ≡ 4_371_953 + httpdate.days_of_years n
unfolding httpdate.days_of_years
years zero = day_count-epoch
years (suc n) =
    let next = day_count-next_year (pos (1970 + n)) (pos (1970 + suc n)) (omega (arith, signed_arith)) (omega (arith, signed_arith)) in
    let same : jiff.days_in_year (pos (1970 + n)) ≡ httpdate.days_in_year (1970 + n) = refl in
    omega (arith, years n, next, same)

above : (z : ℤ) (epoch days : ℕ) → up z + epoch ≡ down z + (epoch + days) → unsigned_abs z ≡ days
above (pos n) epoch days e = omega (arith, e)
above (negsuc n) epoch days e = omega (arith, e)

-- a day isn't before 1970, and months and days are counted from 1
of_day : (year month day : ℕ) → is_day year month day ≡ true → (1970 ≤ year) × (1 ≤ month) × (1 ≤ day)
of_day year month day h = grind (arith, nat_tests)

pub calendars_agree : CalendarsAgree
calendars_agree year month day is_day =
    let (low, m, d) = of_day year month day is_day in
    let n = year - 1970 in
    let is : 1970 + n ≡ year = omega (arith, low) in
    let first = rw is at (years n) in
    let of = day_count-day_of_year (pos year) month day d in
    let counted = days_from_civil-day_count (pos year) month day in
    let count : jiff.day_count (pos year) month day ≡ 4_371_953 + httpdate.days_from_civil year month day = omega (arith, first, of, months year (month - 1), d) in
    above (jiff.days_from_civil (pos year) month day) 4_371_953 (httpdate.days_from_civil year month day) (rw count at counted)
