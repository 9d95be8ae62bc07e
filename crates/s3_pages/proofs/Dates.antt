-- The date of a moment is the one that `httpdate` counts back to it.
use Rattle.std.proofs.Common.{◌≡◌, ℕ, zero, suc, ◌+◌, ◌-◌, ◌*◌, ◌/◌, ◌%◌, ◌<◌, ◌≤◌, cond, nat_le, min, sym, ap, ◌∙◌, arith, inl, inr, eq-or-lt_of_le}
use Rattle.std.proofs.lemmas.Bool.Decides.{nat_tests}
use Rattle.httpdate.specs.Calendar.{days_of_years, days_of_months, days_in_year, weekday, days_from_civil, IsCivilDate}
use Rattle.httpdate.specs.Date.{date_text, unix_secs}
use Rattle.httpdate.specs.Text.{imf_fixdate}
use Rattle.httpdate.specs.declared.date.HttpDate.{HttpDate}
use Rattle.httpdate.proofs.CalendarLemmas.{days_of_months_more, days_of_months_all}
use Rattle.s3_pages.specs.Date.{count_within, past_years, past_months, parts_at, http_date}

-- a function that never falls from one number to the next
abbrev Rises : (ℕ → ℕ) → Type 0
Rises f = (n : ℕ) → f n ≤ f (suc n)

rises_to : (f : ℕ → ℕ) → Rises f → (a b : ℕ) → a ≤ b → f a ≤ f b
rises_to f up a zero h = let none : a ≡ 0 = omega arith in omega (arith, ap f none)
rises_to f up a (suc b) h = elim (eq-or-lt_of_le h) [
  | inl e ↦ omega (arith, ap f e)
  | inr l ↦ let before : a ≤ b = omega arith in omega (arith, rises_to f up a b before, up b)
]

one_more : (value x count m n : ℕ) → count ≡ min m n → (suc n ≤ m → value ≤ x) → (m ≤ n → x < value) → count + cond (nat_le value x) 1 0 ≡ min m (suc n)
one_more value x count m n e within above = grind (arith, nat_tests)

count_within_min : (f : ℕ → ℕ) → Rises f → (n m x : ℕ) → f m ≤ x → x < f (suc m) → count_within f n x ≡ min m n
unfolding count_within
count_within_min f up zero m x low high = omega arith
count_within_min f up (suc n) m x low high =
    one_more (f (suc n)) x (count_within f n x) m n (count_within_min f up n m x low high)
    (λ h. omega (arith, rises_to f up (suc n) m h))
    (λ h. let past : suc m ≤ suc n = omega arith in omega (arith, rises_to f up (suc m) (suc n) past))

-- the first m of them are at most x, and the next is above
count_within_is : (f : ℕ → ℕ) → Rises f → (n m x : ℕ) → m ≤ n → f m ≤ x → x < f (suc m) → count_within f n x ≡ m
count_within_is f up n m x h low high = omega (arith, count_within_min f up n m x low high)

days_of_years_rise : Rises days_of_years
unfolding days_of_years
days_of_years_rise n = omega arith

days_of_months_rise : (y : ℕ) → Rises (days_of_months y)
unfolding days_of_months
days_of_months_rise y n = omega arith

-- the days of a year that are past before a date are fewer than the year has
within_month : (y m d : ℕ) → IsCivilDate y m d → days_of_months y (m - 1) + (d - 1) < days_of_months y m
within_month y m d h = omega (arith, days_of_months_more y m h.1.0, h)

within_year : (y m d : ℕ) → IsCivilDate y m d → days_of_months y (m - 1) + (d - 1) < days_in_year y
within_year y m d h = omega (arith, within_month y m d h, rises_to (days_of_months y) (days_of_months_rise y) m 12 h.1.1, days_of_months_all y)

next_year : (y : ℕ) → 1970 ≤ y → days_of_years (suc (y - 1970)) ≡ days_of_years (y - 1970) + days_in_year y
unfolding days_of_years
next_year y h = let same : 1970 + (y - 1970) ≡ y = omega arith in ap (λ (n : ℕ). days_of_years (y - 1970) + days_in_year n) same

past_years_is : (y m d : ℕ) → IsCivilDate y m d → past_years (days_from_civil y m d) ≡ y - 1970
past_years_is y m d h =
    count_within_is days_of_years days_of_years_rise 8029 (y - 1970) (days_from_civil y m d) (omega (arith, h)) (omega arith)
    (omega (arith, next_year y h.0.0, within_year y m d h))

past_months_is : (y m d : ℕ) → IsCivilDate y m d → past_months y (days_of_months y (m - 1) + (d - 1)) ≡ m - 1
past_months_is y m d h =
    let same : suc (m - 1) ≡ m = omega (arith, h.1) in
    count_within_is (days_of_months y) (days_of_months_rise y) 11 (m - 1) _ (omega (arith, h.1)) (omega arith)
    (omega (arith, within_month y m d h, ap (days_of_months y) same))

module _ (days hour min sec moment : ℕ) (h : hour < 24) (m : min < 60) (s : sec < 60) (e : days * 86400 + hour * 3600 + min * 60 + sec ≡ moment) where
  days_are : moment / 86400 ≡ days
  days_are = omega arith

  hour_is : moment % 86400 / 3600 ≡ hour
  hour_is = omega arith

  minute_is : moment % 3600 / 60 ≡ min
  minute_is = omega arith

  second_is : moment % 60 ≡ sec
  second_is = omega arith

pub parts_are : (d : HttpDate) (moment : ℕ) → unix_secs d ≡ moment → parts_at moment ≡ d.parts
unfolding parts_at
parts_are d moment e =
    let p = d.parts in
    let t = d.time in
    let days = days_are _ p.hour p.min p.sec moment t.0 t.1 t.2 e in
    let years = ap past_years days ∙ past_years_is p.year p.mon p.day d.civil in
    let year : 1970 + past_years (moment / 86400) ≡ p.year = omega (arith, years, d.civil.0) in
    let passed = ap days_of_years years in
    let rest : moment / 86400 - days_of_years (past_years (moment / 86400)) ≡ days_of_months p.year (p.mon - 1) + (p.day - 1) = omega (arith, passed, days) in
    let months : past_months (1970 + past_years (moment / 86400)) (moment / 86400 - days_of_years (past_years (moment / 86400))) ≡ p.mon - 1 =
    (λ i. past_months (year i) (rest i)) ∙ past_months_is p.year p.mon p.day d.civil in
    let before : days_of_months (1970 + past_years (moment / 86400)) (past_months (1970 + past_years (moment / 86400)) (moment / 86400 - days_of_years (past_years (moment / 86400)))) ≡ days_of_months p.year (p.mon - 1) =
    λ i. days_of_months (year i) (months i) in
    let month : past_months (1970 + past_years (moment / 86400)) (moment / 86400 - days_of_years (past_years (moment / 86400))) + 1 ≡ p.mon = omega (arith, months, d.civil.1) in
    let day : moment / 86400 - days_of_years (past_years (moment / 86400)) - days_of_months (1970 + past_years (moment / 86400)) (past_months (1970 + past_years (moment / 86400)) (moment / 86400 - days_of_years (past_years (moment / 86400)))) + 1 ≡ p.day =
    omega (arith, before, rest, d.civil.2) in
    let hour = hour_is _ p.hour p.min p.sec moment t.0 t.1 t.2 e in
    let minute = minute_is _ p.hour p.min p.sec moment t.0 t.1 t.2 e in
    let second = second_is _ p.hour p.min p.sec moment t.0 t.1 t.2 e in
    let wday = ap weekday days ∙ sym d.right_day in
    λ i. record { year = year i; mon = month i; day = day i; hour = hour i; min = minute i; sec = second i; wday = wday i }

pub http_date_is : (d : HttpDate) (moment : ℕ) → unix_secs d ≡ moment → date_text d ≡ http_date moment
unfolding http_date
http_date_is d moment e = ap imf_fixdate (sym (parts_are d moment e))
