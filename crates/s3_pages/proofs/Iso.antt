-- The time of a body, read from the date of a header: both tell the same parts.
use Rattle.std.proofs.Common.{◌≡◌, ℕ, zero, suc, ◌≤◌, List, [], ◌∷◌, ◌++◌, slice_index, codes, refl, sym, ap, ◌∙◌, arith}
use Rattle.httpdate.specs.Date.{date_text, unix_secs}
use Rattle.httpdate.specs.Text.{day_name, month_name, two_digits, four_digits, time_of_day, imf_fixdate}
use Rattle.httpdate.specs.declared.date.HttpDate.{HttpDate}
use Rattle.httpdate.specs.declared.parts.Parts.{Parts}
use Rattle.s3_pages.specs.Date.{iso_text, iso_time, month_digits}
use Rattle.s3_pages.proofs.Dates.{parts_are}

-- three letters
abbrev Spells : List ℕ → ℕ → ℕ → ℕ → Type 0
Spells name a b c = name ≡ a ∷ b ∷ c ∷ []

day_letters : (n : ℕ) → 1 ≤ n → n ≤ 7 → (a : ℕ) × (b : ℕ) × (c : ℕ) × Spells (day_name n) a b c
day_letters zero low high = absurd (omega arith)
day_letters (suc zero) low high = (77, 111, 110, refl)
day_letters (suc (suc zero)) low high = (84, 117, 101, refl)
day_letters (suc (suc (suc zero))) low high = (87, 101, 100, refl)
day_letters (suc (suc (suc (suc zero)))) low high = (84, 104, 117, refl)
day_letters (suc (suc (suc (suc (suc zero))))) low high = (70, 114, 105, refl)
day_letters (suc (suc (suc (suc (suc (suc zero)))))) low high = (83, 97, 116, refl)
day_letters (suc (suc (suc (suc (suc (suc (suc zero))))))) low high = (83, 117, 110, refl)
day_letters (suc (suc (suc (suc (suc (suc (suc (suc n)))))))) low high = absurd (omega arith)

-- a month by its letters, which tell its number
pub record IsMonth (n : ℕ) : Type 0 where
  pub first : ℕ
  pub second : ℕ
  pub third : ℕ
  pub named : month_name n ≡ first ∷ second ∷ third ∷ []
  pub told : month_digits first second third ≡ two_digits n

month_letters : (n : ℕ) → 1 ≤ n → n ≤ 12 → IsMonth n
month_letters zero low high = absurd (omega arith)
month_letters (suc zero) low high = record { first = 74; second = 97; third = 110; named = refl; told = refl }
month_letters (suc (suc zero)) low high = record { first = 70; second = 101; third = 98; named = refl; told = refl }
month_letters (suc (suc (suc zero))) low high = record { first = 77; second = 97; third = 114; named = refl; told = refl }
month_letters (suc (suc (suc (suc zero)))) low high = record { first = 65; second = 112; third = 114; named = refl; told = refl }
month_letters (suc (suc (suc (suc (suc zero))))) low high = record { first = 77; second = 97; third = 121; named = refl; told = refl }
month_letters (suc (suc (suc (suc (suc (suc zero)))))) low high = record { first = 74; second = 117; third = 110; named = refl; told = refl }
month_letters (suc (suc (suc (suc (suc (suc (suc zero))))))) low high = record { first = 74; second = 117; third = 108; named = refl; told = refl }
month_letters (suc (suc (suc (suc (suc (suc (suc (suc zero)))))))) low high = record { first = 65; second = 117; third = 103; named = refl; told = refl }
month_letters (suc (suc (suc (suc (suc (suc (suc (suc (suc zero))))))))) low high = record { first = 83; second = 101; third = 112; named = refl; told = refl }
month_letters (suc (suc (suc (suc (suc (suc (suc (suc (suc (suc zero)))))))))) low high = record { first = 79; second = 99; third = 116; named = refl; told = refl }
month_letters (suc (suc (suc (suc (suc (suc (suc (suc (suc (suc (suc zero))))))))))) low high = record { first = 78; second = 111; third = 118; named = refl; told = refl }
month_letters (suc (suc (suc (suc (suc (suc (suc (suc (suc (suc (suc (suc zero)))))))))))) low high = record { first = 68; second = 101; third = 99; named = refl; told = refl }
month_letters (suc (suc (suc (suc (suc (suc (suc (suc (suc (suc (suc (suc (suc n))))))))))))) low high = absurd (omega arith)

-- what is read of a date's text t and of the digits m of its month
abbrev pub iso_from : List ℕ → List ℕ → List ℕ
iso_from t m =
    slice_index t 12 ∷ slice_index t 13 ∷ slice_index t 14 ∷ slice_index t 15 ∷ 45 ∷ slice_index m 0 ∷ slice_index m 1 ∷ 45 ∷ slice_index t 5 ∷ slice_index t 6
    ∷ 84 ∷ slice_index t 17 ∷ slice_index t 18 ∷ 58 ∷ slice_index t 20 ∷ slice_index t 21 ∷ 58 ∷ slice_index t 23 ∷ slice_index t 24 ∷ 46 ∷ 48 ∷ 48 ∷ 48 ∷ 90 ∷ []

abbrev pub month_in : List ℕ → List ℕ
month_in t = month_digits (slice_index t 8) (slice_index t 9) (slice_index t 10)

-- a date's text with these names of the day and the month
abbrev spelled : List ℕ → List ℕ → Parts → List ℕ
spelled day month p =
    day ++ codes ", " ++ two_digits p.day ++ codes " " ++ month ++ codes " " ++ four_digits p.year ++ codes " " ++ time_of_day p ++ codes " GMT"

read_back : (p : Parts) → 1 ≤ p.wday → p.wday ≤ 7 → 1 ≤ p.mon → p.mon ≤ 12 → iso_from (imf_fixdate p) (month_in (imf_fixdate p)) ≡ iso_text p
read_back p a b c d =
    let day = day_letters p.wday a b in
    let month = month_letters p.mon c d in
    let text : imf_fixdate p ≡ spelled (day.0 ∷ day.1 ∷ day.2 ∷ []) (month.first ∷ month.second ∷ month.third ∷ []) p = λ i. spelled (day.3 i) (month.named i) p in
    ap (λ t. iso_from t (month_in t)) text ∙ ap (iso_from (spelled (day.0 ∷ day.1 ∷ day.2 ∷ []) (month.first ∷ month.second ∷ month.third ∷ []) p)) month.told

pub iso_from_is : (d : HttpDate) (t : List ℕ) → t ≡ date_text d → iso_from t (month_in t) ≡ iso_text d.parts
iso_from_is d t e = ap (λ t. iso_from t (month_in t)) e ∙ read_back d.parts (omega (arith, d.right_day)) (omega (arith, d.right_day)) (omega (arith, d.civil)) (omega (arith, d.civil))

pub iso_time_is : (d : HttpDate) (moment : ℕ) → unix_secs d ≡ moment → iso_text d.parts ≡ iso_time moment
unfolding iso_time
iso_time_is d moment e = ap iso_text (sym (parts_are d moment e))
