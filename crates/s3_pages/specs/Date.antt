-- A moment, in seconds since the beginning of 1970, as a date. Source: RFC 9110, section 5.6.7, ISO 8601, and the Gregorian
-- calendar as the crate `httpdate` counts it.
use Rattle.std.specs.Prelude.{ℕ, zero, suc, ◌+◌, ◌-◌, ◌/◌, ◌%◌, ◌==◌, nat_le, if◌then◌else◌, List, ◌++◌, codes}
use Rattle.httpdate.specs.Calendar.{days_of_years, days_of_months, weekday}
use Rattle.httpdate.specs.Text.{imf_fixdate, four_digits, two_digits, time_of_day}
use Rattle.httpdate.specs.declared.parts.Parts.{Parts}

-- how many of f 1 to f n are at most x
unfoldable pub count_within : (ℕ → ℕ) → ℕ → ℕ → ℕ
count_within f zero x = 0
count_within f (suc n) x = count_within f n x + (if nat_le (f (suc n)) x then 1 else 0)

-- how many whole years, of those from 1970 to 9998, are past after so many days
abbrev pub past_years : ℕ → ℕ
past_years days = count_within days_of_years 8029 days

-- how many whole months of the year are past after so many days of it
abbrev pub past_months : ℕ → ℕ → ℕ
past_months year days = count_within (days_of_months year) 11 days

-- the date of a moment before the year 10000: the year, month and day by what is past, and the time of the day
unfoldable pub parts_at : ℕ → Parts
parts_at moment =
    let days = moment / 86400 in
    let year = 1970 + past_years days in
    let rest = days - days_of_years (past_years days) in
    let month = past_months year rest in
    record {
      year = year;
      mon = month + 1;
      day = rest - days_of_months year month + 1;
      hour = moment % 86400 / 3600;
      min = moment % 3600 / 60;
      sec = moment % 60;
      wday = weekday days;
    }

-- as an IMF-fixdate
unfoldable pub http_date : ℕ → List ℕ
http_date moment = imf_fixdate (parts_at moment)

-- `1994-11-06T08:49:37.000Z`
abbrev pub iso_text : Parts → List ℕ
iso_text p = four_digits p.year ++ codes "-" ++ two_digits p.mon ++ codes "-" ++ two_digits p.day ++ codes "T" ++ time_of_day p ++ codes ".000Z"

-- in the extended form of ISO 8601 with milliseconds, as the bodies of S3 have it
unfoldable pub iso_time : ℕ → List ℕ
iso_time moment = iso_text (parts_at moment)

-- the number of a month in two digits, by the letters of its name in an IMF-fixdate
abbrev pub month_digits : ℕ → ℕ → ℕ → List ℕ
month_digits first second third =
    if first == 74 then (if second == 97 then codes "01" else if third == 110 then codes "06" else codes "07")
    else if first == 70 then codes "02"
    else if first == 77 then (if third == 114 then codes "03" else codes "05")
    else if first == 65 then (if second == 112 then codes "04" else codes "08")
    else if first == 83 then codes "09"
    else if first == 79 then codes "10"
    else if first == 78 then codes "11"
    else codes "12"
