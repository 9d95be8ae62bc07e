-- The time that a request was signed for: `YYYYMMDDTHHMMSSZ`, in UTC (Amazon S3 API Reference, "Authenticating requests:
-- using the Authorization header"). The calendar is the Gregorian one.
use Rattle.std.specs.Prelude.{ℕ, ◌+◌, ◌-◌, ◌*◌, Bool, ◌&&◌, ◌||◌, nat_lt, nat_le, List, slice_index, pos, unsigned_abs}
use Rattle.jiff_core.specs.Calendar.{days_in_month, days_from_civil}
use Rattle.sigv4.specs.Sign.{is_date_time}

-- the number of the two digits at an index
abbrev pub two_digits : List ℕ → ℕ → ℕ
two_digits text at = (slice_index text at - 48) * 10 + (slice_index text (at + 1) - 48)

abbrev pub year_of : List ℕ → ℕ
year_of text = two_digits text 0 * 100 + two_digits text 2

abbrev pub is_year : ℕ → Bool
is_year year = nat_le 1970 year && nat_le year 9999

abbrev pub is_month : ℕ → Bool
is_month month = nat_le 1 month && nat_le month 12

-- a day of the calendar, of the years 1970 to 9999
abbrev pub is_day : ℕ → ℕ → ℕ → Bool
is_day year month day = is_year year && is_month month && nat_le 1 day && nat_le day (days_in_month (pos year) month)

-- a time of the form whose day is in the calendar, before 24:00:00
abbrev pub is_time : List ℕ → Bool
is_time text =
    is_date_time text && is_day (year_of text) (two_digits text 4) (two_digits text 6) && nat_lt (two_digits text 9) 24
    && nat_lt (two_digits text 11) 60 && nat_lt (two_digits text 13) 60

-- the days between the first of January 1970 and a day
abbrev pub signing_day_number : ℕ → ℕ → ℕ → ℕ
signing_day_number year month day = unsigned_abs (days_from_civil (pos year) month day)

-- the seconds between the beginning of 1970 and a time, no leap second counted
abbrev pub signing_time_seconds : List ℕ → ℕ
signing_time_seconds time =
    signing_day_number (year_of time) (two_digits time 4) (two_digits time 6) * 86400 + two_digits time 9 * 3600
    + two_digits time 11 * 60 + two_digits time 13

-- the time lies more than 900 seconds before or after the moment
abbrev pub is_skewed : List ℕ → ℕ → Bool
is_skewed time moment = nat_lt 900 (signing_time_seconds time - moment) || nat_lt 900 (moment - signing_time_seconds time)
