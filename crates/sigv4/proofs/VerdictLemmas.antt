-- What the tests of a verdict give to those behind them.
use Rattle.std.proofs.Common.{◌≡◌, ℕ, Bool, true, false, ◌&&◌, List, length, take, nat_eq, nat_lt, slice_index, codes, bytes_eq}
use Rattle.std.specs.Prelude.{slice_range}
use Rattle.std.specs.List.{list_all}
use Rattle.std.proofs.lemmas.Bool.{and_parts, eqb-true, not-false}
use Rattle.gate_base.specs.Ascii.{is_digit}
use Rattle.gate_base.specs.declared.page.Pair.{Pair}
use Rattle.http_wire.specs.Headers.{has_single_header}
use Rattle.sigv4.specs.Moment.{two_digits, year_of, is_day, is_time}
use Rattle.sigv4.specs.Sign.{is_date_time, date_of}
use Rattle.sigv4.specs.Verdict.{time_of, lacks_date}
use Rattle.sigv4.specs.declared.authorization.Authorization.{Authorization}

first_of_five : (a b c d e : Bool) → (a && b && c && d && e) ≡ true → (a ≡ true) × (b ≡ true)
first_of_five a b c d e h = and_parts a b (and_parts (a && b) c (and_parts (a && b && c) d (and_parts (a && b && c && d) e h).0).0).0

time_parts : (time : List ℕ) → is_time time ≡ true → (is_date_time time ≡ true) × (is_day (year_of time) (two_digits time 4) (two_digits time 6) ≡ true)
time_parts time h =
    first_of_five (is_date_time time) (is_day (year_of time) (two_digits time 4) (two_digits time 6)) (nat_lt (two_digits time 9) 24) (nat_lt (two_digits time 11) 60) (nat_lt (two_digits time 13) 60) h

pub time_has_form : (time : List ℕ) → is_time time ≡ true → is_date_time time ≡ true
time_has_form time h = (time_parts time h).0

-- the first of the five parts of the form
pub time_has_length : (time : List ℕ) → is_time time ≡ true → length time ≡ 16
time_has_length time h =
    let form = (first_of_five (nat_eq (length time) 16) (list_all is_digit (take 8 time)) (nat_eq (slice_index time 8) 84) (list_all is_digit (slice_range time 9 15)) (nat_eq (slice_index time 15) 90) (time_has_form time h)).0 in
    eqb-true (length time) 16 form

pub time_has_day : (time : List ℕ) (year month day : ℕ) → is_time time ≡ true → year ≡ year_of time → month ≡ two_digits time 4 → day ≡ two_digits time 6 → is_day year month day ≡ true
time_has_day time year month day h a b c = rw (a, b, c) (time_parts time h).1

-- a request that doesn't lack its date has a time
pub dated : (claim : Authorization) (headers : List Pair) → lacks_date claim headers ≡ false → is_time (time_of headers) ≡ true
dated claim headers h =
    let one : Bool = has_single_header (codes "x-amz-date") headers in
    let day : Bool = bytes_eq (date_of (time_of headers)) claim.date in
    (and_parts one (is_time (time_of headers)) (and_parts (one && is_time (time_of headers)) day (not-false _ h)).0).1
