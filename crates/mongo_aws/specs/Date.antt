-- The date of a signature: the second of a moment, in UTC, in the basic format of ISO 8601.
use Rattle.std.specs.Prelude.{◌≡◌, ℕ, ◌+◌, ◌*◌, ◌/◌, ◌%◌, ◌<◌, ℤ, pos, ◌+ℤ◌, ◌*ℤ◌, ◌≤ℤ◌, ◌<ℤ◌, List, [], ◌∷◌, ◌++◌, codes, take, unsigned_abs}
use Rattle.jiff_core.specs.declared.civil.datetime.DateTime.{DateTime}
use Rattle.jiff_core.specs.Calendar.{days_from_civil, IsCivilDate}

-- a second of the proleptic Gregorian calendar
pub record CivilSecond : Type 0 where
  pub year : ℕ
  pub month : ℕ
  pub day : ℕ
  pub hour : ℕ
  pub minute : ℕ
  pub second : ℕ

-- the calendar has it
pub record IsCivilSecond (civil : CivilSecond) : Type 0 where
  pub date : IsCivilDate (pos civil.year) civil.month civil.day
  pub hour : civil.hour < 24
  pub minute : civil.minute < 60
  pub second : civil.second < 60

-- how many seconds after the beginning of 1970 it begins
abbrev pub seconds_of : CivilSecond → ℤ
seconds_of civil =
    days_from_civil (pos civil.year) civil.month civil.day *ℤ pos 86_400 +ℤ pos (civil.hour * 3600 + civil.minute * 60 + civil.second)

-- the moment, in milliseconds since 1970, is in it
pub record IsWithinSecond (moment : ℤ) (civil : CivilSecond) : Type 0 where
  pub is_civil : IsCivilSecond civil
  pub begun : (seconds_of civil *ℤ pos 1000) ≤ℤ moment
  pub lasts : moment <ℤ (seconds_of civil *ℤ pos 1000 +ℤ pos 1000)

-- the last decimal digit of a number
abbrev pub digit : ℕ → ℕ
digit n = 48 + n % 10

abbrev pub two_digits : ℕ → List ℕ
two_digits n = digit (n / 10) ∷ digit n ∷ []

abbrev pub four_digits : ℕ → List ℕ
four_digits n = digit (n / 1000) ∷ digit (n / 100) ∷ digit (n / 10) ∷ digit n ∷ []

-- `YYYYMMDD`
abbrev pub day_text : CivilSecond → List ℕ
day_text civil = four_digits civil.year ++ two_digits civil.month ++ two_digits civil.day

-- `YYYYMMDDTHHMMSSZ`
abbrev pub date_text : CivilSecond → List ℕ
date_text civil = day_text civil ++ codes "T" ++ two_digits civil.hour ++ two_digits civil.minute ++ two_digits civil.second ++ codes "Z"

-- the text is the date of the moment; of a part of a second nothing is written
pub record IsDateOf (moment : ℤ) (date : List ℕ) : Type 0 where
  pub civil : CivilSecond
  pub within : IsWithinSecond moment civil
  pub text : date ≡ date_text civil

-- what a clock shows, to the second
abbrev pub civil_of : DateTime → CivilSecond
civil_of shown = record {
  year = unsigned_abs shown.date.year;
  month = shown.date.month;
  day = shown.date.day;
  hour = shown.time.hour;
  minute = shown.time.minute;
  second = shown.time.second;
}

-- the day of a date: its first eight characters
abbrev pub day_of : List ℕ → List ℕ
day_of date = take 8 date
