-- Moments of the years 0 to 9998, in milliseconds since 1970, UTC.
use Rattle.std.specs.Prelude.{◌≡◌, ℤ, ◌≤ℤ◌, ◌<ℤ◌, ◌⊎◌, Option, None, Some}
use Rattle.mongo_sasl.specs.Years.{earliest, latest}
use Rattle.mongo_sasl.specs.declared.moment.Moment.{Moment}

abbrev pub milliseconds_of : Moment → ℤ
milliseconds_of moment = moment.ms

-- the moment of so many milliseconds, or none where they are outside these years
abbrev pub IsMoment : ℤ → Option Moment → Type 0
IsMoment ms None = (ms <ℤ earliest) ⊎ (latest <ℤ ms)
IsMoment ms (Some moment) = (earliest ≤ℤ ms) × (ms ≤ℤ latest) × (milliseconds_of moment ≡ ms)
