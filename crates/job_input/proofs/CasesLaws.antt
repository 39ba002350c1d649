-- The cases, computed.
use mathlib.Core.Path.{◌≡◌, refl}
use mathlib.Core.List.{map}
use Rattle.laws.specs.Choice.{if_eq}
use Rattle.number.specs.BigEndian.{be}
use Rattle.job_input.specs.Column.{column}
use Rattle.job_input.specs.Job.{parse, within, stands, field_at, located}
use Rattle.job_input.specs.Cases.{job_cases}

pub cases-good : map (λ c. parse c.bytes) job_cases ≡ map (λ c. c.parsed) job_cases
unfolding located field_at stands within if_eq be column
cases-good = refl
