-- Every case holds, by computation.
use mathlib.Core.Path.{◌≡◌, refl}
use mathlib.Core.Bool.{true}
use Rattle.laws.specs.Choice.{if_lt, if_eq}
use Rattle.laws.specs.Search.{first}
use Rattle.laws.specs.Select.{eq_list}
use Rattle.number.specs.BigEndian.{be, enc}
use Rattle.number.specs.Row.{encs}
use Rattle.format4_mapped.specs.Mapped4.{entry4, says4, last_says, maps4}
use Rattle.format4_mapped.specs.Cases.{mapped4_cases, mapped4_good}

pub cases-good : mapped4_good mapped4_cases ≡ true
unfolding maps4 says4 entry4 last_says first be encs enc eq_list if_lt if_eq
cases-good = refl
