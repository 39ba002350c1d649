-- Each test that fails refutes the facts of a record that stands; where none does they all hold.
use native.Mathlib.Omega.{arith}
use Rattle.job_input.proofs.JobLaws.{broken, broken_entries, whole_entries}
use Rattle.job_input.proofs.field_at.Goals as goal
use Rattle.job_input.proofs.field_at.Goals.{
  then-n-lt6-via-then-n-lt6,
  then-n-lt6-via-else-n-lt6+then-n-at,
  then-n-lt6-via-else-n-lt6+else-n-at+then-u16_at-mark,
  then-n-at-2-via-then-n-at-2,
  then-n-at-2-via-else-n-at-2+then-not-is_within,
}

pub returns-then-n-lt6 : goal.returns-then-n-lt6
returns-then-n-lt6 c =
    broken _ _ _ _ _
    (λ g. elim c.then-n-lt6.branch [
      | then-n-lt6-via-then-n-lt6 w ↦ omega arith
      | then-n-lt6-via-else-n-lt6+then-n-at w ↦ omega arith
      | then-n-lt6-via-else-n-lt6+else-n-at+then-u16_at-mark w ↦ omega arith
    ])

pub returns-then-n-at-2 : goal.returns-then-n-at-2
returns-then-n-at-2 c =
    elim c.then-n-at-2.branch [
      | then-n-at-2-via-then-n-at-2 w ↦ broken _ _ _ _ _ (λ g. omega arith)
      | then-n-at-2-via-else-n-at-2+then-not-is_within w ↦ search broken_entries
    ]

pub returns : goal.returns
returns c = whole_entries _ _ _ _ _ _ _ c.u32_at-size.ensures c.is_within.ensures (omega arith) (omega arith) (omega arith) c.if-not-is_within.false
