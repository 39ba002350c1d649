-- Each test that holds refutes the facts of a readable subtable; where none does they all hold.
use Rattle.source.proofs.KindLaws.{unreadable, gives14}
use native.Mathlib.Omega.{arith}
use Rattle.source.proofs.format14_at.Goals as goal

pub returns-then-room-lt10 : goal.returns-then-room-lt10
returns-then-room-lt10 c = unreadable _ _ (λ g. omega arith) (λ g. omega arith) (λ g. omega arith)

pub returns-then-records-gt-SELECTORS_MAX : goal.returns-then-records-gt-SELECTORS_MAX
returns-then-records-gt-SELECTORS_MAX c = unreadable _ _ (λ g. omega arith) (λ g. omega arith) (λ g. omega arith)

pub returns-then-length-records : goal.returns-then-length-records
returns-then-length-records c = unreadable _ _ (λ g. omega arith) (λ g. omega arith) (λ g. omega arith)

pub returns : goal.returns
returns c = gives14 _ _ (omega arith)
