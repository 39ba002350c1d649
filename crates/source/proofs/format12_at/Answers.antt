-- Each test that holds refutes the facts of a readable subtable; where none does they all hold.
use Rattle.source.proofs.KindLaws.{unreadable, gives12}
use native.Mathlib.Omega.{arith}
use Rattle.source.proofs.format12_at.Goals as goal

pub returns-then-room-lt16 : goal.returns-then-room-lt16
returns-then-room-lt16 c = unreadable _ _ (λ g. omega arith) (λ g. omega arith) (λ g. omega arith)

pub returns-then-length-groups : goal.returns-then-length-groups
returns-then-length-groups c = unreadable _ _ (λ g. omega arith) (λ g. omega arith) (λ g. omega arith)

pub returns : goal.returns
returns c = gives12 _ _ (omega arith)
