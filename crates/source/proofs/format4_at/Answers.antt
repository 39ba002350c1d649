-- Each test that holds refutes the facts of a readable subtable; where none does they all hold.
use Rattle.source.proofs.KindLaws.{unreadable, gives4}
use native.Mathlib.Omega.{arith}
use Rattle.source.proofs.format4_at.Goals as goal

pub returns-then-room-lt16 : goal.returns-then-room-lt16
returns-then-room-lt16 c = unreadable _ _ (λ g. omega arith) (λ g. omega arith) (λ g. omega arith)

pub returns-then-twice-ne0 : goal.returns-then-twice-ne0
returns-then-twice-ne0 c = unreadable _ _ (λ g. omega arith) (λ g. omega arith) (λ g. omega arith)

pub returns-then-length-segments : goal.returns-then-length-segments
returns-then-length-segments c = unreadable _ _ (λ g. omega arith) (λ g. omega arith) (λ g. omega arith)

pub returns : goal.returns
returns c = gives4 _ _ (omega arith)
