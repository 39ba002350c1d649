-- The format read decides which function tells the rest; another format is no readable one.
use Rattle.source.proofs.KindLaws.{unreadable}
use native.Mathlib.Omega.{arith}
use Rattle.source.proofs.kind_at.Goals as goal

pub returns-then-bytes_from-lt2 : goal.returns-then-bytes_from-lt2
returns-then-bytes_from-lt2 c = unreadable _ _ (λ g. omega arith) (λ g. omega arith) (λ g. omega arith)

pub returns-in_default : goal.returns-in_default
returns-in_default c = unreadable _ _ (λ g. omega arith) (λ g. omega arith) (λ g. omega arith)
