-- The bound on k is that of the record's eight bytes, divided so that nothing wraps.
use Rattle.source_header.specs.Header.{entry_at}
use Rattle.source_header.proofs.HeaderLaws.{gives_record}
use Rattle.laws.proofs.ChoiceLaws.{if_lt_lem}
use mathlib.Core.Path.{refl}
use native.Mathlib.Omega.{arith}
use borrow.Author.Rules.{rules}
use Rattle.source_header.proofs.record_at.Goals as goal

pub returns-then-n-lt12 : goal.returns-then-n-lt12
unfolding entry_at
returns-then-n-lt12 c = if_lt_lem _ _ _ _ (omega arith) refl

pub returns : goal.returns
returns c = gives_record _ _ _ _ _ (omega arith) (search rules) (search rules) (search rules)
