-- Each test that holds refutes the facts of an accepted header; where none does they all hold.
use Rattle.source_header.proofs.HeaderLaws.{gives_refused, gives_records}
use native.Mathlib.Omega.{arith}
use Rattle.source_header.proofs.header_of.Goals as goal

pub returns-then-n-lt4 : goal.returns-then-n-lt4
returns-then-n-lt4 c = gives_refused _ (λ g. omega arith)

pub returns-then-version-ne0 : goal.returns-then-version-ne0
returns-then-version-ne0 c = gives_refused _ (λ g. grind arith)

pub returns : goal.returns
returns c = gives_records _ (omega arith)
