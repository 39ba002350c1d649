-- Marking the ranges still to come gives what marking all of them gives, and that flags every covered point.
use borrow.Author.Rules.{rules}
use native.Mathlib.Omega.{arith}
use Rattle.format14.proofs.CoverLaws.{covering}
use Rattle.format14_default.proofs.cover_by.Goals as goal

pub loop-i-init : goal.loop-i-init
loop-i-init c = search covering

pub mark_range-near-requires-clause-flags : goal.mark_range-near-requires-clause-flags
mark_range-near-requires-clause-flags c = record { rising = c.requires.rises; beside = omega (arith, c.loop-i.invariant.same) }

pub loop-i-preserved : goal.loop-i-preserved
loop-i-preserved c = search (rules, covering)

pub returns : goal.returns
returns c = search covering
