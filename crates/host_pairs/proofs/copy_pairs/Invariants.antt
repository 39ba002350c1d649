-- The first places hold what the pairs before i have; the others what they held.
use Rattle.std.proofs.Common.{◌≡◌}
use Rattle.host_pairs.specs.Pairs.{codes_of, glyphs_of}
use Rattle.host_pairs.proofs.LaidLaws.{upto}
use Rattle.host_pairs.proofs.copy_pairs.Given as goal

abbrev pub invariant-loop-i : goal.invariant-loop-i
invariant-loop-i l = record {
  codes_copied : l.codes ≡ upto l.i (codes_of l.pairs) l.initial.codes;
  glyphs_copied : l.glyphs ≡ upto l.i (glyphs_of l.pairs) l.initial.glyphs;
}
