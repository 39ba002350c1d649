-- What is 1 is passed over; else the flags of a block, or a part of it, are set.
use Rattle.format12_collect.proofs.BlocksLaws.{parts}
use Rattle.format12_collect.proofs.set_part.Goals as goal

pub returns-then-high-done : goal.returns-then-high-done
returns-then-high-done c = search parts

pub returns-then-i-done : goal.returns-then-i-done
returns-then-i-done c = search parts
