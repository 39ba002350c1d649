-- Counting what the first pair of each run commits, and then what is left and the closing segment, counts the whole cut.
use Rattle.format4.proofs.CountLaws.{counting_start, counting_on, ending_below, counting_end}
use Rattle.format4_size.proofs.find_segcount.Goals as goal

pub loop-i-init : goal.loop-i-init
loop-i-init c = counting_start _ _ _ _ c.new-state.ensures c.new-n.ensures

pub overflow_cast-codes : goal.overflow_cast-codes
overflow_cast-codes c = record { fits = c.requires.low _ }

pub overflow_cast-codes-in-loop-i : goal.overflow_cast-codes-in-loop-i
overflow_cast-codes-in-loop-i c = record { fits = c.requires.low _ }

pub loop-i-preserved : goal.loop-i-preserved
loop-i-preserved c = search counting_on

pub close-requires : goal.close-requires
close-requires c = search ending_below

pub returns : goal.returns
returns c = search counting_end
