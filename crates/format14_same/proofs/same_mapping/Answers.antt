-- Numbers that fit their bytes are equal exactly where the bytes are.
use Rattle.format14_same.proofs.RowLaws.{same_rules}
use Rattle.format14_same.proofs.same_mapping.Goals as goal

pub returns-then-u24_at : goal.returns-then-u24_at
returns-then-u24_at c = search same_rules

pub returns : goal.returns
returns c = search same_rules
