-- Tables are equal exactly where their records are.
use Rattle.format14_same.proofs.RowLaws.{row_of, same_new}
use Rattle.format14_same.proofs.same_non_default.Goals as goal

pub same_rows-requires-clause-mappings_lent : goal.same_rows-requires-clause-mappings_lent
same_rows-requires-clause-mappings_lent c = search row_of

pub same_rows-requires-clause-mappings_lent_2 : goal.same_rows-requires-clause-mappings_lent_2
same_rows-requires-clause-mappings_lent_2 c = search row_of

pub returns : goal.returns
returns c = search same_new
