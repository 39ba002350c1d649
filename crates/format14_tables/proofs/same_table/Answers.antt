-- Tables of one sort are compared as such; those of two sorts differ.
use Rattle.format14.proofs.ByNumberLaws.{sames, one_default, other_default, one_non_default, other_non_default}
use borrow.Author.Rules.{rules}
use Rattle.format14_tables.proofs.same_table.Goals as goal

pub returns-then-i-j : goal.returns-then-i-j
returns-then-i-j c = search sames

pub same_default-requires : goal.same_default-requires
same_default-requires c = let asked = c.requires in
    let first = c.source_table-p.ensures in
    let second = c.source_table-q.ensures in
    let sort = c.if-i-j.false in
    let even = c.if-i-eq0.true in record {
      default_lent = one_default _ _ _ _ _ c.args.job.now.readable asked.both_there first second _ asked.numbered even;
      default_lent_2 = other_default _ _ _ _ _ c.args.job.now.readable asked.both_there first second _ asked.numbered_2 sort even;
      code_points = search rules;
    }

pub returns-then-p-q : goal.returns-then-p-q
returns-then-p-q c = search sames

pub same_non_default-requires : goal.same_non_default-requires
same_non_default-requires c = let asked = c.requires in
    let first = c.source_table-p.ensures in
    let second = c.source_table-q.ensures in
    let sort = c.if-i-j.false in record {
      non_default_lent = one_non_default _ _ _ _ _ c.args.job.now.readable asked.both_there first second c.if-i-eq0.false;
      non_default_lent_2 = other_non_default _ _ _ _ _ c.args.job.now.readable asked.both_there first second sort c.if-i-eq0.false;
    }

pub returns-then-i-eq0 : goal.returns-then-i-eq0
returns-then-i-eq0 c = search sames

pub returns : goal.returns
returns c = search sames
