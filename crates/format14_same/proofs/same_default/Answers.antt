-- Tables are equal exactly where their records are, and the flags give those.
use Rattle.format14_same.proofs.StreamsLaws.{flagging_of, same_new}
use Rattle.format14_same.proofs.same_default.Goals as goal

pub same_ranges-requires : goal.same_ranges-requires
same_ranges-requires c = let first = c.prepare-most.ensures in
    let second = c.prepare-limit.ensures in
    let pre = c.requires in record {
      flagging = flagging_of _ _ pre.code_points _ _ _ _ pre.default_lent first.flags_after first.value;
      flagging_2 = flagging_of _ _ pre.code_points _ _ _ _ pre.default_lent_2 second.flags_after second.value;
    }

pub returns : goal.returns
returns c = let first = c.prepare-most.ensures in
    let second = c.prepare-limit.ensures in
    let pre = c.requires in record {
      value = same_new _ _ _ _ _ _ _ _ _ _ _ pre.default_lent first.value first.flags_after pre.default_lent_2 second.value second.flags_after c.same_ranges.ensures;
      first_after = first.flags_after;
      second_after = second.flags_after;
    }
