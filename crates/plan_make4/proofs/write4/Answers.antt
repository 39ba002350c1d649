use Rattle.plan_make4.proofs.Making4Laws.{made4, not_unfit}
use Rattle.plan_make4.proofs.write4.Goals as goal

pub format4_size-requires : goal.format4_size-requires
format4_size-requires c = search made4

pub write_format4-requires-clause-columns16 : goal.write_format4-requires-clause-columns16
write_format4-requires-clause-columns16 c = search made4

pub write_format4-requires-clause-room : goal.write_format4-requires-clause-room
write_format4-requires-clause-room c = search made4

pub returns-in-Fits : goal.returns-in-Fits
returns-in-Fits c = search made4

pub returns-in_default : goal.returns-in_default
returns-in_default c = not_unfit _ _ _ c.lend_noted_pairs-listed.ensures _ _ c.requires.fits4 _ c.format4_size.ensures c.in_default.not-Fits _ _
