use Rattle.cmap.proofs.FateLaws.{fate_early, fate_passing}
use Rattle.cmap.proofs.fate_of.Goals as goal

pub returns-in-Err : goal.returns-in-Err
returns-in-Err c = search fate_early

pub tell-requires : goal.tell-requires
tell-requires c = fate_passing _ c.early_refusal.result c.early_refusal.ensures c.in_default.not-Err
