use Rattle.cmap_refusals.proofs.RefusingLaws.{by_header}
use Rattle.cmap_refusals.proofs.source_refusal.Goals as goal

pub format_refusal-requires : goal.format_refusal-requires
format_refusal-requires c = search by_header

pub returns-in-None : goal.returns-in-None
returns-in-None c = search by_header

pub returns-in-Some : goal.returns-in-Some
returns-in-Some c = search by_header
