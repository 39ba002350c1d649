-- The case by computation: the job is accepted, its result is the source's bytes, and both heads answer.
use Rattle.std.specs.Prelude.{Ok}
use Prim.Native.Nat.{◌<◌}
use mathlib.Core.Path.{◌≡◌, refl, ap, ◌∙◌}
use mathlib.Core.List.{[], ◌∷◌}
use native.Mathlib.Omega.{arith}
use lib.ListN.{length, get_or, get_or-eq_default}
use Rattle.laws.specs.Choice.{if_lt, if_le, if_eq}
use Rattle.laws.specs.Search.{first, some}
use Rattle.laws.specs.Select.{each, select, any_of, flat}
use Rattle.laws.specs.Pieces.{pieces, concat}
use Rattle.laws.proofs.ChoiceLaws.{by_leb}
use Rattle.number.specs.BigEndian.{be, enc, Bytes}
use Rattle.number.specs.Row.{encs}
use Rattle.source_header.specs.Header.{refused5}
use Rattle.source.specs.Kind.{kind_at}
use Rattle.source_records.specs.Records.{leads_to, bmp_pair, full_pair, retained, some_retained}
use Rattle.lists_marks.specs.Marks.{below, holds}
use Rattle.lists_checks.specs.Checks.{bad_sizes}
use Rattle.lists_order.specs.Order.{falls, exceeds, lacks, reaches_count}
use Rattle.lists_order.proofs.OrderLaws.{at_most}
use Rattle.format4_mapped.specs.Mapped4.{entry4, says4, last_says, maps4}
use Rattle.plan_listing.specs.Listing.{maps, listed}
use Rattle.plan.specs.Covered.{covered, sibling_covers}
use Rattle.format4_cutting.specs.Cutting.{commit_run, cut_runs, cuts, segments, glyph_array}
use Rattle.format4_cutting.specs.Steps.{array_from}
use Rattle.format4.specs.Format4.{offsets_from, floor_log2, header4, format4}
use Rattle.format4.specs.Size.{size_of4}
use Rattle.plan.specs.declared.Outcome.TheVariants.{Made}
use Rattle.plan.specs.Outcomes.{serves, server}
use Rattle.plan.specs.Fresh.{table_of, fresh}
use Rattle.plan.specs.Plan.{retained_outcome, outcome_of, outcomes, plan, refused8, refused9}
use Rattle.result.specs.Refusal.{refusal_of}
use Rattle.result.specs.Result.{count_from, tables_from, new_offset, records_from, result_of}
use Rattle.heads_lookup.specs.Lookup.{in_array, in_segment, find4, lookup4}
use Rattle.heads.specs.Heads.{old_of, new_of, by_records, old_head, new_head}
use Rattle.cmap_answers.specs.Case.{bytes, case_job}

plan_case : plan case_job ≡ Made 32 ∷ []
unfolding if_lt if_le if_eq first some each select any_of pieces concat be enc encs kind_at leads_to bmp_pair full_pair retained entry4 says4 last_says maps4 maps listed covered sibling_covers commit_run cut_runs cuts segments glyph_array array_from offsets_from size_of4 fresh serves server retained_outcome outcome_of outcomes plan
plan_case = refl

-- its premises hold, so the theorem is not empty
pub bytes_case : Bytes case_job.source
unfolding exceeds any_of
bytes_case i =
    by_leb (get_or bytes i 0 < 256) (length bytes) i
    (λ h. rw (get_or-eq_default bytes 0 {n = i} h) (omega arith))
    (λ h. omega (arith, at_most 255 bytes refl i h))

pub accepted_case : refusal_of case_job ≡ 0
unfolding if_lt if_le if_eq first some any_of be refused5 kind_at leads_to bmp_pair full_pair retained some_retained below holds bad_sizes falls exceeds lacks reaches_count refused8 refused9 refusal_of
accepted_case = rw plan_case

written_case : result_of case_job (Made 32 ∷ []) ≡ bytes
unfolding if_lt if_le if_eq first some each select any_of flat pieces concat be enc encs kind_at leads_to entry4 says4 last_says maps4 maps listed commit_run cut_runs cuts segments glyph_array array_from offsets_from floor_log2 header4 format4 table_of count_from tables_from new_offset records_from result_of
written_case = refl

pub result_case : result_of case_job (plan case_job) ≡ bytes
result_case = ap (result_of case_job) plan_case ∙ written_case

pub old_case : old_head (result_of case_job (plan case_job)) 0x41 ≡ Ok 1
unfolding if_lt if_le if_eq first be refused5 kind_at leads_to in_array in_segment find4 lookup4 old_of by_records
old_case = rw result_case

pub new_case : new_head (result_of case_job (plan case_job)) 0x41 ≡ Ok 1
unfolding if_lt if_le if_eq first be refused5 kind_at leads_to in_array in_segment find4 lookup4 old_of new_of by_records
new_case = rw result_case
