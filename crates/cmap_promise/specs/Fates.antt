-- What became of a record, as the call for fates tells it (docs/RULES.md, "Records").
use Rattle.std.specs.Prelude.{ℕ, List, ltb, eqb}
use Rattle.laws.specs.Choice.{pick}
use Rattle.source_header.specs.Header.{record_count, platform_of, encoding_of}
use Rattle.plan_listing.specs.Job.{Job}
use Rattle.plan.specs.declared.Outcome.{Outcome}
use Rattle.plan.specs.declared.Why.{Why}
use Rattle.plan.specs.declared.Why.TheVariants.{NotRetained, Skipped, Empty, TooLong, Covered}
use Rattle.plan.specs.declared.Outcome.TheVariants.{LeftOut, BadMapping, Served, Made}
use Rattle.plan.specs.Plan.{plan}
use Rattle.result.specs.Result.{new_offset}
use Rattle.plan.specs.Outcomes.{at}
use Rattle.result.specs.declared.Refusal.TheVariants.{NamesMissing}
use Rattle.result.specs.Refusal.{refusal_number, refusal_numbered, refusal_of}
use Rattle.cmap_promise.specs.declared.Fate.{Fate}
use Rattle.cmap_promise.specs.declared.FateKind.{FateKind}
use Rattle.cmap_promise.specs.declared.FateKind.TheVariants.{NotRetained as FateNotRetained, Skipped as FateSkipped, Empty as FateEmpty, TooLong as FateTooLong, Covered as FateCovered, WrittenAt, Refused, NoSuchRecord}

abbrev pub left_out_as : Why → FateKind
left_out_as NotRetained = FateNotRetained
left_out_as Skipped = FateSkipped
left_out_as Empty = FateEmpty
left_out_as TooLong = FateTooLong
left_out_as Covered = FateCovered

-- where each record's table stands at an offset: a written record leads to its own table or to the one that serves it; a bad mapping is
-- refused before any fate is told
abbrev pub kind_of : (ℕ → ℕ) → Outcome → ℕ → FateKind
kind_of offset (LeftOut why) k = left_out_as why
kind_of offset BadMapping k = Refused NamesMissing
kind_of offset (Served by) k = WrittenAt (offset by)
kind_of offset (Made size) k = WrittenAt (offset k)

-- record k's own, by the source and the plan
abbrev pub record_fate : (ℕ → ℕ) → List ℕ → List Outcome → ℕ → Fate
record_fate offset xs os k = record { platform = platform_of xs k; encoding = encoding_of xs k; kind = kind_of offset (at os k) k }

-- a refusal and "no such record" come with 0 and 0
abbrev pub no_fate : FateKind → Fate
no_fate kind = record { platform = 0; encoding = 0; kind = kind }

-- after checks 1 to 9; none for a number at or past the count
unfoldable pub fate_of : Job → ℕ → Fate
fate_of j k =
    pick (eqb (refusal_of j) 0)
    (pick (ltb k (record_count j.source)) (record_fate (new_offset j (plan j)) j.source (plan j) k) (no_fate NoSuchRecord))
    (no_fate (Refused (refusal_numbered (refusal_of j))))

-- the number of the answer: 0 but for a refusal
abbrev pub fate_number_of : FateKind → ℕ
fate_number_of FateNotRetained = 0
fate_number_of FateSkipped = 0
fate_number_of FateEmpty = 0
fate_number_of FateTooLong = 0
fate_number_of FateCovered = 0
fate_number_of (WrittenAt offset) = 0
fate_number_of (Refused refusal) = refusal_number refusal
fate_number_of NoSuchRecord = 0
