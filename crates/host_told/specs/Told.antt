-- Answers as a host gets them: each enum told in numbers (docs/RULES.md, "Numbers of refusal" and "Records").
use Rattle.std.specs.Prelude.{ℕ, Result}
use Rattle.cmap_promise.specs.declared.Fate.{Fate}
use Rattle.cmap_promise.specs.declared.FateKind.{FateKind}
use Rattle.cmap_promise.specs.declared.FateKind.TheVariants.{NotRetained, Skipped, Empty, TooLong, Covered, WrittenAt, Refused, NoSuchRecord}
use Rattle.cmap_promise.specs.Cmap.{Answer, number_of, length_of, records_of}
use Rattle.cmap_promise.specs.Fates.{fate_number_of}
use Rattle.heads.specs.declared.HeadRefusal.{HeadRefusal}
use Rattle.heads.specs.Heads.{head_number_of, printed_of}
use Rattle.host_told.specs.declared.SubsetAnswer.{SubsetAnswer}
use Rattle.host_told.specs.declared.FateAnswer.{FateAnswer}
use Rattle.host_told.specs.declared.HeadAnswer.{HeadAnswer}

abbrev pub told : Answer → SubsetAnswer
told a = record { number = number_of a; length = length_of a; records = records_of a }

abbrev pub kind_number : FateKind → ℕ
kind_number NotRetained = 0
kind_number Skipped = 1
kind_number Empty = 2
kind_number TooLong = 3
kind_number Covered = 4
kind_number (WrittenAt offset) = 5
kind_number NoSuchRecord = 6
kind_number (Refused refusal) = 7

-- where a written record's table stands in the result; 0 of any other
abbrev pub written_at : FateKind → ℕ
written_at (WrittenAt offset) = offset
written_at _ = 0

abbrev pub told_fate : Fate → FateAnswer
told_fate f = record { number = fate_number_of f.kind; platform = f.platform; encoding = f.encoding; kind = kind_number f.kind; offset = written_at f.kind }

abbrev pub told_head : Result ℕ HeadRefusal → HeadAnswer
told_head a = record { number = head_number_of a; glyph = printed_of a }
