-- What stands at an offset: a readable subtable of format 4, 12 or 14 with its language, count and length, or nothing readable
-- (docs/RULES.md, "Records"). Sums are exact. A field past the end makes a subtable unreadable: the length, which holds the header,
-- would then reach past the end too.
use Rattle.std.specs.Prelude.{ℕ, ◌+◌, ◌*◌, ◌/◌, ◌%◌, List, Bool, length, leb, eqb}
use Rattle.laws.specs.Choice.{pick, both}
use Rattle.number.specs.BigEndian.{be}
use Rattle.number.specs.Limits.{selectors_max}
use Rattle.source.specs.declared.Kind.{Kind}
use Rattle.source.specs.declared.Kind.TheVariants.{Format4, Format12, Format14, Unreadable}

-- the format stands first in each
abbrev pub format : List ℕ → ℕ → ℕ
format xs at = be 2 xs at

-- ---- format 4: format, length, language, seg_count_x2, then 8 bytes of search fields

abbrev pub length4 : List ℕ → ℕ → ℕ
length4 xs at = be 2 xs (at + 2)

abbrev pub language4 : List ℕ → ℕ → ℕ
language4 xs at = be 2 xs (at + 4)

abbrev pub seg_count_x2 : List ℕ → ℕ → ℕ
seg_count_x2 xs at = be 2 xs (at + 6)

abbrev pub segments4 : List ℕ → ℕ → ℕ
segments4 xs at = seg_count_x2 xs at / 2

-- readable: seg_count_x2 is even, there is a segment, the length holds the segments and reaches no further than the source
abbrev pub readable4 : List ℕ → ℕ → Bool
readable4 xs at =
    both (eqb (format xs at) 4)
    (both (eqb (seg_count_x2 xs at % 2) 0)
    (both (leb 1 (segments4 xs at))
    (both (leb (16 + 8 * segments4 xs at) (length4 xs at)) (leb (at + length4 xs at) (length xs)))))

-- ---- format 12: format, two reserved bytes, length, language, count of groups

abbrev pub length12 : List ℕ → ℕ → ℕ
length12 xs at = be 4 xs (at + 4)

abbrev pub language12 : List ℕ → ℕ → ℕ
language12 xs at = be 4 xs (at + 8)

abbrev pub groups12 : List ℕ → ℕ → ℕ
groups12 xs at = be 4 xs (at + 12)

-- readable: the length holds the groups and reaches no further than the source
abbrev pub readable12 : List ℕ → ℕ → Bool
readable12 xs at =
    both (eqb (format xs at) 12)
    (both (leb (16 + 12 * groups12 xs at) (length12 xs at)) (leb (at + length12 xs at) (length xs)))

-- ---- format 14: format, length, count of selector records

abbrev pub length14 : List ℕ → ℕ → ℕ
length14 xs at = be 4 xs (at + 2)

abbrev pub records14 : List ℕ → ℕ → ℕ
records14 xs at = be 4 xs (at + 6)

-- readable: at most 512 selector records, the length holds them and reaches no further than the source
abbrev pub readable14 : List ℕ → ℕ → Bool
readable14 xs at =
    both (eqb (format xs at) 14)
    (both (leb (records14 xs at) selectors_max)
    (both (leb (10 + 11 * records14 xs at) (length14 xs at)) (leb (at + length14 xs at) (length xs))))

-- ---- the kind

unfoldable pub kind_at : List ℕ → ℕ → Kind
kind_at xs at =
    pick (readable4 xs at) (Format4 (language4 xs at) (segments4 xs at) (length4 xs at))
    (pick (readable12 xs at) (Format12 (language12 xs at) (groups12 xs at) (length12 xs at))
    (pick (readable14 xs at) (Format14 (records14 xs at) (length14 xs at)) Unreadable))

-- the format's number; 0 where nothing is readable
abbrev pub format_of : Kind → ℕ
format_of (Format4 language segments len) = 4
format_of (Format12 language groups len) = 12
format_of (Format14 records len) = 14
format_of Unreadable = 0
