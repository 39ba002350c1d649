-- How long a format 4 subtable gets, and whether it is written at all (docs/RULES.md, "Format 4").
use Rattle.std.specs.Prelude.{ℕ, ◌≤◌, ◌<◌, ◌≡◌, List, [], ◌∷◌, leb, length, get_or}
use Rattle.laws.specs.Choice.{pick}
use Rattle.laws.specs.Lists.{Pair}
use Rattle.number.specs.Limits.{pairs_max, format4_length_max}
use Rattle.format4_cutting.specs.Cutting.{segments, glyph_array}
use Rattle.format4.specs.declared.RangeCounter.{RangeCounter}
use Rattle.format4.specs.declared.Size4.{Size4}
use Rattle.format4.specs.declared.Size4.TheVariants.{Empty, TooLong, Fits}
use Rattle.format4.specs.Format4.{length_with}

-- the slices are two columns of one list of pairs; format 4 maps only code points of 16 bits
pub record Columns16 (cs gs : List ℕ) : Type 0 where
  pub even : length cs ≡ length gs
  pub few : length cs ≤ pairs_max
  pub low : (k : ℕ) → get_or cs k 0 < 65536

abbrev pub counter : ℕ → ℕ → RangeCounter
counter s g = record { segments = s; glyphs = g }

-- as many segments as the pairs are cut into, and as many glyphs as their array has
abbrev pub count_of : List Pair → RangeCounter
count_of ps = counter (length (segments ps)) (length (glyph_array ps))

abbrev pub length_of4 : RangeCounter → ℕ
length_of4 n = length_with n.segments n.glyphs

-- no pairs make no subtable; one that is longer than its length field can say is left out, however much room there is
unfoldable pub size_of4 : List Pair → Size4
size_of4 [] = Empty
size_of4 (p ∷ ps) = pick (leb (length_of4 (count_of (p ∷ ps))) format4_length_max) (Fits (count_of (p ∷ ps))) TooLong
