-- The bytes of a format 12 subtable for a list of pairs (docs/RULES.md, "Format 12").
-- What another format of the same layout would change is `consecutive` and the number 12 alone.
use Rattle.std.specs.Prelude.{ℕ, ◌+◌, ◌*◌, ◌≤◌, ◌≡◌, List, [], ◌∷◌, ◌++◌, map, Bool, length, eqb}
use Rattle.laws.specs.Choice.{both}
use Rattle.laws.specs.Lists.{Pair}
use Rattle.laws.specs.Pieces.{pieces}
use Rattle.number.specs.Limits.{pairs_max}
use Rattle.number.specs.Row.{encs}
use Rattle.format12.specs.declared.Group.{Group}
use Rattle.format12.specs.declared.Size12.{Size12}

-- code point and glyph both rise by one
unfoldable pub consecutive : Pair → Pair → Bool
consecutive p q = both (eqb q.0 (p.0 + 1)) (eqb q.1 (p.1 + 1))

-- the last of a row that begins with p
abbrev pub last_of : Pair → List Pair → Pair
last_of p [] = p
last_of p (q ∷ qs) = last_of q qs

abbrev pub group : ℕ → ℕ → ℕ → Group
group a e g = record { start = a; end = e; glyph = g }

-- a row of pairs as a group: its first and its last code point, and the first one's glyph; no row is empty
abbrev pub group_of : List Pair → Group
group_of [] = group 0 0 0
group_of (p ∷ ps) = group p.0 (last_of p ps).0 p.1

-- the groups of pairs, as long as they get, in which each pair joins the next
unfoldable pub grouped : (Pair → Pair → Bool) → List Pair → List Group
grouped joins ps = map group_of (pieces joins ps)

-- those of format 12
abbrev pub groups : List Pair → List Group
groups ps = grouped consecutive ps

-- OpenType: start_char_code, end_char_code, start_glyph_id of each group
abbrev pub fields : List Group → List ℕ
fields [] = []
fields (g ∷ gs) = g.start ∷ g.end ∷ g.glyph ∷ fields gs

-- the length of a subtable of n groups
abbrev pub table_length : ℕ → ℕ
table_length n = 16 + 12 * n

-- OpenType: format and reserved, of 16 bits; length, language and numGroups, of 32
unfoldable pub header12 : ℕ → ℕ → ℕ → List ℕ
header12 format language n = encs 2 (format ∷ 0 ∷ []) ++ encs 4 (table_length n ∷ language ∷ n ∷ [])

unfoldable pub group_table : ℕ → ℕ → List Group → List ℕ
group_table format language gs = header12 format language (length gs) ++ encs 4 (fields gs)

-- with the source's language, for the listed pairs ps that its subtable maps
abbrev pub format12 : ℕ → List Pair → List ℕ
format12 language ps = group_table 12 language (groups ps)

-- how many groups the pairs make, and how many bytes the subtable has
abbrev pub size_of12 : List Pair → Size12
size_of12 ps = record { groups = length (groups ps); bytes = table_length (length (groups ps)) }

-- a slice of code points and one of glyphs are the two columns of a list of pairs
pub record Columns (cs gs : List ℕ) : Type 0 where
  pub even : length gs ≡ length cs
  pub few : length cs ≤ pairs_max

-- n is the number of groups that the pairs make, and l bytes have room for their subtable at a place
pub record GroupsRoom (ps : List Pair) (n at l : ℕ) : Type 0 where
  pub found : n ≡ length (groups ps)
  pub fits : at + table_length n ≤ l
