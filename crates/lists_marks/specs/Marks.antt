-- Flags beside a rising list of points, flag i for point i: 0 says no, anything else yes.
use Rattle.std.specs.Prelude.{ℕ, suc, ◌+◌, ◌-◌, ◌≤◌, ◌≡◌, List, [], ◌∷◌, Bool, true, false, not, ltb, leb, eqb, length, get_or, replicate}
use Rattle.std.proofs.lemmas.List.Edits.{sets}
use Rattle.laws.specs.Choice.{pick, both, either, if_lt}
use Rattle.laws.specs.Lists.{Rising}
use Rattle.laws.specs.Search.{first}

-- whether c is one of start..end; none is where start exceeds end
abbrev pub between : ℕ → ℕ → ℕ → Bool
between start end c = both (leb start c) (leb c end)

pub record Inside (start end c : ℕ) : Type 0 where
  pub from : start ≤ c
  pub upto : c ≤ end

-- how many of the numbers are below c
unfoldable pub below : List ℕ → ℕ → ℕ
below [] c = 0
below (x ∷ xs) c = let r = below xs c in pick (ltb x c) (suc r) r

-- whether near of the numbers are below start, and no more are at most end
unfoldable pub passed : List ℕ → ℕ → ℕ → ℕ → Bool
passed ps start end near = both (leb near (below ps start)) (leb (below ps (end + 1)) near)

-- whether start stands at near, and end as many places on as it is above start
unfoldable pub listed_whole : List ℕ → ℕ → ℕ → ℕ → Bool
listed_whole ps start end near =
    both (leb start end)
    (both (ltb near (length ps))
    (both (eqb (get_or ps near 0) start)
    (both (ltb (end - start) (length ps - near))
    (eqb (get_or ps (near + (end - start)) 0) end))))

-- whether c is one of the numbers
unfoldable pub holds : List ℕ → ℕ → Bool
holds [] c = false
holds (x ∷ xs) c = let r = holds xs c in either (eqb x c) r

abbrev pub flag_of : Bool → ℕ
flag_of true = 1
flag_of false = 0

-- the flags that say exactly which points pass p
unfoldable pub flagged : (ℕ → Bool) → List ℕ → List ℕ
flagged p [] = []
flagged p (c ∷ cs) = flag_of (p c) ∷ flagged p cs

-- where a point passes p, its flag becomes what v says of it; every other flag stays
unfoldable pub painted : (ℕ → Bool) → (ℕ → Bool) → List ℕ → List ℕ → List ℕ
painted p v [] fs = fs
painted p v (c ∷ cs) [] = []
painted p v (c ∷ cs) (f ∷ fs) = pick (p c) (flag_of (v c)) f ∷ painted p v cs fs

-- where a point passes p, its flag becomes 1; every other flag stays
abbrev pub marked : (ℕ → Bool) → List ℕ → List ℕ → List ℕ
marked p = painted p (λ c. true)

-- the values whose flag is not 0
unfoldable pub kept : List ℕ → List ℕ → List ℕ
kept [] vs = []
kept (f ∷ fs) [] = []
kept (f ∷ fs) (v ∷ vs) = let r = kept fs vs in pick (eqb f 0) r (v ∷ r)

abbrev pub is_clear : List ℕ → ℕ → Bool
is_clear fs i = eqb (get_or fs i 0) 0

abbrev pub is_set : List ℕ → ℕ → Bool
is_set fs i = not (is_clear fs i)

-- how many of the first n flags are set, where no flag stands between them that is not; else 0
unfoldable pub front_of : List ℕ → ℕ → ℕ
front_of fs n =
    let m = first (is_clear fs) n 0 in
    if_lt (first (is_set fs) (n - m) m) n 0 m

-- what a search by halving gives: the count, and its bound
pub record Bound (ps : List ℕ) (c r : ℕ) : Type 0 where
  pub is : r ≡ below ps c
  pub within : r ≤ length ps

-- the count is known to lie between low and high
pub record Halving (ps : List ℕ) (c low high : ℕ) : Type 0 where
  pub least : low ≤ below ps c
  pub most : below ps c ≤ high
  pub within : high ≤ length ps

-- the count is known to be low or more
pub record AtLeast (ps : List ℕ) (c low : ℕ) : Type 0 where
  pub least : low ≤ below ps c
  pub within : low ≤ length ps

-- a flag for each point
pub record Flags (ps fs : List ℕ) : Type 0 where
  pub rising : Rising ps
  pub beside : length ps ≤ length fs

-- the first n flags are 0
pub record Cleared (n : ℕ) (fs : List ℕ) : Type 0 where
  pub is : fs ≡ sets fs 0 (replicate n 0)

-- a flag for each pair of two columns, and a place to copy each of its numbers to
pub record CopyRoom (fs cs gs tocs togs : List ℕ) : Type 0 where
  pub even : length cs ≡ length gs
  pub flags : length cs ≤ length fs
  pub code_room : length cs ≤ length tocs
  pub glyph_room : length cs ≤ length togs
