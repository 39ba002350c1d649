-- Several runs of stores: one that lies before the others may be made first, so columns may be written row by row.
use Prim.Native.Nat.{ℕ, ◌+◌, ◌≤◌}
use mathlib.Core.Path.{◌≡◌, refl, ap, ◌∙◌}
use mathlib.Core.List.{List, [], ◌∷◌, ◌++◌}
use lib.ListN.{length}
use lib.Seq.{sets}
use Rattle.laws.proofs.SetsLaws.{sets-append}
use Rattle.laws.proofs.SetsCommLaws.{sets_comm}

-- ---- a list of runs, each with its place

abbrev pub Run : Type 0
Run = ℕ × List ℕ

abbrev pub runs : List ℕ → List Run → List ℕ
runs l [] = l
runs l (r ∷ rs) = runs (sets l r.0 r.1) rs

-- stores up to `end` lie before every one of the runs
abbrev pub Past : ℕ → List Run → Type 0
Past end [] = Unit {0}
Past end (r ∷ rs) = (end ≤ r.0) × Past end rs

pub sets_runs : (rs : List Run) (l : List ℕ) (i : ℕ) (vs : List ℕ) → Past (i + length vs) rs → sets (runs l rs) i vs ≡ runs (sets l i vs) rs
sets_runs [] l i vs p = refl
sets_runs (r ∷ rs) l i vs p = sets_runs rs (sets l r.0 r.1) i vs p.1 ∙ ap (λ (k : List ℕ). runs k rs) (sets_comm vs l r.0 i r.1 p.0)

-- ---- columns: at each place a front and a rest behind it

pub record Column : Type 0 where
  pub place : ℕ
  pub front : List ℕ
  pub rest : List ℕ

abbrev pub fronts : List Column → List Run
fronts [] = []
fronts (c ∷ cs) = (c.place, c.front) ∷ fronts cs

abbrev pub rests : List Column → List Run
rests [] = []
rests (c ∷ cs) = (c.place + length c.front, c.rest) ∷ rests cs

abbrev pub wholes : List Column → List Run
wholes [] = []
wholes (c ∷ cs) = (c.place, c.front ++ c.rest) ∷ wholes cs

-- each column ends before the places that follow
abbrev pub Ordered : List Column → Type 0
Ordered [] = Unit {0}
Ordered (c ∷ cs) = Past (c.place + length c.front + length c.rest) (fronts cs) × Ordered cs

-- all fronts and then all rests are column by column
pub fronts-rests : (cs : List Column) (l : List ℕ) → Ordered cs → runs (runs l (fronts cs)) (rests cs) ≡ runs l (wholes cs)
fronts-rests [] l o = refl
fronts-rests (c ∷ cs) l o =
    ap (λ (k : List ℕ). runs k (rests cs))
    (sets_runs (fronts cs) (sets l c.place c.front) (c.place + length c.front) c.rest o.0
    ∙ ap (λ (k : List ℕ). runs k (fronts cs)) (sets-append l c.place c.front c.rest))
    ∙ fronts-rests cs (sets l c.place (c.front ++ c.rest)) o.1
