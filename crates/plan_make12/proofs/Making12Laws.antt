-- What format 12 asks of two columns of the listed pairs, and what their size tells.
use Prim.Native.Nat.{ℕ, ◌+◌, ◌≤◌}
use mathlib.Core.Path.{◌≡◌, sym, ap, ◌∙◌}
use mathlib.Core.List.{List}
use native.Mathlib.Omega.{arith}
use lib.ListN.{length}
use lib.Seq.{sets}
use Rattle.laws.specs.Lists.{Pair, pairs}
use Rattle.laws.proofs.LengthLaws.{length-map}
use Rattle.number.specs.Limits.{pairs_max}
use Rattle.format12.proofs.TableLaws.{length_table}
use Rattle.format12.specs.declared.Size12.{Size12}
use Rattle.format12.specs.Format12.{format12, groups, size_of12, Columns, GroupsRoom}
use Rattle.plan_listing.specs.Job.{Job}
use Rattle.plan_listing.specs.Listing.{code_column, glyph_column}
use Rattle.plan.specs.Fresh.{listed_of}
use Rattle.plan.specs.Making.{PairsRoom}
use Rattle.plan.proofs.MakingLaws.{columns_pairs, columns_even, length-listed}

module _ (j : Job) (k : ℕ) (ds hs : List ℕ) (e : (ds ≡ code_column (listed_of j k)) × (hs ≡ glyph_column (listed_of j k))) where
  pub columns_of : length j.codes ≤ pairs_max → Columns ds hs
  columns_of few =
      let l = length-map (λ (q : Pair). q.0) (listed_of j k) in
      let u = length-listed j k in
      record { even = sym (columns_even (listed_of j k) ds hs e); few = rw e.0 (omega (arith, l, u, few)) }

  pub columns12 : (fs tocs togs : List ℕ) → PairsRoom j k fs tocs togs → Columns ds hs
  columns12 fs tocs togs p = columns_of p.few

module _ (ps : List Pair) (ds hs : List ℕ) (e : (ds ≡ code_column ps) × (hs ≡ glyph_column ps)) where
  pub sized12 : (r : Size12) → r ≡ size_of12 (pairs ds hs) → r ≡ size_of12 ps
  sized12 r h = h ∙ ap (λ (l : List Pair). size_of12 l) (columns_pairs ps ds hs e)

  pub groups_room : (language at l : ℕ) → at + length (format12 language ps) ≤ l → (r : Size12) → r ≡ size_of12 (pairs ds hs) → GroupsRoom (pairs ds hs) r.groups at l
  groups_room language at l f r h =
      let g : r.groups ≡ length (groups (pairs ds hs)) = ap (λ (z : Size12). z.groups) h in
      record { found = g; fits = rw (g, columns_pairs ps ds hs e) (rw (length_table 12 language (groups ps)) at f) }

  pub wrote12 : (language at : ℕ) (out next : List ℕ) → next ≡ sets out at (format12 language (pairs ds hs)) → next ≡ sets out at (format12 language ps)
  wrote12 language at out next h = rw (columns_pairs ps ds hs e) at h

pub ruleset made12 = (columns12, sized12, groups_room, wrote12)
