-- Tables are written from the last record's on: what is left of them, written from here, gives them all.
use Prim.Native.Nat.{ℕ, suc, ◌+◌, ◌*◌, ◌-◌, ◌<◌, ◌≤◌}
use mathlib.Core.Path.{◌≡◌, refl, ap, ◌∙◌}
use mathlib.Core.List.{List, [], ◌++◌}
use mathlib.Core.Bool.{true, false}
use native.Mathlib.Nat.{zero-add}
use native.Mathlib.Omega.{arith}
use lib.ListN.{length}
use lib.Seq.{sets, length-sets}
use Rattle.laws.proofs.SetsLaws.{sets-append}
use Rattle.plan_listing.specs.Job.{Job}
use Rattle.plan.specs.declared.Outcome.{Outcome}
use Rattle.plan.specs.declared.Outcome.TheVariants.{LeftOut, BadMapping, Served, Made}
use Rattle.plan.specs.Sizes.{made_size}
use Rattle.plan.specs.Fresh.{table_of}
use Rattle.plan.specs.Making.{Ready}
use Rattle.result.specs.Result.{tables_start, tables_from}
use Rattle.result.specs.Layout.{sizes_from, result_length}
use Rattle.plan.specs.Outcomes.{at, is_made}
use Rattle.result.proofs.CountLaws.{sizes_snoc, tables_snoc}
use Rattle.plan.proofs.SizeLaws.{unmade_size}
use Rattle.result_writer.specs.Writing.{WritesPlan}
use Rattle.result_writer.specs.TableParts.{TableRoom, Known}
use Rattle.result_writer.proofs.PlannedLaws.{planned_again, ready_of, long, making_of, lengths}
use Rattle.source_header.specs.Header.{record_count}
use Rattle.plan.specs.declared.Notes.{Notes}
use Rattle.plan.specs.Notes.{outcomes_in}
use Rattle.plan.proofs.NotedLaws.{at_noted}
use Rattle.laws.specs.Choice.{pick}

unmade : (o : Outcome) → ((n : ℕ) → o ≡ Made n → ⊥) → is_made o ≡ false
unmade (LeftOut why) f = refl
unmade BadMapping f = refl
unmade (Served r) f = refl
unmade (Made n) f = absurd (f n refl)

-- the tables of the records from k on stand before `place`
pub record Tabling (j : Job) (notes : Notes) (count : ℕ) (out₀ fs₀ tocs₀ togs₀ out fs tocs togs : List ℕ) (place k : ℕ) : Type 0 where
  pub within : k ≤ record_count j.source
  pub planned : WritesPlan j notes count fs tocs togs
  pub low : place + 4294967296 * k ≤ 516 + 64 * 4294967296
  pub room : place + sizes_from (outcomes_in (record_count j.source) notes) k 0 ≤ length out
  pub same : length out ≡ length out₀
  pub flags : length fs ≡ length fs₀
  pub codes : length tocs ≡ length tocs₀
  pub glyphs : length togs ≡ length togs₀
  pub left : sets out place (tables_from j (outcomes_in (record_count j.source) notes) k 0)
      ≡ sets out₀ (tables_start (outcomes_in (record_count j.source) notes)) (tables_from j (outcomes_in (record_count j.source) notes) (record_count j.source) 0)

pub tabling_start : (j : Job) (notes : Notes) (count k : ℕ) (out fs tocs togs : List ℕ) → WritesPlan j notes count fs tocs togs
    → result_length (outcomes_in (record_count j.source) notes) ≤ length out → k ≡ record_count j.source
    → Tabling j notes count out fs tocs togs out fs tocs togs (4 + 8 * count) k
tabling_start j notes count k out fs tocs togs p h e =
    let all = long j notes count fs tocs togs p in
    let sized = ap (λ (n : ℕ). sizes_from (outcomes_in (record_count j.source) notes) n 0) all in
    let few : record_count j.source ≤ 64 = rw all at p.counts.told.few in
    rw e (record {
      within = omega arith;
      planned = p;
      low = omega (arith, p.counts.few, all, few);
      room = omega (arith, h, p.counts.is, sized);
      same = refl;
      flags = refl;
      codes = refl;
      glyphs = refl;
      left = ap (λ (n : ℕ). sets out (4 + 8 * n) (tables_from j (outcomes_in (record_count j.source) notes) (record_count j.source) 0)) p.counts.is;
    })

module _ (j : Job) (notes : Notes) (count : ℕ) (out₀ fs₀ tocs₀ togs₀ out fs tocs togs : List ℕ) (place k : ℕ)
    (l : Tabling j notes count out₀ fs₀ tocs₀ togs₀ out fs tocs togs place k) where
  abbrev os : List Outcome
  os = outcomes_in (record_count j.source) notes

  pub tabling_end : k ≤ 0 → out ≡ sets out₀ (tables_start os) (tables_from j os (record_count j.source) 0)
  unfolding tables_from
  tabling_end h =
      let z : k ≡ 0 = omega arith in
      rw z at l.left

  module _ (h : 0 < k) where
    told : at os (k - 1) ≡ at notes.outcomes (k - 1)
    told = at_noted (record_count j.source) (k - 1) notes (omega (arith, h, l.within))

    down : k ≡ suc (k - 1)
    down = omega arith

    sizes_down : sizes_from os k 0 ≡ sizes_from os (k - 1) 0 + made_size (at notes.outcomes (k - 1))
    sizes_down = ap (λ (n : ℕ). sizes_from os n 0) down ∙ rw (zero-add (k - 1), told) at (sizes_snoc os (k - 1) 0)

    tables_down : tables_from j os k 0 ≡ pick (is_made (at notes.outcomes (k - 1))) (table_of j (k - 1)) [] ++ tables_from j os (k - 1) 0
    tables_down = ap (λ (n : ℕ). tables_from j os n 0) down ∙ rw (zero-add (k - 1), told) at (tables_snoc j os (k - 1) 0)

    pub tabling_no : ((n : ℕ) → at notes.outcomes (k - 1) ≡ Made n → ⊥) → Tabling j notes count out₀ fs₀ tocs₀ togs₀ out fs tocs togs place (k - 1)
    tabling_no f =
        let e = unmade (at notes.outcomes (k - 1)) f in
        record {
          within = omega (arith, l.within);
          planned = l.planned;
          low = omega (arith, l.low);
          room = omega (arith, l.room, sizes_down, unmade_size (at notes.outcomes (k - 1)) e);
          same = l.same;
          flags = l.flags;
          codes = l.codes;
          glyphs = l.glyphs;
          left = rw (tables_down, e) at l.left;
        }

    module _ (size : ℕ) (e : at notes.outcomes (k - 1) ≡ Made size) where
      is_size : at os (k - 1) ≡ Made size
      is_size = told ∙ e

      made : is_made (at os (k - 1)) ≡ true
      made = ap is_made is_size

      size_low : size < 4294967296
      size_low = omega (arith, rw is_size at (l.planned.counts.told.small.each (k - 1)).below)

      -- the next place is a number of 64 bits
      pub tabling_low : place + size ≤ 516 + 64 * 4294967296
      tabling_low = omega (arith, l.low, h, size_low)

      pub tabling_ready : Ready j (k - 1) fs tocs togs
      tabling_ready = ready_of j notes count fs tocs togs l.planned (k - 1) (making_of j notes count fs tocs togs l.planned (k - 1) made).inside

      pub tabling_room : TableRoom j (k - 1) place size (length out)
      tabling_room = record {
        is = rw is_size at (making_of j notes count fs tocs togs l.planned (k - 1) made).is;
        fits = omega (arith, l.room, rw e at sizes_down);
      }

      pub tabling_known : Known j (k - 1) notes
      tabling_known = record {
        inside = omega (arith, l.within, long j notes count fs tocs togs l.planned, l.planned.counts.told.few, h);
        fronted = l.planned.fronted;
        ended = l.planned.endings.each (k - 1) (making_of j notes count fs tocs togs l.planned (k - 1) made).inside made;
      }

      pub tabling_yes : (next fs' tocs' togs' : List ℕ) → next ≡ sets out place (table_of j (k - 1))
          → length fs' ≡ length fs → length tocs' ≡ length tocs → length togs' ≡ length togs
          → Tabling j notes count out₀ fs₀ tocs₀ togs₀ next fs' tocs' togs' (place + size) (k - 1)
      tabling_yes next fs' tocs' togs' w a b c =
          let table = table_of j (k - 1) in
          let rest = tables_from j os (k - 1) 0 in
          let long : length next ≡ length out = rw w (length-sets out place table) in
          let whole : size ≡ length table = lengths j notes count fs tocs togs l.planned (k - 1) size is_size in
          record {
            within = omega (arith, l.within);
            low = omega (arith, l.low, h, size_low);
            planned = planned_again j notes count fs tocs togs l.planned fs' tocs' togs' a b c;
            room = omega (arith, l.room, rw e at sizes_down, long);
            same = long ∙ l.same;
            flags = a ∙ l.flags;
            codes = b ∙ l.codes;
            glyphs = c ∙ l.glyphs;
            left = rw (w, whole) (sets-append out place table rest ∙ rw (tables_down, e) at l.left);
          }

pub ruleset tabling = (tabling_start, tabling_end, tabling_no, tabling_ready, tabling_room, tabling_known, tabling_yes)
