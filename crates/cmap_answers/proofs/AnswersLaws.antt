-- Both heads give of a result what the job lists: the first record of the result that leads to a format is the first of the source that made a table of it.
use Rattle.std.specs.Prelude.{Option, Ok, Err}
use Prim.Native.Nat.{ℕ, ◌<◌, ◌≤◌}
use mathlib.Core.Path.{◌≡◌, refl, sym, ap, ◌∙◌}
use mathlib.Core.List.{List}
use mathlib.Core.Bool.{true, false}
use native.Mathlib.Nat.{zero-add}
use native.Mathlib.Omega.{arith}
use lib.Dec.{eqb}
use lib.ListN.{length}
use Rattle.laws.specs.Listed.{listed_glyph}
use Rattle.laws.specs.Search.{first}
use Rattle.laws.proofs.ChoiceLaws.{by_leb, both_left, both_right, false-true, not-true, if_lt_lem, else_lt}
use Rattle.laws.proofs.FirstLaws.{first_before, first_holds}
use Rattle.laws.proofs.StandsLaws.{Stands}
use Rattle.source_header.specs.Header.{offset_of}
use Rattle.source.specs.Kind.{kind_at, format_of}
use Rattle.source_records.specs.Records.{leads_to, leads_to_format}
use Rattle.plan_listing.specs.Job.{Job}
use Rattle.heads_lookup.specs.Lookup.{lookup4, lookup12, glyph_of}
use Rattle.heads.specs.declared.HeadRefusal.TheVariants.{NothingReadable}
use Rattle.heads.specs.Heads.{old_head, new_head}
use Rattle.heads.proofs.HeadsLaws.{old_first, old_none, new_first, new_as_old}
use Rattle.plan.specs.declared.Outcome.{Outcome}
use Rattle.plan.specs.declared.Outcome.TheVariants.{LeftOut, BadMapping, Served, Made}
use Rattle.plan.specs.Outcomes.{is_made}
use Rattle.plan.specs.Fresh.{listed_of, table_of}
use Rattle.result.specs.Result.{count_from, written_count, result_of}
use Rattle.plan.specs.Outcomes.{is_written, maker_of, at}
use Rattle.result.specs.Result.{new_offset}
use Rattle.result.proofs.CountLaws.{count_one, count_find}
use Rattle.result.proofs.PlacesLaws.{Sound, made_written, table_stands, accepted_result, maker_of_lem, entry_written}
use Rattle.result.specs.Result.{makes}
use Rattle.cmap_answers.specs.Answers.{printed_by, old_answer, new_answer}

-- a table that a record made, wherever it stands, has the record's format, and a lookup of that format gives the listed glyphs
pub record Reads (format : ℕ) (look : List ℕ → ℕ → ℕ → Option ℕ) (j : Job) (os : List Outcome) : Type 0 where
  pub alike : (k : ℕ) (xs : List ℕ) (place : ℕ) → is_made (at os k) ≡ true → Stands xs place (table_of j k) → format_of (kind_at xs place) ≡ format_of (leads_to j.source k)
  pub gives : (k : ℕ) (xs : List ℕ) (place : ℕ) → is_made (at os k) ≡ true → Stands xs place (table_of j k) → leads_to_format format j.source k ≡ true
      → (c : ℕ) → glyph_of (look xs place c) ≡ listed_glyph (listed_of j k) c

pub maker_self : (o : Outcome) (k : ℕ) → is_made o ≡ true → maker_of o k ≡ k
maker_self (LeftOut why) k e = refl
maker_self BadMapping k e = refl
maker_self (Served r) k e = absurd (false-true e)
maker_self (Made n) k e = refl

module _ (j : Job) (os : List Outcome) (s : Sound j os) where
  module _ (format : ℕ) (look : List ℕ → ℕ → ℕ → Option ℕ) (t : Reads format look j os) where
    -- a record of the result leads to the format that its source record leads to
    leads_alike : (k : ℕ) → is_written (at os k) ≡ true → leads_to_format format (result_of j os) (count_from os k 0) ≡ leads_to_format format j.source k
    unfolding leads_to
    leads_alike k w =
        let m = maker_of_lem j os s k w in
        let e = entry_written j os s k w in
        let st = table_stands j os s (maker_of (at os k) k) m.maker in
        ap (λ (f : ℕ). eqb f format)
        (ap (λ (p : ℕ). format_of (kind_at (result_of j os) p)) e.offset ∙ t.alike (maker_of (at os k) k) (result_of j os) (new_offset j os (maker_of (at os k) k)) m.maker st ∙ m.alike)

    -- no record of the result before one that made a table of the format leads to the format
    leads_not : (n : ℕ) → n ≤ (length os) → n ≤ first (makes j os format) (length os) 0 → (i : ℕ) → i < count_from os n 0 → leads_to_format format (result_of j os) i ≡ false
    leads_not n b h i l =
        let p = count_find os n 0 i l in
        let k = p.place in
        let w : is_written (at os k) ≡ true = rw (zero-add k) at p.written in
        let m = maker_of_lem j os s k w in
        not-true (leads_to_format format (result_of j os) i)
        (λ e.
        let f : leads_to_format format j.source k ≡ true = sym (leads_alike k w) ∙ ap (leads_to_format format (result_of j os)) p.before ∙ e in
        let g : leads_to_format format j.source (maker_of (at os k) k) ≡ true = ap (λ (x : ℕ). eqb x format) m.alike ∙ f in
        let no = first_before (makes j os format) (length os) (maker_of (at os k) k) (omega (arith, m.earlier, p.below)) (omega (arith, m.earlier, p.below)) in
        false-true (sym no ∙ rw m.maker g))

    -- the record of the result that the first maker became
    pub record Leader (r i : ℕ) : Type 0 where
      pub inside : i < written_count os
      pub leads : leads_to_format format (result_of j os) i ≡ true
      pub none : (k : ℕ) → k < i → leads_to_format format (result_of j os) k ≡ false
      pub gives : (c : ℕ) → glyph_of (look (result_of j os) (offset_of (result_of j os) i) c) ≡ listed_glyph (listed_of j r) c

    pub leader : (r : ℕ) → r ≡ first (makes j os format) (length os) 0 → r < (length os) → Leader r (count_from os r 0)
    leader r q h =
        let e : makes j os format r ≡ true = rw q (first_holds (makes j os format) (length os) 0 (omega arith)) in
        let m = both_left (is_made (at os r)) (leads_to_format format j.source r) e in
        let f = both_right (is_made (at os r)) (leads_to_format format j.source r) e in
        let w = made_written (at os r) m in
        let z = zero-add r in
        let o = (entry_written j os s r w).offset ∙ ap (new_offset j os) (maker_self (at os r) r m) in
        record {
          inside = count_one os (length os) 0 r h (rw z w);
          leads = leads_alike r w ∙ f;
          none = leads_not r (omega arith) (omega arith);
          gives = λ c. rw o (t.gives r (result_of j os) (new_offset j os r) m (table_stands j os s r m) f c);
        }

    pub leaderless : (length os) ≤ first (makes j os format) (length os) 0 → (i : ℕ) → i < written_count os → leads_to_format format (result_of j os) i ≡ false
    leaderless h = leads_not (length os) (omega arith) h

  -- ---- the heads

  module _ (t4 : Reads 4 lookup4 j os) where
    pub old_answer_lem : (c : ℕ) → old_head (result_of j os) c ≡ old_answer j os c
    unfolding printed_by
    old_answer_lem c =
        let r = first (makes j os 4) (length os) 0 in
        by_leb (old_head (result_of j os) c ≡ old_answer j os c) (length os) r
        (λ h. else_lt r (length os) (Ok (listed_glyph (listed_of j r) c)) (Err NothingReadable) h (old_none (result_of j os) (written_count os) (accepted_result j os s) c (leaderless 4 lookup4 t4 h)))
        (λ h.
        let d = leader 4 lookup4 t4 r refl h in
        if_lt_lem r (length os) (Ok (listed_glyph (listed_of j r) c)) (Err NothingReadable) h
        (old_first (result_of j os) (written_count os) (accepted_result j os s) c (count_from os r 0) d.inside d.leads d.none ∙ ap Ok (d.gives c)))

    pub new_answer_lem : (t12 : Reads 12 lookup12 j os) (c : ℕ) → new_head (result_of j os) c ≡ new_answer j os c
    unfolding printed_by
    new_answer_lem t12 c =
        let r = first (makes j os 12) (length os) 0 in
        by_leb (new_head (result_of j os) c ≡ new_answer j os c) (length os) r
        (λ h. else_lt r (length os) (Ok (listed_glyph (listed_of j r) c)) (old_answer j os c) h (new_as_old (result_of j os) (written_count os) (accepted_result j os s) c (leaderless 12 lookup12 t12 h) ∙ old_answer_lem c))
        (λ h.
        let d = leader 12 lookup12 t12 r refl h in
        if_lt_lem r (length os) (Ok (listed_glyph (listed_of j r) c)) (old_answer j os c) h
        (new_first (result_of j os) (written_count os) (accepted_result j os s) c (count_from os r 0) d.inside d.leads d.none ∙ ap Ok (d.gives c)))
