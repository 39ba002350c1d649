-- What both heads give of the result of a job that is not refused.
use Rattle.std.specs.Prelude.{Result, Ok, Err}
use Prim.Native.Nat.{ℕ, ◌≤◌}
use mathlib.Core.Path.{◌≡◌, refl, sym, ap, ◌∙◌}
use mathlib.Core.List.{List}
use mathlib.Core.Logic.{◌⊎◌, inl, inr, ⊎_elim}
use mathlib.Core.Bool.{true, false}
use native.Mathlib.Omega.{arith}
use lib.Dec.{ltb}
use lib.ListN.{length}
use Rattle.laws.specs.Choice.{if_lt}
use Rattle.laws.specs.Lists.{pairs}
use Rattle.laws.specs.Listed.{listed_glyph}
use Rattle.laws.specs.Search.{first, some}
use Rattle.laws.proofs.ChoiceLaws.{by_pick, by_leb, false-true, if_lt_lem, else_lt}
use Rattle.laws.proofs.EitherLaws.{true_of_not, both_neither}
use Rattle.laws.proofs.FirstLaws.{first_before}
use Rattle.laws.proofs.SomeLaws.{some_none}
use Rattle.number.specs.BigEndian.{Bytes}
use Rattle.source_header.specs.Header.{record_count}
use Rattle.source.specs.Kind.{format_of}
use Rattle.source_header.proofs.HeaderLaws.{Accepted, accepted_of}
use Rattle.source_records.specs.Records.{leads_to, leads_to_format}
use Rattle.plan_listing.specs.Job.{Job, glyph_count}
use Rattle.plan_listing.specs.Listing.{maps}
use Rattle.heads.specs.declared.HeadRefusal.{HeadRefusal}
use Rattle.heads.specs.declared.HeadRefusal.TheVariants.{NothingReadable}
use Rattle.heads.specs.Heads.{old_head, new_head, head_number_of, printed_of}
use Rattle.plan.proofs.OutcomesLaws.{length-plan}
use Rattle.plan.specs.declared.Outcome.{Outcome}
use Rattle.plan.specs.Outcomes.{is_made}
use Rattle.plan.specs.Fresh.{listed_of}
use Rattle.plan.specs.Plan.{plan, made_plain, refused9}
use Rattle.result.specs.Lent.{Lent}
use Rattle.result.proofs.LentLaws.{lent}
use Rattle.result.proofs.ListedLaws.{listed_glyph_lem}
use Rattle.result.specs.Refusal.{refusal_of}
use Rattle.result.specs.Result.{result_of, written_count}
use Rattle.result.specs.Layout.{result_length}
use Rattle.plan.specs.Outcomes.{is_written, maker_of, at}
use Rattle.result.proofs.PlacesLaws.{Sound, maker_of_lem, accepted_result}
use Rattle.result.proofs.LengthLaws.{length_result}
use Rattle.result.proofs.RefusalLaws.{passed}
use Rattle.result.specs.Result.{makes}
use Rattle.cmap_answers.specs.Answers.{printed_by, old_answer, new_answer}
use Rattle.cmap_answers.proofs.AnswersLaws.{old_answer_lem, new_answer_lem}
use Rattle.result.proofs.SoundLaws.{plan_sound, first_maker}
use Rattle.cmap_answers.proofs.ReadsLaws.{plan_reads4, plan_reads12}

-- ---- what an answer may print

-- nothing, or the glyph that the job lists for c
pub record Prints (j : Job) (c : ℕ) (r : Result ℕ HeadRefusal) : Type 0 where
  pub glyph : (printed_of r ≡ 0) ⊎ (printed_of r ≡ listed_glyph (pairs j.codes j.glyphs) c)

listed_prints : (j : Job) (c r : ℕ) → Prints j c (Ok (listed_glyph (listed_of j r) c))
listed_prints j c r =
    rw (listed_glyph_lem j.source (glyph_count j) j.codes j.glyphs r c)
    (by_pick (λ (g : ℕ). Prints j c (Ok g)) (maps j.source (glyph_count j) r c) (listed_glyph (pairs j.codes j.glyphs) c) 0
    (λ e. record { glyph = inr refl })
    (λ e. record { glyph = inl refl }))

answer_prints : (format : ℕ) (j : Job) (os : List Outcome) (c : ℕ) (other : Result ℕ HeadRefusal) → Prints j c other → Prints j c (printed_by format j os c other)
unfolding printed_by if_lt
answer_prints format j os c other p =
    let r = first (makes j os format) (length os) 0 in
    by_pick (Prints j c) (ltb r (length os)) (Ok (listed_glyph (listed_of j r) c)) other (λ e. listed_prints j c r) (λ e. p)

old_may : (j : Job) (os : List Outcome) (c : ℕ) → Prints j c (old_answer j os c)
old_may j os c = answer_prints 4 j os c (Err NothingReadable) (record { glyph = inl refl })

new_may : (j : Job) (os : List Outcome) (c : ℕ) → Prints j c (new_answer j os c)
new_may j os c = answer_prints 12 j os c (old_answer j os c) (old_may j os c)

-- ---- where a record made a table that counts, the new head is not at a loss

module _ (j : Job) (os : List Outcome) (few : record_count j.source ≤ length os) (some9 : refused9 j.source os ≡ false) where
  not_lost : (length os) ≤ first (makes j os 4) (length os) 0 → (length os) ≤ first (makes j os 12) (length os) 0 → ⊥
  unfolding refused9
  not_lost a b =
      let e = true_of_not (some (made_plain j.source os) (record_count j.source) 0) some9 in
      let f = some_none (made_plain j.source os) (record_count j.source)
      (λ k h.
      both_neither (is_made (at os k)) (leads_to_format 4 j.source k) (leads_to_format 12 j.source k)
      (first_before (makes j os 4) (length os) k (omega arith) (omega arith))
      (first_before (makes j os 12) (length os) k (omega arith) (omega arith))) in
      false-true (sym f ∙ e)

  pub new_found : (c : ℕ) → head_number_of (new_answer j os c) ≡ 0
  unfolding printed_by
  new_found c =
      let r = first (makes j os 12) (length os) 0 in
      let q = first (makes j os 4) (length os) 0 in
      by_leb (head_number_of (new_answer j os c) ≡ 0) (length os) r
      (λ a.
      by_leb (head_number_of (new_answer j os c) ≡ 0) (length os) q
      (λ b. absurd (not_lost b a))
      (λ b.
      ap head_number_of
      (sym (else_lt r (length os) (Ok (listed_glyph (listed_of j r) c)) (old_answer j os c) a (if_lt_lem q (length os) (Ok (listed_glyph (listed_of j q) c)) (Err NothingReadable) b refl)))))
      (λ a. ap head_number_of (sym (if_lt_lem r (length os) (Ok (listed_glyph (listed_of j r) c)) (old_answer j os c) a refl)))

-- ---- the theorem

module _ (j : Job) (bytes : Bytes j.source) (accepted : refusal_of j ≡ 0) where
  limits : Lent j
  limits = lent j bytes (passed j accepted).sizes (passed j accepted).pairs

  records_few : record_count j.source ≤ 64
  records_few = (accepted_of j.source (passed j accepted).header).few

  pub job_sound : Sound j (plan j)
  job_sound = plan_sound j limits records_few

  -- the result is accepted in its turn, and as long as the plan says
  pub job_result : Accepted (result_of j (plan j)) (written_count (plan j))
  job_result = accepted_result j (plan j) job_sound

  pub job_length : length (result_of j (plan j)) ≡ result_length (plan j)
  job_length = length_result j (plan j) job_sound.made

  -- a written record leads to the table of the first record that made one of its format
  pub job_maker : (k : ℕ) → is_written (at (plan j) k) ≡ true → maker_of (at (plan j) k) k ≡ first (makes j (plan j) (format_of (leads_to j.source k))) (length (plan j)) 0
  job_maker k w =
      let m = maker_of_lem j (plan j) job_sound k w in
      sym (first_maker j limits records_few (maker_of (at (plan j) k) k) (format_of (leads_to j.source k)) m.maker m.alike)

  module _ (c : ℕ) where
    pub old_gives : old_head (result_of j (plan j)) c ≡ old_answer j (plan j) c
    old_gives = old_answer_lem j (plan j) job_sound (plan_reads4 j limits records_few) c

    pub new_gives : new_head (result_of j (plan j)) c ≡ new_answer j (plan j) c
    new_gives = new_answer_lem j (plan j) job_sound (plan_reads4 j limits records_few) (plan_reads12 j limits records_few) c

    -- the new head always answers
    pub new_answers : head_number_of (new_head (result_of j (plan j)) c) ≡ 0
    new_answers = ap head_number_of new_gives ∙ new_found j (plan j) (omega (arith, length-plan j)) (passed j accepted).some c

    pub old_prints : Prints j c (old_head (result_of j (plan j)) c)
    old_prints = rw old_gives (old_may j (plan j) c)

    pub new_prints : Prints j c (new_head (result_of j (plan j)) c)
    new_prints = rw new_gives (new_may j (plan j) c)

    -- where both print a glyph, it is the same one
    pub heads_agree : (printed_of (old_head (result_of j (plan j)) c) ≡ 0 → ⊥) → (printed_of (new_head (result_of j (plan j)) c) ≡ 0 → ⊥)
        → printed_of (old_head (result_of j (plan j)) c) ≡ printed_of (new_head (result_of j (plan j)) c)
    heads_agree a b =
        ⊎_elim (λ p. absurd (a p)) (λ p. ⊎_elim (λ q. absurd (b q)) (λ q. p ∙ sym q) new_prints.glyph) old_prints.glyph
