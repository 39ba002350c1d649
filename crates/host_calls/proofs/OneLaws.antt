-- 1 is told exactly where a size is broken, so what is left in the work room goes by the number told (docs/RULES.md, "What is lent").
use Rattle.std.specs.Prelude.{Err}
use Prim.Native.Nat.{ℕ}
use mathlib.Core.Path.{◌≡◌, refl, sym, ap, ◌∙◌}
use mathlib.Core.List.{List, [], ◌∷◌}
use mathlib.Core.Bool.{Bool, true, false}
use native.Mathlib.Omega.{arith}
use lib.Dec.{ltb, eqb}
use lib.ListN.{length, length-map}
use borrow.Author.Tests.{eq-eqb, ne_eqb, eqb-false}
use Rattle.laws.specs.Choice.{pick, either}
use Rattle.laws.specs.Lists.{laid}
use Rattle.laws.proofs.ChoiceLaws.{false-true}
use Rattle.lists_checks.specs.Checks.{bad_sizes}
use Rattle.plan_listing.specs.Job.{Job}
use Rattle.result.specs.Refusal.{Condition, first_of, refusals, refusal_of}
use Rattle.host_pairs.specs.declared.PairRecord.{PairRecord}
use Rattle.host_pairs.specs.Pairs.{code, glyph, codes_of, glyphs_of}
use Rattle.result.specs.declared.Refusal.TheVariants.{BadSizes}
use Rattle.cmap_promise.specs.declared.Unwritten.TheVariants.{Refused}
use Rattle.cmap_promise.specs.declared.FateKind.TheVariants.{Refused as FateRefused}
use Rattle.cmap_promise.specs.Cmap.{number_of, refusals_in, number_in, answer_of}
use Rattle.cmap_promise.specs.Fates.{fate_number_of, no_fate, fate_of}
use Rattle.cmap_promise.proofs.PromiseLaws.{number_answered, fate_number}
use Rattle.host_calls.specs.Calls.{broken, job_of, subset_of, record_fate_of, codes_after, glyphs_after}

-- ---- 1 stands first among the refusals, and nowhere else

abbrev others : List Condition → Bool
others [] = true
others (c ∷ cs) = pick (eqb c.0 1) false (others cs)

abbrev later : List Condition → List Condition
later [] = []
later (c ∷ cs) = cs

not_one : (cs : List Condition) → others cs ≡ true → first_of cs ≡ 1 → ⊥
not_one [] h e = omega (arith, e)
not_one (c ∷ cs) h e = one_more (not_one cs) c.1 (eqb c.0 1) refl h e
  where
    one_more : (others cs ≡ true → first_of cs ≡ 1 → ⊥) → (t u : Bool) → eqb c.0 1 ≡ u → pick u false (others cs) ≡ true → pick t c.0 (first_of cs) ≡ 1 → ⊥
    one_more k t true q h e = false-true h
    one_more k true false q h e = eqb-false c.0 1 q e
    one_more k false false q h e = k h e

first_one : (t : Bool) (cs : List Condition) → others cs ≡ true → first_of ((1, t) ∷ cs) ≡ 1 → t ≡ true
first_one true cs h e = refl
first_one false cs h e = absurd (not_one cs h e)

-- ---- a test that is true where the number is 1, and there alone

by_number : (b : Bool) (number : Bool → ℕ) → number true ≡ 1 → (number false ≡ 1 → b ≡ true) → eqb (number b) 1 ≡ b
by_number true number h k = eq-eqb _ 1 h
by_number false number h k = ne_eqb _ 1 (λ q. false-true (k q))

third : (a b c : Bool) → c ≡ true → either a (either b c) ≡ true
third true b c e = refl
third false true c e = refl
third false false c e = e

module _ (source : List ℕ) (pairs : List PairRecord) (codes glyphs kept new_glyphs requested : List ℕ) where
  abbrev j : Job
  j = job_of source pairs codes glyphs kept new_glyphs requested

  abbrev bad : Bool
  bad = broken source pairs codes glyphs kept new_glyphs requested

  -- the two columns are as long as the records
  columns_broken : bad_sizes (length source) (length (codes_of pairs)) (length (glyphs_of pairs)) (length kept) (length new_glyphs) (length requested) ≡ true → bad ≡ true
  columns_broken e = third (ltb (length codes) (length pairs)) (ltb (length glyphs) (length pairs)) _ (rw (length-map pairs code, length-map pairs glyph) at e)

  in_room : (room : ℕ) → number_in j room ≡ 1 → bad ≡ true
  unfolding number_in
  in_room room e = columns_broken (first_one _ (later (refusals_in j room)) refl e)

  of_job : refusal_of j ≡ 1 → bad ≡ true
  unfolding refusal_of
  of_job e = columns_broken (first_one _ (later (refusals j)) refl e)

  -- the cut
  module _ (room : ℕ) where
    abbrev told1 : Bool
    told1 = eqb (number_of (subset_of source pairs codes glyphs kept new_glyphs requested room)) 1

    pub one_exactly : told1 ≡ bad
    one_exactly = by_number bad (λ t. number_of (pick t (Err (Refused BadSizes)) (answer_of j room))) refl (λ q. in_room room (sym (number_answered j room) ∙ q))

    pub codes_left : codes_after source pairs codes glyphs kept new_glyphs requested ≡ pick told1 codes (laid (codes_of pairs) codes)
    codes_left = ap (λ (t : Bool). pick t codes (laid (codes_of pairs) codes)) (sym one_exactly)

    pub glyphs_left : glyphs_after source pairs codes glyphs kept new_glyphs requested ≡ pick told1 glyphs (laid (glyphs_of pairs) glyphs)
    glyphs_left = ap (λ (t : Bool). pick t glyphs (laid (glyphs_of pairs) glyphs)) (sym one_exactly)

  -- the fates
  pub one_exactly_fate : (k : ℕ) → eqb (fate_number_of (record_fate_of source pairs codes glyphs kept new_glyphs requested k).kind) 1 ≡ bad
  one_exactly_fate k = by_number bad (λ t. fate_number_of (pick t (no_fate (FateRefused BadSizes)) (fate_of j k)).kind) refl (λ q. of_job (sym (fate_number j k) ∙ q))
