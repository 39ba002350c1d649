-- Each refusal is given exactly when its condition holds and none before it does; a job that is not refused meets no condition.
use Rattle.std.specs.Prelude.{Result, Ok, Err}
use Prim.Native.Nat.{ℕ, zero, suc, ◌<◌}
use mathlib.Core.Path.{◌≡◌, refl, sym, ap, subst, ◌∙◌}
use mathlib.Core.List.{List, [], ◌∷◌, ◌++◌, append-nil}
use mathlib.Core.Bool.{Bool, true, false}
use mathlib.Core.Logic.{◌⊎◌, inl, inr}
use native.Mathlib.Omega.{arith}
use lib.Dec.{ltb}
use lib.ListN.{length}
use borrow.Author.Tests.{ltb-true}
use Rattle.laws.specs.Choice.{pick, either}
use Rattle.laws.specs.Select.{any_of}
use Rattle.laws.proofs.ChoiceLaws.{both_left, both_right, by_leb}
use Rattle.laws.proofs.EitherLaws.{neither_left, neither_right}
use Rattle.source_header.specs.Header.{refused5}
use Rattle.source_records.specs.Records.{refused6, refused7}
use Rattle.lists_checks.specs.Checks.{bad_sizes, bad_pairs, bad_kept, bad_requested}
use Rattle.plan_listing.specs.Job.{Job, glyph_count}
use Rattle.plan.specs.Plan.{plan, refused8, refused9}
use Rattle.result.specs.declared.Refusal.{Refusal}
use Rattle.result.specs.declared.Refusal.TheVariants.{BadSizes, BadPairs, BadKept, BadRequested, BadHeader, LacksBmp, LacksFull, NamesMissing, LacksPlain}
use Rattle.result.specs.Refusal.{refusal_number, refusal_told, refusal_numbered, Condition, first_of, early_refusals, late_refusals, refusals, refusal_of, early_refusal, late_refusal, held, rises}

-- ---- numbers and cases

pub number_above_zero : (r : Refusal) → 0 < refusal_number r
number_above_zero BadSizes = omega arith
number_above_zero BadPairs = omega arith
number_above_zero BadKept = omega arith
number_above_zero BadRequested = omega arith
number_above_zero BadHeader = omega arith
number_above_zero LacksBmp = omega arith
number_above_zero LacksFull = omega arith
number_above_zero NamesMissing = omega arith
number_above_zero LacksPlain = omega arith

-- a refusal is the one that has its number
pub numbered_itself : (r : Refusal) → refusal_numbered (refusal_number r) ≡ r
numbered_itself BadSizes = refl
numbered_itself BadPairs = refl
numbered_itself BadKept = refl
numbered_itself BadRequested = refl
numbered_itself BadHeader = refl
numbered_itself LacksBmp = refl
numbered_itself LacksFull = refl
numbered_itself NamesMissing = refl
numbered_itself LacksPlain = refl

-- the refusal of a number from 1 to 9 has this number
pub number_of_numbered : (n : ℕ) → 0 < n → n < 10 → refusal_number (refusal_numbered n) ≡ n
number_of_numbered zero a b = absurd (omega arith)
number_of_numbered (suc zero) a b = refl
number_of_numbered (suc (suc zero)) a b = refl
number_of_numbered (suc (suc (suc zero))) a b = refl
number_of_numbered (suc (suc (suc (suc zero)))) a b = refl
number_of_numbered (suc (suc (suc (suc (suc zero))))) a b = refl
number_of_numbered (suc (suc (suc (suc (suc (suc zero)))))) a b = refl
number_of_numbered (suc (suc (suc (suc (suc (suc (suc zero))))))) a b = refl
number_of_numbered (suc (suc (suc (suc (suc (suc (suc (suc zero)))))))) a b = refl
number_of_numbered (suc (suc (suc (suc (suc (suc (suc (suc (suc zero))))))))) a b = refl
number_of_numbered (suc (suc (suc (suc (suc (suc (suc (suc (suc (suc n)))))))))) a b = absurd (omega arith)

-- what a refusal and its absence tell, where the number that is due is n
module _ (r : Result (Unit {0}) Refusal) (n : ℕ) (e : refusal_told r ≡ n) where
  pub told_some : (refusal : Refusal) → r ≡ Err refusal → 0 < n
  told_some refusal q = omega (arith, number_above_zero refusal, sym (ap refusal_told q) ∙ e)

  pub told_case : (refusal : Refusal) → r ≡ Err refusal → refusal ≡ refusal_numbered n
  told_case refusal q = sym (numbered_itself refusal) ∙ ap refusal_numbered (sym (ap refusal_told q) ∙ e)

  pub told_none : (u : Unit {0}) → r ≡ Ok u → n ≡ 0
  told_none u q = sym e ∙ ap refusal_told q

  pub told_no_case : ((refusal : Refusal) → r ≡ Err refusal → ⊥) → n ≡ 0
  told_no_case h = go r refl
    where
      go : (s : Result (Unit {0}) Refusal) → r ≡ s → n ≡ 0
      go (Ok u) q = told_none u q
      go (Err refusal) q = absurd (h refusal q)

-- ---- numbers that rise

module _ (m : ℕ) (c : Condition) (cs : List Condition) (e : rises m (c ∷ cs) ≡ true) where
  number_above : m < c.0
  unfolding rises
  number_above = ltb-true m c.0 (both_left (ltb m c.0) (rises c.0 cs) e)

  others_rise : rises c.0 cs ≡ true
  unfolding rises
  others_rise = both_right (ltb m c.0) (rises c.0 cs) e

first_above : (m : ℕ) (cs : List Condition) → rises m cs ≡ true → (first_of cs ≡ 0) ⊎ (m < first_of cs)
first_above m [] e = inl refl
first_above m (c ∷ cs) e = go c.1 (first_above c.0 cs (others_rise m c cs e))
  where
    go : (t : Bool) → (first_of cs ≡ 0) ⊎ (c.0 < first_of cs) → (pick t c.0 (first_of cs) ≡ 0) ⊎ (m < pick t c.0 (first_of cs))
    go true f = inr (number_above m c cs e)
    go false (inl z) = inl z
    go false (inr h) = inr (omega (arith, h, number_above m c cs e))

later_above : (m n : ℕ) (b : Bool) (front back : List Condition) → rises m (front ++ ((n, b) ∷ back)) ≡ true → m < n
later_above m n b [] back e = number_above m (n, b) back e
later_above m n b (c ∷ cs) back e =
    let h = number_above m c (cs ++ ((n, b) ∷ back)) e in
    omega (arith, h, later_above c.0 n b cs back (others_rise m c (cs ++ ((n, b) ∷ back)) e))

-- ---- which is the first

-- cases of which none holds decide nothing
none_append : (cs ds : List Condition) → held cs ≡ false → first_of (cs ++ ds) ≡ first_of ds
unfolding held any_of
none_append [] ds h = refl
none_append (c ∷ cs) ds h = rw (neither_left c.1 (held cs) h) (none_append cs ds (neither_right c.1 (held cs) h))

-- the answer r is n exactly if n's condition b holds and none of those in front does
pub record GivenExactly (r : ℕ) (front : List Condition) (n : ℕ) (b : Bool) : Type 0 where
  pub when : b ≡ true → held front ≡ false → r ≡ n
  pub holds : r ≡ n → b ≡ true
  pub none_before : r ≡ n → held front ≡ false

module _ (n : ℕ) (b : Bool) (back : List Condition) where
  given_only : (m : ℕ) (front : List Condition) → rises m (front ++ ((n, b) ∷ back)) ≡ true → first_of (front ++ ((n, b) ∷ back)) ≡ n → (b ≡ true) × (held front ≡ false)
  unfolding held any_of
  given_only m [] r e = go b e (first_above n back (others_rise m (n, b) back r))
    where
      go : (t : Bool) → pick t n (first_of back) ≡ n → (first_of back ≡ 0) ⊎ (n < first_of back) → (t ≡ true) × (false ≡ false)
      go true f o = (refl, refl)
      go false f (inl z) = absurd (omega (arith, number_above m (n, b) back r))
      go false f (inr h) = absurd (omega arith)
  given_only m (c ∷ cs) r e = go c.1 e (given_only c.0 cs (others_rise m c (cs ++ ((n, b) ∷ back)) r))
    where
      rest : ℕ
      rest = first_of (cs ++ ((n, b) ∷ back))

      go : (t : Bool) → pick t c.0 rest ≡ n → (rest ≡ n → (b ≡ true) × (held cs ≡ false)) → (b ≡ true) × (either t (held cs) ≡ false)
      go true f o = absurd (omega (arith, f, later_above c.0 n b cs back (others_rise m c (cs ++ ((n, b) ∷ back)) r)))
      go false f o = o f

pub given_exactly : (front back : List Condition) (n : ℕ) (b : Bool) → rises 0 (front ++ ((n, b) ∷ back)) ≡ true → GivenExactly (first_of (front ++ ((n, b) ∷ back))) front n b
given_exactly front back n b r = record {
  when = λ e h. none_append front ((n, b) ∷ back) h ∙ rw e;
  holds = λ e. (given_only n b back 0 front r e).0;
  none_before = λ e. (given_only n b back 0 front r e).1;
}

-- ---- none is

none_held : (m : ℕ) (cs : List Condition) → rises m cs ≡ true → first_of cs ≡ 0 → held cs ≡ false
unfolding held any_of
none_held m [] r e = refl
none_held m (c ∷ cs) r e = go c.1 e (none_held c.0 cs (others_rise m c cs r))
  where
    go : (t : Bool) → pick t c.0 (first_of cs) ≡ 0 → (first_of cs ≡ 0 → held cs ≡ false) → either t (held cs) ≡ false
    go true f o = absurd (omega (arith, f, number_above m c cs r))
    go false f o = o f

-- the answer r is 0 exactly if none of them holds
pub record Accepted (r : ℕ) (cs : List Condition) : Type 0 where
  pub when : held cs ≡ false → r ≡ 0
  pub none : r ≡ 0 → held cs ≡ false

pub accepted_exactly : (cs : List Condition) → rises 0 cs ≡ true → Accepted (first_of cs) cs
accepted_exactly cs r = record { when = λ h. rw (append-nil cs) at (none_append cs [] h); none = none_held 0 cs r }

-- ---- one list behind another

pub first_append : (cs ds : List Condition) → rises 0 cs ≡ true → first_of cs ≡ 0 → first_of (cs ++ ds) ≡ first_of ds
first_append cs ds r e = none_append cs ds (none_held 0 cs r e)

pub first_stays : (cs ds : List Condition) → 0 < first_of cs → first_of (cs ++ ds) ≡ first_of cs
first_stays [] ds h = absurd (omega arith)
first_stays (c ∷ cs) ds h = go c.1 h (first_stays cs ds)
  where
    go : (t : Bool) → 0 < pick t c.0 (first_of cs) → (0 < first_of cs → first_of (cs ++ ds) ≡ first_of cs) → pick t c.0 (first_of (cs ++ ds)) ≡ pick t c.0 (first_of cs)
    go true f o = refl
    go false f o = o f

-- ---- a job's refusals

early_rise : (j : Job) → rises 0 (early_refusals j) ≡ true
unfolding rises
early_rise j = refl

refusals_rise : (j : Job) → rises 0 (refusals j) ≡ true
unfolding rises
refusals_rise j = refl

pub refused_exactly : (j : Job) (front back : List Condition) (n : ℕ) (b : Bool) → refusals j ≡ front ++ ((n, b) ∷ back) → GivenExactly (refusal_of j) front n b
unfolding refusal_of
refused_exactly j front back n b e =
    subst (λ cs. GivenExactly (first_of cs) front n b) (sym e) (given_exactly front back n b (subst (λ cs. rises 0 cs ≡ true) e (refusals_rise j)))

pub let_pass_exactly : (j : Job) → Accepted (refusal_of j) (refusals j)
unfolding refusal_of
let_pass_exactly j = accepted_exactly (refusals j) (refusals_rise j)

-- refusals 8 and 9 where 1 to 7 let the job pass
pub refusal_late : (j : Job) → early_refusal j ≡ 0 → refusal_of j ≡ late_refusal j.source (plan j)
unfolding refusal_of early_refusal late_refusal
refusal_late j e = first_append (early_refusals j) (late_refusals j.source (plan j)) (early_rise j) e

pub refusal_early : (j : Job) → 0 < early_refusal j → refusal_of j ≡ early_refusal j
unfolding refusal_of early_refusal
refusal_early j h = first_stays (early_refusals j) (late_refusals j.source (plan j)) h

-- ---- what each that let a job pass tells

module _ (n : ℕ) (b : Bool) (cs : List Condition) where
  one_passed : first_of ((suc n, b) ∷ cs) ≡ 0 → b ≡ false
  one_passed = go b
    where
      go : (t : Bool) → first_of ((suc n, t) ∷ cs) ≡ 0 → t ≡ false
      go true e = absurd (omega arith)
      go false e = refl

  rest_passed : first_of ((suc n, b) ∷ cs) ≡ 0 → first_of cs ≡ 0
  rest_passed = go b
    where
      go : (t : Bool) → first_of ((suc n, t) ∷ cs) ≡ 0 → first_of cs ≡ 0
      go true e = absurd (omega arith)
      go false e = e

pub record EarlyPassed (j : Job) : Type 0 where
  pub sizes : bad_sizes (length j.source) (length j.codes) (length j.glyphs) (length j.kept) (glyph_count j) (length j.requested) ≡ false
  pub pairs : bad_pairs j.codes j.glyphs ≡ false
  pub kept : bad_kept j.kept j.codes ≡ false
  pub requested : bad_requested (glyph_count j) j.requested ≡ false
  pub header : refused5 j.source ≡ false
  pub bmp : refused6 j.source ≡ false
  pub full : refused7 j.source ≡ false

pub early_passed : (j : Job) → early_refusal j ≡ 0 → EarlyPassed j
unfolding early_refusal
early_passed j e₁ =
    let b₁ = bad_sizes (length j.source) (length j.codes) (length j.glyphs) (length j.kept) (glyph_count j) (length j.requested) in
    let b₂ = bad_pairs j.codes j.glyphs in
    let b₃ = bad_kept j.kept j.codes in
    let b₄ = bad_requested (glyph_count j) j.requested in
    let b₅ = refused5 j.source in
    let b₆ = refused6 j.source in
    let b₇ = refused7 j.source in
    let c₇ : List Condition = (7, b₇) ∷ [] in
    let c₆ : List Condition = (6, b₆) ∷ c₇ in
    let c₅ : List Condition = (5, b₅) ∷ c₆ in
    let c₄ : List Condition = (4, b₄) ∷ c₅ in
    let c₃ : List Condition = (3, b₃) ∷ c₄ in
    let c₂ : List Condition = (2, b₂) ∷ c₃ in
    let e₂ = rest_passed 0 b₁ c₂ e₁ in
    let e₃ = rest_passed 1 b₂ c₃ e₂ in
    let e₄ = rest_passed 2 b₃ c₄ e₃ in
    let e₅ = rest_passed 3 b₄ c₅ e₄ in
    let e₆ = rest_passed 4 b₅ c₆ e₅ in
    let e₇ = rest_passed 5 b₆ c₇ e₆ in
    record {
      sizes = one_passed 0 b₁ c₂ e₁;
      pairs = one_passed 1 b₂ c₃ e₂;
      kept = one_passed 2 b₃ c₄ e₃;
      requested = one_passed 3 b₄ c₅ e₄;
      header = one_passed 4 b₅ c₆ e₅;
      bmp = one_passed 5 b₆ c₇ e₆;
      full = one_passed 6 b₇ [] e₇;
    }

pub record Passed (j : Job) : Type 0 where
  pub sizes : bad_sizes (length j.source) (length j.codes) (length j.glyphs) (length j.kept) (glyph_count j) (length j.requested) ≡ false
  pub pairs : bad_pairs j.codes j.glyphs ≡ false
  pub kept : bad_kept j.kept j.codes ≡ false
  pub requested : bad_requested (glyph_count j) j.requested ≡ false
  pub header : refused5 j.source ≡ false
  pub bmp : refused6 j.source ≡ false
  pub full : refused7 j.source ≡ false
  pub mappings : refused8 (plan j) ≡ false
  pub some : refused9 j.source (plan j) ≡ false

early_zero : (j : Job) → refusal_of j ≡ 0 → early_refusal j ≡ 0
early_zero j e =
    by_leb (early_refusal j ≡ 0) 1 (early_refusal j)
    (λ h. sym (refusal_early j h) ∙ e)
    (λ h. omega arith)

pub passed : (j : Job) → refusal_of j ≡ 0 → Passed j
unfolding late_refusal
passed j e =
    let z = early_zero j e in
    let p = early_passed j z in
    let b₈ = refused8 (plan j) in
    let b₉ = refused9 j.source (plan j) in
    let c₉ : List Condition = (9, b₉) ∷ [] in
    let e₈ : first_of ((8, b₈) ∷ c₉) ≡ 0 = sym (refusal_late j z) ∙ e in
    record {
      sizes = p.sizes;
      pairs = p.pairs;
      kept = p.kept;
      requested = p.requested;
      header = p.header;
      bmp = p.bmp;
      full = p.full;
      mappings = one_passed 7 b₈ c₉ e₈;
      some = one_passed 8 b₉ [] (rest_passed 7 b₈ c₉ e₈);
    }
