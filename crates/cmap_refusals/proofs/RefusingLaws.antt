-- What the functions come to test by test, and what a job that refusals 1 to 7 let pass holds to.
use Rattle.std.specs.Prelude.{Option, Some, None, Result, Ok, Err}
use Prim.Native.Nat.{ℕ, ◌<◌, ◌≤◌}
use mathlib.Core.Path.{◌≡◌, refl, sym, ap, ◌∙◌}
use mathlib.Core.List.{List}
use native.Mathlib.Omega.{arith}
use lib.ListN.{length}
use Rattle.number.specs.BigEndian.{Bytes}
use Rattle.source_header.specs.Header.{header_of}
use Rattle.source_header.proofs.HeaderLaws.{accepted_of, not_refused, tells_records, tells_refused}
use Rattle.source_records.specs.Records.{Counted}
use Rattle.lists_checks.proofs.SizesLaws.{sizes, codes_rise, kept_rise, kept_low, requested_rise}
use Rattle.plan_listing.specs.Job.{Job, glyph_count}
use Rattle.plan.specs.Prepared.{Prepared}
use Rattle.result.specs.Lent.{Lent}
use Rattle.result.proofs.LentLaws.{lent}
use Rattle.result.specs.declared.Refusal.{Refusal}
use Rattle.result.specs.declared.Refusal.TheVariants.{BadHeader}
use Rattle.result.specs.Refusal.{refusal_told, list_refusals, source_refusals, early_refusal, rises}
use Rattle.result.proofs.RefusalLaws.{first_append, first_stays, told_some, told_none, early_passed}
use Rattle.cmap_refusals.specs.Refusing.{list_refusal, source_refusal, format_refusal}

-- ---- the header

module _ (xs : List ℕ) (h : Option ℕ) where
  pub header_counts : (m : ℕ) → h ≡ header_of xs → h ≡ Some m → Counted xs m
  header_counts m q e =
      let a = tells_records xs (sym q ∙ e) in
      record { is = a.count; inside = a.fits }

  pub header_refused : h ≡ header_of xs → h ≡ None → refusal_told (Err BadHeader) ≡ source_refusal xs
  unfolding source_refusal
  header_refused q e = rw (tells_refused xs (sym q ∙ e))

  pub header_passed : (m : ℕ) (r : Result (Unit {0}) Refusal) → h ≡ header_of xs → h ≡ Some m → refusal_told r ≡ format_refusal xs → refusal_told r ≡ source_refusal xs
  unfolding source_refusal format_refusal
  header_passed m r q e f = rw (not_refused xs (tells_records xs (sym q ∙ e))) f

pub ruleset by_header = (header_counts, header_refused, header_passed)

-- ---- lists before the source

module _ (j : Job) where
  pub early_by_lists : 0 < list_refusal j → early_refusal j ≡ list_refusal j
  unfolding list_refusal early_refusal
  early_by_lists h = first_stays (list_refusals j) (source_refusals j.source) h

  pub early_by_source : list_refusal j ≡ 0 → early_refusal j ≡ source_refusal j.source
  unfolding list_refusal source_refusal early_refusal rises
  early_by_source h = first_append (list_refusals j) (source_refusals j.source) refl h

pub ruleset early_by = (early_by_lists, early_by_source)

-- the same for who holds a result that tells what the lists break; the check finds `early_refusal` by the two above
module _ (j : Job) (lists : Result (Unit {0}) Refusal) (e : refusal_told lists ≡ list_refusal j) where
  pub lists_refused : (refusal : Refusal) → lists ≡ Err refusal → refusal_told (Err refusal) ≡ early_refusal j
  lists_refused refusal q = ap refusal_told (sym q) ∙ e ∙ sym (early_by_lists j (told_some lists (list_refusal j) e refusal q))

  pub lists_passed : (u : Unit {0}) (r : Result (Unit {0}) Refusal) → lists ≡ Ok u → refusal_told r ≡ source_refusal j.source → refusal_told r ≡ early_refusal j
  lists_passed u r q f = f ∙ sym (early_by_source j (told_none lists (list_refusal j) e u q))

pub ruleset lists_first = (lists_refused, lists_passed)

-- ---- what a job holds to that they let pass

pub early_lent : (j : Job) → early_refusal j ≡ 0 → Bytes j.source → Lent j
early_lent j e b =
    let p = early_passed j e in
    lent j b p.sizes p.pairs

-- where the work room is long enough
pub early_prepared : (j : Job) (flags others tocodes toglyphs : List ℕ) → early_refusal j ≡ 0
    → length j.codes ≤ length flags → length j.kept ≤ length flags → length j.kept ≤ length others
    → length j.codes ≤ length tocodes → length j.codes ≤ length toglyphs
    → Prepared j flags others tocodes toglyphs
early_prepared j flags others tocodes toglyphs e cf kf ko ct gt =
    let p = early_passed j e in
    let s = sizes (length j.source) (length j.codes) (length j.glyphs) (length j.kept) (glyph_count j) (length j.requested) p.sizes in
    let a = accepted_of j.source p.header in
    record {
      counted = record { is = refl; inside = a.fits };
      few_records = a.few;
      few_glyphs = omega (arith, s.few_glyphs);
      codes_rise = codes_rise j.codes j.glyphs p.pairs;
      few_pairs = s.few_pairs;
      columns = record { even = s.even; codes = ct; glyphs = omega (arith, s.even, gt) };
      source_small = s.source_short;
      kept_rises = kept_rise j.kept j.codes p.kept;
      kept_few = s.kept_few;
      kept_low = record { low = kept_low j.kept j.codes p.kept };
      requested_rises = requested_rise (glyph_count j) j.requested p.requested;
      code_flags = cf;
      kept-flags = kf;
      kept-others = ko;
    }
