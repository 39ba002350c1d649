-- What becomes of a record by the kind of its subtable.
use Prim.Native.Nat.{ℕ}
use mathlib.Core.Path.{◌≡◌, sym, ap, ◌∙◌}
use mathlib.Core.List.{List}
use native.Mathlib.Omega.{arith}
use lib.ListN.{length}
use Rattle.source.specs.declared.Kind.{Kind}
use Rattle.source.specs.declared.Kind.TheVariants.{Format4, Format12, Format14, Unreadable}
use Rattle.source_header.specs.Header.{offset_of}
use Rattle.source.specs.Kind.{format_of}
use Rattle.source.proofs.KindLaws.{tells14}
use Rattle.source_records.specs.Records.{leads_to}
use Rattle.plan_listing.specs.Job.{Job, job}
use Rattle.format4.specs.Size.{size_of4}
use Rattle.format12.specs.Format12.{size_of12}
use Rattle.plan.specs.Making.{Leads}
use Rattle.format14.specs.ByNumber.{Readable}
use Rattle.format14.specs.Format14.{outcome14}
use Rattle.plan.specs.declared.Outcome.{Outcome}
use Rattle.plan.specs.declared.Why.TheVariants.{Skipped}
use Rattle.plan.specs.declared.Outcome.TheVariants.{LeftOut, Made}
use Rattle.plan.specs.Fresh.{listed_of, job14_of, by4, by14, fresh}
use Rattle.plan.specs.Making.{Ready}

module _ (xs : List ℕ) (k : ℕ) (kind : Kind) (q : kind ≡ leads_to xs k) where
  pub leads4 : (l s len : ℕ) → kind ≡ Format4 l s len → Leads xs k 4
  leads4 l s len e = record { is = ap format_of (sym q ∙ e) }

module _ (j : Job) (k : ℕ) (kind : Kind) (q : kind ≡ leads_to j.source k) where
  pub fresh_4 : (l s len : ℕ) (o : Outcome) → kind ≡ Format4 l s len → o ≡ by4 (size_of4 (listed_of j k)) → o ≡ fresh j k
  unfolding fresh
  fresh_4 l s len o e h = rw (← q, e) h

  pub fresh_12 : (l g len : ℕ) (o : Outcome) → kind ≡ Format12 l g len → o ≡ Made (size_of12 (listed_of j k)).bytes → o ≡ fresh j k
  unfolding fresh
  fresh_12 l g len o e h = rw (← q, e) h

  pub fresh_none : kind ≡ Unreadable → LeftOut Skipped ≡ fresh j k
  unfolding fresh
  fresh_none e = rw (← q, e)

  module _ (n len : ℕ) (e : kind ≡ Format14 n len) where
    pub fresh_14 : (o : Outcome) → o ≡ by14 (outcome14 (job14_of j k len)) → o ≡ fresh j k
    unfolding fresh
    fresh_14 o h = rw (← q, e) h

pub readable14 : (xs cs gs kept map requested : List ℕ) (k : ℕ) (kind : Kind) (n len : ℕ) (flags tocodes toglyphs : List ℕ) → kind ≡ leads_to xs k → kind ≡ Format14 n len
    → Ready (job xs cs gs kept map requested) k flags tocodes toglyphs → Readable xs (offset_of xs k) len kept requested
unfolding leads_to
readable14 xs cs gs kept map requested k kind n len flags tocodes toglyphs q e r =
    let t = tells14 xs (offset_of xs k) (sym q ∙ e) in
    record {
      inside = t.fits;
      records = omega (arith, t.room, t.records);
      few = omega (arith, t.few, t.records);
      small = r.source_small;
      kept_rises = r.kept_rises;
      kept_few = r.kept_few;
      kept_low = r.kept_low;
      requested_rises = r.requested_rises;
    }

pub ruleset freshly = (leads4, fresh_4, fresh_12, fresh_14, fresh_none, readable14)

-- work room that was written to is work room still
pub ready_again : (j : Job) (k : ℕ) (fs gs tocs togs : List ℕ) → Ready j k fs tocs togs → length gs ≡ length fs → Ready j k gs tocs togs
ready_again j k fs gs tocs togs r e =
    let p = r.pairs_ready in
    record {
      pairs_ready = record {
        placed = p.placed;
        beside = record { glyphs = p.beside.glyphs; flagged = record { rising = p.beside.flagged.rising; beside = omega (arith, p.beside.flagged.beside) } };
        columns = p.columns;
        few = p.few;
      };
      source_small = r.source_small;
      kept_rises = r.kept_rises;
      kept_few = r.kept_few;
      kept_low = r.kept_low;
      requested_rises = r.requested_rises;
      kept-flags = omega (arith, r.kept-flags);
    }
