-- The table of a record by the kind of its subtable: what its writer asks for, and that it is the record's.
use Prim.Native.Nat.{ℕ, ◌+◌, ◌*◌, ◌≤◌}
use mathlib.Core.Path.{◌≡◌, refl, sym, ap, ◌∙◌}
use mathlib.Core.List.{List}
use native.Mathlib.Omega.{arith}
use lib.ListN.{length}
use lib.Seq.{sets}
use Rattle.laws.specs.Lists.{Pair}
use Rattle.number.specs.BigEndian.{be}
use Rattle.source.specs.declared.Kind.{Kind}
use Rattle.source.specs.declared.Kind.TheVariants.{Format4, Format12, Format14, Unreadable}
use Rattle.source_header.specs.Header.{offset_of}
use Rattle.source_records.specs.Records.{leads_to}
use Rattle.plan_listing.specs.Job.{Job, job}
use Rattle.plan_listing.specs.Listing.{listed}
use Rattle.format4.specs.declared.Size4.{Size4}
use Rattle.format4.specs.declared.Size4.TheVariants.{Empty, TooLong, Fits}
use Rattle.format4.specs.Format4.{format4}
use Rattle.format4.specs.Size.{size_of4}
use Rattle.format12.specs.Format12.{format12}
use Rattle.plan.specs.Making.{Ready}
use Rattle.plan_make4.specs.Fits4.{Fits4}
use Rattle.format14.specs.Selectors.{job14}
use Rattle.format14.specs.ByNumber.{slot, Readable}
use Rattle.format14.specs.Ends.{Ends}
use Rattle.format14.specs.Format14.{format14, rows, length_of14}
use Rattle.format14.proofs.WholeLaws.{length-format14}
use Rattle.plan.specs.declared.Outcome.TheVariants.{Made}
use Rattle.plan.specs.Sizes.{made_size}
use Rattle.plan.specs.declared.Notes.{Notes}
use Rattle.plan.specs.Fresh.{table_of, by4, fresh}
use Rattle.plan.proofs.FreshLaws.{leads4, readable14}
use Rattle.result.proofs.MadeLaws.{not_made, made_length, table_is}
use Rattle.result_writer.specs.TableParts.{TableRoom, Known}

sized4 : (ps : List Pair) (place n l : ℕ) (size : Size4) → size_of4 ps ≡ size → by4 size ≡ Made n → place + n ≤ l → Fits4 ps place l
sized4 ps place n l Empty q e h = not_made (Fits4 ps place l) (by4 Empty) n refl e
sized4 ps place n l TooLong q e h = not_made (Fits4 ps place l) (by4 TooLong) n refl e
sized4 ps place n l (Fits c) q e h = record { counter = c; is = q; room = omega (arith, ap made_size e) }

module _ (xs : List ℕ) (k : ℕ) (kind : Kind) (q : kind ≡ leads_to xs k) (cs gs kept map requested : List ℕ) (place size : ℕ) where
  abbrev j : Job
  j = job xs cs gs kept map requested

  module _ (language s len : ℕ) (e : kind ≡ Format4 language s len) where
    pub fits_4 : (l : ℕ) → TableRoom j k place size l → Fits4 (listed xs (length map) cs gs k) place l
    unfolding fresh
    fits_4 l r = sized4 (listed xs (length map) cs gs k) place size l (size_of4 (listed xs (length map) cs gs k)) refl (rw (← q, e) at r.is) r.fits

    pub wrote_4 : (out next : List ℕ) → next ≡ sets out place (format4 language (listed xs (length map) cs gs k)) → next ≡ sets out place (table_of j k)
    wrote_4 out next h = rw (table_is j k (Format4 language s len) (sym q ∙ e)) h

  module _ (language g len : ℕ) (e : kind ≡ Format12 language g len) where
    pub room_12 : (l : ℕ) → TableRoom j k place size l → place + length (format12 language (listed xs (length map) cs gs k)) ≤ l
    room_12 l r = omega (arith, made_length j k size r.is ∙ ap length (table_is j k (Format12 language g len) (sym q ∙ e)), r.fits)

    pub wrote_12 : (out next : List ℕ) → next ≡ sets out place (format12 language (listed xs (length map) cs gs k)) → next ≡ sets out place (table_of j k)
    wrote_12 out next h = rw (table_is j k (Format12 language g len) (sym q ∙ e)) h

  module _ (at n len : ℕ) (p : at ≡ offset_of xs k) (e : kind ≡ Format14 n len) where
    table_14 : table_of j k ≡ format14 (rows (job14 xs at len kept map requested))
    table_14 = rw p (table_is j k (Format14 n len) (sym q ∙ e))

    pub size_14 : (l : ℕ) → TableRoom j k place size l → size ≡ length_of14 (rows (job14 xs at len kept map requested))
    size_14 l r = made_length j k size r.is ∙ ap length table_14 ∙ length-format14 (rows (job14 xs at len kept map requested))

    pub readable_14 : (fs tocs togs : List ℕ) → Ready j k fs tocs togs → Readable xs at len kept requested
    readable_14 fs tocs togs r = rw p (readable14 xs cs gs kept map requested k kind n len fs tocs togs q e r)

    pub ends_14 : (notes : Notes) → Known j k notes → Ends (slot (job14 xs at len kept map requested)) (2 * be 4 xs (at + 6)) notes.ends
    ends_14 notes w = rw p (w.ended.is n len (sym q ∙ e))

    pub wrote_14 : (out next : List ℕ) → next ≡ sets out place (format14 (rows (job14 xs at len kept map requested))) → next ≡ sets out place (table_of j k)
    wrote_14 out next h = rw table_14 h

  pub wrote_none : (out : List ℕ) → kind ≡ Unreadable → out ≡ sets out place (table_of j k)
  wrote_none out e = rw (table_is j k Unreadable (sym q ∙ e))

pub ruleset tables = (leads4, fits_4, wrote_4, room_12, wrote_12, wrote_14, wrote_none)
