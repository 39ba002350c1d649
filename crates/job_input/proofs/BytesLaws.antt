-- Every job within the limits comes back from its bytes.
use Prim.Native.Nat.{ℕ, suc, ◌+◌, ◌*◌, ◌/◌, ◌%◌, ◌^◌, ◌≤◌, ◌<◌}
use mathlib.Core.Path.{◌≡◌, refl, sym, ap, ap₂, ◌∙◌}
use mathlib.Core.List.{List, [], ◌∷◌, ◌++◌}
use mathlib.Core.Bool.{true}
use native.Mathlib.Nat.{add-zero, add_assoc, mul-div_right, mul-mod_right}
use native.Mathlib.Numerals.{add-one}
use native.Mathlib.Omega.{arith}
use lib.ListN.{length, get_or, take, drop, length-append, get_or-append}
use lib.Seq.{get_or-append-add, drop-cons}
use borrow.Author.Tests.{le-leb, eq-eqb}
use Rattle.std.proofs.Common.{Some, option_map}
use Rattle.laws.proofs.StandsLaws.{Stands}
use Rattle.number.specs.BigEndian.{be, enc}
use Rattle.number.specs.Row.{encs}
use Rattle.number.proofs.BigEndianLaws.{be_ext, be-enc_fits, length-enc}
use Rattle.number.proofs.RowLaws.{length-encs}
use Rattle.job_input.specs.declared.Field.{Field}
use Rattle.job_input.specs.Column.{column}
use Rattle.job_input.specs.declared.Places.{Places}
use Rattle.plan_listing.specs.Job.{Job}
use Rattle.job_input.specs.Job.{size, within, field_at, job_at, parse}
use Rattle.job_input.specs.Bytes.{framed_record, pair_bytes, job_bytes, Fit, Sized}
use Rattle.job_input.proofs.JobLaws.{Five, whole, five_located}

-- ---- parts of a list that stands

module _ {xs : List ℕ} {at : ℕ} (us vs : List ℕ) (s : Stands xs at (us ++ vs)) where
  left : Stands xs at us
  left = record {
    inside = omega (arith, s.inside, length-append us vs);
    same = λ k h. s.same k (omega (arith, h, length-append us vs)) ∙ get_or-append us vs 0 k h;
  }

  right : Stands xs (at + length us) vs
  right = record {
    inside = omega (arith, s.inside, length-append us vs);
    same = λ k h. rw (add_assoc at (length us) k) (s.same (length us + k) (omega (arith, h, length-append us vs)) ∙ get_or-append-add us vs k 0);
  }

module _ {xs : List ℕ} {at : ℕ} (w n : ℕ) (vs : List ℕ) (s : Stands xs at (enc w n ++ vs)) where
  behind : Stands xs (at + w) vs
  behind = rw (length-enc w n) at (right (enc w n) vs s)

  number : n < 256 ^ w → be w xs at ≡ n
  number h =
      let t = left (enc w n) vs s in
      be_ext w xs (enc w n) at 0 (λ k l. t.same k (rw (length-enc w n) l) ∙ ap (λ i. get_or (enc w n) i 0) (omega arith)) ∙ be-enc_fits w n h

-- ---- columns

column-encs : (w : ℕ) (vs xs : List ℕ) (at : ℕ) → Stands xs at (encs w vs) → Fit w vs → column w w xs at (length vs) ≡ vs
unfolding column encs
column-encs w [] xs at s f = refl
column-encs w (v ∷ vs) xs at s f =
    ap₂ (λ (a : ℕ) (b : List ℕ). a ∷ b) (number w v (encs w vs) s f.0) (column-encs w vs xs (at + w) (behind w v (encs w vs) s) f.1)

module _ (xs : List ℕ) where
  column_codes : (cs gs : List ℕ) (at : ℕ) → length gs ≡ length cs → Stands xs at (pair_bytes cs gs) → Fit 4 cs → column 4 6 xs at (length cs) ≡ cs
  unfolding column pair_bytes
  column_codes [] gs at e s f = refl
  column_codes (c ∷ cs) [] at e s f = absurd (omega arith)
  column_codes (c ∷ cs) (g ∷ gs) at e s f =
      let t = behind 4 c (enc 2 g ++ pair_bytes cs gs) s in
      let u = rw (add_assoc at 4 2) at (behind 2 g (pair_bytes cs gs) t) in
      ap₂ (λ (a : ℕ) (b : List ℕ). a ∷ b) (number 4 c (enc 2 g ++ pair_bytes cs gs) s f.0) (column_codes cs gs (at + 6) (omega arith) u f.1)

  column_glyphs : (cs gs : List ℕ) (at : ℕ) → length gs ≡ length cs → Stands xs at (pair_bytes cs gs) → Fit 2 gs → column 2 6 xs (at + 4) (length cs) ≡ gs
  unfolding column pair_bytes
  column_glyphs [] [] at e s f = refl
  column_glyphs [] (g ∷ gs) at e s f = absurd (omega arith)
  column_glyphs (c ∷ cs) [] at e s f = absurd (omega arith)
  column_glyphs (c ∷ cs) (g ∷ gs) at e s f =
      let t = behind 4 c (enc 2 g ++ pair_bytes cs gs) s in
      let u = rw (add_assoc at 4 2) at (behind 2 g (pair_bytes cs gs) t) in
      let q : at + 4 + 6 ≡ at + 6 + 4 = omega arith in
      ap₂ (λ (a : ℕ) (b : List ℕ). a ∷ b) (number 2 g (pair_bytes cs gs) t f.0) (rw q (column_glyphs cs gs (at + 6) (omega arith) u f.1))

length-pair_bytes : (cs gs : List ℕ) → length gs ≡ length cs → length (pair_bytes cs gs) ≡ 6 * length cs
unfolding pair_bytes
length-pair_bytes [] gs e = refl
length-pair_bytes (c ∷ cs) [] e = absurd (omega arith)
length-pair_bytes (c ∷ cs) (g ∷ gs) e =
    rw (length-append (enc 4 c) (enc 2 g ++ pair_bytes cs gs), length-append (enc 2 g) (pair_bytes cs gs), length-enc 4 c, length-enc 2 g, length-pair_bytes cs gs (omega arith)) (omega arith)

-- ---- records

length_framed : (m : ℕ) (payload : List ℕ) → length (framed_record m payload) ≡ 6 + length payload
length_framed m payload =
    rw (length-append (enc 2 m) (enc 4 (length payload) ++ payload), length-append (enc 4 (length payload)) payload, length-enc 2 m, length-enc 4 (length payload)) (omega arith)

within_of : (width most n : ℕ) → n % width ≡ 0 → n / width ≤ most → within width most n ≡ true
unfolding within
within_of width most n a b = rw (eq-eqb _ _ a, le-leb _ _ b)

-- the place behind a record's head
abbrev field_in : ℕ → List ℕ → ℕ → Field
field_in width payload at = record { at = at + 6; count = length payload / width; end = at + 6 + length payload }

module _ {xs : List ℕ} {at : ℕ} (m : ℕ) (payload : List ℕ) where
  payload_stands : Stands xs at (framed_record m payload) → Stands xs (at + 6) payload
  payload_stands s = rw (add_assoc at 2 4) at (behind 4 (length payload) payload (behind 2 m (enc 4 (length payload) ++ payload) s))

  framed_field : (width most : ℕ) → m < 65536 → length payload < 256 ^ 4 → length payload % width ≡ 0 → length payload / width ≤ most
      → Stands xs at (framed_record m payload) → field_at m width most xs at ≡ Some (field_in width payload at)
  framed_field width most hm hn a b s =
      let t = behind 2 m (enc 4 (length payload) ++ payload) s in
      let q : size xs at ≡ length payload = number 4 (length payload) payload t hn in
      let l = s.inside in
      let k = length_framed m payload in
      sym (rw q at (whole m width most xs at (record {
        head = omega (arith, l, k);
        marked = number 2 m (enc 4 (length payload) ++ payload) s hm;
        room = omega (arith, l, k, q);
        entries = rw q (within_of width most (length payload) a b);
      })))

  next_stands : (rest : List ℕ) → Stands xs at (framed_record m payload ++ rest) → Stands xs (at + 6 + length payload) rest
  next_stands rest s = rw (length_framed m payload, ← add_assoc at 6 (length payload)) at (right (framed_record m payload) rest s)

stands_take : (xs : List ℕ) (at : ℕ) (t : List ℕ) → Stands xs at t → take (length t) (drop at xs) ≡ t
stands_take xs at [] s = refl
stands_take xs at (y ∷ ys) s =
    let h : at < length xs = omega (arith, s.inside) in
    rw (drop-cons xs at 0 h)
    (ap₂ (λ (a : ℕ) (b : List ℕ). a ∷ b) (rw (add-zero at) at (s.same 0 (omega arith))) (stands_take xs (suc at) ys (rw (add-one at) at (right (y ∷ []) ys s))))

-- ---- a record comes back: where it stands, and its list

pub record Back (m width most : ℕ) (xs : List ℕ) (at : ℕ) (payload : List ℕ) (list back : List ℕ) : Type 0 where
  pub field : field_at m width most xs at ≡ Some (field_in width payload at)
  pub is : back ≡ list

framed_list : {xs : List ℕ} {at : ℕ} (m w most : ℕ) (vs : List ℕ) → m < 65536 → 0 < w → length vs ≤ most → w * length vs < 256 ^ 4
    → Stands xs at (framed_record m (encs w vs)) → Fit w vs → Back m w most xs at (encs w vs) vs (column w w xs (at + 6) (length (encs w vs) / w))
framed_list {xs} {at} m w most vs hm hw few room s f =
    let l = length-encs w vs in
    let n : length (encs w vs) / w ≡ length vs = rw l (mul-div_right (length vs) hw) in
    record {
      field = framed_field m (encs w vs) w most hm (rw l room) (rw l (mul-mod_right w (length vs))) (rw n few) s;
      is = rw n (column-encs w vs xs (at + 6) (payload_stands m (encs w vs) s) f);
    }

-- ---- the job

module _ (j : Job) (z : Sized j) where
  abbrev bytes : List ℕ
  bytes = job_bytes j

  abbrev pairs_in : List ℕ
  pairs_in = pair_bytes j.codes j.glyphs

  abbrev places : Places
  places =
      let a = field_in 1 j.source 0 in
      let b = field_in 6 pairs_in a.end in
      let c = field_in 4 (encs 4 j.kept) b.end in
      let d = field_in 2 (encs 2 j.new_glyphs) c.end in
      record { source = a; pairs = b; kept = c; map = d; requested = field_in 2 (encs 2 j.requested) d.end }

  -- each record, and what stands behind it
  abbrev tb : List ℕ
  tb = framed_record 0x5442 j.source

  abbrev pr : List ℕ
  pr = framed_record 0x5052 pairs_in

  abbrev kp : List ℕ
  kp = framed_record 0x4B50 (encs 4 j.kept)

  abbrev mp : List ℕ
  mp = framed_record 0x4D50 (encs 2 j.new_glyphs)

  abbrev rq : List ℕ
  rq = framed_record 0x5251 (encs 2 j.requested)

  at_source : Stands bytes 0 bytes
  at_source = record { inside = omega arith; same = λ k h. ap (λ i. get_or bytes i 0) (omega arith) }

  at_pairs : Stands bytes places.source.end (pr ++ (kp ++ (mp ++ rq)))
  at_pairs = next_stands 0x5442 j.source (pr ++ (kp ++ (mp ++ rq))) at_source

  at_kept : Stands bytes places.pairs.end (kp ++ (mp ++ rq))
  at_kept = next_stands 0x5052 pairs_in (kp ++ (mp ++ rq)) at_pairs

  at_map : Stands bytes places.kept.end (mp ++ rq)
  at_map = next_stands 0x4B50 (encs 4 j.kept) (mp ++ rq) at_kept

  at_requested : Stands bytes places.map.end rq
  at_requested = next_stands 0x4D50 (encs 2 j.new_glyphs) rq at_map

  ends : places.requested.end ≡ length bytes
  ends =
      omega (
        arith,
        length-append tb (pr ++ (kp ++ (mp ++ rq))),
        length-append pr (kp ++ (mp ++ rq)),
        length-append kp (mp ++ rq),
        length-append mp rq,
        length_framed 0x5442 j.source,
        length_framed 0x5052 pairs_in,
        length_framed 0x4B50 (encs 4 j.kept),
        length_framed 0x4D50 (encs 2 j.new_glyphs),
        length_framed 0x5251 (encs 2 j.requested),
      )

  the_source : Back 0x5442 1 32768 bytes 0 j.source j.source (job_at bytes places).source
  the_source =
      let s = left tb (pr ++ (kp ++ (mp ++ rq))) at_source in
      let n : length j.source / 1 ≡ length j.source = omega arith in
      record {
        field = framed_field 0x5442 j.source 1 32768 (omega arith) (omega (arith, z.source)) (omega arith) (omega (arith, z.source)) s;
        is = rw n (stands_take bytes 6 j.source (payload_stands 0x5442 j.source s));
      }

  pairs_stand : Stands bytes places.source.end pr
  pairs_stand = left pr (kp ++ (mp ++ rq)) at_pairs

  pairs_length : length pairs_in ≡ 6 * length j.codes
  pairs_length = length-pair_bytes j.codes j.glyphs z.even

  pairs_count : length pairs_in / 6 ≡ length j.codes
  pairs_count = omega (arith, pairs_length)

  the_codes : Back 0x5052 6 2048 bytes places.source.end pairs_in j.codes (job_at bytes places).codes
  the_codes = record {
    field = framed_field 0x5052 pairs_in 6 2048 (omega arith) (omega (arith, pairs_length, z.pairs)) (omega (arith, pairs_length)) (omega (arith, pairs_length, z.pairs)) pairs_stand;
    is = rw pairs_count (column_codes bytes j.codes j.glyphs places.pairs.at z.even (payload_stands 0x5052 pairs_in pairs_stand) z.codes4);
  }

  the_glyphs : (job_at bytes places).glyphs ≡ j.glyphs
  the_glyphs =
      rw pairs_count (column_glyphs bytes j.codes j.glyphs places.pairs.at z.even (payload_stands 0x5052 pairs_in pairs_stand) z.glyphs2)

  the_kept : Back 0x4B50 4 4096 bytes places.pairs.end (encs 4 j.kept) j.kept (job_at bytes places).kept
  the_kept = framed_list 0x4B50 4 4096 j.kept (omega arith) (omega arith) z.kept (omega (arith, z.kept)) (left kp (mp ++ rq) at_kept) z.kept4

  the_map : Back 0x4D50 2 8192 bytes places.kept.end (encs 2 j.new_glyphs) j.new_glyphs (job_at bytes places).new_glyphs
  the_map = framed_list 0x4D50 2 8192 j.new_glyphs (omega arith) (omega arith) z.map (omega (arith, z.map)) (left mp rq at_map) z.map2

  the_requested : Back 0x5251 2 2048 bytes places.map.end (encs 2 j.requested) j.requested (job_at bytes places).requested
  the_requested = framed_list 0x5251 2 2048 j.requested (omega arith) (omega arith) z.requested (omega (arith, z.requested)) at_requested z.requested2

  found : Five bytes places
  found = record {
    source = the_source.field;
    pairs = the_codes.field;
    kept = the_kept.field;
    map = the_map.field;
    requested = the_requested.field;
    ends = ends;
  }

  pub parse_bytes : parse (job_bytes j) ≡ Some j
  parse_bytes =
      ap (option_map (job_at bytes)) (five_located bytes places found)
      ∙ ap Some (made the_source.is the_codes.is the_glyphs the_kept.is the_map.is the_requested.is)
    where
      made : {s c g k m r : List ℕ} → s ≡ j.source → c ≡ j.codes → g ≡ j.glyphs → k ≡ j.kept → m ≡ j.new_glyphs → r ≡ j.requested
          → ◌≡◌ {A = Job} (record { source = s; codes = c; glyphs = g; kept = k; new_glyphs = m; requested = r }) j
      made a b c d e f = rw (a, b, c, d, e, f)
