-- Header and records are written one behind the other: what is left of them, written from here, gives them all.
use Prim.Native.Nat.{ℕ, zero, suc, ◌+◌, ◌*◌, ◌-◌, ◌/◌, ◌%◌, ◌^◌, ◌<◌, ◌≤◌}
use mathlib.Core.Path.{◌≡◌, refl, sym, ap, ◌∙◌}
use mathlib.Core.List.{List, ◌++◌}
use mathlib.Core.Bool.{Bool, true, false}
use lib.Arith.{mod-mul, digits_div, digits_mod}
use native.Mathlib.Nat.{pow-suc}
use native.Mathlib.Omega.{arith}
use lib.ListN.{length}
use lib.Seq.{sets, length-sets}
use Rattle.laws.proofs.SetsLaws.{sets-append}
use Rattle.number.specs.BigEndian.{enc, put}
use Rattle.number.proofs.BigEndianLaws.{length-enc, pow_pos}
use Rattle.source_header.specs.declared.EncodingRecord.{EncodingRecord}
use Rattle.source_header.specs.Header.{record_of}
use Rattle.plan.specs.declared.Outcome.{Outcome}
use Rattle.result.specs.Result.{count_from, record_bytes, records_from}
use Rattle.result.specs.Layout.{place_by_sizes}
use Rattle.plan.specs.Outcomes.{is_written, maker_of, at}
use Rattle.result.proofs.LengthLaws.{length_record}
use Rattle.result_writer.specs.RecordParts.{Recorded, Laid}

-- ---- version 0 and the count

pub header_is : (out mid fin : List ℕ) (count : ℕ) → mid ≡ put 2 out 0 0 → fin ≡ put 2 mid 2 count → fin ≡ sets out 0 (enc 2 0 ++ enc 2 count)
unfolding put
header_is out mid fin count a b = rw (b, a, ← sets-append out 0 (enc 2 0) (enc 2 count), length-enc 2 0)

-- ---- a record's numbers

-- the bytes of a number are those of its rest
enc-mod : (w n : ℕ) → enc w (n % 256 ^ w) ≡ enc w n
unfolding enc
enc-mod zero n = refl
enc-mod (suc w) n =
    let b : n % 256 < 256 = omega arith in
    rw (
      pow-suc 256 w,
      mod-mul n {m = 256 ^ w} {c = 256} (pow_pos w) (omega arith),
      digits_div ((n / 256) % 256 ^ w) b,
      digits_mod ((n / 256) % 256 ^ w) b,
      enc-mod w (n / 256),
    )

pub numbers_are : (out mid two fin : List ℕ) (i x y z : ℕ) → mid ≡ put 2 out i x → two ≡ put 2 mid (i + 2) y → fin ≡ put 4 two (i + 4) (z % 4294967296)
    → fin ≡ sets out i (enc 2 x ++ (enc 2 y ++ enc 4 z))
unfolding put
numbers_are out mid two fin i x y z e₁ e₂ e₃ =
    let far : i + 4 ≡ i + 2 + 2 = omega arith in
    rw (
      e₃,
      e₂,
      e₁,
      enc-mod 4 z,
      ← sets-append out i (enc 2 x) (enc 2 y ++ enc 4 z),
      length-enc 2 x,
      ← sets-append (sets out i (enc 2 x)) (i + 2) (enc 2 y) (enc 4 z),
      length-enc 2 y,
      far,
    )

-- ---- one record

module _ (xs : List ℕ) (os : List Outcome) (k count maker : ℕ) (r : Recorded xs os k count) (e : maker ≡ maker_of (at os k) k) where
  pub maker_inside : maker < length os
  maker_inside = rw e r.maker

  pub record_is : (rec : EncodingRecord) (offset i : ℕ) (out fin : List ℕ) → rec ≡ record_of xs k → offset ≡ place_by_sizes os maker
      → fin ≡ sets out i (enc 2 rec.platform ++ (enc 2 rec.encoding ++ enc 4 offset)) → fin ≡ sets out i (record_bytes (place_by_sizes os) xs os k)
  record_is rec offset i out fin q g h = rw (← e, ← g) (rw q at h)

pub ruleset recorded = (maker_inside, record_is)

-- ---- all records

-- k records are passed, and those of them that are written stand before `place`
pub record Recording (xs : List ℕ) (os : List Outcome) (out₀ out : List ℕ) (place k : ℕ) : Type 0 where
  pub within : k ≤ length os
  pub low : place ≤ 4 + 8 * k
  pub room : place + 8 * count_from os (length os - k) k ≤ length out
  pub same : length out ≡ length out₀
  pub left : sets out place (records_from (place_by_sizes os) xs os (length os - k) k) ≡ sets out₀ 4 (records_from (place_by_sizes os) xs os (length os) 0)

pub recording_start : (xs : List ℕ) (os : List Outcome) (count : ℕ) (out : List ℕ) → Laid xs os count → 4 + 8 * count ≤ length out → Recording xs os out out 4 0
recording_start xs os count out l h =
    let z : length os - 0 ≡ length os = omega arith in
    record { within = omega arith; low = omega arith; room = rw z (omega (arith, h, l.counts.is)); same = refl; left = rw z refl }

module _ (xs : List ℕ) (os : List Outcome) (out₀ out : List ℕ) (place k : ℕ) (l : Recording xs os out₀ out place k) where
  abbrev offset : ℕ → ℕ
  offset = place_by_sizes os

  pub recording_end : length os ≤ k → out ≡ sets out₀ 4 (records_from offset xs os (length os) 0)
  unfolding records_from
  recording_end h =
      let z : length os - k ≡ 0 = omega arith in
      rw z at l.left

  module _ (t : Bool) (h : k < length os) (asked : t ≡ is_written (at os k)) where
    on : length os - k ≡ suc (length os - (k + 1))
    on = omega arith

    pub recording_no : (same : List ℕ) (there : ℕ) → t ≡ false → same ≡ out → there ≡ place → Recording xs os out₀ same there (k + 1)
    unfolding records_from count_from
    recording_no same there e a b =
        rw (a, b)
        (record {
          within = omega arith;
          low = omega (arith, l.low);
          room = rw (on, ← asked, e) at l.room;
          same = l.same;
          left = rw (on, ← asked, e) at l.left;
        })

    module _ (e : t ≡ true) where
      pub recording_room : place + 8 ≤ length out
      unfolding count_from
      recording_room =
          let r = rw (on, ← asked, e) at l.room in
          omega (arith, r)

      pub recording_asks : (count : ℕ) → Laid xs os count → Recorded xs os k count
      recording_asks count p = record { counts = p.counts; here = p.here k (sym asked ∙ e); inside = h; maker = p.makers k h }

      pub recording_yes : (wrote next : List ℕ) (there : ℕ) → wrote ≡ sets out place (record_bytes offset xs os k) → next ≡ wrote → there ≡ place + 8
          → Recording xs os out₀ next there (k + 1)
      unfolding records_from count_from
      recording_yes wrote next there w n p =
          let b = record_bytes offset xs os k in
          let rest = records_from offset xs os (length os - (k + 1)) (k + 1) in
          let long : length next ≡ length out = rw (n, w) (length-sets out place b) in
          let r = rw (on, ← asked, e) at l.room in
          record {
            within = omega arith;
            low = omega (arith, l.low);
            room = omega (arith, r, long);
            same = long ∙ l.same;
            left = rw (n, w, p) (ap (λ (i : ℕ). sets (sets out place b) (place + i) rest) (sym (length_record offset xs os k))
                ∙ sets-append out place b rest ∙ rw (on, ← asked, e) at l.left);
          }

pub ruleset recording = (recording_start, recording_no, recording_yes, recording_end)
