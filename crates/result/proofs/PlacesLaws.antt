-- Where the parts of a result stand: its header is accepted, its records are the written ones in source order, and each table is at its offset.
use Prim.Native.Nat.{ℕ, zero, suc, ◌+◌, ◌*◌, ◌-◌, ◌<◌, ◌≤◌}
use mathlib.Core.Path.{◌≡◌, refl, sym}
use mathlib.Core.List.{List, [], ◌++◌}
use mathlib.Core.Bool.{true}
use native.Mathlib.Nat.{zero-add, add-zero}
use native.Mathlib.Omega.{arith}
use lib.ListN.{length}
use Rattle.laws.proofs.ChoiceLaws.{by_leb, false-true, by_test}
use Rattle.laws.proofs.StandsLaws.{Stands, stands_append, stands_whole, stands_behind, stands_before, stands_at}
use Rattle.number.specs.BigEndian.{enc, Bytes}
use Rattle.number.proofs.BigEndianLaws.{be_lt, length-enc}
use Rattle.number.specs.Limits.{records_max}
use Rattle.source_header.specs.Header.{platform_of, encoding_of, offset_of}
use Rattle.source_header.proofs.HeaderLaws.{Accepted}
use Rattle.number.proofs.StandsLaws.{be_stands_enc}
use Rattle.source.specs.Kind.{format_of}
use Rattle.source_records.specs.Records.{leads_to}
use Rattle.plan_listing.specs.Job.{Job}
use Rattle.plan.specs.declared.Outcome.{Outcome}
use Rattle.plan.specs.declared.Why.TheVariants.{NotRetained}
use Rattle.plan.specs.declared.Outcome.TheVariants.{LeftOut, BadMapping, Served, Made}
use Rattle.plan.specs.Outcomes.{is_made}
use Rattle.plan.specs.Fresh.{table_of}
use Rattle.result.specs.Result.{count_from, written_count, new_offset, record_bytes, records_from, tables_from, result_of, tables_start}
use Rattle.result.specs.Layout.{result_length, place_by_sizes}
use Rattle.plan.specs.Outcomes.{is_written, maker_of, at}
use Rattle.result.proofs.CountLaws.{Ith, count_few, sizes_split}
use Rattle.result.proofs.LengthLaws.{length_record, length_records, length_result, offset_place}
use Rattle.laws.specs.Choice.{pick}
use Rattle.laws.proofs.ReadLaws.{get_or_past}

-- record m, not after record k, made the table that record k is written with
pub record Maker (xs : List ℕ) (os : List Outcome) (k m : ℕ) : Type 0 where
  pub earlier : m ≤ k
  pub maker : is_made (at os m) ≡ true
  pub alike : format_of (leads_to xs m) ≡ format_of (leads_to xs k)

-- a plan that says how long each table is and who made it, of no more records than there can be, and a result that 32 bits can address
pub record Sound (j : Job) (os : List Outcome) : Type 0 where
  pub few : length os ≤ records_max
  pub made : (k n : ℕ) → at os k ≡ Made n → n ≡ length (table_of j k)
  pub served : (k r : ℕ) → at os k ≡ Served r → Maker j.source os k r
  pub small : result_length os < 4294967296
  pub bytes : Bytes j.source

-- ---- outcomes

pub made_written : (o : Outcome) → is_made o ≡ true → is_written o ≡ true
made_written (LeftOut why) e = e
made_written BadMapping e = e
made_written (Served r) e = refl
made_written (Made n) e = refl

-- record i of a result is record k of the source
pub record Entry (j : Job) (os : List Outcome) (i k : ℕ) : Type 0 where
  pub platform : platform_of (result_of j os) i ≡ platform_of j.source k
  pub encoding : encoding_of (result_of j os) i ≡ encoding_of j.source k
  pub offset : offset_of (result_of j os) i ≡ new_offset j os (maker_of (at os k) k)

module _ (j : Job) (os : List Outcome) (s : Sound j os) where
  -- ---- tables

  tables_stand : (n k i : ℕ) → i < n → is_made (at os (k + i)) ≡ true → Stands (tables_from j os n k) (length (tables_from j os (n - (i + 1)) (k + i + 1))) (table_of j (k + i))
  unfolding tables_from
  tables_stand zero k i h m = absurd (omega arith)
  tables_stand (suc n) k zero h m =
      let z : suc n - (0 + 1) ≡ n = omega arith in
      let e : is_made (at os k) ≡ true = rw (add-zero k) at m in
      rw (add-zero k, z, e) (stands_behind (tables_from j os n (k + 1)) (length (tables_from j os n (k + 1))) (stands_whole (table_of j k)) (omega arith))
  tables_stand (suc n) k (suc i) h m =
      let p : k + suc i ≡ k + 1 + i = omega arith in
      let z : suc n - (suc i + 1) ≡ n - (i + 1) = omega arith in
      rw (p, z) (stands_before (pick (is_made (at os k)) (table_of j k) []) (tables_stand n (k + 1) i (omega arith) (rw p at m)))

  -- ---- records

  abbrev records : ℕ → ℕ → List ℕ
  records n k = records_from (new_offset j os) j.source os n k

  abbrev one : ℕ → List ℕ
  one k = record_bytes (new_offset j os) j.source os k

  records_stand : (n k m : ℕ) → m < n → is_written (at os (k + m)) ≡ true → Stands (records n k) (8 * count_from os m k) (one (k + m))
  unfolding records_from count_from
  records_stand zero k m h w = absurd (omega arith)
  records_stand (suc n) k zero h w =
      let e : is_written (at os k) ≡ true = rw (add-zero k) at w in
      rw (add-zero k, e) (stands_append [] (one k) (records n (k + 1)))
  records_stand (suc n) k (suc m) h w =
      let p : k + suc m ≡ k + 1 + m = omega arith in
      let r = records_stand n (k + 1) m (omega arith) (rw p at w) in
      let l = length_record (new_offset j os) j.source os k in
      by_test (Stands (records (suc n) k) (8 * count_from os (suc m) k) (one (k + suc m))) (is_written (at os k))
      (λ e. rw (p, e) (stands_behind (one k) (8 * suc (count_from os m (k + 1))) r (omega arith)))
      (λ e. rw (p, e) r)

  -- ---- the whole

  abbrev tables : List ℕ
  tables = tables_from j os (length os) 0

  body_stands : {t : List ℕ} {i : ℕ} (place : ℕ) → Stands (records (length os) 0 ++ tables) i t → place ≡ 4 + i → Stands (result_of j os) place t
  unfolding result_of
  body_stands {t} {i} place st e =
      let a = length-enc 2 0 in
      let b = length-enc 2 (written_count os) in
      stands_behind (enc 2 0) place (stands_behind (enc 2 (written_count os)) (2 + i) st (omega arith)) (omega arith)

  pub written_below : (k : ℕ) → is_written (at os k) ≡ true → k < length os
  written_below k w =
      by_leb (k < length os) (length os) k
      (λ h. absurd (false-true (rw (get_or_past os k (LeftOut NotRetained) h) at w)))
      (λ h. h)

  pub table_stands : (k : ℕ) → is_made (at os k) ≡ true → Stands (result_of j os) (new_offset j os k) (table_of j k)
  unfolding new_offset
  table_stands k m =
      let z = zero-add k in
      let l = length_records (new_offset j os) j.source os (length os) 0 in
      let later = length (tables_from j os (length os - (k + 1)) (k + 1)) in
      let st : Stands tables later (table_of j k) = rw z at (tables_stand (length os) 0 k (written_below k (made_written (at os k) m)) (rw z m)) in
      body_stands (tables_start os + later) (stands_behind (records (length os) 0) (8 * written_count os + later) st (omega arith)) (omega arith)

  pub record_stands : (k : ℕ) → is_written (at os k) ≡ true → Stands (result_of j os) (4 + 8 * count_from os k 0) (one k)
  record_stands k w =
      let z = zero-add k in
      let st = rw z at (records_stand (length os) 0 k (written_below k w) (rw z w)) in
      body_stands (4 + 8 * count_from os k 0) (stands_before tables st) refl

  -- ---- the header

  pub accepted_result : Accepted (result_of j os) (written_count os)
  unfolding result_of
  accepted_result =
      let a = length-enc 2 0 in
      let f = count_few os (length os) 0 in
      let l = length_result j os s.made in
      record {
        count = sym (be_stands_enc 2 (written_count os) (stands_behind (enc 2 0) 2 (stands_append [] (enc 2 (written_count os)) (records (length os) 0 ++ tables)) (omega arith)) (omega (arith, f, s.few)));
        header = omega arith;
        zero = be_stands_enc 2 0 (stands_append [] (enc 2 0) (enc 2 (written_count os) ++ (records (length os) 0 ++ tables))) (omega arith);
        few = omega (arith, f, s.few);
        fits = omega arith;
      }

  -- ---- makers and offsets

  pub maker_of_lem : (k : ℕ) → is_written (at os k) ≡ true → Maker j.source os k (maker_of (at os k) k)
  maker_of_lem k = go (at os k) refl
    where
      go : (o : Outcome) → at os k ≡ o → is_written o ≡ true → Maker j.source os k (maker_of o k)
      go (LeftOut why) q e = absurd (false-true e)
      go BadMapping q e = absurd (false-true e)
      go (Served r) q e = s.served k r q
      go (Made n) q e = record { earlier = omega arith; maker = rw q refl; alike = refl }

  pub offset_small : (k : ℕ) → k < length os → new_offset j os k < 4294967296
  unfolding place_by_sizes
  offset_small k h =
      let p : k + 1 + (length os - (k + 1)) ≡ length os = omega arith in
      let z = zero-add (k + 1) in
      let e = rw (p, z) at (sizes_split os (k + 1) (length os - (k + 1)) 0) in
      omega (arith, offset_place j os s.made k, e, s.small)

  pub entry_written : (k : ℕ) → is_written (at os k) ≡ true → Entry j os (count_from os k 0) k
  entry_written k w =
      let st = record_stands k w in
      let m = maker_of_lem k w in
      let b = written_below k w in
      let i = count_from os k 0 in
      let p = platform_of j.source k in
      let q = encoding_of j.source k in
      let o = new_offset j os (maker_of (at os k) k) in
      let u = length-enc 2 p in
      let v = length-enc 2 q in
      record {
        platform = be_stands_enc 2 p (stands_at (4 + 8 * i) 0 st (stands_append [] (enc 2 p) (enc 2 q ++ enc 4 o)) (omega arith)) (be_lt 2 j.source (4 + 8 * k) s.bytes);
        encoding = be_stands_enc 2 q (stands_at (6 + 8 * i) 2 st (stands_behind (enc 2 p) 2 (stands_append [] (enc 2 q) (enc 4 o)) (omega arith)) (omega arith)) (be_lt 2 j.source (6 + 8 * k) s.bytes);
        offset = be_stands_enc 4 o (stands_at (8 + 8 * i) 4 st (stands_behind (enc 2 p) 4 (stands_behind (enc 2 q) 2 (stands_whole (enc 4 o)) (omega arith)) (omega arith)) (omega arith)) (offset_small (maker_of (at os k) k) (omega (arith, m.earlier)));
      }

  -- the i-th record of a result is the i-th written one
  pub entry_ith : (i : ℕ) (p : Ith os (length os) 0 i) → Entry j os i p.place
  entry_ith i p = rw p.before at (entry_written p.place (rw (zero-add p.place) at p.written))
