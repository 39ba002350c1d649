-- The plan of a job within the limits is sound: each format is made once at most, so that all tables together stay within 32 bits.
use Prim.Native.Nat.{ℕ, zero, suc, ◌+◌, ◌≤◌}
use mathlib.Core.Path.{◌≡◌, refl, ap, sym, ◌∙◌}
use mathlib.Core.Bool.{true}
use native.Mathlib.Nat.{zero-add}
use native.Mathlib.Omega.{arith}
use lib.Dec.{ltb}
use lib.ListN.{length}
use borrow.Author.Tests.{ltb-true, lt-ltb, le-ltb, eqb-true, eq-eqb}
use Rattle.laws.specs.Choice.{pick}
use Rattle.laws.specs.Search.{first}
use Rattle.laws.proofs.ChoiceLaws.{both_left, both_right, not-true, by_test}
use Rattle.laws.proofs.FirstLaws.{first_is}
use Rattle.number.specs.Limits.{records_max}
use Rattle.source.specs.declared.Kind.TheVariants.{Format4, Format12}
use Rattle.source_header.specs.Header.{record_count}
use Rattle.source.specs.Kind.{format_of}
use Rattle.source_records.specs.Records.{leads_to, leads_to_format}
use Rattle.plan_listing.specs.Job.{Job}
use Rattle.format12_lookup.proofs.BytesLaws.{groups_few}
use Rattle.format12_lookup.proofs.Format12KindLaws.{length_is}
use Rattle.plan.specs.declared.Outcome.TheVariants.{Made}
use Rattle.plan.specs.Outcomes.{is_made}
use Rattle.plan.specs.Sizes.{made_size}
use Rattle.plan.specs.Fresh.{listed_of, fresh}
use Rattle.plan.specs.Plan.{plan}
use Rattle.plan.proofs.SizeLaws.{made_size_lem, unmade_size}
use Rattle.result.specs.Lent.{Lent}
use Rattle.result.proofs.ListedLaws.{above_listed}
use Rattle.result.proofs.MadeLaws.{made_length, by_format, made_written4, table_is}
use Rattle.result.proofs.TablesLaws.{made_short}
use Rattle.result.proofs.PlanLaws.{Making, plan_made, plan_served}
use Rattle.result.specs.Result.{makes}
use Rattle.result.specs.Layout.{sizes_from}
use Rattle.plan.specs.Outcomes.{at}
use Rattle.result.proofs.CountLaws.{count_few, sizes_snoc}
use Rattle.result.proofs.PlacesLaws.{Sound}
use Rattle.plan.proofs.OutcomesLaws.{length-plan}

module _ (j : Job) (l : Lent j) (few : record_count j.source ≤ records_max) where
  pub making : (k : ℕ) → is_made (at (plan j) k) ≡ true → Making j k (made_size (at (plan j) k))
  making k e = plan_made j k (made_size (at (plan j) k)) (made_size_lem (at (plan j) k) e)

  -- ---- how long a table can be

  short4 : (k n : ℕ) {language s len : ℕ} → fresh j k ≡ Made n → leads_to j.source k ≡ Format4 language s len → n ≤ 65535
  short4 k n {language} {s} {len} m e =
      let long = made_length j k n m ∙ ap length (table_is j k (Format4 language s len) e) in
      omega (arith, long, (made_written4 j k n m e l.bytes).short)

  short12 : (k n : ℕ) {language g len : ℕ} → fresh j k ≡ Made n → leads_to j.source k ≡ Format12 language g len → n ≤ 13369360
  short12 k n {language} {g} {len} m e =
      let long = made_length j k n m ∙ ap length (table_is j k (Format12 language g len) e) in
      omega (arith, long, length_is language (listed_of j k), groups_few (listed_of j k) (above_listed l k))

  -- ---- all together

  -- `most` bytes if the record that makes a table of the format is one of the first n
  share : ℕ → ℕ → ℕ → ℕ
  share format most n = pick (ltb (first (makes j (plan j) format) (length (plan j)) 0) n) most 0

  share_on : (format most n : ℕ) → share format most n ≤ share format most (suc n)
  unfolding share
  share_on format most n =
      let r = first (makes j (plan j) format) (length (plan j)) 0 in
      by_test (share format most n ≤ share format most (suc n)) (ltb r n)
      (λ e.
      let h = ltb-true r n e in
      rw (e, lt-ltb r (suc n) (omega arith)) (omega arith))
      (λ e. rw e (omega arith))

  -- no record before it made one of its format
  pub first_maker : (k format : ℕ) → is_made (at (plan j) k) ≡ true → format_of (leads_to j.source k) ≡ format → first (makes j (plan j) format) (length (plan j)) 0 ≡ k
  first_maker k format m f =
      let t = making k m in
      first_is (makes j (plan j) format) (length (plan j)) k (omega (arith, t.inside, length-plan j))
      (rw (m, eq-eqb (format_of (leads_to j.source k)) format f))
      (λ r h.
      not-true (makes j (plan j) format r)
      (λ e.
      let a = both_left (is_made (at (plan j) r)) (leads_to_format format j.source r) e in
      let b = both_right (is_made (at (plan j) r)) (leads_to_format format j.source r) e in
      t.alone r (made_size (at (plan j) r)) h (made_size_lem (at (plan j) r) a) (eqb-true (format_of (leads_to j.source r)) format b ∙ sym f)))

  share_before : (k format most : ℕ) → first (makes j (plan j) format) (length (plan j)) 0 ≡ k → share format most k ≡ 0
  unfolding share
  share_before k format most e = rw (e, le-ltb k k (omega arith))

  share_after : (k format most : ℕ) → first (makes j (plan j) format) (length (plan j)) 0 ≡ k → share format most (suc k) ≡ most
  unfolding share
  share_after k format most e = rw (e, lt-ltb k (suc k) (omega arith))

  shares : ℕ → ℕ
  shares n = share 4 65535 n + share 12 13369360 n + share 14 2147483648 n

  sizes_shared : (n : ℕ) → sizes_from (plan j) n 0 ≤ shares n
  unfolding sizes_from shares
  sizes_shared zero = omega arith
  sizes_shared (suc n) =
      let r = sizes_shared n in
      let z = zero-add n in
      let x = rw z at (sizes_snoc (plan j) n 0) in
      let a = share_on 4 65535 n in
      let b = share_on 12 13369360 n in
      let c = share_on 14 2147483648 n in
      by_test (sizes_from (plan j) (suc n) 0 ≤ shares (suc n)) (is_made (at (plan j) n))
      (λ m.
      let t = making n m in
      let size = made_size (at (plan j) n) in
      by_format j n size t.is (sizes_from (plan j) (suc n) 0 ≤ shares (suc n))
      (λ language s len e.
      let f = first_maker n 4 m (ap format_of e) in
      omega (arith, r, x, a, b, c, share_before n 4 65535 f, share_after n 4 65535 f, short4 n size t.is e))
      (λ language g len e.
      let f = first_maker n 12 m (ap format_of e) in
      omega (arith, r, x, a, b, c, share_before n 12 13369360 f, share_after n 12 13369360 f, short12 n size t.is e))
      (λ q len e.
      let f = first_maker n 14 m (ap format_of e) in
      omega (arith, r, x, a, b, c, share_before n 14 2147483648 f, share_after n 14 2147483648 f, made_short l n size t.is)))
      (λ m. omega (arith, r, x, a, b, c, unmade_size (at (plan j) n) m))

  share-most : (format most n : ℕ) → share format most n ≤ most
  unfolding share
  share-most format most n =
      by_test (share format most n ≤ most) (ltb (first (makes j (plan j) format) (length (plan j)) 0) n) (λ e. rw e (omega arith)) (λ e. rw e (omega arith))

  -- ---- sound

  pub plan_sound : Sound j (plan j)
  unfolding shares
  plan_sound = record {
    few = omega (arith, few, length-plan j);
    made = λ k n e. made_length j k n (plan_made j k n e).is;
    served = λ k r e.
        let t = plan_served j k r e in
        record { earlier = omega (arith, t.earlier); maker = rw t.made refl; alike = t.same };
    small =
        let n = length (plan j) in
        omega (arith, few, length-plan j, count_few (plan j) n 0, sizes_shared n, share-most 4 65535 n, share-most 12 13369360 n, share-most 14 2147483648 n);
    bytes = l.bytes;
  }
