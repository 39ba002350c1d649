-- The mappings that stay, found one after the other, and two of them compared by their bytes.
use Prim.Native.Nat.{ℕ, ◌+◌, ◌*◌, ◌^◌, ◌<◌, ◌≤◌}
use mathlib.Core.Path.{◌≡◌, refl, sym, ap, ◌∙◌}
use mathlib.Core.List.{List, [], ◌∷◌}
use mathlib.Core.Bool.{Bool, true, false}
use native.Mathlib.Omega.{arith}
use borrow.Author.Tests.{eq-eqb, ne_eqb, eqb-true, le-leb, lt-leb}
use lib.Dec.{eqb, leb}
use lib.ListN.{get_or}
use Rattle.laws.specs.Choice.{pick}
use Rattle.laws.specs.Select.{eq_list}
use Rattle.laws.proofs.ChoiceLaws.{not-true, false-true, by_leb}
use Rattle.laws.proofs.EqListLaws.{eq_refl, eq_true, eq_append}
use Rattle.laws.proofs.SelectLaws.{each_all, select_yes, select_no, select_end}
use Rattle.number.specs.BigEndian.{be, enc, Num}
use Rattle.number.proofs.BigEndianLaws.{length-enc, be-enc_fits}
use Rattle.number.specs.Limits.{absent}
use Rattle.format14_uvs.specs.NonDefault.{mapping, mapping_at, mapping_bytes, keeps_mapping, kept_mappings, new_non_default}
use Rattle.format14_uvs.proofs.TablesLaws.{eq_table}
use Rattle.format14_mapping.specs.Lent.{NonDefaultLent, NewNumber}
use Rattle.format14_mapping.proofs.MappingLaws.{mapping_size}
use Rattle.format14_same.specs.Rows.{staying, same_rows, MappingsLent, NextStaying}
use Rattle.format14_same.proofs.CompareLaws.{Comparing, compare_on, compare_off, compare_short, compare_long, compare_end}

-- ---- the next mapping that stays

pub record Seeking (xs : List ℕ) (p m : ℕ) (kept requested : List ℕ) (i j : ℕ) : Type 0 where
  pub low : i ≤ j
  pub within : j ≤ m
  pub same : staying xs p m kept requested i ≡ staying xs p m kept requested j

module _ (xs : List ℕ) (p m : ℕ) (kept requested : List ℕ) (i : ℕ) where
  pub seeking_start : i ≤ m → Seeking xs p m kept requested i i
  seeking_start h = record { low = omega arith; within = h; same = refl }

  pub seeking_on : (j : ℕ) (b : Bool) → Seeking xs p m kept requested i j → j < m → b ≡ keeps_mapping kept requested (mapping xs (p + 4 + 5 * j)) → b ≡ false
      → Seeking xs p m kept requested i (j + 1)
  seeking_on j b s h e n = record { low = omega (arith, s.low); within = omega arith; same = s.same ∙ select_no (keeps_mapping kept requested) (mapping_at xs p) m j h (sym e ∙ n) }

  pub seeking_found : (j : ℕ) (b : Bool) → Seeking xs p m kept requested i j → b ≡ keeps_mapping kept requested (mapping xs (p + 4 + 5 * j)) → b ≡ true
      → NextStaying xs p m kept requested i j
  seeking_found j b s e y = record { low = s.low; within = s.within; same = s.same; stays = λ h. sym e ∙ y }

  pub seeking_none : (j : ℕ) → Seeking xs p m kept requested i j → m ≤ j → NextStaying xs p m kept requested i m
  seeking_none j s h =
      let all : j ≡ m = omega (arith, s.within) in
      record { low = omega (arith, s.low, all); within = omega arith; same = s.same ∙ ap (staying xs p m kept requested) all; stays = λ l. absurd (omega arith) }

pub ruleset seeking = (seeking_start, seeking_on, seeking_found, seeking_none)

-- ---- two mappings

-- numbers that fit are equal exactly where their bytes are
pub eq_enc : (w n m : ℕ) → n < 256 ^ w → m < 256 ^ w → eqb n m ≡ eq_list (enc w n) (enc w m)
eq_enc w n m hn hm = by_test (eqb n m) refl
  where
    by_test : (t : Bool) → eqb n m ≡ t → eqb n m ≡ eq_list (enc w n) (enc w m)
    by_test true e = e ∙ rw (eqb-true n m e) (sym (eq_refl (enc w m)))
    by_test false e =
        e ∙ sym (not-true (eq_list (enc w n) (enc w m)) (λ d. false-true (sym e ∙ eq-eqb n m (sym (be-enc_fits w n hn) ∙ ap (λ (l : List ℕ). be w l 0) (eq_true (enc w n) (enc w m) d) ∙ be-enc_fits w m hm))))

module _ (xs : List ℕ) (a b : ℕ) (map : List ℕ) (c d : ℕ) (n : Num 3 xs a c) (k : Num 3 xs b d) where
  bytes : eq_list (mapping_bytes map (mapping xs a)) (mapping_bytes map (mapping xs b)) ≡ pick (eqb c d) (eq_list (enc 2 (get_or map (be 2 xs (a + 3)) absent)) (enc 2 (get_or map (be 2 xs (b + 3)) absent))) false
  bytes =
      rw (← n.is, ← k.is, eq_enc 3 c d n.below k.below)
      (eq_append (enc 3 c) (enc 3 d) (enc 2 (get_or map (be 2 xs (a + 3)) absent)) (enc 2 (get_or map (be 2 xs (b + 3)) absent)) (length-enc 3 c ∙ sym (length-enc 3 d)))

  pub same_not : (c ≡ d → ⊥) → false ≡ eq_list (mapping_bytes map (mapping xs a)) (mapping_bytes map (mapping xs b))
  same_not e = rw (bytes, ne_eqb c d e)

  pub same_glyphs : c ≡ d → (g h u v : ℕ) → Num 2 xs (a + 3) g → Num 2 xs (b + 3) h → NewNumber map g u → NewNumber map h v
      → eqb u v ≡ eq_list (mapping_bytes map (mapping xs a)) (mapping_bytes map (mapping xs b))
  same_glyphs e g h u v ng nh nu nv = rw (bytes, eq-eqb c d e, ← ng.is, ← nh.is, ← nu.is, ← nv.is) (eq_enc 2 u v nu.below nv.below)

pub ruleset same_rules = (same_not, same_glyphs)

-- ---- two tables, mapping by mapping

-- i is a mapping that stays, or the end
pub record Standing (xs : List ℕ) (p m : ℕ) (kept requested : List ℕ) (i : ℕ) : Type 0 where
  pub within : i ≤ m
  pub stays : i < m → keeps_mapping kept requested (mapping_at xs p i) ≡ true

module _ (xs kept requested : List ℕ) where
  standing : (p m i r : ℕ) → NextStaying xs p m kept requested i r → Standing xs p m kept requested r
  standing p m i r s = record { within = s.within; stays = s.stays }

  here : (p m i : ℕ) → Standing xs p m kept requested i → i < m → staying xs p m kept requested i ≡ mapping_at xs p i ∷ staying xs p m kept requested (i + 1)
  here p m i s h = select_yes (keeps_mapping kept requested) (mapping_at xs p) m i h (s.stays h)

  none : (p m i : ℕ) → m ≤ i → staying xs p m kept requested i ≡ []
  none p m i h = select_end (keeps_mapping kept requested) (mapping_at xs p) m i h

pub record Pairing (xs kept map requested : List ℕ) (p m q n i j : ℕ) : Type 0 where
  pub first : Standing xs p m kept requested i
  pub second : Standing xs q n kept requested j
  pub left : Comparing (mapping_bytes map) (staying xs p m kept requested i) (staying xs q n kept requested j) (same_rows xs kept map requested p m q n)

module _ (xs kept map requested : List ℕ) (p m q n : ℕ) where
  pub pairing_start : (i j : ℕ) → NextStaying xs p m kept requested 0 i → NextStaying xs q n kept requested 0 j → Pairing xs kept map requested p m q n i j
  unfolding same_rows
  pairing_start i j a b = record {
    first = standing xs kept requested p m 0 i a;
    second = standing xs kept requested q n 0 j b;
    left = record { left = rw (a.same, b.same) };
  }

  module _ (i j : ℕ) (l : Pairing xs kept map requested p m q n i j) where
    module _ (b : Bool) (h : i < m) (k : j < n) (e : b ≡ eq_list (mapping_bytes map (mapping xs (p + 4 + 5 * i))) (mapping_bytes map (mapping xs (q + 4 + 5 * j)))) where
      pub pairing_on : b ≡ true → (u v : ℕ) → NextStaying xs p m kept requested (i + 1) u → NextStaying xs q n kept requested (j + 1) v → Pairing xs kept map requested p m q n u v
      pairing_on t u v a c = record {
        first = standing xs kept requested p m (i + 1) u a;
        second = standing xs kept requested q n (j + 1) v c;
        left =
            rw (← a.same, ← c.same)
            (compare_on (mapping_bytes map) 5 (omega arith) (mapping_size map) l.left (mapping_at xs p i) (mapping_at xs q j) (staying xs p m kept requested (i + 1)) (staying xs q n kept requested (j + 1))
            (here xs kept requested p m i l.first h) (here xs kept requested q n j l.second k) (sym e ∙ t));
      }

      pub pairing_off : b ≡ false → false ≡ same_rows xs kept map requested p m q n
      pairing_off t =
          compare_off (mapping_bytes map) 5 (omega arith) (mapping_size map) l.left (mapping_at xs p i) (mapping_at xs q j) (staying xs p m kept requested (i + 1)) (staying xs q n kept requested (j + 1))
          (here xs kept requested p m i l.first h) (here xs kept requested q n j l.second k) (sym e ∙ t)

    pub pairing_short : i < m → n ≤ j → false ≡ same_rows xs kept map requested p m q n
    pairing_short h k =
        compare_short (mapping_bytes map) 5 (omega arith) (mapping_size map) l.left (mapping_at xs p i) (staying xs p m kept requested (i + 1))
        (here xs kept requested p m i l.first h) (none xs kept requested q n j k)

    -- the first table is through: the second must be too
    pub pairing_end : m ≤ i → leb n j ≡ same_rows xs kept map requested p m q n
    pairing_end h = by_leb (leb n j ≡ same_rows xs kept map requested p m q n) n j
        (λ k. le-leb n j k ∙ compare_end (mapping_bytes map) 5 (omega arith) (mapping_size map) l.left (none xs kept requested p m i h) (none xs kept requested q n j k))
        (λ k. lt-leb n j k ∙ compare_long (mapping_bytes map) 5 (omega arith) (mapping_size map) l.left (mapping_at xs q j) (staying xs q n kept requested (j + 1)) (none xs kept requested p m i h) (here xs kept requested q n j l.second k))

pub ruleset pairing = (pairing_start, pairing_on, pairing_off, pairing_short, pairing_end)

-- the tables' own counts
pub same_new : (xs kept map requested : List ℕ) (p m q n : ℕ) (b : Bool) → Num 4 xs p m → Num 4 xs q n → b ≡ same_rows xs kept map requested p m q n
    → b ≡ eq_list (new_non_default xs p kept map requested) (new_non_default xs q kept map requested)
unfolding same_rows new_non_default
same_new xs kept map requested p m q n b c d e =
    e ∙ rw (c.is, d.is, each_all (mapping_at xs p) (be 4 xs p) 0, each_all (mapping_at xs q) (be 4 xs q) 0)
    (eq_table (mapping_bytes map) 5 (omega arith) (mapping_size map) (kept_mappings xs p kept requested) (kept_mappings xs q kept requested))

pub row_of : (xs : List ℕ) (p m : ℕ) (kept requested : List ℕ) → NonDefaultLent xs p kept requested → Num 4 xs p m → MappingsLent xs p m kept requested
row_of xs p m kept requested t n = record { inside = rw n.is t.inside; kept_rises = t.kept_rises; requested_rises = t.requested_rises }
