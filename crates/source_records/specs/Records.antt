-- Which records are retained, and refusals 6 and 7 (docs/RULES.md, "Records" and "Numbers of refusal").
use Rattle.std.specs.Prelude.{ℕ, ◌+◌, ◌*◌, ◌≤◌, ◌≡◌, List, Bool, not, eqb, length}
use Rattle.laws.specs.Choice.{both, either}
use Rattle.laws.specs.Search.{some}
use Rattle.source.specs.declared.Kind.{Kind}
use Rattle.source_header.specs.Header.{record_count, platform_of, encoding_of, offset_of}
use Rattle.source.specs.Kind.{kind_at, format_of}

-- what record k leads to
unfoldable pub leads_to : List ℕ → ℕ → Kind
leads_to xs k = kind_at xs (offset_of xs k)

abbrev pub is_pair : ℕ → ℕ → List ℕ → ℕ → Bool
is_pair platform encoding xs k = both (eqb (platform_of xs k) platform) (eqb (encoding_of xs k) encoding)

-- (0,3) or (3,1); (0,4) or (3,10)
unfoldable pub bmp_pair : List ℕ → ℕ → Bool
bmp_pair xs k = either (is_pair 0 3 xs k) (is_pair 3 1 xs k)

unfoldable pub full_pair : List ℕ → ℕ → Bool
full_pair xs k = either (is_pair 0 4 xs k) (is_pair 3 10 xs k)

-- a readable subtable of that format
abbrev pub leads_to_format : ℕ → List ℕ → ℕ → Bool
leads_to_format format xs k = eqb (format_of (leads_to xs k)) format

-- the four pairs, or any pair that leads to a readable format 14
unfoldable pub retained : List ℕ → ℕ → Bool
retained xs k = either (bmp_pair xs k) (either (full_pair xs k) (leads_to_format 14 xs k))

-- a retained record of which the test holds
unfoldable pub some_retained : (List ℕ → ℕ → Bool) → List ℕ → Bool
some_retained test xs = some (λ k. both (retained xs k) (test xs k)) (record_count xs) 0

-- 6: no retained record is format 12 and none is (0,3) or (3,1); a pair counts whatever it leads to
abbrev pub refused6 : List ℕ → Bool
refused6 xs = both (not (some_retained (leads_to_format 12) xs)) (not (some_retained bmp_pair xs))

-- 7: a retained record is format 12 and none is (0,4) or (3,10)
abbrev pub refused7 : List ℕ → Bool
refused7 xs = both (some_retained (leads_to_format 12) xs) (not (some_retained full_pair xs))

-- ---- what the functions ask for

-- record k is all there
pub record Placed (xs : List ℕ) (k : ℕ) : Type 0 where
  pub inside : 12 + 8 * k ≤ length xs

-- n is the count, and the records are all there
pub record Counted (xs : List ℕ) (n : ℕ) : Type 0 where
  pub is : n ≡ record_count xs
  pub inside : 4 + 8 * n ≤ length xs
