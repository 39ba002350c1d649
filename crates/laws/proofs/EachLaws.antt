-- What holds of each element of lists that are joined, mapped or cut.
use Prim.Native.Nat.{ℕ, zero, suc, ◌<◌}
use native.Mathlib.Omega.{arith}
use mathlib.Core.List.{List, [], ◌∷◌, ◌++◌, map}
use mathlib.Core.Bool.{Bool}
use lib.ListN.{length, get_or}
use Rattle.laws.specs.Pieces.{pieces, concat}
use Rattle.laws.specs.Linked.{Each}
use Rattle.laws.proofs.PiecesLaws.{concat-pieces}

module _ {A : Type 0} (P : A → Type 0) where
  pub each_append : (xs ys : List A) → Each P xs → Each P ys → Each P (xs ++ ys)
  each_append [] ys a b = b
  each_append (x ∷ xs) ys a b = (a.0, each_append xs ys a.1 b)

  pub each_left : (xs ys : List A) → Each P (xs ++ ys) → Each P xs
  each_left [] ys h = tt
  each_left (x ∷ xs) ys h = (h.0, each_left xs ys h.1)

  pub each_right : (xs ys : List A) → Each P (xs ++ ys) → Each P ys
  each_right [] ys h = h
  each_right (x ∷ xs) ys h = each_right xs ys h.1

  pub each_get_or : (d : A) (xs : List A) → ((i : ℕ) → i < length xs → P (get_or xs i d)) → Each P xs
  each_get_or d [] h = tt
  each_get_or d (x ∷ xs) h = (h 0 (omega arith), each_get_or d xs (λ i k. h (suc i) (omega arith)))

  pub each_at : (d : A) (xs : List A) → P d → Each P xs → (i : ℕ) → P (get_or xs i d)
  each_at d [] p h i = p
  each_at d (x ∷ xs) p h zero = h.0
  each_at d (x ∷ xs) p h (suc i) = each_at d xs p h.1 i

  pub each_parts : (xss : List (List A)) → Each P (concat xss) → Each (Each P) xss
  unfolding concat
  each_parts [] h = tt
  each_parts (xs ∷ xss) h = (each_left xs (concat xss) h, each_parts xss (each_right xs (concat xss) h))

  pub each_pieces : (joins : A → A → Bool) (xs : List A) → Each P xs → Each (Each P) (pieces joins xs)
  each_pieces joins xs h = each_parts (pieces joins xs) (rw (concat-pieces joins xs) h)

pub each_of : {A : Type 0} (P Q : A → Type 0) (f : (x : A) → P x → Q x) (xs : List A) → Each P xs → Each Q xs
each_of P Q f [] a = tt
each_of P Q f (x ∷ xs) a = (f x a.0, each_of P Q f xs a.1)

pub each_both : {A : Type 0} (P Q : A → Type 0) (xs : List A) → Each P xs → Each Q xs → Each (λ (x : A). P x × Q x) xs
each_both P Q [] a b = tt
each_both P Q (x ∷ xs) a b = ((a.0, b.0), each_both P Q xs a.1 b.1)

module _ {A B : Type 0} (P : B → Type 0) where
  pub each_map : (f : A → B) (xs : List A) → Each (λ (x : A). P (f x)) xs → Each P (map f xs)
  each_map f [] h = tt
  each_map f (x ∷ xs) h = (h.0, each_map f xs h.1)

  pub each_mapped : (f : A → B) (xs : List A) → Each P (map f xs) → Each (λ (x : A). P (f x)) xs
  each_mapped f [] h = tt
  each_mapped f (x ∷ xs) h = (h.0, each_mapped f xs h.1)

  pub each_concat : (f : A → List B) (xs : List A) → Each (λ (x : A). Each P (f x)) xs → Each P (concat (map f xs))
  unfolding concat
  each_concat f [] h = tt
  each_concat f (x ∷ xs) h = each_append P (f x) (concat (map f xs)) h.0 (each_concat f xs h.1)
