-- What the pieces of a list are: all neighbours in a piece join, no two neighbouring pieces do, and no other cutting is so.
use Prim.Native.Nat.{suc, ◌≤◌}
use mathlib.Core.Path.{◌≡◌, refl, ap, ◌∙◌}
use mathlib.Core.List.{List, [], ◌∷◌, ◌++◌, append-nil}
use mathlib.Core.Bool.{Bool, false}
use native.Mathlib.Omega.{arith}
use lib.ListN.{length}
use Rattle.laws.specs.Pieces.{onto, pieces, concat}
use Rattle.laws.proofs.ChoiceLaws.{by_pick}
use Rattle.laws.proofs.PiecesLaws.{Joined, lone, more, pieces_joined, pieces_all}

module _ {A : Type 0} (joins : A → A → Bool) where
  -- pieces none of which is empty: in each every two neighbours join, and the last of one does not join the first of the next
  pub data Parted : List (List A) → Type 0 where
    parted_none : Parted []
    parted_last : {x l : A} {xs : List A} → Joined joins x xs l → Parted ((x ∷ xs) ∷ [])
    parted_more : {x l y : A} {xs ys : List A} {ps : List (List A)} → Joined joins x xs l → joins l y ≡ false → Parted ((y ∷ ys) ∷ ps) → Parted ((x ∷ xs) ∷ (y ∷ ys) ∷ ps)

  parted_onto : (a : A) {ps : List (List A)} → Parted ps → Parted (onto joins a ps)
  parted_onto a parted_none = parted_last lone
  parted_onto a (parted_last {x} {l} {xs} j) =
      by_pick Parted (joins a x) ((a ∷ x ∷ xs) ∷ []) ((a ∷ []) ∷ (x ∷ xs) ∷ []) (λ e. parted_last (more e j)) (λ e. parted_more lone e (parted_last j))
  parted_onto a (parted_more {x} {l} {y} {xs} {ys} {ps} j d p) =
      by_pick Parted (joins a x) ((a ∷ x ∷ xs) ∷ (y ∷ ys) ∷ ps) ((a ∷ []) ∷ (x ∷ xs) ∷ (y ∷ ys) ∷ ps) (λ e. parted_more (more e j) d p) (λ e. parted_more lone e (parted_more j d p))

  pub pieces_parted : (xs : List A) → Parted (pieces joins xs)
  unfolding pieces
  pieces_parted [] = parted_none
  pieces_parted (x ∷ xs) = parted_onto x (pieces_parted xs)

  -- there is one such cutting only
  pub parted_pieces : {ps : List (List A)} → Parted ps → pieces joins (concat ps) ≡ ps
  unfolding pieces concat
  parted_pieces parted_none = refl
  parted_pieces (parted_last {x} {l} {xs} j) = rw (append-nil xs) (pieces_all joins j)
  parted_pieces (parted_more {x} {l} {y} {xs} {ys} {ps} j d p) = pieces_joined joins y (ys ++ concat ps) j d ∙ ap (λ (q : List (List A)). (x ∷ xs) ∷ q) (parted_pieces p)

  onto-length : (x : A) (ps : List (List A)) → length (onto joins x ps) ≤ suc (length ps)
  onto-length x [] = omega arith
  onto-length x ([] ∷ ps) = omega arith
  onto-length x ((y ∷ ys) ∷ ps) =
      by_pick (λ (q : List (List A)). length q ≤ suc (suc (length ps))) (joins x y) ((x ∷ y ∷ ys) ∷ ps) ((x ∷ []) ∷ (y ∷ ys) ∷ ps) (λ e. omega arith) (λ e. omega arith)

  -- there are no more pieces than elements
  pub length-pieces : (xs : List A) → length (pieces joins xs) ≤ length xs
  unfolding pieces
  length-pieces [] = omega arith
  length-pieces (x ∷ xs) = omega (arith, onto-length x (pieces joins xs), length-pieces xs)
