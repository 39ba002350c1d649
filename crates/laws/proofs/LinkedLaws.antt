-- Lists whose neighbours join: the pieces of a list are such, and so are the parts of such a list.
use mathlib.Core.Path.{◌≡◌, refl}
use mathlib.Core.List.{List, [], ◌∷◌, ◌++◌}
use mathlib.Core.Bool.{Bool, true, false}
use Rattle.laws.specs.Choice.{pick}
use Rattle.laws.specs.Pieces.{onto, pieces, concat}
use Rattle.laws.specs.Linked.{Each, Filled, Linked}

pub filled_left : {A : Type 0} (xs ys : List A) → Filled xs → Filled (xs ++ ys)
filled_left [] ys h = absurd h
filled_left (x ∷ xs) ys h = tt

module _ {A : Type 0} (joins : A → A → Bool) where
  pub linked_filled : (xs : List A) → Linked joins xs → Filled xs
  linked_filled [] h = h
  linked_filled (x ∷ xs) h = tt

  linked_onto : (x : A) (ps : List (List A)) → Each (Linked joins) ps → Each (Linked joins) (onto joins x ps)
  linked_onto x [] h = (tt, tt)
  linked_onto x ([] ∷ ps) h = absurd h.0
  linked_onto x ((y ∷ ys) ∷ ps) h = go (joins x y) refl
    where
      go : (t : Bool) → joins x y ≡ t → Each (Linked joins) (pick t ((x ∷ y ∷ ys) ∷ ps) ((x ∷ []) ∷ (y ∷ ys) ∷ ps))
      go true e = ((e, h.0), h.1)
      go false e = (tt, h)

  pub pieces_linked : (xs : List A) → Each (Linked joins) (pieces joins xs)
  unfolding pieces
  pieces_linked [] = tt
  pieces_linked (x ∷ xs) = linked_onto x (pieces joins xs) (pieces_linked xs)

  linked_left : (x : A) (xs ys : List A) → Linked joins ((x ∷ xs) ++ ys) → Linked joins (x ∷ xs)
  linked_left x [] ys h = tt
  linked_left x (x' ∷ xs) ys h = (h.0, linked_left x' xs ys h.1)

  linked_right : (x : A) (xs : List A) (y : A) (ys : List A) → Linked joins ((x ∷ xs) ++ (y ∷ ys)) → Linked joins (y ∷ ys)
  linked_right x [] y ys h = h.1
  linked_right x (x' ∷ xs) y ys h = linked_right x' xs y ys h.1

  pub linked_parts : (xss : List (List A)) → Each Filled xss → Linked joins (concat xss) → Each (Linked joins) xss
  unfolding concat
  linked_parts [] f h = tt
  linked_parts ([] ∷ xss) f h = absurd f.0
  linked_parts ((x ∷ xs) ∷ []) f h = (linked_left x xs [] h, tt)
  linked_parts ((x ∷ xs) ∷ [] ∷ xss) f h = absurd f.1.0
  linked_parts ((x ∷ xs) ∷ (y ∷ ys) ∷ xss) f h =
      (linked_left x xs (y ∷ (ys ++ concat xss)) h, linked_parts ((y ∷ ys) ∷ xss) f.1 (linked_right x xs y (ys ++ concat xss) h))
