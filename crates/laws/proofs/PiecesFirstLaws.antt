-- The first piece of a list: it begins with the list's first element, and what joins it from before becomes part of it. And a piece more at the end.
use mathlib.Core.Path.{◌≡◌, refl, ap, ◌∙◌}
use mathlib.Core.List.{List, [], ◌∷◌, ◌++◌, append-nil}
use mathlib.Core.Bool.{Bool, true, false}
use Rattle.laws.specs.Choice.{pick}
use Rattle.laws.specs.Pieces.{onto, pieces, concat}
use Rattle.laws.proofs.PiecesLaws.{Joined, lone, more, concat-append}

pub concat_snoc : {A : Type 0} (xss : List (List A)) (xs : List A) → concat (xss ++ (xs ∷ [])) ≡ concat xss ++ xs
unfolding concat
concat_snoc {A} xss xs = concat-append xss (xs ∷ []) ∙ ap (λ (ys : List A). concat xss ++ ys) (append-nil xs)

-- elements that join the first piece
abbrev pub prefixed : {A : Type 0} → List A → List (List A) → List (List A)
prefixed xs [] = xs ∷ []
prefixed xs (p ∷ ps) = (xs ++ p) ∷ ps

module _ {A : Type 0} (joins : A → A → Bool) where
  pub record First (y : A) (ps : List (List A)) : Type 0 where
    pub rest : List A
    pub others : List (List A)
    pub is : ps ≡ (y ∷ rest) ∷ others

  first_onto : (x : A) (ps : List (List A)) → First x (onto joins x ps)
  first_onto x [] = record { rest = []; others = []; is = refl }
  first_onto x ([] ∷ ps) = record { rest = []; others = ps; is = refl }
  first_onto x ((y ∷ ys) ∷ ps) = go (joins x y)
    where
      go : (t : Bool) → First x (pick t ((x ∷ y ∷ ys) ∷ ps) ((x ∷ []) ∷ (y ∷ ys) ∷ ps))
      go true = record { rest = y ∷ ys; others = ps; is = refl }
      go false = record { rest = []; others = (y ∷ ys) ∷ ps; is = refl }

  pub pieces_first : (x : A) (xs : List A) → First x (pieces joins (x ∷ xs))
  unfolding pieces
  pieces_first x xs = first_onto x (pieces joins xs)

  pub pieces_on : {x l : A} {xs : List A} (y : A) (ys : List A) → Joined joins x xs l → joins l y ≡ true
      → pieces joins ((x ∷ xs) ++ (y ∷ ys)) ≡ prefixed (x ∷ xs) (pieces joins (y ∷ ys))
  unfolding pieces
  pieces_on {x} y ys lone e = let f = pieces_first y ys in rw (f.is, e)
  pieces_on {x} y ys (more d j) e = let f = pieces_first y ys in rw (pieces_on y ys j e, f.is, d)
