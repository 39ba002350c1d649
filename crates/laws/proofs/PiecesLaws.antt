-- The pieces of a list: joined they give it back, and a walk from the front finds them one after the other.
use mathlib.Core.Path.{◌≡◌, refl, sym, ap, ◌∙◌}
use mathlib.Core.List.{List, [], ◌∷◌, ◌++◌, append_assoc}
use mathlib.Core.Bool.{Bool, true, false}
use Rattle.laws.specs.Choice.{pick}
use Rattle.laws.specs.Pieces.{onto, pieces, concat}

pub concat-append : {A : Type 0} (a b : List (List A)) → concat (a ++ b) ≡ concat a ++ concat b
unfolding concat
concat-append [] b = refl
concat-append (x ∷ a) b = rw (concat-append a b) (sym (append_assoc x (concat a) (concat b)))

module _ {A : Type 0} (joins : A → A → Bool) where
  concat-onto : (x : A) (ps : List (List A)) → concat (onto joins x ps) ≡ x ∷ concat ps
  unfolding concat
  concat-onto x [] = refl
  concat-onto x ([] ∷ ps) = refl
  concat-onto x ((y ∷ ys) ∷ ps) = go (joins x y)
    where
      go : (t : Bool) → concat (pick t ((x ∷ y ∷ ys) ∷ ps) ((x ∷ []) ∷ (y ∷ ys) ∷ ps)) ≡ x ∷ concat ((y ∷ ys) ∷ ps)
      go true = refl
      go false = refl

  pub concat-pieces : (xs : List A) → concat (pieces joins xs) ≡ xs
  unfolding pieces concat
  concat-pieces [] = refl
  concat-pieces (x ∷ xs) = concat-onto x (pieces joins xs) ∙ ap (λ (l : List A). x ∷ l) (concat-pieces xs)

  -- the pieces of a list that is not empty begin with its first element
  data Begins (x : A) : List (List A) → Type 0 where
    begins : (ys : List A) (ps : List (List A)) → Begins x ((x ∷ ys) ∷ ps)

  onto_begins : (x : A) (ps : List (List A)) → Begins x (onto joins x ps)
  onto_begins x [] = begins [] []
  onto_begins x ([] ∷ ps) = begins [] ps
  onto_begins x ((y ∷ ys) ∷ ps) = go (joins x y)
    where
      go : (t : Bool) → Begins x (pick t ((x ∷ y ∷ ys) ∷ ps) ((x ∷ []) ∷ (y ∷ ys) ∷ ps))
      go true = begins (y ∷ ys) ps
      go false = begins [] ((y ∷ ys) ∷ ps)

  -- where two neighbours do not join, a piece ends
  pub pieces_cut : (x y : A) (ys : List A) → joins x y ≡ false → pieces joins (x ∷ y ∷ ys) ≡ (x ∷ []) ∷ pieces joins (y ∷ ys)
  unfolding pieces
  pieces_cut x y ys e = go (onto joins y (pieces joins ys)) (onto_begins y (pieces joins ys))
    where
      go : (ps : List (List A)) → Begins y ps → onto joins x ps ≡ (x ∷ []) ∷ ps
      go _ (begins zs ps) = rw e

  -- a piece that a walk from x has gathered: x, then xs, the last of them l, and every two neighbours join
  pub data Joined : A → List A → A → Type 0 where
    lone : {x : A} → Joined x [] x
    more : {x y l : A} {ys : List A} → joins x y ≡ true → Joined y ys l → Joined x (y ∷ ys) l

  pub joined_snoc : {x l : A} {xs : List A} (y : A) → Joined x xs l → joins l y ≡ true → Joined x (xs ++ (y ∷ [])) y
  joined_snoc y lone e = more e lone
  joined_snoc y (more d j) e = more d (joined_snoc y j e)

  -- the piece ends before y, or with the list
  pub pieces_joined : {x l : A} {xs : List A} (y : A) (ys : List A) → Joined x xs l → joins l y ≡ false
      → pieces joins ((x ∷ xs) ++ (y ∷ ys)) ≡ (x ∷ xs) ∷ pieces joins (y ∷ ys)
  unfolding pieces
  pieces_joined {x} y ys lone e = pieces_cut x y ys e
  pieces_joined {x} y ys (more d j) e = rw (pieces_joined y ys j e, d)

  pub pieces_all : {x l : A} {xs : List A} → Joined x xs l → pieces joins (x ∷ xs) ≡ (x ∷ xs) ∷ []
  unfolding pieces
  pieces_all lone = refl
  pieces_all (more d j) = rw (pieces_all j, d)
