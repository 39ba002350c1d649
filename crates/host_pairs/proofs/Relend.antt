-- Two steps of a walk that hands a `&mut [T]` on for one call, under a lifetime ν that the walk makes and ends, and then has it again.
--     Pledge    the rest that the holder keeps in between: its own borrow, opened with the token, its ghost variable, and the right to the memory after ν
--     relend    a new name δ and the slice as the callee takes it
--     regain    once ν is dead and the callee has said its last list
-- The holder's lifetime can't end in between, since the opened borrow has its token.
use mathlib.Core.Path.{◌≡◌, sym, ap, subst}
use Prim.Native.Nat.{ℕ}
use mathlib.Core.List.{List, [], ◌∷◌}
use lib.ListN.{length}
use seplogic.Ra.Ura.{Ura}
use base.Fraction.{full_share}
use mir.Syntax.{named}
use mir.Val.{Val}
use base.Logic.{id⊢}
use base.Fml.{Lft, GName, Share, Fml, fsep, flft, fdead, fobs, fauth, flent, fobor}
use types.Logic.{Logic}
use types.Kit.{Goal, Soaks, Item, ‵, ◌⊛◌, raw, some, later, Seq, Step, step, ◌$◌, move, drop, use1, use3, pick, split, fsplit, fjoin, await}
use types.SemTy.{cells, Arr}
use denote.RattleType.{RattleType}
use denote.Shadow.{pure_i}
use denote.Memory.{mem}
use denote.Ref.{MutBor}
use denote.Slice.{slice_val, MutSlice, heres, Room, finally, mut_slice_at, coded_holeys}
use denote.Lend.{Held, Lent, lends_slice, slice_back}
use denote.Index.{row, whole_out, whole_in, opens_slice, closes_slice}

module _ (R : RattleType) (b o : ℕ) where
  -- a slice of these elements at (b, o): as a value under a name, and as the machine has it
  abbrev named_at : GName → List R.Denot → MutBor (List R.Denot)
  named_at γ ys = record { ref_ptr = (b, o); ghost_name = γ; now = ys }

  abbrev wide : ℕ → List Val
  wide n = slice_val (b, o) n ∷ []

  -- what is owned with a slice under γ, at ys; the lifetime as it is written in a signature is of no account
  abbrev pub Owned : Lft → GName → List R.Denot → ℕ → Fml
  Owned κ γ ys n = (MutSlice (named 0) κ R).own_val (named_at γ ys) (wide n)

  abbrev pub Pledge : Lft → Share → GName → Lft → GName → List R.Denot → Fml
  Pledge κ q γ ν δ ys =
      fsep (fsep (fobs γ ((coded_holeys R).code (heres R ys))) (fauth γ ((coded_holeys R).code (heres R ys))))
      (fsep (fobor κ q (Held R (length ys) b o γ)) (flent ν (Held R (length ys) b o δ)))

  module _ {M : Type 1} {𝓤 : Ura M} {𝓛 : Logic 𝓤} {K : Type 0} {Γ : List (Item 𝓤)} {G : Goal 𝓤 𝓛.H} where
    pub relend : K → Soaks G → {κ : Lft} {q : Share} {γ : GName} (ν : Lft) (ys : List R.Denot) → Room R (length ys)
        → ((δ : GName) → Seq K 𝓛 (‵ (Owned ν δ ys (length ys)) ∷ ‵ (Pledge κ q γ ν δ ys) ∷ Γ) G) → Seq K 𝓛 (‵ (Owned κ γ ys (length ys)) ∷ ‵ (flft κ q) ∷ Γ) G
    relend t z {κ} {q} {γ} ν ys room k =
        fsplit t $ drop t $ fsplit t $ opens_slice t z R ys b o $ use1 𝓛 (‵ (cells (mem R) ys b o)) (whole_in 𝓛 R ys b o) $
        use1 𝓛 (later (some (λ (δ : GName). raw (Lent 𝓛 R (named 0) ν ys b o δ)))) (lends_slice 𝓛 R (named 0) ν ys b o room) $ await t z $
        pick t (λ δ. use1 𝓛 (‵ (Owned ν δ ys (length ys)) ⊛ ‵ (flent ν (Held R (length ys) b o δ))) (id⊢ 𝓤 _) $ split t $
        -- [the slice lent; the right to it; the open borrow; obs; auth]
        move t (3 ∷ 4 ∷ []) $ fjoin t $ move t (3 ∷ 2 ∷ []) $ fjoin t $ move t (1 ∷ 0 ∷ []) $ fjoin t $ move t (1 ∷ 0 ∷ []) $ k δ)

    pub regain : K → Soaks G → {κ : Lft} {q : Share} {γ : GName} {ν : Lft} {δ : GName} (ys zs : List R.Denot) → Room R (length ys) → length zs ≡ length ys
        → Step K 𝓛 (‵ (Owned κ γ zs (length ys)) ∷ ‵ (flft κ q) ∷ Γ) G (‵ (fdead ν) ∷ ‵ (Pledge κ q γ ν δ ys) ∷ ‵ (finally R δ zs) ∷ Γ) G
    regain t z {κ} {q} {γ} {ν} {δ} ys zs room same =
        step (λ s. move t (1 ∷ []) $ fsplit t $ fsplit t $ move t (2 ∷ []) $ fsplit t $
        -- [the open borrow; the right to the slice; obs; auth; dead; the last list]
        move t (4 ∷ 1 ∷ 5 ∷ []) $ use3 𝓛 (later (‵ ((Arr (mem R) (length ys)).own_at zs b o))) (slice_back 𝓛 R ν δ zs (length ys) b o) $ await t z $
        fsplit t $ drop t $ use1 𝓛 (‵ (row R full_share zs b o)) (whole_out 𝓛 R zs b o) $ closes_slice t z R ys zs same b o $ fjoin t $
        pure_i t (mut_slice_at R (named_at γ zs) (wide (length ys))) (tt, (tt, tt)) (ap (λ (m : ℕ). wide m) (sym same), subst (Room R) (sym same) room) $ fjoin t $ s)
