-- Tally and hold record as values of the machine, and the two steps of a walk over a record behind a reference: it is
-- opened, and closed over another. Assumes nothing.
use Prim.Native.Nat.{ℕ}
use mathlib.Core.List.{List, [], ◌∷◌}
use seplogic.Ra.Ura.{Ura}
use base.Fraction.{full_share}
use mir.Val.{Val}
use base.Stored.{Gv}
use base.Fml.{GName, Lft, Share, flft, fobs, fauth, fbor, fobor}
use types.Logic.{Logic}
use types.Kit.{Goal, Soaks, Step, step, Item, Seq, ‵, ◌$◌, move}
use types.SemTy.{Body}
use denote.Laws.{Is, shows}
use denote.Memory.{cell_at, mem}
use denote.Steps.{opens, closes, owned, facts}
use denote.Struct.Steps.{spelt}
use denote.Struct.Struct.{Plains}
use denote.Struct.Declared.{Declared, fields, row}
use denote.Struct.Laws as LL
use Rattle.ledger.specs.declared.Tally.{Tally}
use Rattle.ledger.specs.declared.Holds.{Holds}
use Rattle.ledger.specs.contracts.Tally as T
use Rattle.ledger.proofs.Tally.TheLaws as T'
use Rattle.ledger.specs.contracts.Holds as P
use Rattle.ledger.proofs.Holds.TheLaws as P'

abbrev pub counts : Tally → Val
counts t = LL.val T.the_type T'.the_laws t

abbrev pub places : Holds → Val
places h = LL.val P.the_type P'.the_laws h

-- A record behind a reference

module _
    {M : Type 1}
    {𝓤 : Ura M}
    {𝓛 : Logic 𝓤}
    {K : Type 0}
    {Γ : List (Item 𝓤)}
    {G : Goal 𝓤 𝓛.H}
    (t : K)
    (soaks : Soaks G)
    (S : Declared)
    (L : LL.Laws S)
  where
    -- its values lie in memory, and what they say of it is learned
    pub record_out :
        {κ : Lft} {q : Share} (x : S.D) {γ : GName} (b o : ℕ)
        → (Is (row S) x (LL.vals S L x)
        → Seq K 𝓛
        (‵ (cell_at full_share (row S).mir (LL.vals S L x) b o)
        ∷ ‵ (fobor κ q (Body (mem (row S)) b o γ))
        ∷ ‵ (fobs γ ((row S).coded.code x))
        ∷ ‵ (fauth γ ((row S).coded.code x))
        ∷ Γ)
        G)
        → Seq K 𝓛
        (‵ (fobs γ ((row S).coded.code x)) ∷ ‵ (fbor κ (Body (mem (row S)) b o γ)) ∷ ‵ (flft κ q) ∷ Γ) G
    record_out x b o k =
        opens t soaks (row S) {h = x} b o (λ vs.
        spelt t (row S) (Is (row S)) (shows 𝓛 (row S)) (LL.vals S L) (LL.tells S L) full_share x vs b o $
        move t (1 ∷ []) $ facts t (row S) (Is (row S)) (shows 𝓛 (row S)) x (LL.vals S L x) k)

    -- other values lie there: they are the record's now
    pub record_in :
        Plains (fields S)
        → {κ : Lft} {q : Share} {u v : Gv} (x : S.D) {γ : GName} (b o : ℕ)
        → Is (row S) x (LL.vals S L x)
        → Step K 𝓛 (‵ (fobs γ ((row S).coded.code x)) ∷ ‵ (fbor κ (Body (mem (row S)) b o γ)) ∷ ‵ (flft κ q) ∷ Γ) G
        (‵ (cell_at full_share (row S).mir (LL.vals S L x) b o)
        ∷ ‵ (fobor κ q (Body (mem (row S)) b o γ))
        ∷ ‵ (fobs γ u)
        ∷ ‵ (fauth γ v)
        ∷ Γ)
        G
    record_in plain x b o is =
        step (λ s.
        owned t (row S) (Is (row S)) (LL.makes S plain 𝓛) x (LL.vals S L x) is $ move t (1 ∷ 0 ∷ []) $
        closes t soaks (row S) x (LL.vals S L x) b o $ s)
