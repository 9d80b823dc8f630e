-- A book whose rules are among another's, in any places: what breaks a rule alone there breaks it alone here. So an idle
-- rule stays idle among more rules, and a needed one needed among fewer. Assumes nothing.
use Prim.Native.Nat.{ℕ, ◌<◌}
use mathlib.Core.Path.{◌≡◌, refl, sym, ◌∙◌}
use mathlib.Core.Bool.{Bool, true, false, false≢true}
use mathlib.Core.List.{List}
use Rattle.book.specs.Blocks.{head_of, rule_at, rule_count}
use Rattle.book.specs.Head.{is_user}
use Rattle.lineage.specs.Answers.{PlanAccepted}
use Rattle.verdicts.specs.Accesses.{Accesses, accesses_of}
use Rattle.search.specs.Alone.{breaks_alone, plan_breaks_alone}
use Rattle.search.specs.Demand.{NobodyAlone}
use Rattle.search.proofs.AloneLaws.{alone_breaks, alone_spares, breaks_alone_law}
use Rattle.editing.specs.Demand.{Needed}

-- rule q of the small book is rule `place q` of the other
pub record Within (small book : List ℕ) (place : ℕ → ℕ) : Type 0 where
  pub head : head_of small ≡ head_of book
  pub below : (q : ℕ) → q < rule_count small → place q < rule_count book
  pub apart : (p q : ℕ) → (p ≡ q → ⊥) → place p ≡ place q → ⊥
  pub same : (q : ℕ) → q < rule_count small → rule_at small q ≡ rule_at book (place q)

module _ (small book : List ℕ) (place : ℕ → ℕ) (w : Within small book place) where
  pub alone_within :
      (r user : ℕ) (D : Accesses)
      → r < rule_count small
      → breaks_alone book (place r) user D ≡ true
      → breaks_alone small r user D ≡ true
  alone_within r user D l h =
      breaks_alone_law small r user D
      (rw (w.head, w.same r l) (alone_breaks book (place r) user D h))
      (λ q k other.
      rw (w.head, w.same q k)
      (alone_spares book (place r) user D h (place q) (w.below q k) (w.apart q r other)))

  pub idle_within : (r : ℕ) → r < rule_count small → NobodyAlone small r → NobodyAlone book (place r)
  unfolding plan_breaks_alone
  idle_within r l nobody user plan u plans =
      go (breaks_alone book (place r) user (accesses_of (head_of book) plan)) refl
    where
      go : (b : Bool) → breaks_alone book (place r) user (accesses_of (head_of book) plan) ≡ b → b ≡ false
      go false e = refl
      go true e =
          let small_u : is_user (head_of small) user ≡ true = rw w.head u in
          let small_plan : PlanAccepted (head_of small) plan = rw w.head plans in
          let f : breaks_alone small r user (accesses_of (head_of book) plan) ≡ false =
          rw w.head at (nobody user plan small_u small_plan) in
          absurd (false≢true (sym f ∙ alone_within r user (accesses_of (head_of book) plan) l e))

  -- by the same user and the same plan
  pub needed_within : (r : ℕ) → r < rule_count small → Needed book (place r) → Needed small r
  unfolding plan_breaks_alone
  needed_within r l needed =
      record {
        user = needed.user;
        plan = needed.plan;
        a_user = rw w.head needed.a_user;
        accepted = rw w.head needed.accepted;
        alone =
            rw w.head
            (alone_within r needed.user (accesses_of (head_of book) needed.plan) l needed.alone);
      }
