-- The hold record against what the replies say is held for a user, and how it stays so when a place is taken or freed.
-- Assumes nothing.
use Prim.Native.Nat.{ℕ, ◌+◌, ◌<◌}
use native.Mathlib.Omega.{arith}
use mathlib.Core.Path.{◌≡◌, refl, sym, ap, ◌∙◌}
use mathlib.Core.Bool.{Bool, true, false, ◌&&◌, ◌||◌, not, cond, false≢true}
use mathlib.Core.List.{List, [], ◌∷◌}
use lib.ListN.{length, get_or, replicate}
use lib.Dec.{eqb}
use borrow.Author.Tests.{eq-eqb, ne_eqb, eqb-true, eqb-false, not-true}
use Rattle.book.specs.Lists.{any, up_to}
use Rattle.book.proofs.Lists.{and_both, and_end, and_false, and_true, any_same, at_none, same_test}
use Rattle.lineage.specs.Accesses.{access_words}
use Rattle.verdicts.specs.Accesses.{Access, accesses_of, held_by}
use Rattle.verdicts.proofs.Quantifiers.{at_any, any_at}
use Rattle.ledger.specs.Ledger.{words_of}
use Rattle.ledger.specs.Counting.{count}
use Rattle.ledger.specs.Places.{WholeHolds, taken, held_at, number_at, held_count, held_accesses, placed, freed}
use Rattle.ledger.specs.Histories.{Hold, numbered, plan_of, besides}
use Rattle.ledger.specs.declared.Holds.{Holds}
use Rattle.ledger.proofs.WordLaws.{access_length}
use Rattle.ledger.proofs.Counting.{count_same, count_none, count_more, any_changed}
use Rattle.ledger.proofs.PlaceLaws.{number_held, held_number, not_number, held_there, number_there, words_there}
use Rattle.ledger.proofs.PlaceLaws.{held_here, number_here, words_here}
use Rattle.ledger.proofs.HoldLaws.{Falling, falling_number, besides_length, besides_numbers, besides_plan}
use Rattle.ledger.proofs.HoldLaws.{plan_found, plan_number}

-- the words of a plan hold its accesses and nothing else, as those of an accepted plan do
abbrev pub Faithful : (head plan : List ℕ) → Type 0
Faithful head plan = (x : Access) → held_by (access_words head plan) x ≡ accesses_of head plan x

-- the places of a user hold just what the replies say
pub record HeldKept (head : List ℕ) (user : ℕ) (holds : Holds) (hs : List Hold) : Type 0 where
  -- as many
  pub counted : held_count holds user ≡ length hs
  -- the same numbers
  pub numbers : (n : ℕ) → any (number_at holds user n) (up_to 8) ≡ any (numbered n) hs
  -- the words of each number's plan
  pub words :
      (n p : ℕ) → p < 8 → number_at holds user n p ≡ true → words_of holds.words p ≡ access_words head (plan_of n hs)
  pub faithful : (n : ℕ) → any (numbered n) hs ≡ true → Faithful head (plan_of n hs)
  -- each number in one place
  pub apart :
      (n p q : ℕ) → p < 8 → q < 8 → number_at holds user n p ≡ true → number_at holds user n q ≡ true → p ≡ q

-- the accesses of his held plans
module _
    (head : List ℕ) (user top : ℕ) (holds : Holds) (hs : List Hold)
    (kept : HeldKept head user holds hs)
    (falling : Falling top hs)
  where
    place_holds :
        (n p : ℕ)
        → p < 8
        → number_at holds user n p ≡ true
        → (x : Access)
        → held_by (words_of holds.words p) x ≡ accesses_of head (plan_of n hs) x
    place_holds n p l h x =
        rw (kept.words n p l h)
        (kept.faithful n (sym (kept.numbers n) ∙ at_any (number_at holds user n) 8 p l h) x)

    pub held_plans : (x : Access) → held_accesses holds user x ≡ any (λ h. accesses_of head h.plan x) hs
    unfolding held_accesses
    held_plans x =
        same_test (any at_place (up_to 8)) (any (λ h. accesses_of head h.plan x) hs)
        (λ t.
        let w = any_at at_place 8 t in
        let p = w.0 in
        let b = and_both (held_at holds user p) (held_by (words_of holds.words p) x) w.1 in
        let n = get_or holds.numbers p 0 in
        let h = held_number holds user p b.0 in
        plan_found (λ plan. accesses_of head plan x) n hs
        (sym (kept.numbers n) ∙ at_any (number_at holds user n) 8 p w.2 h)
        (sym (place_holds n p w.2 h x) ∙ b.1))
        (λ t.
        let f = plan_number (λ plan. accesses_of head plan x) top hs falling t in
        let n = f.0 in
        let w = any_at (number_at holds user n) 8 (kept.numbers n ∙ f.1) in
        let p = w.0 in
        at_any at_place 8 p w.2
        (and_true (held_at holds user p) (held_by (words_of holds.words p) x) (number_held holds user n p w.1).0
        (place_holds n p w.2 w.1 x ∙ f.2)))
      where
        at_place : ℕ → Bool
        at_place p = held_at holds user p && held_by (words_of holds.words p) x

-- An empty hold record

module _ (head : List ℕ) (user : ℕ) (holds : Holds) (empty : (p : ℕ) → get_or holds.numbers p 0 ≡ 0) where
  none_held : (p : ℕ) → held_at holds user p ≡ false
  unfolding held_at taken
  none_held p = rw (empty p)

  no_number : (n p : ℕ) → number_at holds user n p ≡ false
  no_number n p = not_number holds user n p (none_held p)

  pub kept_none : HeldKept head user holds []
  unfolding held_count any
  kept_none =
      record {
        counted = count_same (λ p. false) (held_at holds user) 8 none_held ∙ count_none (up_to 8);
        numbers = λ n. at_none (number_at holds user n) 8 (λ p l. no_number n p);
        words = λ n p l h. absurd (false≢true (sym (no_number n p) ∙ h));
        faithful = λ n h. absurd (false≢true h);
        apart = λ n p q lp lq hp hq. absurd (false≢true (sym (no_number n p) ∙ hp));
      }

-- A place that is not the user's, before and after

module _
    (head : List ℕ) (v : ℕ) (holds : Holds) (whole : WholeHolds holds) (hs : List Hold) (p user number : ℕ)
    (words : List ℕ)
    (before : held_at holds v p ≡ false)
    (after : held_at (placed holds p user number words) v p ≡ false)
  where
    new : Holds
    new = placed holds p user number words

    held_same : (q : ℕ) → held_at new v q ≡ held_at holds v q
    unfolding new
    held_same q = go (eqb q p) refl
      where
        go : (b : Bool) → eqb q p ≡ b → held_at (placed holds p user number words) v q ≡ held_at holds v q
        go true e = rw (eqb-true q p e) (after ∙ sym before)
        go false e = held_there holds p user number words whole q (eqb-false q p e) v

    number_same : (n q : ℕ) → number_at new v n q ≡ number_at holds v n q
    unfolding new
    number_same n q = go (eqb q p) refl
      where
        go : (b : Bool) → eqb q p ≡ b → number_at (placed holds p user number words) v n q ≡ number_at holds v n q
        go true e =
            rw (eqb-true q p e)
            (not_number (placed holds p user number words) v n p after ∙ sym (not_number holds v n p before))
        go false e = number_there holds p user number words whole q (eqb-false q p e) v n

    pub kept_other : HeldKept head v holds hs → HeldKept head v (placed holds p user number words) hs
    unfolding held_count new
    kept_other k =
        record {
          counted = count_same (held_at holds v) (held_at new v) 8 held_same ∙ k.counted;
          numbers = λ n. any_same (number_at new v n) (number_at holds v n) (number_same n) (up_to 8) ∙ k.numbers n;
          words = λ n q l h. words_at n q l (sym (number_same n q) ∙ h);
          faithful = k.faithful;
          apart =
              λ n q r lq lr hq hr. k.apart n q r lq lr (sym (number_same n q) ∙ hq) (sym (number_same n r) ∙ hr);
        }
      where
        words_at :
            (n q : ℕ)
            → q < 8
            → number_at holds v n q ≡ true
            → words_of (placed holds p user number words).words q ≡ access_words head (plan_of n hs)
        words_at n q l h =
            words_there holds p user number words whole q
            (λ e. false≢true (sym before ∙ rw e at (number_held holds v n q h).0)) l
            ∙ k.words n q l h

-- A new hold in an empty place

module _
    (head : List ℕ) (user : ℕ) (holds : Holds) (whole : WholeHolds holds) (hs : List Hold) (p top : ℕ) (plan : List ℕ)
    (within : p < 8)
    (empty : taken holds p ≡ false)
    (falling : Falling top hs)
    (faithful : Faithful head plan)
  where
    with_it : Holds
    with_it = placed holds p user (top + 1) (access_words head plan)

    not_held_law : held_at holds user p ≡ false
    unfolding held_at
    not_held_law = rw empty

    positive : eqb (top + 1) 0 ≡ false
    positive = ne_eqb (top + 1) 0 (λ (z : top + 1 ≡ 0). omega arith)

    here : (n : ℕ) → number_at with_it user n p ≡ eqb (top + 1) n
    unfolding with_it
    here n =
        number_here holds p user (top + 1) (access_words head plan) whole within user n
        ∙ rw (eq-eqb user user refl, positive)

    there : (n q : ℕ) → (q ≡ p → ⊥) → number_at with_it user n q ≡ number_at holds user n q
    unfolding with_it
    there n q e = number_there holds p user (top + 1) (access_words head plan) whole q e user n

    -- the number is new
    new_number : HeldKept head user holds hs → (n q : ℕ) → q < 8 → number_at holds user n q ≡ true → top + 1 ≡ n → ⊥
    new_number k n q l h e =
        let b = falling_number top n hs falling (sym (k.numbers n) ∙ at_any (number_at holds user n) 8 q l h) in
        omega (arith, b.1)

    pub kept_more :
        HeldKept head user holds hs
        → HeldKept head user (placed holds p user (top + 1) (access_words head plan))
        (record { number = top + 1; plan = plan } ∷ hs)
    unfolding held_count any plan_of with_it
    kept_more k =
        record {
          counted =
              count_more (held_at holds user) (held_at with_it user) p not_held_law
              (λ q e. held_there holds p user (top + 1) (access_words head plan) whole q e user)
              (held_here holds p user (top + 1) (access_words head plan) whole within user
              ∙ rw (eq-eqb user user refl, positive))
              8 within
              ∙ rw k.counted (omega arith);
          numbers =
              λ n.
              any_changed (number_at holds user n) (number_at with_it user n) p (not_number holds user n p not_held_law)
              (there n) 8 within
              ∙ rw (here n, k.numbers n);
          words = λ n q l h. words_at n q l h (eqb q p) refl;
          faithful = λ n h. plan_at n (eqb (top + 1) n) h;
          apart = λ n q r lq lr hq hr. apart_at n q r lq lr hq hr (eqb q p) refl (eqb r p) refl;
        }
      where
        plan_at :
            (n : ℕ) (b : Bool) → (b || any (numbered n) hs) ≡ true → Faithful head (cond b plan (plan_of n hs))
        plan_at n true h = faithful
        plan_at n false h = k.faithful n h

        words_at :
            (n q : ℕ)
            → q < 8
            → number_at with_it user n q ≡ true
            → (b : Bool)
            → eqb q p ≡ b
            → words_of (placed holds p user (top + 1) (access_words head plan)).words q
            ≡ access_words head (cond (eqb (top + 1) n) plan (plan_of n hs))
        words_at n q l h true e =
            let z : q ≡ p = eqb-true q p e in
            let same : eqb (top + 1) n ≡ true = sym (here n) ∙ rw z at h in
            rw (same, z)
            (words_here holds p user (top + 1) (access_words head plan) whole within (access_length head plan))
        words_at n q l h false e =
            let d = eqb-false q p e in
            let old : number_at holds user n q ≡ true = sym (there n q d) ∙ h in
            rw (ne_eqb (top + 1) n (new_number k n q l old))
            (words_there holds p user (top + 1) (access_words head plan) whole q d l ∙ k.words n q l old)

        apart_at :
            (n q r : ℕ)
            → q < 8
            → r < 8
            → number_at with_it user n q ≡ true
            → number_at with_it user n r ≡ true
            → (b : Bool)
            → eqb q p ≡ b
            → (c : Bool)
            → eqb r p ≡ c
            → q ≡ r
        apart_at n q r lq lr hq hr true e true f = eqb-true q p e ∙ sym (eqb-true r p f)
        apart_at n q r lq lr hq hr true e false f =
            let old : number_at holds user n r ≡ true = sym (there n r (eqb-false r p f)) ∙ hr in
            let z : q ≡ p = eqb-true q p e in
            absurd (new_number k n r lr old (eqb-true (top + 1) n (sym (here n) ∙ rw z at hq)))
        apart_at n q r lq lr hq hr false e true f =
            let old : number_at holds user n q ≡ true = sym (there n q (eqb-false q p e)) ∙ hq in
            let z : r ≡ p = eqb-true r p f in
            absurd (new_number k n q lq old (eqb-true (top + 1) n (sym (here n) ∙ rw z at hr)))
        apart_at n q r lq lr hq hr false e false f =
            k.apart n q r lq lr (sym (there n q (eqb-false q p e)) ∙ hq) (sym (there n r (eqb-false r p f)) ∙ hr)

-- A place freed

module _
    (head : List ℕ) (user : ℕ) (holds : Holds) (whole : WholeHolds holds) (hs : List Hold) (p number top : ℕ)
    (within : p < 8)
    (there : number_at holds user number p ≡ true)
    (falling : Falling top hs)
  where
    less : Holds
    less = freed holds p

    not_now : (v : ℕ) → held_at less v p ≡ false
    unfolding less freed
    not_now v = held_here holds p 0 0 (replicate 32 0) whole within v

    else : (n q : ℕ) → (q ≡ p → ⊥) → number_at less user n q ≡ number_at holds user n q
    unfolding less freed
    else n q e = number_there holds p 0 0 (replicate 32 0) whole q e user n

    held_now : (v q : ℕ) → (q ≡ p → ⊥) → held_at less v q ≡ held_at holds v q
    unfolding less freed
    held_now v q e = held_there holds p 0 0 (replicate 32 0) whole q e v

    words_now : (q : ℕ) → (q ≡ p → ⊥) → q < 8 → words_of less.words q ≡ words_of holds.words q
    unfolding less freed
    words_now q d l = words_there holds p 0 0 (replicate 32 0) whole q d l

    -- another place that holds a number now held it before, and it is another number
    elsewhere :
        HeldKept head user holds hs
        → (n q : ℕ)
        → q < 8
        → number_at less user n q ≡ true
        → (q ≡ p → ⊥) × (number_at holds user n q ≡ true) × (n ≡ number → ⊥)
    elsewhere k n q l h =
        let d : q ≡ p → ⊥ = λ e. false≢true (sym (not_number less user n p (not_now user)) ∙ rw e at h) in
        let old : number_at holds user n q ≡ true = sym (else n q d) ∙ h in
        (d, old, λ z. d (k.apart number q p l within (rw z at old) there))

    same_numbers :
        HeldKept head user holds hs
        → (n : ℕ) (b : Bool)
        → eqb n number ≡ b
        → any (number_at less user n) (up_to 8) ≡ (any (numbered n) hs && not (eqb n number))
    same_numbers k n true e =
        rw (e, and_false (any (numbered n) hs))
        (at_none (number_at less user n) 8
        (λ q l. none q l (number_at less user n q) refl))
      where
        none : (q : ℕ) → q < 8 → (b : Bool) → number_at less user n q ≡ b → b ≡ false
        none q l true h = absurd ((elsewhere k n q l h).2 (eqb-true n number e))
        none q l false h = refl
    same_numbers k n false e =
        rw (e, and_end (any (numbered n) hs))
        (sym (any_changed (number_at less user n) (number_at holds user n) p
        (not_number less user n p (not_now user)) (λ q d. sym (else n q d)) 8 within
        ∙ rw not_that)
        ∙ k.numbers n)
      where
        not_that : number_at holds user n p ≡ false
        not_that = go (number_at holds user n p) refl
          where
            go : (b : Bool) → number_at holds user n p ≡ b → b ≡ false
            go true h =
                absurd (eqb-false n number e
                (sym (number_held holds user n p h).1 ∙ (number_held holds user number p there).1))
            go false h = refl

    pub kept_less : HeldKept head user holds hs → HeldKept head user (freed holds p) (besides number hs)
    unfolding held_count less
    kept_less k =
        record {
          counted = fewer;
          numbers = λ n. same_numbers k n (eqb n number) refl ∙ sym (besides_numbers top n number hs falling);
          words =
              λ n q l h.
              let o = elsewhere k n q l h in
              words_now q o.0 l
              ∙ k.words n q l o.1
              ∙ ap (access_words head) (sym (besides_plan n number hs o.2));
          faithful = faithful_now;
          apart =
              λ n q r lq lr hq hr. k.apart n q r lq lr (elsewhere k n q lq hq).1 (elsewhere k n r lr hr).1;
        }
      where
        listed : any (numbered number) hs ≡ true
        listed = sym (k.numbers number) ∙ at_any (number_at holds user number) 8 p within there

        faithful_now : (n : ℕ) → any (numbered n) (besides number hs) ≡ true → Faithful head (plan_of n (besides number hs))
        faithful_now n h =
            let b = and_both (any (numbered n) hs) (not (eqb n number))
            (sym (besides_numbers top n number hs falling) ∙ h) in
            let other = eqb-false n number (not-true (eqb n number) b.1) in
            rw (besides_plan n number hs other) (k.faithful n b.0)

        more : count (held_at holds user) (up_to 8) ≡ count (held_at less user) (up_to 8) + 1
        more =
            count_more (held_at less user) (held_at holds user) p (not_now user)
            (λ q e. sym (held_now user q e)) (number_held holds user number p there).0 8 within

        fewer : count (held_at (freed holds p) user) (up_to 8) ≡ length (besides number hs)
        fewer =
            let a = more in
            let b = k.counted in
            let c = besides_length number hs listed in
            omega (arith, a, b, c)
