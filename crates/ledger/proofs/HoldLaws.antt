-- Laws of what the replies say is held for a user: numbers fall, the latest being the highest, so each stands once.
-- Assumes nothing.
use Prim.Native.Nat.{ℕ, ◌+◌, ◌-◌, ◌≤◌}
use native.Mathlib.Omega.{arith}
use mathlib.Core.Path.{◌≡◌, refl, sym, ◌∙◌}
use mathlib.Core.Bool.{Bool, true, false, ◌&&◌, ◌||◌, not, cond, false≢true}
use mathlib.Core.List.{List, [], ◌∷◌}
use lib.ListN.{length}
use lib.Dec.{eqb}
use borrow.Author.Tests.{eq-eqb, ne_eqb, eqb-true, eqb-false}
use Rattle.book.specs.Lists.{any}
use Rattle.book.proofs.Lists.{or_left, or_right, and_end, and_false}
use Rattle.ledger.specs.Histories.{Hold, numbered, plan_of, besides}

-- numbers from 1 to `top` that fall
unfoldable pub Falling : ℕ → List Hold → Type 0
Falling top [] = Unit {0}
Falling top (h ∷ hs) = (1 ≤ h.number) × (h.number ≤ top) × Falling (h.number - 1) hs

pub falling_none : (top : ℕ) → Falling top []
unfolding Falling
falling_none top = tt

pub falling_wider : (low high : ℕ) (hs : List Hold) → low ≤ high → Falling low hs → Falling high hs
unfolding Falling
falling_wider low high [] l f = tt
falling_wider low high (h ∷ hs) l f = (f.0, omega (arith, f.1), f.2)

pub falling_more :
    (top : ℕ) (plan : List ℕ) (hs : List Hold)
    → Falling top hs
    → Falling (top + 1) (record { number = top + 1; plan = plan } ∷ hs)
unfolding Falling
falling_more top plan hs f = (omega arith, omega arith, falling_wider top (top + 1 - 1) hs (omega arith) f)

pub falling_besides : (top n : ℕ) (hs : List Hold) → Falling top hs → Falling top (besides n hs)
unfolding Falling besides
falling_besides top n [] f = tt
falling_besides top n (h ∷ hs) f = go (eqb h.number n) (falling_besides (h.number - 1) n hs f.2)
  where
    go : (b : Bool) → Falling (h.number - 1) (besides n hs) → Falling top (cond b hs (h ∷ besides n hs))
    go true r = falling_wider (h.number - 1) top hs (omega (arith, f.1)) f.2
    go false r = (f.0, f.1, r)

pub falling_number :
    (top n : ℕ) (hs : List Hold) → Falling top hs → any (numbered n) hs ≡ true → (1 ≤ n) × (n ≤ top)
unfolding Falling any
falling_number top n [] f h = absurd (false≢true h)
falling_number top n (x ∷ hs) f h = go (eqb x.number n) refl h (falling_number (x.number - 1) n hs f.2)
  where
    go : (b : Bool) → eqb x.number n ≡ b → (b || any (numbered n) hs) ≡ true
        → (any (numbered n) hs ≡ true → (1 ≤ n) × (n ≤ x.number - 1)) → (1 ≤ n) × (n ≤ top)
    go true e t r =
        let z = eqb-true x.number n e in
        (omega (arith, f.0), omega (arith, f.1))
    go false e t r =
        let s = r t in
        (s.0, omega (arith, s.1, f.1))

-- One plan less

pub besides_length :
    (n : ℕ) (hs : List Hold) → any (numbered n) hs ≡ true → length (besides n hs) + 1 ≡ length hs
unfolding any besides
besides_length n [] h = absurd (false≢true h)
besides_length n (x ∷ hs) h = go (eqb x.number n) h (besides_length n hs)
  where
    go : (b : Bool) → (b || any (numbered n) hs) ≡ true
        → (any (numbered n) hs ≡ true → length (besides n hs) + 1 ≡ length hs)
        → length (cond b hs (x ∷ besides n hs)) + 1 ≡ length (x ∷ hs)
    go true t r = omega arith
    go false t r = omega (arith, r t)

pub besides_fewer :
    (p : Hold → Bool) (n : ℕ) (hs : List Hold) → any p (besides n hs) ≡ true → any p hs ≡ true
unfolding any besides
besides_fewer p n [] h = h
besides_fewer p n (x ∷ hs) h = go (eqb x.number n) h (besides_fewer p n hs)
  where
    go : (b : Bool) → any p (cond b hs (x ∷ besides n hs)) ≡ true
        → (any p (besides n hs) ≡ true → any p hs ≡ true) → (p x || any p hs) ≡ true
    go true t r = or_right (p x) (any p hs) t
    go false t r = keeps (p x) t
      where
        keeps : (c : Bool) → (c || any p (besides n hs)) ≡ true → (c || any p hs) ≡ true
        keeps true s = refl
        keeps false s = r s

-- the number is gone, the others stay
pub besides_numbers :
    (top m n : ℕ) (hs : List Hold)
    → Falling top hs
    → any (numbered m) (besides n hs) ≡ (any (numbered m) hs && not (eqb m n))
unfolding any besides Falling
besides_numbers top m n [] f = refl
besides_numbers top m n (x ∷ hs) f =
    go (eqb x.number n) refl (eqb m n) refl (besides_numbers (x.number - 1) m n hs f.2)
  where
    gone : x.number ≡ n → any (numbered n) hs ≡ false
    gone e = no_more (any (numbered n) hs) refl
      where
        no_more : (b : Bool) → any (numbered n) hs ≡ b → b ≡ false
        no_more true t = let r = falling_number (x.number - 1) n hs f.2 t in absurd (omega (arith, r.0, r.1))
        no_more false t = refl

    go : (b : Bool) → eqb x.number n ≡ b → (c : Bool) → eqb m n ≡ c
        → any (numbered m) (besides n hs) ≡ (any (numbered m) hs && not (eqb m n))
        → any (numbered m) (cond b hs (x ∷ besides n hs)) ≡ ((eqb x.number m || any (numbered m) hs) && not c)
    go true e true d r =
        let z = eqb-true m n d in
        rw (z, gone (eqb-true x.number n e), and_false (eqb x.number n || false))
    go true e false d r =
        let z : x.number ≡ n = eqb-true x.number n e in
        let k : eqb x.number m ≡ false = ne_eqb x.number m (λ t. eqb-false m n d (sym t ∙ z)) in
        rw (k, and_end (any (numbered m) hs))
    go false e true d r =
        let z = eqb-true m n d in
        let k : eqb x.number m ≡ false = rw z e in
        rw (k, r, d, and_false (any (numbered m) hs))
    go false e false d r = rw (r, d, and_end (any (numbered m) hs), and_end (eqb x.number m || any (numbered m) hs))

pub besides_plan : (m n : ℕ) (hs : List Hold) → (m ≡ n → ⊥) → plan_of m (besides n hs) ≡ plan_of m hs
unfolding plan_of besides
besides_plan m n [] d = refl
besides_plan m n (x ∷ hs) d = go (eqb x.number n) refl (besides_plan m n hs d)
  where
    go : (b : Bool) → eqb x.number n ≡ b → plan_of m (besides n hs) ≡ plan_of m hs
        → plan_of m (cond b hs (x ∷ besides n hs)) ≡ cond (eqb x.number m) x.plan (plan_of m hs)
    go true e r =
        let k : eqb x.number m ≡ false =
        ne_eqb x.number m (λ t. d (sym t ∙ eqb-true x.number n e)) in
        rw k
    go false e r = rw r

-- Plans by their numbers

module _ (p : List ℕ → Bool) where
  pub plan_found : (n : ℕ) (hs : List Hold) → any (numbered n) hs ≡ true → p (plan_of n hs) ≡ true
      → any (λ h. p h.plan) hs ≡ true
  unfolding any plan_of
  plan_found n [] h t = absurd (false≢true h)
  plan_found n (x ∷ hs) h t = go (eqb x.number n) h t (plan_found n hs)
    where
      go : (b : Bool) → (b || any (numbered n) hs) ≡ true → p (cond b x.plan (plan_of n hs)) ≡ true
          → (any (numbered n) hs ≡ true → p (plan_of n hs) ≡ true → any (λ h. p h.plan) hs ≡ true)
          → (p x.plan || any (λ h. p h.plan) hs) ≡ true
      go true a s r = or_left (p x.plan) (any (λ h. p h.plan) hs) s
      go false a s r = or_right (p x.plan) (any (λ h. p h.plan) hs) (r a s)

  pub plan_number :
      (top : ℕ) (hs : List Hold) → Falling top hs → any (λ h. p h.plan) hs ≡ true
      → (n : ℕ) × (any (numbered n) hs ≡ true) × (p (plan_of n hs) ≡ true)
  unfolding any plan_of Falling
  plan_number top [] f h = absurd (false≢true h)
  plan_number top (x ∷ hs) f h = go (p x.plan) refl h (plan_number (x.number - 1) hs f.2)
    where
      go : (b : Bool) → p x.plan ≡ b → (b || any (λ h. p h.plan) hs) ≡ true
          → (any (λ h. p h.plan) hs ≡ true → (n : ℕ) × (any (numbered n) hs ≡ true) × (p (plan_of n hs) ≡ true))
          → (n : ℕ) × ((eqb x.number n || any (numbered n) hs) ≡ true)
          × (p (cond (eqb x.number n) x.plan (plan_of n hs)) ≡ true)
      go true e t r = (x.number, rw (eq-eqb x.number x.number refl), rw (eq-eqb x.number x.number refl) e)
      go false e t r =
          let s = r t in
          let n = s.0 in
          let b = falling_number (x.number - 1) n hs f.2 s.1 in
          let k : eqb x.number n ≡ false = ne_eqb x.number n (λ (z : x.number ≡ n). omega (arith, b.0, b.1)) in
          (n, rw k s.1, rw k s.2)
