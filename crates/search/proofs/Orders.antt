-- The order of a rule's candidates: they are listed in rising order, and the first of them that breaks the rule alone.
-- Assumes nothing.
use Prim.Native.Nat.{ℕ, zero, suc, ◌+◌, ◌≤◌, ◌<◌}
use native.Mathlib.Omega.{arith}
use mathlib.Core.Path.{◌≡◌, refl}
use mathlib.Core.Logic.{◌⊎◌}
use mathlib.Core.Bool.{Bool, true, false, ◌&&◌, ◌||◌, cond, false≢true}
use mathlib.Core.List.Memᴰ
use mathlib.Core.List.{List, [], ◌∷◌, map, Memᴰ}
use lib.Dec.{eqb, ltb}
use borrow.Author.Tests.{eqb-true, eq-eqb}
use Rattle.book.specs.Lists.{flat, all, any, up_to, keep}
use Rattle.book.specs.Blocks.{head_of, rule_at, rule_count}
use Rattle.book.specs.Head.{data_count, function_count, is_user, operation, supports, user_count}
use Rattle.book.specs.Rule.{reference_count}
use Rattle.book.specs.Refusals.{BookAccepted}
use Rattle.book.proofs.Accepted.{HeadHolds, accepted_head}
use Rattle.book.proofs.Lists.{and_true, and_left, and_right, and_both, or_true, map_all}
use Rattle.verdicts.specs.Accesses.{Access, Accesses, every_access, fits, fitting, same}
use Rattle.verdicts.specs.Breaking.{choices_from}
use Rattle.verdicts.proofs.Users.{user_below}
use Rattle.verdicts.proofs.Accesses.{access, in_fitting, same_equal, same_self}
use Rattle.verdicts.proofs.Quantifiers.{any_at, flat_all}
use Rattle.search.specs.Obtainable.{can_be_had, labelled, operated}
use Rattle.search.specs.Choices.{Candidate, access_before, candidate_before, candidates, choice_before, choices_of}
use Rattle.search.specs.Choices.{choices_by_weight, for_users, is_choice, is_choice_from, lighter, weight}
use Rattle.search.specs.Alone.{none, shown, candidate_alone, first_alone}
use Rattle.search.proofs.Rising.{all_member, all_then, any_member, first_nothing, first_something, flat_every}
use Rattle.search.proofs.Rising.{flat_member, keep_member, keep_passes, map_every, none_first}
use Rattle.search.proofs.Rising.{parted_all, parted_member, parted_rising, rising, rising_flat}
use Rattle.search.proofs.Rising.{rising_keep, rising_map, shown_first, up_to_member, up_to_rising}

-- The orders

-- by the first part that differs
module _ (x y : Access) where
  pub before_channel : ltb x.channel y.channel ≡ true → access_before x y ≡ true
  unfolding access_before
  before_channel h = rw h

  pub before_leaf : x.channel ≡ y.channel → ltb x.leaf y.leaf ≡ true → access_before x y ≡ true
  unfolding access_before
  before_leaf e h = rw (eq-eqb x.channel y.channel e, h) (or_true (ltb x.channel y.channel))

  pub before_operation :
      x.channel ≡ y.channel
      → x.leaf ≡ y.leaf
      → ltb x.operation y.operation ≡ true
      → access_before x y ≡ true
  unfolding access_before
  before_operation e d h =
      rw (
        eq-eqb x.channel y.channel e,
        eq-eqb x.leaf y.leaf d,
        h,
        or_true (ltb x.leaf y.leaf),
      )
      (or_true (ltb x.channel y.channel))

module _ (x y : Access) (c d : List Access) where
  pub before_first : access_before x y ≡ true → choice_before (x ∷ c) (y ∷ d) ≡ true
  unfolding choice_before
  before_first h = rw h

pub before_rest : (x : Access) (c d : List Access) → choice_before c d ≡ true → choice_before (x ∷ c) (x ∷ d) ≡ true
unfolding choice_before
before_rest x c d h = rw (same_self x, h) (or_true (access_before x x))

module _ (c d : List Access) where
  pub before_weight : ltb (weight c) (weight d) ≡ true → lighter c d ≡ true
  unfolding lighter
  before_weight h = rw h

  pub before_equal : weight c ≡ weight d → choice_before c d ≡ true → lighter c d ≡ true
  unfolding lighter
  before_equal e h = rw (eq-eqb (weight c) (weight d) e, h) (or_true (ltb (weight c) (weight d)))

-- a candidate by its parts
abbrev pub candidate : ℕ → List Access → Candidate
candidate u c = record { user = u; choice = c }

module _ (c d : List Access) where
  pub before_user : (u v : ℕ) → ltb u v ≡ true → candidate_before (candidate u c) (candidate v d) ≡ true
  unfolding candidate_before
  before_user u v h = rw h

  pub before_choice : (u : ℕ) → lighter c d ≡ true → candidate_before (candidate u c) (candidate u d) ≡ true
  unfolding candidate_before
  before_choice u h = rw (eq-eqb u u refl, h) (or_true (ltb u u))

-- The lists are in rising order

pub accesses_rising : (head : List ℕ) → rising access_before (every_access head) ≡ true
unfolding every_access
accesses_rising head =
    rising_flat access_before ltb (λ s. flat (λ d. map (access s d) (up_to 16)) (up_to (data_count head)))
    (λ s t l.
    flat_every (λ a. all (access_before a) (flat (λ d. map (access t d) (up_to 16)) (up_to (data_count head))))
    (λ d. map (access s d) (up_to 16))
    (λ d.
    map_every (λ a. all (access_before a) (flat (λ e. map (access t e) (up_to 16)) (up_to (data_count head))))
    (access s d)
    (λ k.
    flat_every (access_before (access s d k)) (λ e. map (access t e) (up_to 16))
    (λ e.
    map_every (access_before (access s d k)) (access t e) (λ m. before_channel (access s d k) (access t e m) l) (up_to 16))
    (up_to (data_count head)))
    (up_to 16))
    (up_to (data_count head)))
    (λ s.
    rising_flat access_before ltb (λ d. map (access s d) (up_to 16))
    (λ d e l.
    map_every (λ a. all (access_before a) (map (access s e) (up_to 16))) (access s d)
    (λ k.
    map_every (access_before (access s d k)) (access s e) (λ m. before_leaf (access s d k) (access s e m) refl l)
    (up_to 16))
    (up_to 16))
    (λ d.
    rising_map access_before ltb (access s d) (λ k m. before_operation (access s d k) (access s d m) refl refl) (up_to 16)
    (up_to_rising 16))
    (up_to (data_count head)) (up_to_rising (data_count head)))
    (up_to 2) (up_to_rising 2)

-- choices from rising lists rise, where the first part that differs decides
module _ {A : Type 0} (before : A → A → Bool) (later : List A → List A → Bool)
    (first : (x y : A) (c d : List A) → before x y ≡ true → later (x ∷ c) (y ∷ d) ≡ true)
    (rest : (x : A) (c d : List A) → later c d ≡ true → later (x ∷ c) (x ∷ d) ≡ true) where
  pub choices_rising :
      (n i : ℕ) (lists : ℕ → List A)
      → ((j : ℕ) → rising before (lists j) ≡ true)
      → rising later (choices_from n i lists) ≡ true
  unfolding choices_from rising all
  choices_rising zero i lists h = refl
  choices_rising (suc n) i lists h =
      rising_flat later before (λ x. map (λ c. x ∷ c) (choices_from n (suc i) lists))
      (λ x y l.
      map_every (λ a. all (later a) (map (λ d. y ∷ d) (choices_from n (suc i) lists))) (λ c. x ∷ c)
      (λ c. map_every (later (x ∷ c)) (λ d. y ∷ d) (λ d. first x y c d l) (choices_from n (suc i) lists))
      (choices_from n (suc i) lists))
      (λ x.
      rising_map later later (λ c. x ∷ c) (rest x) (choices_from n (suc i) lists)
      (choices_rising n (suc i) lists h))
      (lists i) (h i)

module _ (head rule : List ℕ) where
  weights_rising : rising lighter (choices_by_weight head rule) ≡ true
  unfolding choices_by_weight choices_of fitting
  weights_rising =
      parted_rising weight lighter choice_before before_weight before_equal (suc (reference_count rule))
      (choices_of head rule)
      (choices_rising access_before choice_before before_first before_rest (reference_count rule) 0
      (fitting head rule (can_be_had head))
      (λ i.
      rising_keep access_before (λ x. can_be_had head x && fits head rule i x) (every_access head) (accesses_rising head)))

  pub candidates_rising : rising candidate_before (candidates head rule) ≡ true
  unfolding candidates for_users
  candidates_rising =
      let choices = choices_by_weight head rule in
      rising_flat candidate_before ltb (λ u. map (candidate u) choices)
      (λ u v l.
      map_every (λ a. all (candidate_before a) (map (candidate v) choices)) (candidate u)
      (λ c. map_every (candidate_before (candidate u c)) (candidate v) (λ d. before_user c d u v l) choices) choices)
      (λ u. rising_map candidate_before lighter (candidate u) (λ c d. before_choice c d u) choices weights_rising)
      (keep (is_user head) (up_to (user_count head)))
      (rising_keep ltb (is_user head) (up_to (user_count head)) (up_to_rising (user_count head)))

-- Choices from a set of accesses

module _ (head rule : List ℕ) where
  pub choice_had : (n i : ℕ) (c : List Access) → is_choice_from head rule n i c ≡ true → all (can_be_had head) c ≡ true
  unfolding is_choice_from all
  choice_had zero i [] h = refl
  choice_had zero i (x ∷ c) h = absurd (false≢true h)
  choice_had (suc n) i [] h = absurd (false≢true h)
  choice_had (suc n) i (x ∷ c) h =
      let a = and_both (can_be_had head x && fits head rule i x) (is_choice_from head rule n (suc i) c) h in
      and_true (can_be_had head x) (all (can_be_had head) c) (and_left (can_be_had head x) (fits head rule i x) a.0)
      (choice_had n (suc i) c a.1)

  -- a choice has no more functions than the rule has references
  pub choice_weight : (n i : ℕ) (c : List Access) → is_choice_from head rule n i c ≡ true → weight c ≤ n
  unfolding is_choice_from weight
  choice_weight zero i [] h = omega arith
  choice_weight zero i (x ∷ c) h = absurd (false≢true h)
  choice_weight (suc n) i [] h = absurd (false≢true h)
  choice_weight (suc n) i (x ∷ c) h =
      go (eqb x.operation 0)
      (choice_weight n (suc i) c
      (and_right (can_be_had head x && fits head rule i x) (is_choice_from head rule n (suc i) c) h))
    where
      go : (b : Bool) → weight c ≤ n → cond b 0 1 + weight c ≤ suc n
      go true l = omega arith
      go false l = omega arith

  -- what is chosen from accesses that can be had is a choice
  pub choices_pass :
      (D : Accesses)
      → ((x : Access) → D x ≡ true → can_be_had head x ≡ true)
      → (n i : ℕ)
      → all (λ c. is_choice_from head rule n i c && all D c) (choices_from n i (fitting head rule D)) ≡ true
  unfolding choices_from is_choice_from all fitting
  choices_pass D had zero i = refl
  choices_pass D had (suc n) i =
      flat_all (λ c. is_choice_from head rule (suc n) i c && all D c)
      (λ x. map (λ c. x ∷ c) (choices_from n (suc i) (fitting head rule D)))
      (λ x. D x && fits head rule i x)
      (λ x h.
      map_all (λ c. is_choice_from head rule (suc n) i c && all D c) (λ c. x ∷ c)
      (λ c. is_choice_from head rule n (suc i) c && all D c)
      (λ c q.
      let a = and_both (D x) (fits head rule i x) h in
      let b = and_both (is_choice_from head rule n (suc i) c) (all D c) q in
      rw (had x a.0, a.0, a.1, b.0, b.1))
      (choices_from n (suc i) (fitting head rule D)) (choices_pass D had n (suc i)))
      (fitting head rule D i) (keep_passes (λ x. D x && fits head rule i x) (every_access head))

-- what can be had has an operation below 16
pub had_small : (head : List ℕ) → HeadHolds head → (x : Access) → can_be_had head x ≡ true → x.operation < 16
unfolding can_be_had operated
had_small head holds x h =
    go (eqb x.operation 0) refl
    (and_right (labelled head x.leaf) (operated head x.leaf x.operation) h)
  where
    belongs : Bool
    belongs = any (λ f. eqb (operation head f) x.operation) (up_to (function_count head))

    go :
        (b : Bool)
        → eqb x.operation 0 ≡ b
        → (b || (supports head x.leaf x.operation && belongs)) ≡ true
        → x.operation < 16
    go true e t = rw (eqb-true x.operation 0 e) (omega arith)
    go false e t =
        let w =
        any_at (λ f. eqb (operation head f) x.operation) (function_count head)
        (and_right (supports head x.leaf x.operation) belongs t) in
        let m : operation head w.0 ≤ 15 = holds.operations_most w.0 w.2 in
        let q : operation head w.0 ≡ x.operation = eqb-true (operation head w.0) x.operation w.1 in
        omega arith

module _ (head rule : List ℕ) (holds : HeadHolds head) where
  -- a choice of accesses of a set is one of those chosen from it
  pub choice_in :
      (D : Accesses) (n i : ℕ) (c : List Access)
      → is_choice_from head rule n i c ≡ true
      → all D c ≡ true
      → Memᴰ c (choices_from n i (fitting head rule D))
  unfolding choices_from is_choice_from all
  choice_in D zero i [] h p = Memᴰ.head refl
  choice_in D zero i (x ∷ c) h p = absurd (false≢true h)
  choice_in D (suc n) i [] h p = absurd (false≢true h)
  choice_in D (suc n) i (x ∷ c) h p =
      let a = and_both (can_be_had head x && fits head rule i x) (is_choice_from head rule n (suc i) c) h in
      let b = and_both (can_be_had head x) (fits head rule i x) a.0 in
      let q = and_both (D x) (all D c) p in
      let found =
      any_member (same x) (fitting head rule D i)
      (in_fitting head rule D i (same x) x (had_small head holds x b.0) q.0 b.1 (same_self x)) in
      flat_member (λ y. map (λ d. y ∷ d) (choices_from n (suc i) (fitting head rule D)))
      (fitting head rule D i) x (x ∷ c) (Memᴰ.cast (same_equal x found.0 found.2) found.1)
      (Memᴰ.map (λ d. x ∷ d) (choice_in D n (suc i) c a.1 q.1))

-- The candidates are the users with the choices

module _ (head rule : List ℕ) where
  is_candidate : Candidate → Bool
  is_candidate c = is_user head c.user && is_choice head rule c.choice

  pub users_pass :
      (choices : List (List Access))
      → all (is_choice head rule) choices ≡ true
      → (c : Candidate)
      → Memᴰ c (for_users head choices)
      → (is_user head c.user ≡ true) × (is_choice head rule c.choice ≡ true)
  unfolding for_users is_candidate
  users_pass choices pass c m =
      and_both (is_user head c.user) (is_choice head rule c.choice)
      (all_member is_candidate (for_users head choices)
      (flat_all is_candidate (λ u. map (candidate u) choices) (is_user head)
      (λ u h.
      map_all is_candidate (candidate u) (is_choice head rule) (λ d q. and_true (is_user head u) (is_choice head rule d) h q)
      choices pass)
      (keep (is_user head) (up_to (user_count head))) (keep_passes (is_user head) (up_to (user_count head))))
      c m)

  pub chosen_pass : all (is_choice head rule) (choices_of head rule) ≡ true
  unfolding choices_of is_choice
  chosen_pass =
      all_then (λ c. is_choice head rule c && all (can_be_had head) c) (is_choice head rule)
      (λ c h. and_left (is_choice head rule c) (all (can_be_had head) c) h) (choices_of head rule)
      (choices_pass head rule (can_be_had head) (λ x e. e) (reference_count rule) 0)

  pub candidate_parts :
      (c : Candidate)
      → Memᴰ c (candidates head rule)
      → (is_user head c.user ≡ true) × (is_choice head rule c.choice ≡ true)
  unfolding candidates choices_by_weight
  candidate_parts c m =
      users_pass (choices_by_weight head rule)
      (parted_all weight (is_choice head rule) (suc (reference_count rule)) (choices_of head rule) chosen_pass) c m

pub users_in :
    (head : List ℕ) (choices : List (List Access)) (c : Candidate)
    → is_user head c.user ≡ true
    → Memᴰ c.choice choices
    → Memᴰ c (for_users head choices)
unfolding for_users
users_in head choices c u m =
    flat_member (λ v. map (candidate v) choices) (keep (is_user head) (up_to (user_count head))) c.user c
    (keep_member (is_user head) (up_to (user_count head)) c.user
    (up_to_member (user_count head) c.user (user_below head c.user u)) u)
    (Memᴰ.map (candidate c.user) m)

module _ (head rule : List ℕ) (holds : HeadHolds head) where
  pub chosen_in : (c : List Access) → is_choice head rule c ≡ true → Memᴰ c (choices_of head rule)
  unfolding choices_of is_choice
  chosen_in c h =
      choice_in head rule holds (can_be_had head) (reference_count rule) 0 c h
      (choice_had head rule (reference_count rule) 0 c h)

  pub candidate_in :
      (c : Candidate)
      → is_user head c.user ≡ true
      → is_choice head rule c.choice ≡ true
      → Memᴰ c (candidates head rule)
  unfolding candidates choices_by_weight is_choice
  candidate_in c u h =
      let most = choice_weight head rule (reference_count rule) 0 c.choice h in
      users_in head (choices_by_weight head rule) c u
      (parted_member weight (suc (reference_count rule)) (choices_of head rule) c.choice (chosen_in c.choice h)
      (omega arith))

-- The first candidate that breaks a rule alone

module _ (book : List ℕ) (accepted : BookAccepted book) (r : ℕ) (l : r < rule_count book) where
  pub first_none :
      ((c : Candidate)
      → is_user (head_of book) c.user ≡ true
      → is_choice (head_of book) (rule_at book r) c.choice ≡ true
      → candidate_alone book r c ≡ false)
      → first_alone book r ≡ none
  unfolding first_alone
  first_none h =
      none_first (candidate_alone book r) (candidates (head_of book) (rule_at book r))
      (λ c m.
      let p = candidate_parts (head_of book) (rule_at book r) c m in
      h c p.0 p.1)

  pub first_shown :
      (c : Candidate)
      → is_user (head_of book) c.user ≡ true
      → is_choice (head_of book) (rule_at book r) c.choice ≡ true
      → candidate_alone book r c ≡ true
      → ((d : Candidate)
      → is_user (head_of book) d.user ≡ true
      → is_choice (head_of book) (rule_at book r) d.choice ≡ true
      → candidate_before d c ≡ true
      → candidate_alone book r d ≡ false)
      → first_alone book r ≡ shown c
  unfolding first_alone
  first_shown c u h p lower =
      shown_first (candidate_alone book r) candidate_before (candidates (head_of book) (rule_at book r)) c
      (candidates_rising (head_of book) (rule_at book r))
      (candidate_in (head_of book) (rule_at book r) (accepted_head book accepted) c u h) p
      (λ d m.
      let q = candidate_parts (head_of book) (rule_at book r) d m in
      lower d q.0 q.1)

  -- and back
  pub none_alone :
      first_alone book r ≡ none
      → (c : Candidate)
      → is_user (head_of book) c.user ≡ true
      → is_choice (head_of book) (rule_at book r) c.choice ≡ true
      → candidate_alone book r c ≡ false
  unfolding first_alone
  none_alone e c u h =
      first_nothing (candidate_alone book r) (candidates (head_of book) (rule_at book r)) e c
      (candidate_in (head_of book) (rule_at book r) (accepted_head book accepted) c u h)

  pub shown_alone :
      (c : Candidate)
      → first_alone book r ≡ shown c
      → (is_user (head_of book) c.user ≡ true)
      × (is_choice (head_of book) (rule_at book r) c.choice ≡ true)
      × (candidate_alone book r c ≡ true)
      × ((d : Candidate)
      → is_user (head_of book) d.user ≡ true
      → is_choice (head_of book) (rule_at book r) d.choice ≡ true
      → candidate_alone book r d ≡ true
      → (d ≡ c) ⊎ (candidate_before c d ≡ true))
  unfolding first_alone
  shown_alone c e =
      let head = head_of book in
      let rule = rule_at book r in
      let s =
      first_something (candidate_alone book r) candidate_before (candidates head rule) c (candidates_rising head rule) e in
      let p = candidate_parts head rule c s.0 in (
        p.0,
        p.1,
        s.1,
        λ d u h. s.2 d (candidate_in head rule (accepted_head book accepted) d u h),
      )
