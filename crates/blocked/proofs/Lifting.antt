-- From the tables to the book: what the search finds among cells is the first user and association that stay closed.
-- Assumes nothing.
use Prim.Native.Nat.{ℕ, zero, suc, ◌*◌, ◌/◌, ◌%◌, ◌≤◌, ◌<◌}
use native.Mathlib.Omega.{arith}
use mathlib.Core.Path.{◌≡◌, refl, sym, ap, ◌∙◌}
use mathlib.Core.Logic.{⊎_elim}
use mathlib.Core.Bool.{Bool, true, false, ◌&&◌, not, false≢true}
use mathlib.Core.List.{List, [], ◌∷◌, map}
use lib.ListN.{get_or}
use lib.Dec.{eqb, ltb}
use borrow.Author.Tests.{eqb-true, lt-ltb, ltb-true, not-true}
use Rattle.book.specs.Lists.{all, up_to}
use Rattle.book.specs.Sets.{has, WordOf}
use Rattle.book.specs.Blocks.{head_of, rule_at, rule_count}
use Rattle.book.specs.Head.{user_count}
use Rattle.book.specs.Rule.{covers_user, reference_count}
use Rattle.book.specs.Refusals.{BookAccepted}
use Rattle.book.proofs.Accepted.{RuleHolds, accepted_head, accepted_rule}
use Rattle.book.proofs.Lists.{and_assoc, and_both, and_false, and_left, and_right, and_true, any_from_same, or_either}
use Rattle.book.proofs.Lists.{same_test}
use Rattle.verdicts.specs.Accesses.{Access, fits, members}
use Rattle.verdicts.specs.Inner.Words.{RuleSound}
use Rattle.verdicts.specs.Breaking.{breaks, some_choice_refused}
use Rattle.verdicts.proofs.Accesses.{leaf_set_below, Apart}
use Rattle.verdicts.proofs.Quantifiers.{any_below}
use Rattle.verdicts.proofs.Sound.{few_rules_law}
use Rattle.verdicts.proofs.Users.{user_below}
use Rattle.search.specs.Obtainable.{can_be_had, labelled, operated}
use Rattle.search.specs.Choices.{is_choice}
use Rattle.search.specs.Inner.Places.{PlacesOf, access_at, choice_at, in_places, nowhere}
use Rattle.search.specs.Inner.Table.{CoversHold, HadHolds, TableHolds, meets, takes_operation}
use Rattle.search.specs.Inner.Closing.{closes}
use Rattle.search.specs.Inner.Search.{candidate, covers_in}
use Rattle.search.proofs.Placements.{closes_broken}
use Rattle.search.proofs.ChoicePlaces.{Stand, choice_places, places_choice, stands_at, stands_most}
use Rattle.search.proofs.ChoiceTables.{candidate_stands}
use Rattle.search.specs.declared.tables.RuleTable.{RuleTable}
use Rattle.blocked.specs.Associations.{Datum, Pair, access_to, association_before, datum_of, in_scope_at, is_association}
use Rattle.blocked.specs.Associations.{is_association_from, pair_before}
use Rattle.blocked.specs.Open.{is_closed, is_closed_under, some_broken}
use Rattle.blocked.specs.Demand.{Chooses, InScope}
use Rattle.blocked.specs.Inner.Cells.{Cells, Opens, spares}
use Rattle.blocked.specs.Inner.Pairs.{MetHolds, Ready, Whole}
use Rattle.blocked.specs.Inner.Users.{DeniedFirst, DeniedUser, counting_rules, covering_rules}
use Rattle.blocked.specs.Inner.First.{FirstDenied, association_at, pair_at}
use Rattle.std.specs.Prelude.{Option, Some, None}
use Rattle.blocked.specs.declared.users.Denial.{Denial}
use Rattle.blocked.proofs.ScopeLaws.{closed_first, closed_none, covers_user_law, pair}
use Rattle.blocked.proofs.OpenLaws.{choice_chooses, choice_open, chooses_choice, open_choice}
use Rattle.blocked.proofs.CellLaws.{cell_member, cell_place}
use Rattle.blocked.proofs.AssociationLaws.{Shape, choice_association, shape_before, shape_same, shape_standing}
use Rattle.blocked.proofs.AssociationLaws.{stand_shape}

-- The accesses to an association without operations

module _ (head rule : List ℕ) where
  -- they can be had, as some column carries each leaf
  plain :
      (n i : ℕ) (a : List Datum)
      → is_association_from head rule n i a ≡ true
      → Chooses head a (map (λ x. access_to x 0) a)
  unfolding is_association_from in_scope_at all can_be_had operated access_to datum_of
  plain zero i [] h = record { to = refl; had = refl }
  plain zero i (x ∷ a) h = absurd (false≢true h)
  plain (suc n) i [] h = absurd (false≢true h)
  plain (suc n) i (x ∷ a) h =
      let b = and_both (labelled head x.leaf && fits head rule i (access_to x 0))
      (is_association_from head rule n (suc i) a) h in
      let f = and_both (labelled head x.leaf) (fits head rule i (access_to x 0)) b.0 in
      let rest = plain n (suc i) a b.1 in
      record { to = ap (λ (d : List Datum). x ∷ d) rest.to; had = rw (f.0, rest.had) }

module _ (book : List ℕ) (accepted : BookAccepted book) (sound : (q : ℕ) → q < rule_count book → RuleSound (head_of book) (rule_at book q))
    (r : ℕ) (l : r < rule_count book) (t : List RuleTable) (had covered : List ℕ)
    (tables : TableHolds book (rule_count book) t) (hads : HadHolds (head_of book) had)
    (covers : CoversHold book (rule_count book) covered)
    (firsts seconds thirds : List ℕ)
    (first : PlacesOf (candidate t r (reference_count (rule_at book r)) had 0) firsts)
    (second : PlacesOf (candidate t r (reference_count (rule_at book r)) had 1) seconds)
    (third : PlacesOf (candidate t r (reference_count (rule_at book r)) had 2) thirds) where
  -- The rules of the book

  holding : (q : ℕ) → q < rule_count book → RuleHolds (head_of book) (rule_at book q)
  holding q k = accepted_rule book accepted q (omega arith)

  leaves_apart : (q : ℕ) → q < rule_count book → Apart (head_of book) (rule_at book q)
  leaves_apart q k i j d li lj h =
      (holding q k).apart i j d li lj (leaf_set_below (head_of book) (rule_at book q) i d h) h

  pub covers_rule : (u : ℕ) → u < 32 → covers_in covered r u ≡ covers_user (head_of book) (rule_at book r) u
  covers_rule u lu =
      let m = few_rules_law book accepted in
      covers r (omega arith) u lu ∙ rw (lt-ltb r (rule_count book) l)

  -- a place of a set can be chosen, and back
  chosen :
      (set : List ℕ) (i p : ℕ)
      → PlacesOf (candidate t r (reference_count (rule_at book r)) had i) set
      → p < 2112
      → in_places set p ≡ stands_at (head_of book) (rule_at book r) (reference_count (rule_at book r)) i p
  chosen set i p of small = of p small ∙ candidate_stands book (rule_count book) r l t tables had hads i p

  three :
      (a y x : ℕ)
      → a < 2112
      → y < 2112
      → x < 2112
      → in_places firsts a ≡ true
      → in_places seconds y ≡ true
      → in_places thirds x ≡ true
      → Stand (head_of book) (rule_at book r) (reference_count (rule_at book r)) a y x
  three a y x la ly lx ha hy hx =
      record {
        first = sym (chosen firsts 0 a first la) ∙ ha;
        second = sym (chosen seconds 1 y second ly) ∙ hy;
        third = sym (chosen thirds 2 x third lx) ∙ hx;
      }

  -- The tables by cells

  -- whether a place meets a reference is no matter of its operation
  same_cell : (q i p : ℕ) → q < rule_count book → i < 3 → p ≤ nowhere → meets t q i p ≡ meets t q i (16 * (p / 16))
  unfolding fits access_at
  same_cell q i p lq li lp =
      let at = tables.references q i in
      let channel : 16 * (p / 16) / 1024 ≡ p / 1024 = omega arith in
      let leaf : 16 * (p / 16) / 16 ≡ p / 16 = omega arith in
      let low : ltb (16 * (p / 16)) nowhere ≡ ltb p nowhere =
      same_test (ltb (16 * (p / 16)) nowhere) (ltb p nowhere)
      (λ h. lt-ltb p nowhere (omega (arith, ltb-true (16 * (p / 16)) nowhere h)))
      (λ h. lt-ltb (16 * (p / 16)) nowhere (omega (arith, ltb-true p nowhere h))) in
      at p lq li lp ∙ sym (at (16 * (p / 16)) lq li (omega arith) ∙ rw (channel, leaf, low))

  module _ (met : List (List ℕ)) (all : ℕ)
      (holds : MetHolds t met) (rules : WordOf (λ q. ltb q (rule_count book)) all) where
    rule_below : (q : ℕ) → q < 32 → has all q ≡ true → q < rule_count book
    rule_below q l h =
        ltb-true q (rule_count book)
        (and_right (ltb q 64) (ltb q (rule_count book)) (sym (rules q) ∙ h))

    set_whole :
        (set : List ℕ) (i : ℕ)
        → PlacesOf (candidate t r (reference_count (rule_at book r)) had i) set
        → Whole t (has all) set
    set_whole set i of q j p l h lj small member =
        same_cell q j p (rule_below q l h) lj
        (stands_most (head_of book) (rule_at book r) (reference_count (rule_at book r)) i p
        (sym (chosen set i p of small) ∙ member))

    pub ready : Ready t met all seconds thirds covered
    unfolding takes_operation
    ready =
        record {
          prepared =
              record {
                met_holds = holds;
                seconds_whole = set_whole seconds 1 second;
                thirds_whole = set_whole thirds 2 third;
                repeats = λ q i j p l h li lj.
                    let below = rule_below q l h in
                    let e : p % 16 % 16 ≡ p % 16 = omega arith in
                    tables.restrictions q i j p below li lj ∙ sym (tables.restrictions q i j (p % 16) below li lj ∙ rw e);
              };
          among = λ u q lu lq h.
              let there =
              and_left (ltb q (rule_count book)) (covers_user (head_of book) (rule_at book q) u) (sym (covers q lq u lu) ∙ h) in
              rules q ∙ and_true (ltb q 64) (ltb q (rule_count book)) (lt-ltb q 64 (omega arith)) there;
        }

  -- Places

  module _ (a y x : ℕ) (stand : Stand (head_of book) (rule_at book r) (reference_count (rule_at book r)) a y x) where
    a_choice : is_choice (head_of book) (rule_at book r) (choice_at a y x) ≡ true
    unfolding is_choice
    a_choice =
        places_choice (head_of book) (rule_at book r) (reference_count (rule_at book r)) (sound r l).some (sound r l).few
        a y x stand

    of_cells : map datum_of (choice_at a y x) ≡ association_at (a / 16) (y / 16) (x / 16)
    of_cells =
        choice_association (head_of book) (rule_at book r) a y x (reference_count (rule_at book r)) (sound r l).some
        (sound r l).few stand

    shape : Shape (reference_count (rule_at book r)) (a / 16) (y / 16) (x / 16)
    shape =
        stand_shape (head_of book) (rule_at book r) a y x (reference_count (rule_at book r)) (sound r l).some
        (sound r l).few stand

    closes_rule :
        (q : ℕ)
        → q < rule_count book
        → closes t q a y x ≡ some_choice_refused (head_of book) (rule_at book q) (members (choice_at a y x))
    closes_rule q k =
        let m = stands_most (head_of book) (rule_at book r) (reference_count (rule_at book r)) in
        closes_broken book (rule_count book) t tables q k (sound q k) (leaves_apart q k)
        (holding q k).restrictions_most a y x (m 0 a stand.first) (m 1 y stand.second) (m 2 x stand.third)

    -- the rules that count and cover a user are broken by the places as by their accesses
    spares_broken :
        (rules : ℕ → Bool) (u : ℕ)
        → u < 32
        → spares t (counting_rules rules covered u) a y x ≡ not (some_broken book rules u (choice_at a y x))
    unfolding spares some_broken breaks up_to
    spares_broken rules u lu =
        ap not
        (any_from_same (λ q. (rules q && covers_in covered q u) && closes t q a y x)
        (λ q. ltb q (rule_count book) && (rules q && breaks (head_of book) (rule_at book q) u (members (choice_at a y x)))) 0 32
        (λ q lo hi.
        and_assoc (rules q) (covers_in covered q u) (closes t q a y x)
        ∙ go (rules q) q (omega arith) (ltb q (rule_count book)) refl)
        ∙ any_below (λ q. rules q && breaks (head_of book) (rule_at book q) u (members (choice_at a y x))) (rule_count book) 32
        (few_rules_law book accepted))
      where
        go :
            (counts : Bool) (q : ℕ)
            → q < 32
            → (b : Bool)
            → ltb q (rule_count book) ≡ b
            → (counts && (has (get_or covered q 0) u && closes t q a y x))
            ≡ (b && (counts && breaks (head_of book) (rule_at book q) u (members (choice_at a y x))))
        go false q lq b e = sym (and_false b)
        go true q lq true e = rw (covers q lq u lu, e, closes_rule q (ltb-true q (rule_count book) e))
        go true q lq false e = rw (covers q lq u lu, e)

  -- Cells

  module _ (b z w : ℕ) (cells : Cells firsts seconds thirds b z w) where
    -- cells with places are an association, and their shape is that of the rule's references
    cells_shape :
        Shape (reference_count (rule_at book r)) b z w
        × (is_association (head_of book) (rule_at book r) (association_at b z w) ≡ true)
    cells_shape =
        let lb : b < 132 = cells.below.0 in
        let lz : z < 132 = cells.below.1 in
        let lw : w < 132 = cells.below.2 in
        let a = cell_place firsts b cells.first in
        let y = cell_place seconds z cells.second in
        let x = cell_place thirds w cells.third in
        let ea : a.0 / 16 ≡ b = a.1 in
        let ey : y.0 / 16 ≡ z = y.1 in
        let ex : x.0 / 16 ≡ w = x.1 in
        let s =
        three a.0 y.0 x.0 (omega arith) (omega arith) (omega arith) a.2 y.2 x.2 in
        let scope =
        (choice_chooses (head_of book) (rule_at book r) (choice_at a.0 y.0 x.0) (a_choice a.0 y.0 x.0 s)
        ).0 in (
          rw (ea, ey, ex) at (shape a.0 y.0 x.0 s),
          rw (of_cells a.0 y.0 x.0 s, ea, ey, ex) at scope,
        )

    module _ (rules : ℕ → Bool) (u : ℕ) (lu : u < 32) where
      -- places that break no rule that counts are a choice that breaks none
      pub opens_open :
          Opens t (counting_rules rules covered u) firsts seconds thirds b z w
          → is_closed_under book rules (pair_at u b z w) ≡ false
      opens_open o =
          let lb : b < 132 = cells.below.0 in
          let lz : z < 132 = cells.below.1 in
          let lw : w < 132 = cells.below.2 in
          let ea : o.first / 16 ≡ b = o.in_first.0 in
          let ey : o.second / 16 ≡ z = o.in_second.0 in
          let ex : o.third / 16 ≡ w = o.in_third.0 in
          let s =
          three o.first o.second o.third (omega arith) (omega arith) (omega arith) o.in_first.1
          o.in_second.1 o.in_third.1 in
          let c = choice_at o.first o.second o.third in
          let chosen : Chooses (head_of book) (map datum_of c) c =
          (choice_chooses (head_of book) (rule_at book r) c (a_choice o.first o.second o.third s)).1 in
          choice_open book rules (pair_at u b z w) accepted c
          (rw (of_cells o.first o.second o.third s, ea, ey, ex) at chosen)
          (not-true (some_broken book rules u c)
          (sym (spares_broken o.first o.second o.third s rules u lu) ∙ o.spared))

      -- and back: a choice that breaks none is at places of these cells
      choice_opens :
          (c : List Access) (a y x : ℕ)
          → c ≡ choice_at a y x
          → Stand (head_of book) (rule_at book r) (reference_count (rule_at book r)) a y x
          → map datum_of c ≡ association_at b z w
          → some_broken book rules u c ≡ false
          → Opens t (counting_rules rules covered u) firsts seconds thirds b z w
      choice_opens c a y x e s to free =
          let n = reference_count (rule_at book r) in
          let same : association_at (a / 16) (y / 16) (x / 16) ≡ association_at b z w =
          sym (of_cells a y x s) ∙ ap (map datum_of) (sym e) ∙ to in
          let q =
          shape_same (a / 16) (y / 16) (x / 16) b z w n (sound r l).few (shape a y x s) cells_shape.0 same in
          let m = stands_most (head_of book) (rule_at book r) n in
          let la = m 0 a s.first in
          let ly = m 1 y s.second in
          let lx = m 2 x s.third in
          record {
            first = a;
            second = y;
            third = x;
            in_first = (q.0, chosen firsts 0 a first (omega arith) ∙ s.first);
            in_second = (q.1, chosen seconds 1 y second (omega arith) ∙ s.second);
            in_third = (q.2, chosen thirds 2 x third (omega arith) ∙ s.third);
            spared =
                spares_broken a y x s rules u lu
                ∙ ap (λ (d : List Access). not (some_broken book rules u d)) (sym e)
                ∙ ap not free;
          }

      pub open_opens :
          covers_user (head_of book) (rule_at book r) u ≡ true
          → is_closed_under book rules (pair_at u b z w) ≡ false
          → Opens t (counting_rules rules covered u) firsts seconds thirds b z w
      unfolding is_choice
      open_opens user h =
          let found = open_choice book rules (pair_at u b z w) h in
          let choice =
          chooses_choice (head_of book) (rule_at book r) (pair_at u b z w) found.0
          (record { covered = user; association = cells_shape.1 }) found.1 in
          let p =
          choice_places (head_of book) (rule_at book r) (accepted_head book accepted) (reference_count (rule_at book r))
          (sound r l).some (sound r l).few found.0 choice in
          choice_opens found.0 p.0 p.1 p.2 p.3 p.4 found.1.to found.2

  -- an association in scope has its cells
  scope_cells :
      (p : Pair)
      → InScope (head_of book) (rule_at book r) p
      → (b z w : ℕ) × (p.association ≡ association_at b z w) × Cells firsts seconds thirds b z w
  unfolding is_association is_choice
  scope_cells p within =
      let head = head_of book in
      let rule = rule_at book r in
      let n = reference_count (rule_at book r) in
      let c = map (λ x. access_to x 0) p.association in
      let zeros = plain head rule n 0 p.association within.association in
      let at =
      choice_places head rule (accepted_head book accepted) n (sound r l).some (sound r l).few c
      (chooses_choice head rule p c within zeros) in
      let a = at.0 in
      let y = at.1 in
      let x = at.2 in
      let s = at.4 in
      let m = stands_most head rule n in
      let la = m 0 a s.first in
      let ly = m 1 y s.second in
      let lx = m 2 x s.third in (
        a / 16,
        y / 16,
        x / 16,
        sym zeros.to ∙ ap (map datum_of) at.3 ∙ of_cells a y x s,
        record {
          below = (omega arith, omega arith, omega arith);
          first = cell_member firsts a (chosen firsts 0 a first (omega arith) ∙ s.first);
          second = cell_member seconds y (chosen seconds 1 y second (omega arith) ∙ s.second);
          third = cell_member thirds x (chosen thirds 2 x third (omega arith) ∙ s.third);
        },
      )

  -- The first

  user_small : (u : ℕ) → covers_user (head_of book) (rule_at book r) u ≡ true → u < 32
  user_small u h =
      let most : user_count (head_of book) ≤ 32 = (accepted_head book accepted).users_most in
      omega (arith, user_below (head_of book) u (covers_user_law (head_of book) (rule_at book r) u h))

  -- a pair in scope is open where its cells are
  pair_open :
      (p : Pair)
      → InScope (head_of book) (rule_at book r) p
      → ((b z w : ℕ)
      → p.user < 32
      → p.association ≡ association_at b z w
      → Cells firsts seconds thirds b z w
      → Opens t (covering_rules covered p.user) firsts seconds thirds b z w)
      → is_closed book p ≡ false
  pair_open p within free =
      let small = user_small p.user within.covered in
      let at = scope_cells p within in
      ap (λ (a : List Datum). is_closed book (pair p.user a)) at.3
      ∙ opens_open at.0 at.1 at.2 at.4 (λ q. true) p.user small
      (free at.0 at.1 at.2 small at.3 at.4)

  -- a pair before the one that was found
  earlier :
      (p : Pair) (u b z w c y x : ℕ)
      → InScope (head_of book) (rule_at book r) p
      → DeniedUser t r firsts seconds thirds covered u b z w
      → Cells firsts seconds thirds b z w
      → p.user < 32
      → p.association ≡ association_at c y x
      → Cells firsts seconds thirds c y x
      → pair_before p (pair_at u b z w) ≡ true
      → Opens t (covering_rules covered p.user) firsts seconds thirds c y x
  unfolding pair_before
  earlier p u b z w c y x within denied cells small e own before =
      let n = reference_count (rule_at book r) in
      ⊎_elim
      (λ (v : ltb p.user u ≡ true).
      denied.users p.user (ltb-true p.user u v) (covers_rule p.user small ∙ within.covered) c y x own)
      (λ (v : (eqb p.user u && association_before p.association (association_at b z w)) ≡ true).
      let q = and_both (eqb p.user u) (association_before p.association (association_at b z w)) v in
      rw (eqb-true p.user u q.0)
      (denied.earliest c y x
      (shape_before c y x b z w n (sound r l).few (cells_shape c y x own).0 (cells_shape b z w cells).0
      (rw e at q.1))
      own))
      (or_either (ltb p.user u) (eqb p.user u && association_before p.association (association_at b z w)) before)

  pub lifted :
      (found : Option Denial) → DeniedFirst t r firsts seconds thirds covered found → FirstDenied book r found
  unfolding DeniedFirst FirstDenied
  lifted None h =
      closed_none book r
      (λ p within.
      pair_open p within
      (λ b z w small e cells.
      h p.user small (covers_rule p.user small ∙ within.covered) b z w cells))
  lifted (Some d) h =
      let here = cells_shape d.first d.second d.third h.shut.cells in
      let user = sym (covers_rule d.user h.below) ∙ h.covers in (
        closed_first book r (pair_at d.user d.first d.second d.third)
            (record { covered = user; association = here.1 })
            (go user h.shut.cells (is_closed book (pair_at d.user d.first d.second d.third)) refl)
            (λ p within before.
            pair_open p within
            (λ c y x small e own.
            earlier p d.user d.first d.second d.third c y x within h h.shut.cells small e own before)),
        shape_standing d.first d.second d.third (reference_count (rule_at book r)) (sound r l).few here.0,
      )
    where
      go :
          covers_user (head_of book) (rule_at book r) d.user ≡ true
          → Cells firsts seconds thirds d.first d.second d.third
          → (c : Bool)
          → is_closed book (pair_at d.user d.first d.second d.third) ≡ c
          → c ≡ true
      go user cells true e = refl
      go user cells false e =
          absurd (h.shut.closed (open_opens d.first d.second d.third cells (λ q. true) d.user h.below user e))
