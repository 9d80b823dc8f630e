-- Laws of users: a user is a leaf of at most 64 user categories, so a word tells every user. Assumes nothing.
use Prim.Native.Nat.{ℕ, ◌≤◌, ◌<◌}
use mathlib.Core.Path.{◌≡◌, sym, ◌∙◌}
use mathlib.Core.Bool.{Bool, true, ◌||◌, not}
use mathlib.Core.List.{List}
use lib.Dec.{eqb, ltb}
use borrow.Author.Tests.{ltb-true}
use Rattle.book.specs.Lists.{all, up_to}
use Rattle.book.specs.Sets.{has, WordOf}
use Rattle.book.specs.Hierarchies.{leaf, covers}
use Rattle.book.specs.Head.{user_count, user_parent, is_user}
use Rattle.book.specs.Rule.{user_category, excluded_users, covers_user}
use Rattle.book.proofs.Lists.{and_assoc, and_left}
use Rattle.book.proofs.Hierarchies.{leaf_in_word}

module _ (head : List ℕ) (user word : ℕ) (t : Bool) (few : user_count head ≤ 64) (test : t ≡ has word user) where
  pub user_test : WordOf (is_user head) word → t ≡ is_user head user
  unfolding is_user
  user_test members = test ∙ members user ∙ leaf_in_word (user_count head) (user_parent head) user few

  pub covered_test : (rule : List ℕ) → WordOf (covers_user head rule) word → t ≡ covers_user head rule user
  unfolding covers_user is_user
  covered_test rule members =
      test
      ∙ members user
      ∙ sym
      (and_assoc (ltb user 64) (leaf (user_count head) (user_parent head) user)
      (covers (user_parent head) (user_category rule) (excluded_users rule) user))
      ∙ rw (leaf_in_word (user_count head) (user_parent head) user few)

pub user_below : (head : List ℕ) (u : ℕ) → is_user head u ≡ true → u < user_count head
unfolding is_user leaf
user_below head u h =
    let others = all (λ j. eqb j u || not (eqb (user_parent head j) u)) (up_to (user_count head)) in
    ltb-true u (user_count head) (and_left (ltb u (user_count head)) others h)
