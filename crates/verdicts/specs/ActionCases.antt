-- What the six cases say of an access and of a reference of a rule, and that there is no other case. Document 02, N4.
-- The theorems are in `proofs/ActionHierarchy.antt`. Assumes nothing.
use Rattle.std.specs.Prelude.{ℕ, ◌<◌, ◌≡◌, ◌⊎◌, true, false, List, Option, Some}
use Rattle.book.specs.Blocks.{Book, Head, Rule, rule_at, rule_count}
use Rattle.book.specs.Rule.{action, in_leaf_set, reference_count}
use Rattle.book.specs.Refusals.{BookAccepted}
use Rattle.book.specs.declared.Action.{Action}
use Rattle.book.specs.declared.Action.TheVariants as named
use Rattle.lineage.specs.Rows.{Plan}
use Rattle.lineage.specs.declared.rows.Channel.{Channel}
use Rattle.lineage.specs.declared.rows.Channel.TheVariants as done
use Rattle.verdicts.specs.Actions.{number_of}
use Rattle.verdicts.specs.Accesses.{Access, accesses_of, held_by, fits}

-- an access that does this fits a reference that names that exactly when the reference covers its leaf
abbrev pub Fits : Channel → Action → Type 0
Fits does names =
    (head : Head) (rule : Rule) (i : ℕ) (x : Access)
    → x.channel ≡ number_of does
    → action rule i ≡ Some names
    → fits head rule i x ≡ in_leaf_set head rule i x.leaf

-- it does not fit, whatever its leaf
abbrev pub NeverFits : Channel → Action → Type 0
NeverFits does names =
    (head : Head) (rule : Rule) (i : ℕ) (x : Access)
    → x.channel ≡ number_of does
    → action rule i ≡ Some names
    → fits head rule i x ≡ false

-- "projection or condition", "projection, condition or access"
abbrev pub OneOfTwo : Access → Type 0
OneOfTwo x = (x.channel ≡ number_of done.Projection) ⊎ (x.channel ≡ number_of done.Condition)

abbrev pub OneOfThree : Option Action → Type 0
OneOfThree names = (names ≡ Some named.Projection) ⊎ (names ≡ Some named.Condition) ⊎ (names ≡ Some named.Access)

-- every access is one of two: those of a plan, those that words hold, those that are chosen for a reference; and every
-- reference of an accepted book names one of three
pub record NoOtherCase : Type 0 where
  pub of_plan : (head : Head) (plan : Plan) (x : Access) → accesses_of head plan x ≡ true → OneOfTwo x
  pub of_words : (words : List ℕ) (x : Access) → held_by words x ≡ true → OneOfTwo x
  pub of_choice : (head : Head) (rule : Rule) (i : ℕ) (x : Access) → fits head rule i x ≡ true → OneOfTwo x
  pub of_rule :
      (book : Book) (r i : ℕ)
      → BookAccepted book
      → r < rule_count book
      → i < reference_count (rule_at book r)
      → OneOfThree (action (rule_at book r) i)
