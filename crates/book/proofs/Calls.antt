-- What a call of three lists of tests answers or leaves: by the first list that refuses, or its value. Assumes nothing.
use mathlib.Core.Path.{◌≡◌, refl, sym, ◌∙◌}
use mathlib.Core.List.{List, ◌++◌}
use Rattle.std.specs.Prelude.{Err}
use Rattle.book.specs.Tests.{Test, Passes, first_failing, answered}
use Rattle.book.specs.declared.refusal.Refusal.{Refusal}
use Rattle.book.proofs.Answers.{append_refused, answered_after, answered_passed, answered_refused, list_went_on}

-- after a list that passes, the next decides
pub after_passed : (a b : List Test) → Passes a → first_failing (a ++ b) ≡ first_failing b
after_passed a b p = sym (list_went_on a b (first_failing b) p refl)

pub passed_both : (a b : List Test) → Passes a → Passes b → Passes (a ++ b)
passed_both a b p q = after_passed a b p ∙ q

module _ {A : Type 0} (a b c : List Test) (refused : Refusal → A) (value : A) where
  pub first_refuses : (r : Refusal) → first_failing a ≡ Err r → answered (a ++ b ++ c) refused value ≡ refused r
  first_refuses r h =
      answered_refused (a ++ b ++ c) refused value r (append_refused (a ++ b) c r (append_refused a b r h))

  pub second_refuses :
      (r : Refusal) → Passes a → first_failing b ≡ Err r → answered (a ++ b ++ c) refused value ≡ refused r
  second_refuses r p h =
      answered_refused (a ++ b ++ c) refused value r (append_refused (a ++ b) c r (after_passed a b p ∙ h))

  pub third_refuses :
      (r : Refusal) → Passes a → Passes b → first_failing c ≡ Err r → answered (a ++ b ++ c) refused value ≡ refused r
  third_refuses r p q h =
      answered_after (a ++ b) c refused value (passed_both a b p q) ∙ answered_refused c refused value r h

  pub all_pass : Passes a → Passes b → Passes c → answered (a ++ b ++ c) refused value ≡ value
  all_pass p q s = answered_after (a ++ b) c refused value (passed_both a b p q) ∙ answered_passed c refused value s
