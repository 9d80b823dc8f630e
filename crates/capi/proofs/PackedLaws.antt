-- Culprits' bit of the asking rule, and an answer's number by the generic packing. Assumes nothing.
use Prim.Native.Nat.{ℕ, ◌*◌, ◌%◌, ◌^◌, ◌<◌}
use native.Mathlib.Omega.{arith}
use mathlib.Core.Path.{◌≡◌, sym, ap, ◌∙◌}
use mathlib.Core.List.{List}
use Rattle.std.specs.Prelude.{Option, Some, None, Result, Ok, Err, MatchResult, IsOkAnd}
use Rattle.book.specs.declared.refusal.Refusal.{Refusal}
use Rattle.book.proofs.Members.{single_shift}
use Rattle.blocked.specs.Answers.{Causes, culprits_answer, few_answer}
use Rattle.blocked.proofs.FewLaws.{culprits_mask}
use Rattle.capi.specs.Packing.{packed, answer_packed, culprits_packed, culprits_value, number_value}
use Rattle.capi.proofs.Bounds.{value_refused}

-- the number of an answer is that of what it equals
pub packs :
    {A : Type 0} (value : A → ℕ) (a b : Result A Refusal) (r : ℕ)
    → r ≡ answer_packed value a
    → a ≡ b
    → r ≡ answer_packed value b
packs value a b r e same = e ∙ ap (answer_packed value) same

-- Culprits

pub asking_shift : (rule : ℕ) → (1 * 2 ^ (rule % 32)) % 2 ^ 64 ≡ 2 ^ (rule % 32)
asking_shift rule = single_shift 64 (rule % 32) (omega arith)

-- where a mask is given the rule is below 32
few_rule : (book : List ℕ) (rule mask : ℕ) → culprits_answer book rule ≡ few_answer mask → rule % 32 ≡ rule
few_rule book rule mask h =
    let low : rule < 32 = (culprits_mask book rule mask h).1 in
    omega arith

-- P is what is known of the number that stands for some rules
pub few_said :
    (book : List ℕ) (rule : ℕ) (a : Causes) (said : Result ℕ Refusal) (P : Option ℕ → ℕ → Type 0)
    → a ≡ culprits_answer book rule
    → MatchResult a (λ x. IsOkAnd said (λ n. P x n)) (λ e. said ≡ Err e)
    → ((x : Option ℕ) (n : ℕ) → P x n → n ≡ culprits_value (rule % 32) x)
    → answer_packed number_value said ≡ culprits_packed rule (culprits_answer book rule)
unfolding culprits_packed culprits_value number_value packed
few_said book rule (Ok None) (Ok n) P same told means =
    let none = means None n told in
    rw (← same) (omega (arith, none))
few_said book rule (Ok (Some mask)) (Ok n) P same told means =
    let number = few_rule book rule mask (sym same) in
    let sum = rw number at (means (Some mask) n told) in
    rw (← same) (omega (arith, sum))
few_said book rule (Ok x) (Err r) P same told means = absurd told
few_said book rule (Err r) (Ok n) P same told means = absurd (value_refused n r told)
few_said book rule (Err r) (Err s) P same told means =
    let e : s ≡ r = cc in
    rw (← same, e)
