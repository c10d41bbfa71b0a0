-- The numbers of a `Result` are those of the answer that it means; and where something else is answered of an answer, its values are
-- those of that.
-- Assumes nothing.
use Rattle.std.specs.Prelude.{Result, Ok, Err}
use mathlib.Core.Path.{◌≡◌, refl, ap, ◌∙◌}
use mathlib.Core.List.{List}
use Prim.Native.Nat.{ℕ}
use Rattle.rules.specs.declared.Fault.{Fault}
use Rattle.rules.specs.Refusals.{Answer, accepted, refused, and_then}
use Rattle.rules.specs.Answers.{Numbers, numbers_of, answer_of, result_numbers}

module _ {A B : Type 0} (count : ℕ) (values : B → List ℕ) (tell : A → B) where
  told_numbers : (answer : Answer A) → numbers_of count values (and_then answer (λ a. accepted (tell a))) ≡ numbers_of count (λ a. values (tell a)) answer
  told_numbers (accepted a) = refl
  told_numbers (refused f) = refl

  -- So what answers as much has these numbers.
  pub numbers_told : (answer : Answer A) {answered : Answer B} {numbers : Numbers} → numbers ≡ numbers_of count values answered
      → answered ≡ and_then answer (λ a. accepted (tell a)) → numbers ≡ numbers_of count (λ a. values (tell a)) answer
  numbers_told answer e same = e ∙ ap (numbers_of count values) same ∙ told_numbers answer

pub result_numbers_lem : {A : Type 0} (count : ℕ) (values : A → List ℕ) (r : Result A Fault) {answer : Answer A} → answer_of r ≡ answer
    → result_numbers count values r ≡ numbers_of count values answer
result_numbers_lem count values (Ok a) e = ap (numbers_of count values) e
result_numbers_lem count values (Err f) e = ap (numbers_of count values) e

pub result_numbers_told : {A B : Type 0} (count : ℕ) (values : B → List ℕ) (tell : A → B) (r : Result B Fault) (answer : Answer A)
    → answer_of r ≡ and_then answer (λ a. accepted (tell a)) → result_numbers count values r ≡ numbers_of count (λ a. values (tell a)) answer
result_numbers_told count values tell r answer e = numbers_told count values tell answer (result_numbers_lem count values r refl) e
