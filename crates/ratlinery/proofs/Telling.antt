-- What is stored into `answer` tells the rules' answer.
-- Assumes nothing.
use Rattle.std.proofs.Common.{◌≡◌, refl, ap, ◌∙◌, ℕ, zero, suc, List, ◌∷◌, replicate}
use Rattle.std.specs.Prelude.{ℤ, Result, Ok, Err, IsOkAnd, MatchResult}
use Rattle.std.proofs.lemmas.List.Edits.{sets}
use Rattle.rules.specs.declared.Fault.{Fault}
use Rattle.rules.specs.Refusals.{Answer, place_number}
use Rattle.rules.specs.Bytes.{zeros}
use Rattle.rules.specs.Answers.{answer_of, result_numbers, numbers_of}
use Rattle.rules.specs.Header.{Header}
use Rattle.header.specs.declared.Received.{Received}
use Rattle.header.specs.Meaning.{header_of, header_answer, status_of}
use Rattle.ratlinery.specs.Face.{told, headed}

zeros_replicated : (count : ℕ) → replicate count 0 ≡ zeros count
unfolding zeros
zeros_replicated zero = refl
zeros_replicated (suc count) = ap (λ (l : List ℕ). 0 ∷ l) (zeros_replicated count)

pub refusal_told : (lent : List ℕ) (count : ℕ) {outcome : Result (List ℕ) Fault} {f : Fault} {place : ℕ} {after : List ℕ} → outcome ≡ Err f → place ≡ place_number f.place
    → after ≡ sets lent 0 (place ∷ replicate count 0) → after ≡ sets lent 0 (told count (λ l. l) (answer_of outcome))
refusal_told lent count is at stored = stored ∙ rw (is, at, zeros_replicated)

module _ {A B : Type 0} (count : ℕ) (results : A → List ℕ) (values : B → List ℕ) (ruled : Answer B) where
  results_told : (outcome : Result A Fault) (mapped : Result (List ℕ) Fault) → MatchResult outcome (λ a. IsOkAnd mapped (λ l. l ≡ results a)) (λ f. mapped ≡ Err f)
      → result_numbers count (λ l. l) mapped ≡ result_numbers count results outcome
  results_told (Ok a) (Ok l) is = rw is
  results_told (Ok a) (Err f) is = absurd is
  results_told (Err f) mapped is = rw is

  numbers_told : (mapped : Result (List ℕ) Fault) → result_numbers count (λ l. l) mapped ≡ numbers_of count (λ l. l) (answer_of mapped)
  numbers_told (Ok l) = refl
  numbers_told (Err f) = refl

  -- An outcome with the rules' numbers, whose results are told.
  pub answer_told : (outcome : Result A Fault) (mapped : Result (List ℕ) Fault) (lent : List ℕ) {after : List ℕ} → result_numbers count results outcome ≡ numbers_of count values ruled
      → MatchResult outcome (λ a. IsOkAnd mapped (λ l. l ≡ results a)) (λ f. mapped ≡ Err f) → after ≡ sets lent 0 (told count (λ l. l) (answer_of mapped))
      → after ≡ sets lent 0 (told count values ruled)
  answer_told outcome mapped lent numbers is stored = stored ∙ rw (← numbers_told mapped, results_told outcome mapped is, numbers)

module _ (total : ℕ) (status : ℤ) (ruled : Answer Header) where
  header_numbers : (outcome : Result Received Fault) → header_answer (answer_of outcome) ≡ ruled → status_of outcome ≡ status
      → result_numbers 6 (λ r. headed total r.status (header_of r.header)) outcome ≡ numbers_of 6 (headed total status) ruled
  header_numbers (Ok r) answer is = rw (← answer, is)
  header_numbers (Err f) answer is = rw (← answer)

  -- A header that is read, and its status.
  pub header_told : (outcome : Result Received Fault) (mapped : Result (List ℕ) Fault) (lent : List ℕ) {after : List ℕ} → header_answer (answer_of outcome) ≡ ruled → status_of outcome ≡ status
      → MatchResult outcome (λ r. IsOkAnd mapped (λ l. l ≡ headed total r.status (header_of r.header))) (λ f. mapped ≡ Err f) → after ≡ sets lent 0 (told 6 (λ l. l) (answer_of mapped))
      → after ≡ sets lent 0 (told 6 (headed total status) ruled)
  header_told outcome mapped lent answer is = answer_told 6 (λ r. headed total r.status (header_of r.header)) (headed total status) ruled outcome mapped lent (header_numbers outcome answer is)
