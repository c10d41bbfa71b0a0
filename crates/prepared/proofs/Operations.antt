-- What the operations on a state answer, case by case.
-- Assumes nothing.
use Rattle.std.specs.Prelude.{Result, Ok, Err}
use Rattle.std.specs.Result.{result_unwrap_or}
use mathlib.Core.Bool.{Bool, true}
use mathlib.Core.List.{List}
use mathlib.Core.Path.{◌≡◌, ap, sym, ◌∙◌}
use Prim.Native.Nat.{ℕ}
use Rattle.std.proofs.lemmas.Grind.{common_steps}
use native.Mathlib.Omega.{arith}
use Rattle.rules.specs.declared.Fault.{Fault}
use Rattle.rules.specs.declared.Place.TheVariants.{Amount}
use Rattle.rules.specs.Refusals.{state_disagrees, fault, Answer, accepted, require, and_then}
use Rattle.rules.specs.TypeTable.{TypeTable}
use Rattle.rules.specs.Sound.{soundness}
use Rattle.rules.specs.Answers.{numbers_of, answer_of, result_numbers}
use Rattle.prepared.specs.declared.Counts.{Counts}
use Rattle.prepared.specs.declared.State.{State}
use Rattle.prepared.specs.States.{counts_in, state_of, prepared_of, same_state, agrees, agreement}
use Rattle.prepared.specs.Operations.{cut_to, appended, counts_within, went_back, state_after, cut_state, no_numbers}
use Rattle.prepared.proofs.States.{same_state_lem, agrees_sound, prepared_said, cut_compared}

-- An answer with its numbers.
pub told : {A : Type 0} (values : A → List ℕ) (r : Result A Fault) {a : Answer A} → answer_of r ≡ a
    → record { answer : answer_of r ≡ a; numbers : result_numbers 0 values r ≡ numbers_of 0 values a }
told values (Ok a) e = record { answer = e; numbers = ap (numbers_of 0 values) e }
told values (Err f) e = record { answer = e; numbers = ap (numbers_of 0 values) e }

-- The same with the state that a caller has afterwards.
pub told_state : (before : State) (r : Result State Fault) {a : Answer State} → answer_of r ≡ a
    → record { answer : answer_of r ≡ a; state : result_unwrap_or r before ≡ state_after a before; numbers : result_numbers 0 no_numbers r ≡ numbers_of 0 no_numbers a }
told_state before (Ok s) e = record { answer = e; state = ap (λ a. state_after a before) e; numbers = ap (numbers_of 0 no_numbers) e }
told_state before (Err f) e = record { answer = e; state = ap (λ a. state_after a before) e; numbers = ap (numbers_of 0 no_numbers) e }

-- ---- what the operations answer

-- A test on the way, answered by itself.
tested : {A : Type 0} (test : Bool) (f : Fault) (b : Answer A) → and_then (require test f (accepted (tt {0}))) (λ passed. b) ≡ require test f b
tested test f b = grind (arith, common_steps)

passed : (a : Answer (Unit {0})) (same : Bool) (f : Fault) → and_then a (λ sound. require same f (accepted (tt {0}))) ≡ accepted tt
    → (a ≡ accepted tt) × (same ≡ true)
passed a same f e = grind (arith, common_steps)

module _ (s : State) (t : TypeTable) where
  -- The state is held against the lists cut to its counts,
  held : {A : Type 0} (b : Answer A) {u : State} {a : Answer (Unit {0})} → u ≡ cut_state s t
      → a ≡ require (same_state s u) (fault state_disagrees (Amount 0)) (accepted tt)
      → and_then a (λ same. b) ≡ require (agrees s (cut_to s.counts t)) (fault state_disagrees (Amount 0)) b
  held b {u} e same =
      rw (same, cut_compared s t e) (tested (same_state s u) (fault state_disagrees (Amount 0)) b)

  -- of sound lists,
  pub append_goes : soundness t ≡ accepted tt → {u : State} {a : Answer (Unit {0})} → u ≡ cut_state s t
      → a ≡ require (same_state s u) (fault state_disagrees (Amount 0)) (accepted tt)
      → and_then a (λ same. accepted (state_of t)) ≡ appended s t
  append_goes sound e same = rw sound (held (accepted (state_of t)) e same)

  -- and where the lists cut to earlier counts were prepared,
  pub back_goes : (n : Counts) → counts_within n s.counts ≡ true → counts_within n (counts_in t) ≡ true → {new u : State} {a : Answer (Unit {0})}
      → accepted new ≡ prepared_of (cut_to n t) → u ≡ cut_state s t
      → a ≡ require (same_state s u) (fault state_disagrees (Amount 0)) (accepted tt)
      → and_then a (λ same. accepted new) ≡ went_back s t n
  back_goes n below inside {new} given e same = rw (below, inside, ← given) (held (accepted new) e same)

  -- or against the whole.
  pub agreement_goes : {u : State} {a : Answer (Unit {0})} → accepted u ≡ prepared_of t
      → a ≡ require (same_state s u) (fault state_disagrees (Amount 0)) (accepted tt) → a ≡ agreement s t
  agreement_goes given same =
      let said = prepared_said t (sym given) in
      rw (said.0, agrees_sound s t said.0 ∙ ap (same_state s) (sym said.1)) same

  -- What a state and lists that pass say.
  pub agreement_said : agreement s t ≡ accepted tt → (soundness t ≡ accepted tt) × (s ≡ state_of t)
  agreement_said e =
      let said = passed (soundness t) (agrees s t) (fault state_disagrees (Amount 0)) e in
      (said.0, same_state_lem s (state_of t) (sym (agrees_sound s t said.0) ∙ said.1))
