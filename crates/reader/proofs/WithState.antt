-- A check with a prepared state: where the state agrees it goes on as the check without one.
-- Assumes nothing.
use Rattle.std.specs.Prelude.{Err, Ok, Result}
use mathlib.Core.Path.{◌≡◌, refl, sym, ap, ◌∙◌}
use mathlib.Core.List.{List}
use Prim.Native.Nat.{ℕ}
use native.Mathlib.Omega.{arith}
use lib.ListN.{length}
use Rattle.rules.specs.declared.Fault.{Fault}
use Rattle.rules.specs.Refusals.{Answer, accepted, refused}
use Rattle.rules.specs.TypeTable.{TypeTable, type_table}
use Rattle.rules.specs.Sound.{soundness}
use Rattle.rules.specs.Decode.{Message}
use Rattle.rules.specs.Answers.{numbers_of, nothing, answer_of, result_numbers}
use Rattle.rules.proofs.Numbers.{result_numbers_lem}
use Rattle.prepared.specs.declared.State.{State}
use Rattle.prepared.specs.States.{agreement, check_prepared}
use Rattle.prepared.proofs.Operations.{agreement_said}
use Rattle.walk_leaves.specs.Doing.{message}
use Rattle.reader.specs.declared.Lengths.{Lengths}
use Rattle.reader.specs.Passing.{BeforeWalk, Walkable, Passed}
use Rattle.reader.proofs.Judging.{judge_refused, judge_walkable, judge_passed}
use Rattle.reader.proofs.Lent.{Checks, check_refused, check_accepted}

-- What is promised of the answer.
abbrev ChecksPrepared : State → Message → (root : ℕ) → Result (Unit {0}) Fault → Type 0
ChecksPrepared s m root r = record { answer : answer_of r ≡ check_prepared s m root; numbers : result_numbers 0 nothing r ≡ numbers_of 0 nothing (check_prepared s m root) }

module _ (s : State) (rows members entries bytes : List ℕ) (root handles : ℕ) where
  abbrev t : TypeTable
  t = type_table rows members entries

  abbrev here : Message
  here = message t bytes handles

  -- A state that agrees: the check goes on.
  goes_on : agreement s t ≡ accepted tt → (a : Result (Unit {0}) Fault) → Checks t bytes root handles a → ChecksPrepared s here root a
  goes_on e a c = rw e c

  sound_verdict : {verdict : Answer (Unit {0})} → verdict ≡ agreement s t → agreement s t ≡ accepted tt → verdict ≡ soundness t
  sound_verdict v e = v ∙ e ∙ sym (agreement_said s t e).0

  module _
      {verdict : Answer (Unit {0})}
      (v : verdict ≡ agreement s t)
      {r : Result (Unit {0}) Fault}
      (tested : BeforeWalk verdict rows root (length bytes) handles r)
    where
      refused_case : (a : Answer (Unit {0})) → agreement s t ≡ a → {f : Fault} → r ≡ Err f → ChecksPrepared s here root (Err f)
      refused_case (accepted tt) e {f} q =
          goes_on e (Err f) (check_refused t bytes root handles (judge_refused rows members entries bytes root handles (sound_verdict v e) tested q) refl)
      refused_case (refused g) e {f} q =
          let same : answer_of r ≡ refused g = tested t refl ∙ rw (v, e) in
          let answer : answer_of (Err f) ≡ check_prepared s here root = sym (ap answer_of q) ∙ same ∙ rw e in
          record { answer = answer; numbers = result_numbers_lem 0 nothing (Err f) answer }

      pub state_refused : {f : Fault} → r ≡ Err f → ChecksPrepared s here root (Err f)
      state_refused q = refused_case (agreement s t) refl q

      module _ (q : r ≡ (Ok tt)) where
        agreed_case : (a : Answer (Unit {0})) → agreement s t ≡ a → agreement s t ≡ accepted tt
        agreed_case (accepted tt) e = e
        agreed_case (refused g) e =
            let same : answer_of r ≡ refused g = tested t refl ∙ rw (v, e) in
            absurd (let w : ◌≡◌ {A = ℕ} 0 1 = cc in omega arith)

        agreed : agreement s t ≡ accepted tt
        agreed = agreed_case (agreement s t) refl

        -- The walk goes by the state's stores.
        pub state_walkable : Walkable t bytes root handles s.sizes s.alignments
        state_walkable =
            let said = agreement_said s t agreed in
            judge_walkable rows members entries bytes root handles (sound_verdict v agreed) tested q s.sizes s.alignments
            (rw said.0 (ap (λ x. x.sizes) said.1)) (rw said.0 (ap (λ x. x.alignments) said.1))

        module _ {values values' objects objects' : List ℕ} {a : Result Lengths Fault} (p : Passed t bytes root handles values values' objects objects' a) where
          pub state_walk_refused : {f : Fault} → a ≡ Err f → ChecksPrepared s here root (Err f)
          state_walk_refused {f} e =
              goes_on agreed (Err f) (check_refused t bytes root handles (judge_passed rows members entries bytes root handles (sound_verdict v agreed) tested q p) e)

          pub state_accepted : {lengths : Lengths} → a ≡ Ok lengths → ChecksPrepared s here root (Ok tt)
          state_accepted e =
              goes_on agreed (Ok tt) (check_accepted t bytes root handles (judge_passed rows members entries bytes root handles (sound_verdict v agreed) tested q p) e)
