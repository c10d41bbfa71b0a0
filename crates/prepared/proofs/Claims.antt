-- W-207's claims: what an operation gives agrees with its lists, and a check with such a state answers as without one.
-- Assumes nothing.
use mathlib.Core.Bool.{Bool, true, ◌&&◌}
use mathlib.Core.Path.{◌≡◌, refl}
use Prim.Native.Nat.{ℕ}
use native.Mathlib.Omega.{arith}
use Rattle.std.proofs.lemmas.Grind.{common_steps}
use Rattle.rules.specs.declared.Fault.{Fault}
use Rattle.rules.specs.declared.Place.TheVariants.{Row, Amount}
use Rattle.rules.specs.Refusals.{table_not_sound, state_disagrees, fault, Answer, accepted, refused, require, and_then}
use Rattle.rules.specs.TypeTable.{TypeTable}
use Rattle.rules.specs.Sound.{soundness}
use Rattle.rules.specs.Decode.{Message}
use Rattle.rules.specs.Answers.{judged, check}
use Rattle.layout.specs.Answers.{kept_sizes, kept_alignments}
use Rattle.layout.proofs.Keeping.{kept_size, kept_alignment, zeros_kept, zeros_first}
use Rattle.prepared.specs.declared.Counts.{Counts}
use Rattle.prepared.specs.declared.State.{State}
use Rattle.prepared.specs.States.{start, counts_in, prepared_of, empty_lists, Agrees, agrees, check_prepared}
use Rattle.prepared.specs.Operations.{cut_to, appended, counts_within, went_back}
use Rattle.prepared.specs.Claims.{StoresAgree, GivesStateOf, Claims}
use Rattle.prepared.proofs.States.{empty, sound_some, prepared_said, Agreed, no_table, whole_table, agreed, agrees_itself}

no_stores : (t : TypeTable) → empty_lists t ≡ true → StoresAgree start t
no_stores t e =
    record {
      in_use = omega (arith, (empty t e).rows);
      size = λ row h. absurd (omega arith);
      alignment = λ row h. absurd (omega arith);
      no_size = (zeros_first refl).zero;
      no_alignment = (zeros_first refl).zero;
    }

-- The stores of a state that agrees with lists hold the sizes and alignments of exactly the rows in use: none, or all that the
-- lists have.
stores_case : (s : State) (t : TypeTable) → Agreed s t → StoresAgree s t
unfolding kept_sizes kept_alignments
stores_case s t (no_table same e) = rw same (no_stores t e)
stores_case s t (whole_table same sound) =
    rw same (record {
      in_use = refl;
      size = kept_size t sound;
      alignment = kept_alignment t sound;
      no_size = (zeros_kept (λ l. l.size) t).zero;
      no_alignment = (zeros_kept (λ l. l.alignment) t).zero;
    })

stores_agree : (s : State) (t : TypeTable) → Agrees s t → StoresAgree s t
stores_agree s t e = stores_case s t (agreed s t e)

start_gives : (t : TypeTable) → empty_lists t ≡ true → Agrees start t × StoresAgree start t
start_gives t e = let agreement : Agrees start t = rw e in (agreement, stores_agree start t agreement)

prepare_gives : (t : TypeTable) → GivesStateOf t (prepared_of t)
prepare_gives t s e =
    let sound = (prepared_said t e).0 in
    let agreement : Agrees s t = rw (sound_some t sound) e in
    (agreement, stores_agree s t agreement)

-- What was prepared, where a test on the way passed, and one before.
passed : (p : Answer State) (test : Bool) (f : Fault) (s : State) → and_then p (λ new. require test f (accepted new)) ≡ accepted s → p ≡ accepted s
passed p test f s e = grind (arith, common_steps)

passed_before : (before : Bool) (g : Fault) (p : Answer State) (s : State) → require before g p ≡ accepted s → p ≡ accepted s
passed_before before g p s e = grind (arith, common_steps)

append_gives : (s : State) (t : TypeTable) → GivesStateOf t (appended s t)
append_gives s t u e = prepare_gives t u (passed (prepared_of t) (agrees s (cut_to s.counts t)) (fault state_disagrees (Amount 0)) u e)

back_gives : (s : State) (t : TypeTable) (n : Counts) → GivesStateOf (cut_to n t) (went_back s t n)
back_gives s t n u e =
    prepare_gives (cut_to n t) u
    (passed (prepared_of (cut_to n t)) (agrees s (cut_to s.counts t)) (fault state_disagrees (Amount 0)) u
    (passed_before (counts_within n s.counts && counts_within n (counts_in t)) (fault table_not_sound (Row 256)) _ u e))

-- Where the lists are not sound, both checks say so.
check_case : (s : State) (m : Message) (root : ℕ) (a : Answer (Unit {0})) → soundness m.table ≡ a → agrees s m.table ≡ true
    → check_prepared s m root ≡ check m root
unfolding check judged
check_case s m root (accepted tt) e same = rw (e, same)
check_case s m root (refused f) e same = rw e

check_same : (s : State) (m : Message) (root : ℕ) → Agrees s m.table → check_prepared s m root ≡ check m root
check_same s m root e = check_case s m root (soundness m.table) refl (agrees_itself s m.table e)

pub claims : Claims
claims =
    record {
      at_the_start = start_gives;
      after_prepare = prepare_gives;
      after_append = append_gives;
      after_going_back = back_gives;
      check_is_the_same = check_same;
    }
