-- States and lists: when they agree, and what a climb goes on from.
-- Assumes nothing.
use Rattle.std.specs.Prelude.{if◌then◌else◌}
use mathlib.Core.Bool.{Bool, true, false}
use mathlib.Core.Path.{◌≡◌, refl, ap, sym, ◌∙◌}
use Prim.Native.Nat.{◌≤◌}
use native.Mathlib.Omega.{arith}
use lib.ListN.{length}
use borrow.Author.Tests.{eqb-true}
use Rattle.std.specs.Cmp.Lexicographic.{same_text}
use Rattle.std.proofs.lemmas.Cmp.{nat_eq_equiv, nat_list_eq_equiv}
use Rattle.std.proofs.lemmas.Grind.{common_steps}
use borrow.Author.Rules.{rules}
use Rattle.rules.specs.Refusals.{Answer, accepted, refused, and_then}
use Rattle.rules.specs.TypeTable.{TypeTable, row_count}
use Rattle.rules.specs.Sound.{soundness}
use Rattle.layout.specs.Answers.{kept_sizes, kept_alignments}
use Rattle.layout.specs.Kept.{KeptBelow, Climbing}
use Rattle.layout.proofs.Rows.{lists_whole_lem, sound_lists, sound_rows}
use Rattle.layout.proofs.Keeping.{ZerosFrom, zeros_kept, zeros_first, kept_size, kept_alignment}
use Rattle.layout.proofs.Climbing.{climbing_first}
use Rattle.prepared.specs.declared.State.{State}
use Rattle.prepared.specs.States.{start, state_of, prepared_of, empty_lists, Agrees, same_state, is_state, agrees}
use Rattle.prepared.specs.Operations.{cut_to, state_after, cut_state}
use Rattle.prepared.proofs.Cutting.{Extends, cut_extends, still_kept}

-- ---- states that are the same

same_itself : (s : State) → same_state s s ≡ true
same_itself s = simp (nat_eq_equiv.refl, nat_list_eq_equiv.refl)

pub same_state_lem : (s u : State) → same_state s u ≡ true → s ≡ u
same_state_lem s u e =
    let counts : s.counts ≡ u.counts = grind (arith, common_steps) in
    let sizes : s.sizes ≡ u.sizes = grind (arith, common_steps, same_text) in
    let alignments : s.alignments ≡ u.alignments = grind (arith, common_steps, same_text) in
    grind arith

-- ---- lists that are whole, and lists that are empty

pub record Empty (t : TypeTable) : Type 0 where
  pub rows : length t.rows ≡ 0
  pub members : length t.members ≡ 0
  pub entries : length t.entries ≡ 0

pub empty : (t : TypeTable) → empty_lists t ≡ true → Empty t
empty t e = search (rules, eqb-true)

pub sound_some : (t : TypeTable) → soundness t ≡ accepted tt → empty_lists t ≡ false
sound_some t sound = let some = (lists_whole_lem t (sound_lists t sound)).some in grind (arith, common_steps)

-- ---- agreement

-- Sound lists agree with their own state alone.
pub agrees_sound : (s : State) (t : TypeTable) → soundness t ≡ accepted tt → agrees s t ≡ same_state s (state_of t)
unfolding agrees
agrees_sound s t sound = rw (sound_some t sound, sound)

-- Lists that were prepared are sound, and the state is theirs.
prepared_case : (a : Answer (Unit {0})) (u whole : State) → and_then a (λ sound. accepted whole) ≡ accepted u → (a ≡ accepted tt) × (u ≡ whole)
prepared_case a u whole e = grind (arith, common_steps)

pub prepared_said : (t : TypeTable) {u : State} → prepared_of t ≡ accepted u → (soundness t ≡ accepted tt) × (u ≡ state_of t)
prepared_said t {u} e = prepared_case (soundness t) u (state_of t) e

-- What agreement says: the start state and empty lists, or sound lists and their state.
pub data Agreed (s : State) (t : TypeTable) : Type 0 where
  no_table : s ≡ start → empty_lists t ≡ true → Agreed s t
  whole_table : s ≡ state_of t → soundness t ≡ accepted tt → Agreed s t

agreed_case : (s : State) (t : TypeTable) (no_lists : Bool) → empty_lists t ≡ no_lists → (if no_lists then accepted start else prepared_of t) ≡ accepted s
    → Agreed s t
agreed_case s t true e given = no_table (cc) e
agreed_case s t false e given = let said = prepared_said t given in whole_table said.1 said.0

pub agreed : (s : State) (t : TypeTable) → Agrees s t → Agreed s t
agreed s t e = agreed_case s t (empty_lists t) refl e

pub agrees_itself : (s : State) (t : TypeTable) → Agrees s t → agrees s t ≡ true
unfolding agrees
agrees_itself s t e = ap (is_state s) e ∙ same_itself s

-- ---- the lists cut to a state's counts

module _ (s : State) (t : TypeTable) where
  abbrev cut : TypeTable
  cut = cut_to s.counts t

  -- Of the start state nothing is left of them.
  start_cut : s ≡ start → empty_lists cut ≡ true
  start_cut e = rw e

  not_start : empty_lists cut ≡ false → (r : Bool) → same_state s start ≡ r → false ≡ r
  not_start lists true e = let z : true ≡ false = sym (start_cut (same_state_lem s start e)) ∙ lists in cc
  not_start lists false e = refl

  cut_case : (no_lists : Bool) → empty_lists cut ≡ no_lists → (a : Answer (Unit {0})) → soundness cut ≡ a
      → is_state s (if no_lists then accepted start else and_then a (λ sound. accepted (state_of cut)))
      ≡ same_state s (state_after (and_then a (λ sound. accepted (state_of cut))) start)
  cut_case true e (accepted tt) sound = let z : true ≡ false = sym e ∙ sound_some cut sound in cc
  cut_case true e (refused f) sound = refl
  cut_case false e (accepted tt) sound = refl
  cut_case false e (refused f) sound = not_start e (same_state s start) refl

  -- A state agrees with them if it is what preparing them leaves.
  agrees_cut : agrees s cut ≡ same_state s (cut_state s t)
  unfolding agrees
  agrees_cut = cut_case (empty_lists cut) refl (soundness cut) refl

  pub cut_compared : {u : State} → u ≡ cut_state s t → agrees s cut ≡ same_state s u
  cut_compared e = agrees_cut ∙ ap (same_state s) (sym e)

-- What a climb goes on from: the rows in use are kept, and nothing else is.
pub record Standing (t : TypeTable) (u : State) : Type 0 where
  pub few : u.counts.rows ≤ 256
  pub climbing : Climbing t u.counts.rows u.sizes u.alignments
  pub size_zeros : ZerosFrom u.counts.rows u.sizes
  pub alignment_zeros : ZerosFrom u.counts.rows u.alignments

start_standing : (t : TypeTable) → Standing t start
start_standing t =
    record {
      few = omega arith;
      climbing = climbing_first t refl refl;
      size_zeros = zeros_first refl;
      alignment_zeros = zeros_first refl;
    }

-- A row that is sound in shorter lists is sound in longer ones.
state_standing : {t u : TypeTable} → Extends t u → soundness t ≡ accepted tt → Standing u (state_of t)
unfolding kept_sizes kept_alignments
state_standing {t} {u} x sound =
    let sizes = zeros_kept (λ l. l.size) t in
    let alignments = zeros_kept (λ l. l.alignment) t in
    let kept : KeptBelow t (row_count t) (kept_sizes t) (kept_alignments t) = record {
      sound = sound_rows t sound;
      size = kept_size t sound;
      alignment = kept_alignment t sound;
    } in
    record {
      few = omega (arith, (lists_whole_lem t (sound_lists t sound)).rows);
      climbing = record {
        within = omega (arith, x.rows);
        kept = still_kept x (row_count t) (omega arith) kept;
        sizes_whole = sizes.whole;
        alignments_whole = alignments.whole;
      };
      size_zeros = sizes;
      alignment_zeros = alignments;
    }

standing_case : (s : State) (t : TypeTable) (a : Answer (Unit {0})) → soundness (cut_to s.counts t) ≡ a
    → Standing t (state_after (and_then a (λ sound. accepted (state_of (cut_to s.counts t)))) start)
standing_case s t (accepted tt) sound = state_standing (cut_extends s.counts t) sound
standing_case s t (refused f) sound = start_standing t

pub cut_standing : (s : State) (t : TypeTable) → Standing t (cut_state s t)
cut_standing s t = standing_case s t (soundness (cut_to s.counts t)) refl
