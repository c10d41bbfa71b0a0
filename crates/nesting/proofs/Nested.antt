-- Structs and arrays within one another: what comes next, by the numbers that the code reads.
-- Assumes nothing.
use mathlib.Core.Bool.{Bool, true, false, not, ◌&&◌, ◌||◌}
use mathlib.Core.List.{List}
use mathlib.Core.Path.{◌≡◌}
use Prim.Native.Nat.{ℕ, zero, suc, ◌+◌, ◌-◌, ◌≤◌, ◌<◌}
use native.Mathlib.Omega.{arith}
use mir.Syntax.{w32}
use mir.Val.{Fits}
use borrow.Author.Tests.{lt-ltb, le-ltb, ltb-true, leb-true, eq-eqb, ne_eqb}
use lib.Dec.{ltb, leb, eqb}
use lib.ListN.{get_or}
use Rattle.rules.specs.Bytes.{round_up}
use Rattle.rules.specs.TypeTable.{kind_in, a_in, b_in, row_in}
use Rattle.layout.proofs.Structs.{round_most}
use Rattle.rules.proofs.Tests.{both}
use Rattle.nesting.specs.declared.Level.{Level}
use Rattle.nesting.specs.declared.Step.TheVariants.{Fill, Into, Call, Out, Done}
use Rattle.nesting.specs.Nesting.{next_offset, has_parts, next_part, next_place, possible, next_step}

pub past_last : (rows : List ℕ) (row : ℕ) → 256 ≤ row → false ≡ has_parts rows row
past_last rows row h = rw (le-ltb row 256 h)

pub has_parts_lem : (rows : List ℕ) (row : ℕ) {k a b e : ℕ} → row < 256 → k ≡ kind_in rows row → a ≡ a_in rows row → b ≡ b_in rows row → e ≡ kind_in rows a
    → (eqb k 7 && ltb 0 b) || (eqb k 4 && not (eqb e 2)) ≡ has_parts rows row
has_parts_lem rows row h k a b e = rw (lt-ltb row 256 h, k, e, a, b)

round_small : (n a : ℕ) → round_up n a ≤ n + a
unfolding round_up
round_small n zero = omega arith
round_small n (suc a) = omega (arith, round_most n {a = suc a} (omega arith))

pub offset_small : (offset : ℕ) {g r : ℕ} → r ≡ round_up offset g → Fits w32 offset → Fits w32 g → r < 8589934592
offset_small offset {g} e n a = rw e (omega (arith, round_small offset g, n.fits, a.fits))

module _ (members alignments : List ℕ) (row member end offset : ℕ) where
  pub offset_last : {g r : ℕ} → member + 1 ≡ end → g ≡ get_or alignments row 0 → r ≡ round_up offset g → r ≡ next_offset members alignments row member end offset
  offset_last e g r = rw (r, g, eq-eqb (member + 1) end e)

  pub offset_next : {next g r : ℕ} → (member + 1 ≡ end → ⊥) → next ≡ row_in members (member + 1) → g ≡ get_or alignments next 0 → r ≡ round_up offset g
      → r ≡ next_offset members alignments row member end offset
  offset_next n e g r = rw (r, g, e, ne_eqb (member + 1) end n)

module _ (rows members : List ℕ) (level : Level) where
  pub part_member : {a k r : ℕ} → a ≡ a_in rows level.row → k ≡ kind_in rows level.row → k ≡ 7 → r ≡ row_in members (a + level.done)
      → r ≡ next_part rows members level
  part_member a k e r = rw (r, a, ← k, e)

  pub part_element : {a k : ℕ} → a ≡ a_in rows level.row → k ≡ kind_in rows level.row → (k ≡ 7 → ⊥) → a ≡ next_part rows members level
  part_element a k n = rw (a, ← k, ne_eqb _ 7 n)

  pub place_element : (alignments : List ℕ) {k : ℕ} (stop : ℕ) → k ≡ kind_in rows level.row → k ≡ 4 → stop ≡ next_place rows members level alignments stop
  place_element alignments stop k e = rw (← k, e)

  pub place_member : (alignments : List ℕ) (stop : ℕ) {k a b offset : ℕ} → k ≡ kind_in rows level.row → (k ≡ 4 → ⊥) → a ≡ a_in rows level.row → b ≡ b_in rows level.row
      → offset ≡ next_offset members alignments level.row (a + level.done) (a + b) (stop - level.at) → level.at + offset ≡ next_place rows members level alignments stop
  place_member alignments stop k n a b o = rw (o, a, b, ← k, ne_eqb _ 4 n)

  -- What a level that is gone on with is known to be.
  pub level_known : (place : ℕ) → possible rows members level place ≡ true → (level.row < 256) × (level.done < 65536) × (level.at ≤ place) × (place ≤ 65536)
  level_known place e =
      let all = both ((ltb level.row 256 && ltb level.done 65536) && leb level.at place) (leb place 65536) e in
      let three = both (ltb level.row 256 && ltb level.done 65536) (leb level.at place) all.0 in
      let two = both (ltb level.row 256) (ltb level.done 65536) three.0 in
      (ltb-true _ _ two.0, ltb-true _ _ two.1, leb-true _ _ three.1, leb-true _ _ all.1)

  module _ (alignments : List ℕ) (place around : ℕ) where
    pub step_impossible : (due : Bool) → not (possible rows members level place) ≡ true → Done ≡ next_step rows members level alignments due place around
    step_impossible due e = rw e

    module _ {due : Bool} (can : not (possible rows members level place) ≡ false) where
      pub step_fill : {next : ℕ} → due ≡ true → next ≡ next_place rows members level alignments place → Fill next ≡ next_step rows members level alignments due place around
      step_fill e n = rw (can, e, n)

      module _ {b : ℕ} (ready : due ≡ false) (counted : b ≡ b_in rows level.row) where
        pub step_done : level.done ≡ b → around ≡ 0 → Done ≡ next_step rows members level alignments due place around
        step_done e z = rw (can, ready, ← counted, eq-eqb _ _ e, eq-eqb around 0 z)

        pub step_out : level.done ≡ b → (around ≡ 0 → ⊥) → Out ≡ next_step rows members level alignments due place around
        step_out e z = rw (can, ready, ← counted, eq-eqb _ _ e, ne_eqb around 0 z)

        module _ {part : ℕ} {parts : Bool} (more : level.done ≡ b → ⊥) (is : part ≡ next_part rows members level) (has : parts ≡ has_parts rows part) where
          pub step_into : ltb around 8 && parts ≡ true → Into part ≡ next_step rows members level alignments due place around
          step_into e = rw (can, ready, ← counted, ne_eqb _ _ more, ← is, ← has, e)

          pub step_call : ltb around 8 && parts ≡ false → Call part ≡ next_step rows members level alignments due place around
          step_call e = rw (can, ready, ← counted, ne_eqb _ _ more, ← is, ← has, e)
