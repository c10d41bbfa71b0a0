-- What each step says of the level that it is a step of, and what falls from step to step while the place stands still.
-- Assumes nothing.
use Rattle.std.specs.Prelude.{if◌then◌else◌}
use mathlib.Core.Bool.{Bool, true, false, ◌&&◌}
use mathlib.Core.List.{List}
use mathlib.Core.Path.{◌≡◌, refl}
use Prim.Native.Nat.{ℕ, ◌+◌, ◌-◌, ◌*◌, ◌≤◌, ◌<◌}
use native.Mathlib.Omega.{arith}
use borrow.Author.Tests.{lt-ltb, le-leb, eq-eqb, ne_eqb, eqb-true, eqb-false, ltb-true}
use lib.Dec.{eqb, ltb}
use lib.ListN.{get_or}
use Rattle.nesting.specs.declared.Level.{Level}
use Rattle.nesting.specs.declared.Step.{Step}
use Rattle.nesting.specs.declared.Step.TheVariants.{Fill, Into, Call, Out, Done}
use Rattle.nesting.specs.Nesting.{has_parts, next_part, next_place, next_step}

-- What is known of a level that is gone on with, so that its step is none of an impossible one.
pub record Known (top : ℕ) (l : Level) (place : ℕ) : Type 0 where
  pub few : l.row < 256
  pub inside : l.row ≤ top
  pub done : l.done < 65536
  pub from : l.at ≤ place
  pub short : place ≤ 65536

module _ (rows members : List ℕ) (level : Level) (alignments : List ℕ) (place around : ℕ) where
  pub data Stepped : (due : Bool) → Step → Type 0 where
    filling : Stepped true (Fill (next_place rows members level alignments place))
    ended : level.done ≡ get_or rows (level.row * 4 + 2) 0 → around ≡ 0 → Stepped false Done
    leaving : level.done ≡ get_or rows (level.row * 4 + 2) 0 → 0 < around → Stepped false Out
    entering : (level.done ≡ get_or rows (level.row * 4 + 2) 0 → ⊥) → around < 8 → has_parts rows (next_part rows members level) ≡ true → Stepped false (Into (next_part rows members level))
    calling : (level.done ≡ get_or rows (level.row * 4 + 2) 0 → ⊥) → Stepped false (Call (next_part rows members level))

  -- The step of a level that is possible.
  step_of : (due : Bool) → Step
  step_of due =
      if due then Fill (next_place rows members level alignments place)
      else if eqb level.done (get_or rows (level.row * 4 + 2) 0) then (if eqb around 0 then Done else Out)
      else if ltb around 8 && has_parts rows (next_part rows members level) then Into (next_part rows members level)
      else Call (next_part rows members level)

  step_known : {top : ℕ} → Known top level place → (due : Bool) → next_step rows members level alignments due place around ≡ step_of due
  unfolding step_of
  step_known k due = rw (lt-ltb level.row 256 k.few, lt-ltb level.done 65536 k.done, le-leb level.at place k.from, le-leb place 65536 k.short)

  stepped : (due : Bool) → Stepped due (step_of due)
  unfolding step_of
  stepped true = filling
  stepped false =
      go (eqb level.done (get_or rows (level.row * 4 + 2) 0)) (eqb around 0) (ltb around 8) (has_parts rows (next_part rows members level)) refl refl refl refl
    where
      go : (all first near deep : Bool) → eqb level.done (get_or rows (level.row * 4 + 2) 0) ≡ all → eqb around 0 ≡ first → ltb around 8 ≡ near → has_parts rows (next_part rows members level) ≡ deep
          → Stepped false (if all then (if first then Done else Out) else (if near && deep then Into (next_part rows members level) else Call (next_part rows members level)))
      go true true near deep a f n p = ended (eqb-true _ _ a) (eqb-true _ _ f)
      go true false near deep a f n p = leaving (eqb-true _ _ a) (let z = eqb-false around 0 f in omega arith)
      go false first true true a f n p = entering (eqb-false _ _ a) (ltb-true _ _ n) p
      go false first true false a f n p = calling (eqb-false _ _ a)
      go false first false deep a f n p = calling (eqb-false _ _ a)

  pub stepped_known : {top : ℕ} → Known top level place → (due : Bool) {s t : Step} → s ≡ next_step rows members level alignments due place around → s ≡ t → Stepped due t
  stepped_known k due e q = rw (← q, e, step_known k due) (stepped due)

-- ---- what falls

-- Fill is due; all is done and the way leads out; the way leads in.
unfoldable pub phase : (rows : List ℕ) (l : Level) (due : Bool) (around : ℕ) → ℕ
phase rows l true around = 2 * around + 258
phase rows l false around = if eqb l.done (get_or rows (l.row * 4 + 2) 0) then 2 * around + 257 else l.row

module _ (rows : List ℕ) (l : Level) (around : ℕ) where
  pub phase_in : (l.done ≡ get_or rows (l.row * 4 + 2) 0 → ⊥) → phase rows l false around ≡ l.row
  unfolding phase
  phase_in n = rw (ne_eqb _ _ n)

  pub phase_out : l.done ≡ get_or rows (l.row * 4 + 2) 0 → phase rows l false around ≡ 2 * around + 257
  unfolding phase
  phase_out e = rw (eq-eqb _ _ e)

  pub phase_due : phase rows l true around ≡ 2 * around + 258
  unfolding phase
  phase_due = refl

  pub phase_small : l.row < 256 → phase rows l false around < 2 * around + 258
  unfolding phase
  phase_small h = go (eqb l.done (get_or rows (l.row * 4 + 2) 0))
    where
      go : (all : Bool) → (if all then 2 * around + 257 else l.row) < 2 * around + 258
      go true = omega arith
      go false = omega arith

abbrev pub fuel : (rows : List ℕ) (l : Level) (due : Bool) (place around : ℕ) → ℕ
fuel rows l due place around = (65536 - place) * 1024 + phase rows l due around
