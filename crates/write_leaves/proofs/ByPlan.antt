-- Values by a plan: one part, and what is left of a value's parts and of a run of values.
-- Assumes nothing.
use Rattle.std.specs.Prelude.{Ok}
use mathlib.Core.Bool.{true}
use mathlib.Core.List.{List}
use mathlib.Core.Path.{◌≡◌}
use Prim.Native.Nat.{ℕ, ◌*◌}
use native.Mathlib.Omega.{arith}
use borrow.Author.Tests.{ne_eqb}
use lib.Seq.{sets}
use Rattle.rules.specs.Bytes.{zeros}
use Rattle.rules.specs.Encode as E
use Rattle.rules.specs.Envelope.{encode_word}
use Rattle.plans.specs.declared.Width.{Width}
use Rattle.plans.specs.declared.Width.TheVariants.{Boolean, Bytes}
use Rattle.plans.specs.declared.Part.{Part}
use Rattle.plans.specs.Plans.{width_bytes, width_row, runnable, parts_size}
use Rattle.layout.proofs.ByKind.{width_positive}
use Rattle.plans.proofs.ByPlan as Shared
use Rattle.plans.proofs.Widths.{bytes_allowed}
use Rattle.nesting.proofs.Runs.{RunLeft}
use Rattle.write_leaves.specs.declared.cursor.Cursor.{Cursor}
use Rattle.write_leaves.specs.Putting.{Wrote, PutsInLine}
use Rattle.write_leaves.specs.InLine.{bool_as}
use Rattle.write_leaves.specs.Planning.{width_as, parts_as, PutAsked}
use Rattle.write_leaves.proofs.Filling.{fill_put}
use Rattle.write_leaves.proofs.Leading.{ask_stands}
use Rattle.write_leaves.proofs.Writing.{writing_any}

-- ---- one part

module _ {values out out' : List ℕ} {width : Width} {at : ℕ} {c : Cursor} {r : Wrote} where
  pub part_bool : width ≡ Boolean → PutsInLine values out out' 1 at c r bool_as → PutsInLine values out out' (width_bytes width) at c r (width_as (width_row width))
  part_bool e p = rw e p

  pub part_number : {count : ℕ} → width ≡ Bytes count → runnable width ≡ true → PutsInLine values out out' count at c r (encode_word count)
      → PutsInLine values out out' (width_bytes width) at c r (width_as (width_row width))
  part_number {count} e runs p = rw (e, ne_eqb count 0 (λ z. omega (arith, width_positive count (bytes_allowed e runs)))) p

-- ---- the parts of a value, and a run of values

-- What is left of them, at a place; the whole began at the cursor `c`.
abbrev pub PartsLeft : (values : List ℕ) (whole : List Part) (at : ℕ) (out : List ℕ) (c : Cursor) (out' : List ℕ) (d : Cursor) (left : List Part) (place : ℕ) → Type 0
PartsLeft values whole at = Shared.PartsLeft (writing_any values) width_as (parts_size whole) at (parts_as whole)

abbrev pub ValuesLeft : (values : List ℕ) (parts : List Part) (size count at : ℕ) (out : List ℕ) (c : Cursor) (out' : List ℕ) (d : Cursor) (left place : ℕ) → Type 0
ValuesLeft values parts size count at out c out' d left place =
    RunLeft (writing_any values) (parts_size parts) (λ k. parts_as parts) (count * size) at (E.elements (λ i. parts_as parts) 0 count) out c out' d 0 left place

-- Zeros that were stored.
pub fill_stored : {values out out' : List ℕ} {at : ℕ} {c : Cursor} (count : ℕ) → out' ≡ sets out at (zeros count) → PutAsked values out out' count at c (Ok c) (E.fill count)
fill_stored count stored base a = fill_put count (ask_stands a) stored base
