-- The bytes of a width, and the row that stands for it.
-- Assumes nothing.
use Rattle.std.specs.Prelude.{if◌then◌else◌, Some, None}
use mathlib.Core.Bool.{Bool, true, false}
use mathlib.Core.List.{List}
use mathlib.Core.Path.{◌≡◌, refl}
use Prim.Native.Nat.{ℕ, ◌≤◌}
use native.Mathlib.Omega.{arith}
use borrow.Author.Tests.{ne_eqb, leb-true}
use lib.Dec.{eqb, leb}
use Rattle.rules.specs.Sound.{width_allowed}
use Rattle.rules.specs.TypeTable.{kind_in, a_in}
use Rattle.layout.proofs.ByKind.{width_positive}
use Rattle.plans.specs.declared.Width.{Width}
use Rattle.plans.specs.declared.Width.TheVariants.{Boolean, Bytes}
use Rattle.plans.specs.Plans.{width_bytes, width_row, width_layout, runnable, number_width, flat_width}

-- ---- those that run

pub bytes_allowed : {width : Width} {bytes : ℕ} → width ≡ Bytes bytes → runnable width ≡ true → width_allowed bytes ≡ true
bytes_allowed e runs = rw e at runs

pub bytes_least : (width : Width) → runnable width ≡ true → 1 ≤ width_bytes width
bytes_least Boolean runs = omega arith
bytes_least (Bytes bytes) runs = width_positive bytes runs

-- A field's row is laid out as its width takes bytes.
pub bytes_laid : (width : Width) → runnable width ≡ true → (width_layout (width_row width)).size ≡ width_bytes width
bytes_laid Boolean runs = refl
bytes_laid (Bytes bytes) runs = rw (ne_eqb bytes 0 (λ z. omega (arith, width_positive bytes runs)))

-- ---- those that a plan has

number_most : (bytes : ℕ) {width : Width} → number_width bytes ≡ Some width → width_bytes width ≤ 8
number_most bytes {width} = go (eqb bytes 0) (leb bytes 8) refl
  where
    go : (none few : Bool) → leb bytes 8 ≡ few → (if none then Some Boolean else if few then Some (Bytes bytes) else None) ≡ Some width → width_bytes width ≤ 8
    go true few f same = let w : Boolean ≡ width = cc in rw (← w) (omega arith)
    go false true f same = let w : Bytes bytes ≡ width = cc in rw (← w) (leb-true bytes 8 f)
    go false false f same = cc

pub bytes_most : (rows : List ℕ) (row : ℕ) {width : Width} → flat_width rows row ≡ Some width → width_bytes width ≤ 8
bytes_most rows row {width} = go (eqb (kind_in rows row) 1) (eqb (kind_in rows row) 2)
  where
    go : (bool number : Bool) → (if bool then Some Boolean else if number then number_width (a_in rows row) else None) ≡ Some width → width_bytes width ≤ 8
    go true number same = let w : Boolean ≡ width = cc in rw (← w) (omega arith)
    go false true same = number_most (a_in rows row) same
    go false false same = cc
