-- A struct whose first member is neither a bool nor a number has no plan.
-- Assumes nothing.
use Rattle.std.specs.Prelude.{None, if◌then◌else◌}
use mathlib.Core.Bool.{Bool, true, false, ◌&&◌}
use mathlib.Core.List.{List}
use mathlib.Core.Path.{◌≡◌, refl}
use Prim.Native.Nat.{ℕ, zero, suc, ◌<◌}
use native.Mathlib.Nat.{add-zero}
use native.Mathlib.Omega.{arith}
use borrow.Author.Tests.{ne_eqb}
use lib.Dec.{leb, ltb}
use Rattle.rules.specs.TypeTable.{kind_in, a_in, b_in, row_in}
use Rattle.plans.specs.Plans.{flat_from, next_width, plan_of}

module _ (rows members alignments : List ℕ) (row : ℕ) (struct : kind_in rows row ≡ 7) (other : 2 < kind_in rows (row_in members (a_in rows row))) where
  none_first : next_width rows members alignments row 0 ≡ None
  none_first =
      let kind = kind_in rows (row_in members (a_in rows row)) in
      rw (struct, add-zero (a_in rows row), ne_eqb kind 1 (λ z. omega (arith, other, z)), ne_eqb kind 2 (λ z. omega (arith, other, z))) refl

  none_from : (count : ℕ) → ltb 0 count ≡ true → flat_from rows members alignments row 0 0 count ≡ None
  unfolding flat_from
  none_from zero some = absurd (let z : ◌≡◌ {A = ℕ} 0 1 = cc in omega arith)
  none_from (suc count) some = rw none_first refl

  pub no_plan : plan_of rows members alignments row ≡ None
  no_plan = rw struct (go (leb 256 row) (ltb 0 (b_in rows row)) (leb (b_in rows row) 16) refl)
    where
      go : (over some few : Bool) → ltb 0 (b_in rows row) ≡ some
          → (if over then None else if some && few then flat_from rows members alignments row 0 0 (b_in rows row) else None) ≡ None
      go true some few e = refl
      go false false few e = refl
      go false true false e = refl
      go false true true e = none_from (b_in rows row) e
