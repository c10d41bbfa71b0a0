-- So many levels of depth: none is left, or one more and what lies below it.
-- Assumes nothing.
use mathlib.Core.Path.{◌≡◌, refl}
use Prim.Native.Nat.{ℕ, zero, suc, ◌-◌}
use native.Mathlib.Omega.{arith}
use Rattle.rules.specs.TypeTable.{TypeTable}
use Rattle.rules.specs.Encode as E
use Rattle.rules.specs.Writer as R

pub levels_spent : (t : TypeTable) (depth : ℕ) → depth ≡ 0 → R.levels t depth ≡ E.spent
unfolding R.levels
levels_spent t depth e = rw e

level : (t : TypeTable) (depth : ℕ) → R.levels t (suc depth) ≡ E.deeper (R.encode_row t (R.levels t depth)) (R.levels t depth)
unfolding R.levels
level t depth = refl

pub levels_down : (t : TypeTable) (depth : ℕ) → (depth ≡ 0 → ⊥) → R.levels t depth ≡ E.deeper (R.encode_row t (R.levels t (depth - 1))) (R.levels t (depth - 1))
levels_down t zero n = absurd (n refl)
levels_down t (suc depth) n = let e : suc depth - 1 ≡ depth = omega arith in rw e (level t depth)
