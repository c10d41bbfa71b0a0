-- The tests of a row's kind: which kind is left after them, and what a struct or an array without parts is.
-- Assumes nothing.
use mathlib.Core.Bool.{Bool, true, false, not, ◌||◌}
use mathlib.Core.List.{List}
use mathlib.Core.Path.{◌≡◌, refl, sym, ◌∙◌}
use Prim.Native.Nat.{ℕ, ◌+◌, ◌*◌, ◌<◌}
use native.Mathlib.Omega.{arith}
use borrow.Author.Tests.{eqb-true, eqb-false, ltb-false, lt-ltb, ne_eqb}
use lib.Dec.{eqb, ltb}
use lib.ListN.{get_or}
use Rattle.rules.specs.TypeTable.{TypeTable, kind_at, b_at, member_rows}
use Rattle.rules.specs.Sizes.{fields_from, fields_of, struct_size, layout_as, size_of}
use Rattle.nesting.specs.Nesting.{has_parts}
use Rattle.layout.specs.Ready.{Outside}
use Rattle.layout.proofs.ByKind.{size_kind}

-- ---- tests of two kinds

pub array_left : (k : ℕ) → (eqb k 4 || eqb k 7) ≡ true → (k ≡ 7 → ⊥) → k ≡ 4
array_left k e n = eqb-true k 4 (go (eqb k 4) (eqb k 7) e (ne_eqb k 7 n))
  where
    go : (a b : Bool) → (a || b) ≡ true → b ≡ false → a ≡ true
    go true b h f = refl
    go false b h f = sym f ∙ h

neither : (k m n : ℕ) → (eqb k m || eqb k n) ≡ false → (k ≡ m → ⊥) × (k ≡ n → ⊥)
neither k m n q = let b = go (eqb k m) (eqb k n) q in (eqb-false k m b.0, eqb-false k n b.1)
  where
    go : (a b : Bool) → (a || b) ≡ false → (a ≡ false) × (b ≡ false)
    go true b h = absurd (let z : ◌≡◌ {A = ℕ} 0 1 = cc in omega arith)
    go false b h = (refl, h)

-- None of the kinds that stand in line.
pub outside_left : (t : TypeTable) (row : ℕ) {k : ℕ} → k ≡ kind_at t row → (k ≡ 1 → ⊥) → (k ≡ 2 → ⊥) → (k ≡ 3 → ⊥) → (eqb k 4 || eqb k 7) ≡ false → (k ≡ 6 → ⊥)
    → (eqb k 11 || eqb k 12) ≡ false → Outside (kind_at t row)
outside_left t row {k} e n₁ n₂ n₃ parts n₆ strict =
    let p = neither k 4 7 parts in
    let s = neither k 11 12 strict in
    (λ z. n₁ (e ∙ z), λ z. n₂ (e ∙ z), λ z. n₃ (e ∙ z), λ z. p.0 (e ∙ z), λ z. n₆ (e ∙ z), λ z. p.1 (e ∙ z), λ z. s.0 (e ∙ z), λ z. s.1 (e ∙ z))

-- ---- no parts

module _ (rows : List ℕ) (row : ℕ) (few : row < 256) (parts : has_parts rows row ≡ false) where
  -- a struct that has none is empty,
  pub struct_empty : get_or rows (row * 4) 0 ≡ 7 → get_or rows (row * 4 + 2) 0 ≡ 0
  struct_empty e =
      let h : (ltb 0 (get_or rows (row * 4 + 2) 0) || false) ≡ false = rw (lt-ltb row 256 few, e) at parts in
      omega (arith, ltb-false 0 (get_or rows (row * 4 + 2) 0) (go (ltb 0 (get_or rows (row * 4 + 2) 0)) h))
    where
      go : (a : Bool) → (a || false) ≡ false → a ≡ false
      go true h = h
      go false h = refl

  -- and an array is one of numbers.
  pub array_numbers : get_or rows (row * 4) 0 ≡ 4 → get_or rows (get_or rows (row * 4 + 1) 0 * 4) 0 ≡ 2
  array_numbers e =
      let h : not (eqb (get_or rows (get_or rows (row * 4 + 1) 0 * 4) 0) 2) ≡ false = rw (lt-ltb row 256 few, e) at parts in
      eqb-true _ 2 (go (eqb (get_or rows (get_or rows (row * 4 + 1) 0 * 4) 0) 2) h)
    where
      go : (a : Bool) → not a ≡ false → a ≡ true
      go true h = refl
      go false h = sym h

-- ---- an empty struct

pub size_empty : (t : TypeTable) (row : ℕ) → kind_at t row ≡ 7 → b_at t row ≡ 0 → size_of t row ≡ 1
unfolding layout_as struct_size fields_of fields_from member_rows
size_empty t row e z = size_kind t row e ∙ rw z
