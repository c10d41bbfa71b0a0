-- Structs and arrays, taken apart: the parts and the fill that are left, in order, whichever of them they belong to, and
-- their size.
-- Assumes nothing.
use mathlib.Core.List.{List, [], ◌∷◌, ◌++◌}
use mathlib.Core.Path.{◌≡◌, refl, sym}
use Prim.Native.Nat.{ℕ, zero, suc, ◌+◌, ◌*◌}
use native.Mathlib.Nat.{suc-mul}
use native.Mathlib.Omega.{arith}
use Rattle.rules.specs.declared.Layout.{Layout}
use Rattle.rules.specs.Sizes.{Field, field, fields_size}

-- A value of a row, or fill.
pub data Item : Type 0 where
  value : (row : ℕ) → Item
  gap : (bytes : ℕ) → Item

unfoldable pub items_of : List Field → List Item
items_of [] = []
items_of (field row fill ∷ fields) = value row ∷ gap fill ∷ items_of fields

-- An array's elements, as fields with no fill.
unfoldable pub copies : (count row : ℕ) → List Field
copies zero row = []
copies (suc count) row = field row 0 ∷ copies count row

module _ (layouts : ℕ → Layout) where
  abbrev pub size_of_item : Item → ℕ
  size_of_item (value row) = (layouts row).size
  size_of_item (gap bytes) = bytes

  unfoldable pub size_of_items : List Item → ℕ
  size_of_items [] = 0
  size_of_items (i ∷ is) = size_of_item i + size_of_items is

  pub fields_size_lem : (fs : List Field) → size_of_items (items_of fs) ≡ fields_size layouts fs
  unfolding fields_size size_of_items items_of
  fields_size_lem [] = refl
  fields_size_lem (field row fill ∷ fs) = rw (fields_size_lem fs)

  pub copies_size : (count row : ℕ) → size_of_items (items_of (copies count row)) ≡ count * (layouts row).size
  unfolding size_of_items items_of copies
  copies_size zero row = omega arith
  copies_size (suc count) row = rw (copies_size count row, suc-mul) (omega arith)

  pub sizes_append : (is js : List Item) → size_of_items (is ++ js) ≡ size_of_items is + size_of_items js
  unfolding size_of_items
  sizes_append [] js = omega arith
  sizes_append (i ∷ is) js = rw (sizes_append is js) (omega arith)

  pub into_size : (row : ℕ) (is rest : List Item) → (layouts row).size ≡ size_of_items is → size_of_items (value row ∷ rest) ≡ size_of_items (is ++ rest)
  unfolding size_of_items
  into_size row is rest s = rw s (sym (sizes_append is rest))
