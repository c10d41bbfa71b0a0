-- Structs and arrays, taken apart, for whatever is done with each part: to do what is left of them, in order, is to do the whole.
-- Assumes nothing.
use mathlib.Core.List.{List, [], ◌∷◌, ◌++◌}
use mathlib.Core.Path.{◌≡◌, sym, ap₂, ◌∙◌}
use Prim.Native.Nat.{ℕ, zero, suc, ◌+◌}
use Rattle.rules.specs.declared.Fault.{Fault}
use Rattle.rules.specs.declared.Layout.{Layout}
use Rattle.rules.specs.Sizes.{field}
use Rattle.nesting.proofs.Items.{Item, value, gap, items_of, copies, size_of_item, size_of_items, into_size}
use Rattle.nesting.proofs.Algebra.{Algebra, Doing, Left, left_start, first_asks, left_on, left_refused, left_end}

module _ (A : Algebra) (layouts : ℕ → Layout) (inner : ℕ → A.Part) where
  abbrev pub run_item : Item → A.Part
  run_item (value row) = inner row
  run_item (gap bytes) = A.fill bytes

  unfoldable pub run : List Item → A.Part
  run [] = A.nothing
  run (i ∷ is) = A.sequence (size_of_item layouts i) (run_item i) (run is)

  pub run_copies : (count row i : ℕ) → A.elements (layouts row).size (λ k. inner row) i count ≡ run (items_of (copies count row))
  unfolding run items_of copies
  run_copies zero row i = A.laws.no_elements (layouts row).size (λ k. inner row) i
  run_copies (suc count) row i =
      A.laws.next_element (layouts row).size (λ k. inner row) i count ∙ rw (A.laws.no_fill, A.laws.nothing_first (run (items_of (copies count row))), run_copies count row (suc i))

  pub run_alone : (row : ℕ) → run (items_of (field row 0 ∷ [])) ≡ inner row
  unfolding run items_of
  run_alone row = rw (A.laws.no_fill, A.laws.nothing_first A.nothing, A.laws.nothing_last (layouts row).size (inner row))

  -- One after the other.
  run_append : (is js : List Item) → run (is ++ js) ≡ A.sequence (size_of_items layouts is) (run is) (run js)
  unfolding run size_of_items
  run_append [] js = sym (A.laws.nothing_first (run js))
  run_append (i ∷ is) js = rw (run_append is js) (A.laws.grouped (size_of_item layouts i) (size_of_items layouts is) (run_item i) (run is) (run js))

  -- A value that is made of values may as well be taken apart.
  run_into : (row : ℕ) (is rest : List Item) → inner row ≡ run is → (layouts row).size ≡ size_of_items layouts is → run (value row ∷ rest) ≡ run (is ++ rest)
  unfolding run
  run_into row is rest e s = ap₂ (λ (size : ℕ) (p : A.Part). A.sequence size p (run rest)) s e ∙ sym (run_append is rest)

-- ---- what is left, at a place

pub record WorkLeft {A : Algebra} (D : Doing A) (layouts : ℕ → Layout) (inner : ℕ → A.Part) (grow at : ℕ) (whole : A.Part) (l : D.Lent) (c : D.Cursor) (l' : D.Lent) (d : D.Cursor) (is : List Item) (place : ℕ) : Type 0 where
  pub rest : Left D grow at whole l c l' d (size_of_items layouts is) (run A layouts inner is) place

-- The whole, taken apart.
pub work_start : {A : Algebra} {D : Doing A} {layouts : ℕ → Layout} {inner : ℕ → A.Part} {size at : ℕ} {whole : A.Part} {l : D.Lent} {c : D.Cursor} (is : List Item)
    → D.Ask size at c → whole ≡ run A layouts inner is → size ≡ size_of_items layouts is → WorkLeft D layouts inner size at whole l c l c is at
work_start is a e s = record { rest = rw (← e, ← s) (left_start a) }

module _ {A : Algebra} {D : Doing A} {layouts : ℕ → Layout} {inner : ℕ → A.Part} {grow at : ℕ} {whole : A.Part} {l : D.Lent} {c : D.Cursor} {l' : D.Lent} {d : D.Cursor} where
  module _ {i : Item} {is : List Item} {place : ℕ} (w : WorkLeft D layouts inner grow at whole l c l' d (i ∷ is) place) where
    item_left : Left D grow at whole l c l' d (size_of_item layouts i + size_of_items layouts is) (A.sequence (size_of_item layouts i) (run_item A layouts inner i) (run A layouts inner is)) place
    unfolding run size_of_items
    item_left = w.rest

    pub item_asks : D.Ask (size_of_item layouts i) place d
    item_asks = first_asks _ _ _ _ item_left

    pub item_on : {l'' : D.Lent} {e : D.Cursor} → D.Did (size_of_item layouts i) place l' l'' d (D.on e) (run_item A layouts inner i)
        → WorkLeft D layouts inner grow at whole l c l'' e is (place + size_of_item layouts i)
    item_on did = record { rest = left_on _ _ _ _ item_left did }

    pub item_refused : {l'' : D.Lent} {f : Fault} → D.Did (size_of_item layouts i) place l' l'' d (D.refused f) (run_item A layouts inner i) → D.Did grow at l l'' c (D.refused f) whole
    item_refused did = left_refused _ _ _ _ item_left did

  -- The value that is next, taken apart.
  pub work_into : {row : ℕ} {rest : List Item} {place : ℕ} (is : List Item) → WorkLeft D layouts inner grow at whole l c l' d (value row ∷ rest) place
      → inner row ≡ run A layouts inner is → (layouts row).size ≡ size_of_items layouts is → WorkLeft D layouts inner grow at whole l c l' d (is ++ rest) place
  work_into {row} {rest} is w e s = record { rest = rw (into_size layouts row is rest s, run_into A layouts inner row is rest e s) at w.rest }

  pub work_end : {place : ℕ} → WorkLeft D layouts inner grow at whole l c l' d [] place → D.Did grow at l l' c (D.on d) whole
  unfolding run size_of_items
  work_end w = left_end w.rest
