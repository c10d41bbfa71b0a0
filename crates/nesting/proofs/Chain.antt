-- Structs and arrays within one another, each a part of the next: where each of them stands, and what is left of them all.
-- Assumes nothing.
use mathlib.Core.Bool.{Bool, true, false}
use mathlib.Core.List.{List, [], ◌∷◌, ◌++◌}
use mathlib.Core.Path.{◌≡◌}
use Prim.Native.Nat.{ℕ, ◌+◌, ◌≤◌, ◌<◌}
use Rattle.rules.specs.TypeTable.{TypeTable, b_at}
use Rattle.rules.specs.Sizes.{layout_of, size_of, fields_size}
use Rattle.nesting.specs.declared.Level.{Level}
use Rattle.nesting.specs.Nesting.{has_parts, next_place}
use Rattle.nesting.proofs.Items.{Item, items_of}
use Rattle.nesting.proofs.Left.{advanced, fields_left}
use Rattle.nesting.proofs.Around.{left_around}

-- Where a struct or an array ends.
abbrev pub end_of : (t : TypeTable) → Level → ℕ
end_of t l = l.at + size_of t l.row

-- One whose next part starts at a place: what is left of it takes it to its end.
pub record Running (t : TypeTable) (top : ℕ) (l : Level) (place : ℕ) : Type 0 where
  pub inside : l.row ≤ top
  pub parts : has_parts t.rows l.row ≡ true
  pub done : l.done ≤ b_at t l.row
  pub from : l.at ≤ place
  pub ends : place + fields_size (layout_of t) (fields_left t l place) ≡ end_of t l

module _ (t : TypeTable) (alignments : List ℕ) (top : ℕ) where
  -- One of which a part stops at a place, with the fill after it to come.
  pub record Paused (l : Level) (stop : ℕ) : Type 0 where
    pub inside : l.row ≤ top
    pub parts : has_parts t.rows l.row ≡ true
    pub done : l.done < b_at t l.row
    pub from : l.at ≤ stop
    pub on : stop ≤ next_place t.rows t.members l alignments stop
    pub ends : next_place t.rows t.members l alignments stop + fields_size (layout_of t) (fields_left t (advanced l) (next_place t.rows t.members l alignments stop))
        ≡ end_of t l

  -- Each of them is a part of the next.
  pub data Chain : List Level → (stop : ℕ) → Type 0 where
    last : {stop : ℕ} → Chain [] stop
    within : {l : Level} {around : List Level} {stop : ℕ} → Paused l stop → Chain around (end_of t l) → Chain (l ∷ around) stop

  abbrev pub Stands : (due : Bool) (l : Level) (around : List Level) (place : ℕ) → Type 0
  Stands true l around place = Chain (l ∷ around) place
  Stands false l around place = Running t top l place × Chain around (end_of t l)

module _ {t : TypeTable} {alignments : List ℕ} {top : ℕ} {l : Level} {around : List Level} {stop : ℕ} where
  pub chain_first : Chain t alignments top (l ∷ around) stop → Paused t alignments top l stop
  chain_first (within p q) = p

  pub chain_rest : Chain t alignments top (l ∷ around) stop → Chain t alignments top around (end_of t l)
  chain_rest (within p q) = q

-- What is left of them all.
abbrev pub left_of : (t : TypeTable) (alignments : List ℕ) (due : Bool) (l : Level) (around : List Level) (place : ℕ) → List Item
left_of t alignments true l around place = left_around t alignments (l ∷ around) place
left_of t alignments false l around place =
    items_of (fields_left t l place) ++ left_around t alignments around (end_of t l)
