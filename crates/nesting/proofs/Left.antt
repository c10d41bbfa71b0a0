-- What is left of a struct or an array, of which so many members or elements are done, as fields.
-- Assumes nothing.
use Rattle.std.specs.Prelude.{if◌then◌else◌}
use mathlib.Core.List.{List, [], ◌∷◌}
use mathlib.Core.Path.{◌≡◌, ◌∙◌}
use Prim.Native.Nat.{ℕ, suc, ◌+◌, ◌-◌, ◌≤◌, ◌<◌}
use native.Mathlib.Omega.{arith}
use borrow.Author.Tests.{eq-eqb, ne_eqb}
use lib.Dec.{eqb}
use Rattle.rules.specs.Bytes.{round_up}
use Rattle.rules.specs.TypeTable.{TypeTable, kind_at, a_at, b_at, row_of, member_rows}
use Rattle.rules.specs.Sizes.{Field, field, layout_of, size_of, next_alignment, fields_from}
use Rattle.nesting.specs.declared.Level.{Level}
use Rattle.nesting.proofs.Fields.{fields_next, fields_none}
use Rattle.nesting.proofs.Items.{copies}

-- One more is done.
abbrev pub advanced : Level → Level
advanced l = record { row = l.row; done = l.done + 1; at = l.at }

module _ (t : TypeTable) where
  -- the members or elements that are left, the next of them at a place
  pub fields_left : Level → (place : ℕ) → List Field
  fields_left l place =
      if eqb (kind_at t l.row) 7 then
      fields_from (layout_of t) (layout_of t l.row).alignment (place - l.at)
      (member_rows t (a_at t l.row + l.done) (a_at t l.row + b_at t l.row - (a_at t l.row + l.done)))
      else copies (b_at t l.row - l.done) (a_at t l.row)

  module _ (l : Level) (place : ℕ) where
    pub members_left : kind_at t l.row ≡ 7
        → fields_left l place
        ≡ fields_from (layout_of t) (layout_of t l.row).alignment (place - l.at) (member_rows t (a_at t l.row + l.done) (a_at t l.row + b_at t l.row - (a_at t l.row + l.done)))
    unfolding fields_left
    members_left e = rw (eq-eqb _ 7 e)

    pub elements_left : (kind_at t l.row ≡ 7 → ⊥) → fields_left l place ≡ copies (b_at t l.row - l.done) (a_at t l.row)
    unfolding fields_left
    elements_left e = rw (ne_eqb _ 7 e)

  pub no_members_left : (l : Level) (place : ℕ) → kind_at t l.row ≡ 7 → b_at t l.row ≤ l.done → fields_left l place ≡ []
  no_members_left l place e h = members_left l place e ∙ fields_none t (layout_of t) (layout_of t l.row).alignment (place - l.at) _ _ (omega arith)

  pub no_elements_left : (l : Level) (place : ℕ) → (kind_at t l.row ≡ 7 → ⊥) → b_at t l.row ≤ l.done → fields_left l place ≡ []
  unfolding copies
  no_elements_left l place e h = let z : b_at t l.row - l.done ≡ 0 = omega arith in elements_left l place e ∙ rw z

  pub next_element : (l : Level) (place next : ℕ) → (kind_at t l.row ≡ 7 → ⊥) → l.done < b_at t l.row → fields_left l place ≡ field (a_at t l.row) 0 ∷ fields_left (advanced l) next
  unfolding copies
  next_element l place next e h =
      let z : b_at t l.row - l.done ≡ suc (b_at t l.row - (l.done + 1)) = omega arith in
      elements_left l place e ∙ rw (z, elements_left (advanced l) next e)

  -- A member ends at `stop`; the next one starts at `next`.
  pub next_member : (l : Level) (place stop next : ℕ) → kind_at t l.row ≡ 7 → l.done < b_at t l.row → l.at ≤ place
      → stop ≡ place + size_of t (row_of t (a_at t l.row + l.done)) → stop ≤ next
      → next - l.at
      ≡ round_up (stop - l.at)
      (next_alignment (layout_of t) (layout_of t l.row).alignment (member_rows t (a_at t l.row + l.done + 1) (a_at t l.row + b_at t l.row - (a_at t l.row + l.done + 1))))
      → fields_left l place ≡ field (row_of t (a_at t l.row + l.done)) (next - stop) ∷ fields_left (advanced l) next
  next_member l place stop next e h a s b r =
      let i = a_at t l.row + l.done in
      let d : stop - l.at ≡ (place - l.at) + size_of t (row_of t i) = omega arith in
      let g : (next - l.at) - ((place - l.at) + size_of t (row_of t i)) ≡ next - stop = omega arith in
      let j : a_at t l.row + (l.done + 1) ≡ i + 1 = omega arith in
      members_left l place e
      ∙ fields_next t (layout_of t) (layout_of t l.row).alignment (place - l.at) i (a_at t l.row + b_at t l.row) (next - l.at) (omega arith) (rw d at r)
      ∙ rw (g, members_left (advanced l) next e, j)
