-- A struct's fields, member by member.
-- Assumes nothing.
use mathlib.Core.List.{[], ◌∷◌}
use mathlib.Core.Path.{◌≡◌, refl}
use Prim.Native.Nat.{ℕ, zero, suc, ◌+◌, ◌-◌, ◌≤◌, ◌<◌}
use native.Mathlib.Omega.{arith}
use Rattle.rules.specs.declared.Layout.{Layout}
use Rattle.rules.specs.Bytes.{round_up}
use Rattle.rules.specs.TypeTable.{TypeTable, row_of, member_rows}
use Rattle.rules.specs.Sizes.{field, next_alignment, fields_from}

members_next : (t : TypeTable) (i end : ℕ) → i < end → member_rows t i (end - i) ≡ row_of t i ∷ member_rows t (i + 1) (end - (i + 1))
unfolding member_rows
members_next t i end h = go (end - i) refl
  where
    go : (n : ℕ) → end - i ≡ n → member_rows t i n ≡ row_of t i ∷ member_rows t (i + 1) (end - (i + 1))
    go zero e = absurd (omega arith)
    go (suc n) e =
        let f : end - (i + 1) ≡ n = omega arith in
        let g : i + 1 ≡ suc i = omega arith in
        rw (f, g)

-- What the end of member `i` is rounded up to, as the code finds it.
pub alignment_last : (t : TypeTable) (layouts : ℕ → Layout) (whole i end : ℕ) → i + 1 ≡ end → next_alignment layouts whole (member_rows t (i + 1) (end - (i + 1))) ≡ whole
unfolding member_rows
alignment_last t layouts whole i end h = let e : end - (i + 1) ≡ 0 = omega arith in rw e

pub alignment_next : (t : TypeTable) (layouts : ℕ → Layout) (whole i end : ℕ) → i + 1 < end
    → next_alignment layouts whole (member_rows t (i + 1) (end - (i + 1))) ≡ (layouts (row_of t (i + 1))).alignment
alignment_next t layouts whole i end h = rw (members_next t (i + 1) end h)

pub fields_next : (t : TypeTable) (layouts : ℕ → Layout) (whole offset i end next : ℕ) → i < end
    → next ≡ round_up (offset + (layouts (row_of t i)).size) (next_alignment layouts whole (member_rows t (i + 1) (end - (i + 1))))
    → fields_from layouts whole offset (member_rows t i (end - i))
    ≡ field (row_of t i) (next - (offset + (layouts (row_of t i)).size)) ∷ fields_from layouts whole next (member_rows t (i + 1) (end - (i + 1)))
unfolding fields_from
fields_next t layouts whole offset i end next h e = rw (members_next t i end h, e)

pub fields_none : (t : TypeTable) (layouts : ℕ → Layout) (whole offset i end : ℕ) → end ≤ i → fields_from layouts whole offset (member_rows t i (end - i)) ≡ []
unfolding fields_from member_rows
fields_none t layouts whole offset i end h = let e : end - i ≡ 0 = omega arith in rw e
