-- The proof of the cycle of calls of layouts: a row that is not kept is made of rows that its kind names, and those have smaller
-- numbers.
use mathlib.Core.Path.{◌≡◌, refl, sym, ◌∙◌}
use Prim.Native.Nat.{◌+◌, ◌-◌, ◌<◌}
use native.Mathlib.Omega.{arith}
use Rattle.rules.specs.TypeTable.{type_table, kind_at, a_at, b_at}
use Rattle.rules.specs.Sizes.{layout_below}
use Rattle.layout.proofs.Rows.{layout_by_kind}
use Rattle.layout.proofs.Elements.{element_below, element_size, array_layout}
use Rattle.layout.proofs.Members.{empty_struct, placing_first, next_below, placeable, placing_next, placing_last}
use Rattle.layout.proofs.Keeping.{inner_layable}
use Rattle.layout.proofs.calculator.+inner_layout_row_layout_struct_layout.Goals as goal

-- An array: its element's row is below its own.
pub row_layout-inner_layout-requires : goal.row_layout-inner_layout-requires
row_layout-inner_layout-requires t c =
    let y = type_table c.args.rows.now c.args.members.now c.args.entries.now in
    let kind : kind_at y c.args.row ≡ 4 = sym c.kind_at-kind.ensures ∙ c.in-4.is in
    let below = element_below y c.args.row kind c.requires.fits in
    rw c.a_at-a.ensures (omega (arith, below), inner_layable c.requires (a_at y c.args.row) below)

pub row_layout-array_layout-requires : goal.row_layout-array_layout-requires
row_layout-array_layout-requires t c =
    let y = type_table c.args.rows.now c.args.members.now c.args.entries.now in
    let kind : kind_at y c.args.row ≡ 4 = sym c.kind_at-kind.ensures ∙ c.in-4.is in
    rw (c.inner_layout.ensures, c.a_at-a.ensures) (element_size y c.args.row kind c.requires.fits c.requires.sound)

pub row_layout-returns-in-4 : goal.row_layout-returns-in-4
row_layout-returns-in-4 t c =
    let y = type_table c.args.rows.now c.args.members.now c.args.entries.now in
    let kind : kind_at y c.args.row ≡ 4 = sym c.kind_at-kind.ensures ∙ c.in-4.is in
    rw (c.array_layout.ensures, c.inner_layout.ensures, c.b_at.ensures, c.a_at-a.ensures) (sym (array_layout y c.args.row kind c.requires.fits))

-- Any other kind.
pub row_layout-returns-in_default : goal.row_layout-returns-in_default
row_layout-returns-in_default t c =
    let y = type_table c.args.rows.now c.args.members.now c.args.entries.now in
    let kind = c.kind_at-kind in
    let a = c.a_at-a in
    layout_by_kind y c.args.row kind.result a.result c.fixed_layout.result kind.ensures a.ensures
    (c.fixed_layout.ensures y refl (layout_below y c.args.row))

-- An empty struct.
pub struct_layout-returns-then-count-eq0 : goal.struct_layout-returns-then-count-eq0
struct_layout-returns-then-count-eq0 t c =
    let y = type_table c.args.rows.now c.args.members.now c.args.entries.now in
    c.layout.ensures ∙ sym (empty_struct y c.args.row c.requires.row_value (sym c.b_at-count.ensures ∙ c.if-count-eq0.true))

pub struct_layout-overflow_add-member-end : goal.struct_layout-overflow_add-member-end
struct_layout-overflow_add-member-end t c =
    let y = type_table c.args.rows.now c.args.members.now c.args.entries.now in
    let l = c.requires.layable in
    let some : 0 < b_at y c.args.row = omega (arith, c.b_at-count.ensures) in
    let first = placing_first y c.args.row l.sound l.fits c.requires.row_value (omega (arith, l.few)) some in
    omega (arith, first.few, c.a_at-first.ensures, c.b_at-count.ensures)

pub struct_layout-loop-member-init : goal.struct_layout-loop-member-init
struct_layout-loop-member-init t c =
    let y = type_table c.args.rows.now c.args.members.now c.args.entries.now in
    let l = c.requires.layable in
    let some : 0 < b_at y c.args.row = omega (arith, c.b_at-count.ensures) in
    let all : (c.a_at-first.result + c.b_at-count.result) - c.a_at-first.result ≡ c.b_at-count.result = omega arith in
    rw (all, c.layout-so_far.ensures, c.a_at-first.ensures, c.b_at-count.ensures)
    (placing_first y c.args.row l.sound l.fits c.requires.row_value (omega (arith, l.few)) some)

-- A member: its row is below the struct's.
pub struct_layout-inner_layout-requires : goal.struct_layout-inner_layout-requires
struct_layout-inner_layout-requires t c =
    let below = next_below c.loop-member.invariant (omega arith) in
    rw c.row_of-inner.ensures (omega (arith, below), inner_layable c.requires.layable _ below)

pub struct_layout-place-so_far-requires : goal.struct_layout-place-so_far-requires
struct_layout-place-so_far-requires t c =
    placeable c.loop-member.invariant (omega arith) c.inner_layout.result (rw (c.inner_layout.ensures, c.row_of-inner.ensures))

pub struct_layout-loop-member-preserved : goal.struct_layout-loop-member-preserved
struct_layout-loop-member-preserved t c =
    let end = c.a_at-first.result + c.b_at-count.result in
    let left : end - (c.loop-member.member + 1) ≡ end - c.loop-member.member - 1 = omega arith in
    rw (left, c.place-so_far.ensures)
    (placing_next c.loop-member.invariant (omega arith) c.inner_layout.result (rw (c.inner_layout.ensures, c.row_of-inner.ensures)))

pub struct_layout-returns : goal.struct_layout-returns
struct_layout-returns t c = c.close.ensures ∙ placing_last c.loop-member.invariant (omega arith)
