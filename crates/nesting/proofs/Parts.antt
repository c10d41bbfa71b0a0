-- The member or element that comes next in a struct or an array of a sound type table: its row, and where it stops and the next one starts.
-- Assumes nothing.
use Rattle.std.specs.Prelude.{if◌then◌else◌}
use mathlib.Core.Bool.{Bool, true, false}
use mathlib.Core.List.{List, ◌∷◌}
use mathlib.Core.Path.{◌≡◌, refl, sym, ◌∙◌}
use Prim.Native.Nat.{ℕ, ◌+◌, ◌-◌, ◌≤◌, ◌<◌}
use native.Mathlib.Omega.{arith}
use borrow.Author.Tests.{eq-eqb, ne_eqb, eqb-true, eqb-false}
use lib.Dec.{eqb}
use lib.ListN.{get_or}
use Rattle.rules.specs.Refusals.{accepted}
use Rattle.rules.specs.TypeTable.{TypeTable, row_count, kind_at, a_at, b_at, row_of, member_rows}
use Rattle.rules.specs.Sizes.{field, layout_of, size_of, next_alignment}
use Rattle.rules.specs.Sound.{soundness}
use Rattle.layout.specs.Answers.{kept_alignments}
use Rattle.layout.proofs.Rows.{struct_fits}
use Rattle.layout.proofs.Bounds.{alignment_bounds}
use Rattle.layout.proofs.Structs.{round_least}
use Rattle.layout.proofs.Keeping.{kept_alignment, sound_bounded}
use Rattle.nesting.specs.declared.Level.{Level}
use Rattle.nesting.specs.Nesting.{next_offset, has_parts, next_part, next_place}
use Rattle.layout.proofs.ByKind.{fits_kind, array_below}
use Rattle.nesting.proofs.Fields.{alignment_last, alignment_next}
use Rattle.nesting.proofs.Left.{advanced, fields_left, next_element, next_member}
use Rattle.nesting.proofs.Starts.{Parts, members, elements, parts_of_lem, member_below}

module _ (t : TypeTable) (alignments : List ℕ) (sound : soundness t ≡ accepted tt) (kept : alignments ≡ kept_alignments t) where
  alignment_kept : (row : ℕ) → row < row_count t → (get_or alignments row 0 ≡ (layout_of t row).alignment) × (0 < get_or alignments row 0)
  alignment_kept row h =
      let same : get_or alignments row 0 ≡ (layout_of t row).alignment = rw kept (kept_alignment t sound row h) in
      (same, omega (arith, same, (alignment_bounds (sound_bounded t sound row h).alignment).0))

  module _ (l : Level) (in_use : l.row < row_count t) (some : l.done < b_at t l.row) where
    -- What is known of the next one, which starts at a place: it stops where it must, and what is left follows it.
    pub record NextPart (place : ℕ) : Type 0 where
      pub below : next_part t.rows t.members l < l.row
      pub on : place + size_of t (next_part t.rows t.members l) ≤ next_place t.rows t.members l alignments (place + size_of t (next_part t.rows t.members l))
      pub fields : fields_left t l place
          ≡ field (next_part t.rows t.members l) (next_place t.rows t.members l alignments (place + size_of t (next_part t.rows t.members l)) - (place + size_of t (next_part t.rows t.members l)))
          ∷ fields_left t (advanced l) (next_place t.rows t.members l alignments (place + size_of t (next_part t.rows t.members l)))

    next_of_elements : (place : ℕ) → kind_at t l.row ≡ 4 → NextPart place
    next_of_elements place k =
        let other : kind_at t l.row ≡ 7 → ⊥ = λ e. omega (arith, k, e) in
        let part : next_part t.rows t.members l ≡ a_at t l.row = rw (ne_eqb _ 7 other) in
        let stop = place + size_of t (a_at t l.row) in
        let next : next_place t.rows t.members l alignments stop ≡ stop = rw (eq-eqb _ 4 k) in
        let none : stop - stop ≡ 0 = omega arith in
        record {
          below = rw part (array_below t l.row sound in_use k);
          on = rw (part, next) (omega arith);
          fields = rw (part, next, none) (next_element t l place stop other some);
        }

    -- What the end of the next member is rounded up to.
    next_alignment_lem : kind_at t l.row ≡ 7
        → (get_or alignments (if eqb (a_at t l.row + l.done + 1) (a_at t l.row + b_at t l.row) then l.row else row_of t (a_at t l.row + l.done + 1)) 0
        ≡ next_alignment (layout_of t) (layout_of t l.row).alignment
        (member_rows t (a_at t l.row + l.done + 1) (a_at t l.row + b_at t l.row - (a_at t l.row + l.done + 1))))
        × (0 < get_or alignments (if eqb (a_at t l.row + l.done + 1) (a_at t l.row + b_at t l.row) then l.row else row_of t (a_at t l.row + l.done + 1)) 0)
    next_alignment_lem k = go (eqb (member + 1) end) refl
      where
        member : ℕ
        member = a_at t l.row + l.done

        end : ℕ
        end = a_at t l.row + b_at t l.row

        Right : (last : Bool) → Type 0
        Right last =
            (get_or alignments (if last then l.row else row_of t (member + 1)) 0
            ≡ next_alignment (layout_of t) (layout_of t l.row).alignment (member_rows t (member + 1) (end - (member + 1))))
            × (0 < get_or alignments (if last then l.row else row_of t (member + 1)) 0)

        go : (last : Bool) → eqb (member + 1) end ≡ last → Right last
        go true e =
            let own = alignment_kept l.row in_use in
            (own.0 ∙ sym (alignment_last t (layout_of t) (layout_of t l.row).alignment member end (eqb-true _ _ e)), own.1)
        go false e =
            let more : member + 1 < end = (let n = eqb-false (member + 1) end e in omega arith) in
            let count : member + 1 ≡ a_at t l.row + (l.done + 1) = omega arith in
            let fits = (struct_fits t l.row (a_at t l.row) (b_at t l.row) (fits_kind t l.row sound in_use k)).members in
            let under : row_of t (member + 1) < l.row = rw count (member_below t l.row (a_at t l.row) (b_at t l.row) 1 (l.done + 1) fits (omega arith)) in
            let own = alignment_kept (row_of t (member + 1)) (omega arith) in
            (own.0 ∙ sym (alignment_next t (layout_of t) (layout_of t l.row).alignment member end more), own.1)

    next_of_members : (place : ℕ) → l.at ≤ place → kind_at t l.row ≡ 7 → NextPart place
    next_of_members place from k =
        let member = a_at t l.row + l.done in
        let other : kind_at t l.row ≡ 4 → ⊥ = λ e. omega (arith, k, e) in
        let part : next_part t.rows t.members l ≡ row_of t member = rw (eq-eqb _ 7 k) in
        let stop = place + size_of t (row_of t member) in
        let next : next_place t.rows t.members l alignments stop ≡ l.at + next_offset t.members alignments l.row member (a_at t l.row + b_at t l.row) (stop - l.at) = rw (ne_eqb _ 4 other) in
        let aligned = next_alignment_lem k in
        let least = round_least (stop - l.at) aligned.1 in
        let fits = (struct_fits t l.row (a_at t l.row) (b_at t l.row) (fits_kind t l.row sound in_use k)).members in
        let on : stop ≤ next_place t.rows t.members l alignments stop = rw next (omega (arith, least, from)) in
        record {
          below = rw part (member_below t l.row (a_at t l.row) (b_at t l.row) 1 l.done fits some);
          on = rw part on;
          fields = rw part (next_member t l place stop (next_place t.rows t.members l alignments stop) k some from refl on (rw (next, ← aligned.0) (omega arith)));
        }

    pub next_of : (place : ℕ) → l.at ≤ place → has_parts t.rows l.row ≡ true → NextPart place
    next_of place from h = go (parts_of_lem t.rows l.row h)
      where
        go : Parts t.rows l.row → NextPart place
        go (members k b) = next_of_members place from k
        go (elements k) = next_of_elements place k
