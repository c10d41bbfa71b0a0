-- The numbers that are kept of a type table: which they are at the top, and what a reader of them learns.
-- Assumes nothing.
use Rattle.std.specs.Prelude.{if◌then◌else◌, Result, Ok, Err}
use mathlib.Core.Bool.{Bool, true, false}
use mathlib.Core.List.{List}
use mathlib.Core.Path.{◌≡◌, refl, ap, sym, ◌∙◌}
use Prim.Native.Nat.{ℕ, zero, suc, ◌+◌, ◌≤◌, ◌<◌}
use native.Mathlib.Nat.{not-suc-le-zero, add-zero, zero-add}
use native.Mathlib.Omega.{arith}
use lib.Dec.{ltb}
use lib.ListN.{get_or, length, replicate, length-replicate, get_or-eq_default}
use lib.Seq.{ext_get_or}
use borrow.Author.Tests.{lt-ltb, le-ltb, ltb-true, ltb-false}
use Rattle.rules.specs.declared.Fault.{Fault}
use Rattle.rules.specs.declared.Layout.{Layout}
use Rattle.rules.specs.Refusals.{accepted}
use Rattle.rules.specs.TypeTable.{TypeTable, row_count}
use Rattle.rules.specs.Sizes.{layout, layout_of, size_of}
use Rattle.rules.specs.Sound.{row_sound, soundness}
use Rattle.layout.specs.Answers.{kept_from, kept_sizes, kept_alignments, given_if_sound}
use Rattle.layout.specs.Kept.{PartBelow, Zeroed, Layable, SameFrom, refused_at, judged_if, judged}
use Rattle.layout.proofs.Rows.{lists_whole_lem, sound_lists, sound_rows, sound_fits}
use Rattle.layout.proofs.Bounds.{Bounded, bounded}

-- ---- one list

-- Of 256 numbers those from a row on are 0.
pub record ZerosFrom (bound : ℕ) (list : List ℕ) : Type 0 where
  pub whole : length list ≡ 256
  pub zero : (row : ℕ) → bound ≤ row → get_or list row 0 ≡ 0

module _ (part : Layout → ℕ) (t : TypeTable) where
  -- What is kept in the place of a row.
  abbrev kept : (row : ℕ) → ℕ
  kept row = if ltb row (row_count t) then part (layout_of t row) else 0

  kept_length : (row count : ℕ) → length (kept_from part t row count) ≡ count
  unfolding kept_from
  kept_length row zero = refl
  kept_length row (suc count) = ap suc (kept_length (suc row) count)

  kept_get : (row count i : ℕ) → i < count → get_or (kept_from part t row count) i 0 ≡ kept (row + i)
  unfolding kept_from
  kept_get row zero i h = absurd (not-suc-le-zero h)
  kept_get row (suc count) zero h = rw add-zero
  kept_get row (suc count) (suc i) h =
      let same : suc row + i ≡ row + suc i = omega arith in
      kept_get (suc row) count i (omega arith) ∙ ap kept same

  part_case : (list : List ℕ) → PartBelow part t (row_count t) list → ZerosFrom (row_count t) list
      → (row : ℕ) (in_use : Bool) → ltb row (row_count t) ≡ in_use → get_or list row 0 ≡ kept row
  part_case list p z row true e = p row (ltb-true row (row_count t) e) ∙ rw e
  part_case list p z row false e = z.zero row (ltb-false row (row_count t) e) ∙ rw e

  -- Every row kept, and zeros past them: the whole list.
  pub part_all : (list : List ℕ) → PartBelow part t (row_count t) list → ZerosFrom (row_count t) list → list ≡ kept_from part t 0 256
  part_all list p z =
      ext_get_or 0 list (kept_from part t 0 256) (z.whole ∙ sym (kept_length 0 256))
      (λ i h. part_case list p z i (ltb i (row_count t)) refl ∙ sym (kept_get 0 256 i (omega (arith, z.whole)) ∙ ap kept (zero-add i)))

  -- Past the rows of a table zeros are kept.
  zeros_case : (row : ℕ) (inside : Bool) → ltb row 256 ≡ inside → row_count t ≤ row → get_or (kept_from part t 0 256) row 0 ≡ 0
  zeros_case row true e h = kept_get 0 256 row (ltb-true row 256 e) ∙ ap kept (zero-add row) ∙ rw (le-ltb row (row_count t) h)
  zeros_case row false e h = get_or-eq_default (kept_from part t 0 256) 0 (omega (arith, kept_length 0 256, ltb-false row 256 e))

  pub zeros_kept : ZerosFrom (row_count t) (kept_from part t 0 256)
  zeros_kept = record { whole = kept_length 0 256; zero = λ row h. zeros_case row (ltb row 256) refl h }

-- Past the rows that are kept stand zeros.
zeros_get : (n row : ℕ) → get_or (replicate {A = ℕ} n 0) row 0 ≡ 0
zeros_get zero row = refl
zeros_get (suc n) zero = refl
zeros_get (suc n) (suc row) = zeros_get n row

pub zeros_first : {list : List ℕ} → Zeroed list → ZerosFrom 0 list
zeros_first e =
    record {
      whole = ap length e ∙ length-replicate {A = ℕ} 256 0;
      zero = λ row h. ap (λ (l : List ℕ). get_or l row 0) e ∙ zeros_get 256 row;
    }

-- What is left as it was keeps its zeros.
pub zeros_same : (first bound : ℕ) (before list : List ℕ) → first ≤ bound → ZerosFrom first before → SameFrom bound before list → ZerosFrom bound list
zeros_same first bound before list h z s =
    record { whole = s.whole; zero = λ r l. s.same r l ∙ z.zero r (omega arith) }

-- ---- a row below the bound

-- With a row, each row below it can be laid out.
pub inner_layable : {t : TypeTable} {kept row : ℕ} {sizes alignments : List ℕ} → Layable t kept row sizes alignments
    → (inner : ℕ) → inner < row → Layable t kept inner sizes alignments
inner_layable {t} l inner h =
    record {
      below = l.below;
      sound = λ r b. l.sound r (omega arith);
      fits = sound_fits t inner (l.sound inner h);
      few = l.few;
    }

-- What the judgement of a row says.
judged_laid_case : (sound : Bool) (row : ℕ) (whole l : Layout) → judged_if sound row whole ≡ Ok l → (sound ≡ true) × (l ≡ whole)
judged_laid_case true row whole l e = (refl, cc)
judged_laid_case false row whole l e = (cc, cc)

pub judged_laid : (t : TypeTable) (row : ℕ) (r : Result Layout Fault) (l : Layout) → r ≡ judged t row → r ≡ Ok l
    → (row_sound t row ≡ true) × (l ≡ layout_of t row)
judged_laid t row r l e q = judged_laid_case (row_sound t row) row (layout_of t row) l (sym e ∙ q)

judged_bad_case : (sound : Bool) (row : ℕ) (whole : Layout) (f : Fault) → judged_if sound row whole ≡ Err f → (sound ≡ false) × (f ≡ refused_at row)
judged_bad_case true row whole f e = (cc, cc)
judged_bad_case false row whole f e = (refl, cc)

pub judged_bad : (t : TypeTable) (row : ℕ) (r : Result Layout Fault) (f : Fault) → r ≡ judged t row → r ≡ Err f
    → (row_sound t row ≡ false) × (f ≡ refused_at row)
judged_bad t row r f e q = judged_bad_case (row_sound t row) row (layout_of t row) f (sym e ∙ q)

-- ---- for who reads what was prepared

-- A lent array after a sound table was prepared.
pub given_sound : (t : TypeTable) (given before : List ℕ) {after : List ℕ} → soundness t ≡ accepted tt → after ≡ given_if_sound t given before → after ≡ given
given_sound t given before sound e = rw sound at e

-- The kept numbers of a row in use are its size and its alignment, within their bounds.
module _ (t : TypeTable) (sound : soundness t ≡ accepted tt) (row : ℕ) (h : row < row_count t) where
  pub few_rows : row < 256
  few_rows = omega (arith, (lists_whole_lem t (sound_lists t sound)).rows)

  kept_part : (part : Layout → ℕ) → get_or (kept_from part t 0 256) row 0 ≡ part (layout_of t row)
  kept_part part =
      kept_get part t 0 256 row few_rows
      ∙ ap (kept part t) (zero-add row)
      ∙ rw (lt-ltb row (row_count t) h)

  pub kept_size : get_or (kept_sizes t) row 0 ≡ size_of t row
  unfolding kept_sizes
  kept_size = kept_part (λ l. l.size)

  pub kept_alignment : get_or (kept_alignments t) row 0 ≡ (layout_of t row).alignment
  unfolding kept_alignments
  kept_alignment = kept_part (λ l. l.alignment)

  pub sound_bounded : Bounded (layout_of t row)
  sound_bounded = bounded t (row_count t) (sound_rows t sound) row h

  pub kept_layout : {sizes alignments : List ℕ} → sizes ≡ kept_sizes t → alignments ≡ kept_alignments t
      → layout (get_or sizes row 0) (get_or alignments row 0) ≡ layout_of t row
  kept_layout e f = rw (e, f, kept_size, kept_alignment)
