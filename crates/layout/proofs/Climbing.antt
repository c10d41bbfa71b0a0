-- Going up the rows of a type table, judging each and keeping its layout: what holds before each row, and at the top.
-- Assumes nothing.
use Rattle.std.specs.Prelude.{Result, Ok, Err, is_ok}
use mathlib.Core.Bool.{true, false}
use mathlib.Core.List.{List}
use mathlib.Core.Path.{◌≡◌, refl, ap, sym, ◌∙◌}
use Prim.Native.Nat.{ℕ, zero, suc, ◌+◌, ◌-◌, ◌≤◌, ◌<◌}
use native.Mathlib.Nat.{not-suc-le-zero, add-zero}
use native.Mathlib.Numerals.{add-one, sub-one}
use native.Mathlib.Omega.{arith}
use lib.ListN.{get_or}
use borrow.Author.Count.{below_none}
use Rattle.rules.specs.declared.Fault.{Fault}
use Rattle.rules.specs.declared.Place.TheVariants.{Row}
use Rattle.rules.specs.declared.Layout.{Layout}
use Rattle.rules.specs.Refusals.{table_not_sound, fault, accepted, refused, require}
use Rattle.rules.specs.TypeTable.{TypeTable, row_count}
use Rattle.rules.specs.Sizes.{layout_of}
use Rattle.rules.specs.Sound.{lists_whole, row_sound, rows_sound, soundness}
use Rattle.layout.specs.Answers.{kept_sizes, kept_alignments, given_if_sound}
use Rattle.layout.specs.Kept.{SoundBelow, Zeroed, KeptBelow, Climbing, SameFrom, Climbed, judged}
use Rattle.layout.proofs.Rows.{lists_whole_lem}
use Rattle.layout.proofs.Bounds.{Bounded, alignment_bounds, row_bounded, bounded}
use Rattle.layout.proofs.Keeping.{ZerosFrom, part_all, zeros_first, zeros_same, judged_laid, judged_bad}

-- On the way: the rows below `row` are sound and kept, and the arrays are as they were from there on.
pub record Going (t : TypeTable) (row : ℕ) (sizes-before alignments-before sizes alignments : List ℕ) : Type 0 where
  pub lists : lists_whole t ≡ true
  pub within : row ≤ row_count t
  pub kept : KeptBelow t row sizes alignments
  pub size_rest : SameFrom row sizes-before sizes
  pub alignment_rest : SameFrom row alignments-before alignments

-- Rows that are sound leave the verdict to those after them.
rows_pass : (t : TypeTable) (row count : ℕ) (passed : ℕ) → SoundBelow t (row + passed) → rows_sound t row (passed + count) ≡ rows_sound t (row + passed) count
unfolding rows_sound
rows_pass t row count zero sound = let a : 0 + count ≡ count = omega arith in rw (a, add-zero row)
rows_pass t row count (suc passed) sound =
    let a : suc passed + count ≡ suc (passed + count) = omega arith in
    let b : row + suc passed ≡ suc row + passed = omega arith in
    rw (a, sound row (omega arith), b) (rows_pass t (suc row) count passed (λ r h. sound r (omega arith)))

rows_step : (t : TypeTable) (row count : ℕ) → 0 < count
    → rows_sound t row count ≡ require (row_sound t row) (fault table_not_sound (Row row)) (rows_sound t (row + 1) (count - 1))
unfolding rows_sound
rows_step t row zero h = absurd (not-suc-le-zero h)
rows_step t row (suc count) h = rw (add-one row, sub-one (suc count))

rows_none : (t : TypeTable) (row : ℕ) → rows_sound t row 0 ≡ accepted tt
unfolding rows_sound
rows_none t row = refl

rest_verdict : (t : TypeTable) (row : ℕ) → lists_whole t ≡ true → row ≤ row_count t → SoundBelow t row → soundness t ≡ rows_sound t row (row_count t - row)
unfolding soundness
rest_verdict t row e h sound =
    let all : row_count t ≡ row + (row_count t - row) = omega arith in
    let from : 0 + row ≡ row = omega arith in
    rw e (ap (rows_sound t 0) all ∙ rows_pass t 0 (row_count t - row) row (λ r l. sound r (omega arith)) ∙ rw from)

-- A table whose rows are all sound is sound.
pub all_sound : (t : TypeTable) → lists_whole t ≡ true → SoundBelow t (row_count t) → soundness t ≡ accepted tt
all_sound t e sound =
    let none : row_count t - row_count t ≡ 0 = omega arith in
    rest_verdict t (row_count t) e (omega arith) sound ∙ rw none (rows_none t (row_count t))

pub lists_refused : (t : TypeTable) → lists_whole t ≡ false → soundness t ≡ refused (fault table_not_sound (Row 256))
unfolding soundness
lists_refused t e = rw e

pub kept_none : (t : TypeTable) (sizes alignments : List ℕ) → KeptBelow t 0 sizes alignments
kept_none t sizes alignments =
    record {
      sound = below_none (λ x. row_sound t x ≡ true);
      size = below_none (λ x. get_or sizes x 0 ≡ (layout_of t x).size);
      alignment = below_none (λ x. get_or alignments x 0 ≡ (layout_of t x).alignment);
    }

-- Before any row.
pub climbing_first : (t : TypeTable) {sizes alignments : List ℕ} → Zeroed sizes → Zeroed alignments → Climbing t 0 sizes alignments
climbing_first t {sizes} {alignments} no-sizes no-alignments =
    record {
      within = omega arith;
      kept = kept_none t sizes alignments;
      sizes_whole = (zeros_first no-sizes).whole;
      alignments_whole = (zeros_first no-alignments).whole;
    }

module _
    {t : TypeTable}
    {row : ℕ}
    {sizes-before alignments-before sizes alignments : List ℕ}
    (g : Going t row sizes-before alignments-before sizes alignments)
  where
    pub few_rows : row ≤ 256
    few_rows = omega (arith, g.within, (lists_whole_lem t g.lists).rows)

    verdict : soundness t ≡ rows_sound t row (row_count t - row)
    verdict = rest_verdict t row g.lists g.within g.kept.sound

    module _ (h : row < row_count t) where
      pub row_kept : row < 256
      row_kept = omega (arith, (lists_whole_lem t g.lists).rows)

      module _ (r : Result Layout Fault) (e : r ≡ judged t row) where
        pub row_refused : (f : Fault) → r ≡ Err f → soundness t ≡ refused f
        row_refused f bad =
            let b = judged_bad t row r f e bad in
            verdict ∙ rows_step t row (row_count t - row) (omega arith) ∙ rw (b.0, b.1)

        module _ (l : Layout) (laid : r ≡ Ok l) where
          -- The row's layout fits the lists.
          pub row_fits_lists : (l.size ≤ 65528) × (l.alignment ≤ 8)
          row_fits_lists =
              let sound = judged_laid t row r l e laid in
              let b : Bounded l = rw sound.1 (row_bounded t row sound.0 (bounded t row g.kept.sound)) in
              (b.most, (alignment_bounds b.alignment).1)

    -- At the top.
    pub climbed_sound : row_count t ≤ row → Climbed t (Ok tt) sizes-before alignments-before sizes alignments
    climbed_sound h =
        let top : row ≡ row_count t = omega (arith, g.within) in
        let last : Going t (row_count t) sizes-before alignments-before sizes alignments = rw top at g in
        record {
          verdict = sym (all_sound t g.lists last.kept.sound);
          kept = λ sound. last.kept;
          size_rest = λ sound. last.size_rest;
          alignment_rest = λ sound. last.alignment_rest;
        }

-- A refusal on the way.
never_sound : {A : Type 0} (t : TypeTable) (f : Fault) → soundness t ≡ refused f → soundness t ≡ accepted tt → A
never_sound t f bad sound = absurd (let z : ◌≡◌ {A = ℕ} 0 1 = cc in omega arith)

pub climbed_refused : (t : TypeTable) (f : Fault) {sizes-before alignments-before sizes alignments : List ℕ}
    → soundness t ≡ refused f → Climbed t (Err f) sizes-before alignments-before sizes alignments
climbed_refused t f bad =
    record { verdict = sym bad; kept = never_sound t f bad; size_rest = never_sound t f bad; alignment_rest = never_sound t f bad }

-- Where there were zeros past the rows, the arrays are what is kept of a sound table.
pub climbed_kept : {t : TypeTable} {r : Result (Unit {0}) Fault} {sizes-before alignments-before sizes alignments : List ℕ}
    → Climbed t r sizes-before alignments-before sizes alignments → soundness t ≡ accepted tt
    → (first : ℕ) → first ≤ row_count t → ZerosFrom first sizes-before → ZerosFrom first alignments-before
    → (sizes ≡ kept_sizes t) × (alignments ≡ kept_alignments t)
unfolding kept_sizes kept_alignments
climbed_kept {t} {r} {sizes-before} {alignments-before} {sizes} {alignments} c sound first h z w = (
  part_all (λ l. l.size) t sizes (c.kept sound).size (zeros_same first (row_count t) sizes-before sizes h z (c.size_rest sound)),
  part_all (λ l. l.alignment) t alignments (c.kept sound).alignment (zeros_same first (row_count t) alignments-before alignments h w (c.alignment_rest sound)),
)

-- What is given of a sound table, where nothing was kept before.
pub given_kept : {t : TypeTable} {r : Result (Unit {0}) Fault} {sizes-before alignments-before sizes alignments : List ℕ}
    → Climbed t r sizes-before alignments-before sizes alignments → is_ok r ≡ true → Zeroed sizes-before → Zeroed alignments-before
    → (sizes ≡ given_if_sound t (kept_sizes t) sizes-before) × (alignments ≡ given_if_sound t (kept_alignments t) alignments-before)
given_kept {t} {r = Ok u} c ok no-sizes no-alignments =
    let sound : soundness t ≡ accepted tt = sym c.verdict in
    rw sound (climbed_kept c sound 0 (omega arith) (zeros_first no-sizes) (zeros_first no-alignments))
given_kept {t} {r = Err f} c ok no-sizes no-alignments = (cc, cc)
