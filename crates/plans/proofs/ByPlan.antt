-- Values by a plan, for whatever is done with each part: what is left of the parts of one, each with the fill after it.
-- Assumes nothing.
use Rattle.std.proofs.lemmas.List.{drop_more}
use Rattle.std.proofs.lemmas.List.Elements.{All-head, All-tail}
use mathlib.Core.List.{List, [], ◌∷◌}
use mathlib.Core.Path.{◌≡◌, sym}
use Prim.Native.Nat.{ℕ, ◌+◌, ◌≤◌, ◌<◌}
use native.Mathlib.Nat.{add_assoc}
use lib.ListN.{length, get_or, drop, drop_of_length-le}
use Rattle.rules.specs.declared.Fault.{Fault}
use Rattle.plans.specs.declared.Width.TheVariants.{Boolean}
use Rattle.plans.specs.declared.Part.{Part}
use Rattle.plans.specs.Plans.{width_bytes, width_row, width_layout, PartRuns, Runnable, part_fields, parts_size}
use Rattle.plans.proofs.Widths.{bytes_laid}
use Rattle.nesting.proofs.Items.{items_of, size_of_items, fields_size_lem}
use Rattle.nesting.proofs.Algebra.{Algebra, Doing}
use Rattle.nesting.proofs.Work.{run, WorkLeft, work_start, item_on, item_refused, work_end}

-- What is left of them, at a place; each goes by its width.
pub record PartsLeft {A : Algebra} (D : Doing A) (inner : ℕ → A.Part) (size at : ℕ) (whole : A.Part) (l : D.Lent) (c : D.Cursor) (l' : D.Lent) (d : D.Cursor) (left : List Part) (place : ℕ) : Type 0 where
  pub runs : Runnable left
  pub parts : WorkLeft D width_layout inner size at whole l c l' d (items_of (part_fields left)) place

pub parts_start : {A : Algebra} {D : Doing A} {inner : ℕ → A.Part} {at : ℕ} {whole : A.Part} {l : D.Lent} {c : D.Cursor} (parts : List Part)
    → whole ≡ run A width_layout inner (items_of (part_fields parts)) → Runnable parts → D.Ask (parts_size parts) at c
    → PartsLeft D inner (parts_size parts) at whole l c l c (drop 0 parts) at
parts_start parts e runs a = record { runs = runs; parts = work_start (items_of (part_fields parts)) a e (sym (fields_size_lem width_layout (part_fields parts))) }

module _ {A : Algebra} {D : Doing A} {inner : ℕ → A.Part} {size at : ℕ} {whole : A.Part} {l : D.Lent} {c : D.Cursor} {l' : D.Lent} {d : D.Cursor} {place : ℕ} where
  -- The next of them, as code reads it.
  pub parts_open : (parts : List Part) (i : ℕ) → PartsLeft D inner size at whole l c l' d (drop i parts) place → i < length parts
      → PartsLeft D inner size at whole l c l' d (get_or parts i (record { width = Boolean; fill = 0 }) ∷ drop (i + 1) parts) place
  parts_open parts i p h = rw (drop_more parts i (record { width = Boolean; fill = 0 }) h) at p

  pub parts_end : (parts : List Part) (i : ℕ) → PartsLeft D inner size at whole l c l' d (drop i parts) place → length parts ≤ i → D.Did size at l l' c (D.on d) whole
  unfolding items_of
  parts_end parts i p h =
      let q : PartsLeft D inner size at whole l c l' d [] place = rw (drop_of_length-le parts h) at p in
      work_end q.parts

  module _ {part : Part} {rest : List Part} (p : PartsLeft D inner size at whole l c l' d (part ∷ rest) place) where
    pub part_allowed : PartRuns part
    part_allowed = All-head PartRuns part rest p.runs

    -- with its fill
    pub part_asks : D.Ask (width_bytes part.width + part.fill) place d
    unfolding items_of size_of_items
    part_asks =
        let later = size_of_items width_layout (items_of (part_fields rest)) in
        D.laws.ask_first (width_bytes part.width + part.fill) later (rw (add_assoc (width_bytes part.width) part.fill later, ← (bytes_laid part.width part_allowed)) p.parts.rest.asks)

    module _ {l'' : D.Lent} {r : D.Answer} (did : D.Did (width_bytes part.width) place l' l'' d r (inner (width_row part.width))) where
      laid : D.Did (width_layout (width_row part.width)).size place l' l'' d r (inner (width_row part.width))
      laid = rw (bytes_laid part.width part_allowed) did

      pub part_refused : {f : Fault} → r ≡ D.refused f → D.Did size at l l'' c (D.refused f) whole
      unfolding items_of
      part_refused z = item_refused p.parts (rw z at laid)

      module _ {e : D.Cursor} (z : r ≡ D.on e) {taken : ℕ} (s : taken ≡ width_bytes part.width) {l''' : D.Lent} {filled : D.Answer}
          (n : D.Did part.fill (place + taken) l'' l''' e filled (A.fill part.fill)) where
        gone : taken ≡ (width_layout (width_row part.width)).size
        gone = rw (bytes_laid part.width part_allowed) s

        pub fill_refused : {f : Fault} → filled ≡ D.refused f → D.Did size at l l''' c (D.refused f) whole
        unfolding items_of
        fill_refused w = item_refused (item_on p.parts (rw z at laid)) (rw (w, gone) at n)

        pub part_on : {g : D.Cursor} → filled ≡ D.on g → PartsLeft D inner size at whole l c l''' g rest (place + taken + part.fill)
        unfolding items_of
        part_on w = record { runs = All-tail PartRuns part rest p.runs; parts = rw gone (item_on (item_on p.parts (rw z at laid)) (rw (w, gone) at n)) }
