-- Values by a plan: a law for each way that a function of planned.rt ends, and what is left of a value's parts and of a run of
-- values.
-- Assumes nothing.
use Rattle.std.specs.Prelude.{Ok}
use mathlib.Core.Bool.{true}
use mathlib.Core.List.{List, [], ◌∷◌}
use mathlib.Core.Path.{◌≡◌, refl, sym}
use Prim.Native.Nat.{ℕ, ◌*◌, ◌≤◌}
use native.Mathlib.Omega.{arith}
use borrow.Author.Tests.{ne_eqb}
use lib.ListN.{length}
use Rattle.rules.specs.Bytes.{word}
use Rattle.rules.specs.Decode as D
use Rattle.rules.specs.Decode.{Message, Decoder}
use Rattle.rules.specs.Envelope.{decode_word}
use Rattle.rules.specs.Sound.{width_allowed}
use Rattle.layout.proofs.ByKind.{width_positive}
use Rattle.words.proofs.Stores.{sets_past}
use Rattle.plans.specs.declared.Width.{Width}
use Rattle.plans.specs.declared.Width.TheVariants.{Boolean, Bytes}
use Rattle.plans.specs.declared.Part.{Part}
use Rattle.plans.specs.Plans.{width_bytes, width_row, runnable, parts_size}
use Rattle.plans.proofs.ByPlan as Shared
use Rattle.plans.proofs.Widths.{bytes_allowed, bytes_least}
use Rattle.nesting.proofs.Runs.{RunLeft}
use Rattle.walk_leaves.specs.declared.cursor.Cursor.{Cursor}
use Rattle.walk_leaves.specs.Doing.{Walked}
use Rattle.walk_leaves.specs.Doing.{message, gave_one}
use Rattle.walk_leaves.specs.Parts.{bool_at, DidValues, DidNeither}
use Rattle.walk_leaves.specs.Planning.{width_at, parts_at, DidAsked}
use Rattle.walk_leaves.proofs.InLine.{number_given}
use Rattle.walk_leaves.proofs.Reading.{decoders_grouped, reading_any}
use Rattle.walk_leaves.proofs.Steps.{did_nothing, did_more}

-- A number of a width that is allowed, at the row that stands for it.
pub number_row : (m : Message) (bytes : ℕ) → width_allowed bytes ≡ true → width_at m bytes ≡ decode_word m bytes
number_row m bytes allowed = rw (ne_eqb bytes 0 (λ z. omega (arith, width_positive bytes allowed)))

-- ---- one part, and fill

module _ (bytes values : List ℕ) {width : Width} (at : ℕ) (c : Cursor) where
  pub part_bool : {values' : List ℕ} {r : Walked} → width ≡ Boolean → DidValues bytes values values' 1 at c r bool_at → DidValues bytes values values' 1 at c r (λ m. width_at m (width_row width))
  part_bool e d = rw e d

  module _ {count : ℕ} (e : width ≡ Bytes count) (runs : runnable width ≡ true) where
    pub part_number : {values' : List ℕ} {r : Walked} → DidValues bytes values values' 1 at c r (λ m. decode_word m count) → DidValues bytes values values' 1 at c r (λ m. width_at m (width_row width))
    part_number d t objects handles free held = rw (e, number_row (message t bytes handles) count (bytes_allowed e runs)) (d t objects handles free held)

    pub part_past : length values ≤ c.values → DidValues bytes values values 1 at c (Ok (gave_one c)) (λ m. width_at m (width_row width))
    part_past h = part_number (number_given bytes values count at c refl (sym (sets_past values c.values (word bytes at count ∷ []) h)) refl)

pub filled_none : (bytes : List ℕ) (at count : ℕ) (c : Cursor) → count ≡ 0 → DidNeither bytes 0 at c (Ok c) (λ m. D.fill m count)
filled_none bytes at count c e t values objects handles free held =
    rw (e, (decoders_grouped (message t bytes handles)).no_fill) (did_nothing free held)

-- ---- the parts of a value, and a run of values

-- What is left of them, at a place; the whole began at the cursor `c`.
abbrev pub PartsLeft : (bytes : List ℕ) (whole : List Part) (at : ℕ) (v : List ℕ) (c : Cursor) (v' : List ℕ) (d : Cursor) (left : List Part) (place : ℕ) → Type 0
PartsLeft bytes whole at = Shared.PartsLeft (reading_any bytes) (λ width m. width_at m width) (parts_size whole) at (parts_at whole)

abbrev pub ValuesLeft : (bytes : List ℕ) (parts : List Part) (size count at : ℕ) (v : List ℕ) (c : Cursor) (v' : List ℕ) (d : Cursor) (left place : ℕ) → Type 0
ValuesLeft bytes parts size count at v c v' d left place =
    RunLeft (reading_any bytes) (parts_size parts) (λ k. parts_at parts) (count * size) at (λ m. D.elements size (λ i. parts_at parts m) 0 count) v c v' d 0 left place

-- The part that is next, and its fill, done wherever they stand.
module _ (bytes : List ℕ) {size at : ℕ} {whole : Message → Decoder} {v : List ℕ} {c : Cursor} {v' : List ℕ} {d : Cursor} {part : Part} {rest : List Part} {place : ℕ}
    (p : Shared.PartsLeft (reading_any bytes) (λ width m. width_at m width) size at whole v c v' d (part ∷ rest) place) where
  pub part_given : {v'' : List ℕ} {r : Walked} → DidValues bytes v' v'' 1 place d r (λ m. width_at m (width_row part.width))
      → DidAsked bytes v' v'' (width_bytes part.width) place d r (λ m. width_at m (width_row part.width))
  part_given did t objects handles a = did_more (width_bytes part.width) (bytes_least part.width (Shared.part_allowed p)) (did t objects handles a.free a.held)

  pub fill_given : {v'' : List ℕ} {stop : ℕ} {e : Cursor} {r : Walked} → DidNeither bytes 0 stop e r (λ m. D.fill m part.fill) → DidAsked bytes v'' v'' part.fill stop e r (λ m. D.fill m part.fill)
  fill_given {v''} did t objects handles a = did_more part.fill (omega arith) (did t v'' objects handles a.free a.held)
