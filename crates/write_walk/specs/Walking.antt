-- What the functions of cycle.rt ask for and promise.
-- Assumes nothing.
use Rattle.std.specs.Prelude.{List, ◌≡◌, ℕ, ◌*◌, eqb, Option, Some}
use Rattle.rules.specs.TypeTable.{TypeTable, a_at, b_at, content_of}
use Rattle.rules.specs.Sizes.{size_of}
use Rattle.rules.specs.Encode as E
use Rattle.rules.specs.Encode.{Encoder}
use Rattle.rules.specs.Envelope.{write_content_of_eight_bytes}
use Rattle.rules.specs.Writer as R
use Rattle.ordinals.specs.Ordinals.{ordinal_is}
use Rattle.layout.specs.Ready.{Ready}
use Rattle.write_leaves.specs.declared.cursor.Cursor.{Cursor}
use Rattle.write_leaves.specs.Putting.{Wrote, Puts}
use Rattle.write_records.specs.declared.records.Opening.{Opening}
use Rattle.write_records.specs.Opening.{claimed_from, ObjectPut}

-- What content of an ordinal needs of a type table.
pub record PayloadReady (t : TypeTable) (sizes alignments : List ℕ) (depth : ℕ) (what : Option ℕ) : Type 0 where
  pub row_ready : (payload : ℕ) → what ≡ Some payload → Ready t sizes alignments depth payload

module _ (t : TypeTable) where
  -- The value of a row, so deep.
  abbrev pub write_row : (depth row : ℕ) → Encoder
  write_row depth row = R.encode_row t (R.levels t depth) row

  -- so many of them
  abbrev pub write_elements : (depth row count : ℕ) → Encoder
  write_elements depth row count = E.elements (λ i. write_row depth row) 0 count

  -- one of a table's envelopes, by its ordinal
  abbrev pub write_envelope : (depth row count ordinal : ℕ) → Encoder
  write_envelope depth row count ordinal =
      E.optional_envelope 8 (eqb ordinal count)
      (write_content_of_eight_bytes t (R.levels t depth) (content_of t (a_at t row) (b_at t row) ordinal))

  module _ (values out out' : List ℕ) (base depth : ℕ) where
    abbrev pub ValuePut : (at : ℕ) (c : Cursor) (row : ℕ) → Wrote → Type 0
    ValuePut at c row r = Puts values out out' (size_of t row) at base c r (write_row depth row)

    abbrev pub ElementsPut : (at : ℕ) (c : Cursor) (row count : ℕ) → Wrote → Type 0
    ElementsPut at c row count r = Puts values out out' (count * size_of t row) at base c r (write_elements depth row count)

    -- An object of an opening's count of values, from its claim on.
    abbrev pub ObjectOf : Opening → (row : ℕ) → Wrote → Type 0
    ObjectOf x row r = ObjectPut values out out' (x.count * size_of t row) base (claimed_from x) r (write_elements depth row x.count)

    -- The same of an object of one value.
    abbrev pub SingleOf : Opening → (row : ℕ) → Wrote → Type 0
    SingleOf x row r = ObjectPut values out out' (size_of t row) base (claimed_from x) r (write_row depth row)

    abbrev pub EnvelopesPut : (c : Cursor) (row count : ℕ) → Wrote → Type 0
    EnvelopesPut c row count r = Puts values out out' (count * 8) 0 base c r (E.elements (write_envelope depth row count) 1 count)

    abbrev pub ContentPut : (at : ℕ) (c : Cursor) → Option ℕ → Wrote → Type 0
    ContentPut at c what r = Puts values out out' 8 at base c r (write_content_of_eight_bytes t (R.levels t depth) (ordinal_is what))
