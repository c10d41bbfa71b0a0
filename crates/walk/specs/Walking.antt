-- What the functions of cycle.rt promise.
-- Assumes nothing.
use Rattle.std.specs.Prelude.{List, ℕ, ◌*◌, eqb, length, Option}
use Rattle.rules.specs.TypeTable.{TypeTable, a_at, b_at, content_of}
use Rattle.rules.specs.Sizes.{size_of}
use Rattle.rules.specs.Decode as D
use Rattle.rules.specs.Decode.{Message, Decoder}
use Rattle.rules.specs.Envelope.{content_of_eight_bytes}
use Rattle.rules.specs.Walk as W
use Rattle.ordinals.specs.Ordinals.{ordinal_is}
use Rattle.walk_leaves.specs.declared.cursor.Cursor.{Cursor}
use Rattle.walk_leaves.specs.Doing.{Walked}
use Rattle.walk_leaves.specs.Doing.{message, Did}

module _ (t : TypeTable) (bytes : List ℕ) (handles depth : ℕ) where
  abbrev pub here : Message
  here = message t bytes handles

  abbrev pub walk_row : (row : ℕ) → Decoder
  walk_row row = W.decode_row here (W.levels here depth) row

  -- one of a table's envelopes, by its ordinal
  abbrev pub envelope_at : (row count ordinal : ℕ) → Decoder
  envelope_at row count ordinal =
      D.optional_envelope here 8 (eqb ordinal count)
      (content_of_eight_bytes here (W.levels here depth) row (content_of t (a_at t row) (b_at t row) ordinal))

  module _ (values values' objects objects' : List ℕ) (at : ℕ) (c : Cursor) where
    abbrev pub ValueDid : (row : ℕ) → Walked → Type 0
    ValueDid row r =
        Did (length bytes) handles (size_of t row) values values' objects objects' c r (walk_row row at c.next c.handles)

    abbrev pub ElementsDid : (row count : ℕ) → Walked → Type 0
    ElementsDid row count r =
        Did (length bytes) handles (count * size_of t row) values values' objects objects' c r
        (D.elements (size_of t row) (λ i. walk_row row) 0 count at c.next c.handles)

    abbrev pub EnvelopesDid : (row count : ℕ) → Walked → Type 0
    EnvelopesDid row count r =
        Did (length bytes) handles (count * 8) values values' objects objects' c r (D.elements 8 (envelope_at row count) 1 count at c.next c.handles)

    abbrev pub ContentDid : (row : ℕ) → Option ℕ → Walked → Type 0
    ContentDid row what r =
        Did (length bytes) handles 7 values values' objects objects' c r
        (content_of_eight_bytes here (W.levels here depth) row (ordinal_is what) at c.next c.handles)
