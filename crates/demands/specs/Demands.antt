-- The customer's demands 2 and 3, of the public functions as their promises stand (Promises.antt); demand 1: Demand1.antt. They hold
-- for every type table and root: where the table is not sound or the root not allowed, nothing is accepted or written. A message
-- is a list of bytes, `Octets`. Their proofs: proofs/Demands.antt.
use Rattle.std.specs.Prelude.{List, ◌++◌, ◌↔◌, ◌≡◌, ℕ, ◌+◌, ◌≤◌, length, take, drop, Ok, Result}
use Rattle.rules.specs.Bytes.{Octets}
use Rattle.rules.specs.TypeTable.{type_table}
use Rattle.rules.specs.Trace.{Event, object_list, present_handles, unknown_handles, unknown_out_of_line, Tiles, FillsAreZero, unknown_lengths, PresentHandlesAreOnes}
use Rattle.rules.specs.Envelope.{UnknownClaimsFit}
use Rattle.rules.specs.Decode.{trace_of}
use Rattle.rules.specs.Answers.{walk}
use Rattle.reader.specs.declared.Lengths.{Lengths}
use Rattle.walk_leaves.specs.Doing as Doing
use Rattle.demands.specs.Promises.{Checks, ReadsValues, ReadsObjects, Reads, Writes}
use Rattle.rules.specs.declared.Fault.{Fault}
use Rattle.writer.specs.declared.Sizes.{Sizes}

module _ (rows members entries : List ℕ) (root : ℕ) where
  -- ---- demand 2

  -- "Its value is its value list": given room, the reader hands it back, and changes nothing past it.
  abbrev pub IsReadAs : (message : List ℕ) (handles : ℕ) (values : List ℕ) → Type 0
  IsReadAs message handles values =
      (lent lent' : List ℕ) (r : Result ℕ Fault) → length values ≤ length lent → ReadsValues rows members entries root message handles lent lent' r
      → (r ≡ Ok (length values)) × (lent' ≡ values ++ drop (length values) lent)

  -- So does the reader of the object list.
  abbrev pub IsListedAs : (message : List ℕ) (handles : ℕ) (objects : List ℕ) → Type 0
  IsListedAs message handles objects =
      (lent lent' : List ℕ) (r : Result ℕ Fault) → length objects ≤ length lent → ReadsObjects rows members entries root message handles lent lent' r
      → (r ≡ Ok (length objects)) × (lent' ≡ objects ++ drop (length objects) lent)

  -- And so does the reader of both lists, given room for both.
  abbrev pub IsReadBothAs : (message : List ℕ) (handles : ℕ) (values objects : List ℕ) → Type 0
  IsReadBothAs message handles values objects =
      (lent lent' lent_objects lent_objects' : List ℕ) (r : Result Lengths Fault) → length values ≤ length lent → length objects ≤ length lent_objects
      → Reads rows members entries root message handles lent lent' lent_objects lent_objects' r
      → (r ≡ Ok (record { values = length values; objects = length objects })) × (lent' ≡ values ++ drop (length values) lent)
      × (lent_objects' ≡ objects ++ drop (length objects) lent_objects)

  -- Given room, the writer writes this message, answers its byte and handle counts, and changes nothing past it.
  abbrev pub IsWrittenAs : (values message : List ℕ) (handles : ℕ) → Type 0
  IsWrittenAs values message handles =
      (out out' : List ℕ) (r : Result Sizes Fault) → length message ≤ length out → Writes rows members entries root values out out' r
      → (r ≡ Ok (record { bytes = length message; handles = handles })) × (out' ≡ message ++ drop (length message) out)

  -- "For a sound table and an allowed root, a message with its handle count is accepted exactly when it encodes a value of that
  -- root within the limits; reading gives that value, writing a value gives its message."
  pub record Demand2 : Type 0 where
    pub accepted_exactly_when_encoded : (message : List ℕ) (handles : ℕ) → Octets message → (r : Result (Unit {0}) Fault) → Checks rows members entries root message handles r
        → (r ≡ (Ok tt)) ↔ ((values : List ℕ) × IsWrittenAs values message handles)
    pub reading_gives_the_value : (message : List ℕ) (handles : ℕ) (values : List ℕ) → IsWrittenAs values message handles
        → IsReadAs message handles values × ((objects : List ℕ) × IsReadBothAs message handles values objects)
    -- What the reader of both lists gives is what the readers of one list give: what is said of these holds of it.
    pub readers_agree : (message : List ℕ) (handles : ℕ) (values objects : List ℕ) → IsReadBothAs message handles values objects
        → IsReadAs message handles values × IsListedAs message handles objects
    pub writing_gives_the_message : (message : List ℕ) (handles : ℕ) (values : List ℕ) → Octets message → IsReadAs message handles values → IsWrittenAs values message handles

  -- ---- demand 3

  -- What an accepted message with its handle count says of itself. `trace` is what its walk met.
  pub record Canonical (message : List ℕ) (handles : ℕ) : Type 0 where
    pub values : List ℕ
    pub objects : List ℕ
    pub trace : List Event
    pub trace_is_the_walks : trace ≡ trace_of (walk (Doing.message (type_table rows members entries) message handles) root)
    pub values_are_read : IsReadAs message handles values
    pub objects_are_listed : IsListedAs message handles objects
    pub both_are_read : IsReadBothAs message handles values objects
    -- "writing what was read gives back the same bytes and handle count"
    pub round_trip : IsWrittenAs values message handles
    -- "Its object list has one object for each claim of the walk, unknown out-of-line content included, and no other"
    pub objects_are_claims : objects ≡ object_list trace
    pub unknown_content_is_an_object : unknown_lengths objects ≡ unknown_out_of_line trace
    -- The object list "takes every byte once": as object, or as zero fill after one.
    pub objects_tile : Tiles 0 (length message) objects
    pub fills_are_zero : FillsAreZero message objects
    -- "the handle count is the present handles plus the handle numbers of unknown content"
    pub handles_add_up : handles ≡ present_handles trace + unknown_handles trace
    -- "A present handle is a handle's word of all ones met in the walk"
    pub present_handles_are_ones : PresentHandlesAreOnes message trace
    -- W-209: "an unknown payload may claim at most one handle in line, and at most a quarter of its byte number out of line"
    pub unknown_claims_fit : UnknownClaimsFit trace

  pub record Demand3 : Type 0 where
    -- "two accepted messages hold equal values exactly when bytes and handle counts are equal"
    pub equal_values_exactly_when_equal : (message message₂ : List ℕ) (handles handles₂ : ℕ) (values values₂ : List ℕ) → Octets message → Octets message₂
        → IsReadAs message handles values → IsReadAs message₂ handles₂ values₂ → (values ≡ values₂) ↔ ((message ≡ message₂) × (handles ≡ handles₂))
    pub canonical : (message : List ℕ) (handles : ℕ) → Octets message → Checks rows members entries root message handles (Ok tt) → Canonical message handles
    -- The round trip by calls: whatever a reader gave into a list, the writer given that list writes the message that was read.
    pub round_trip : (message : List ℕ) (handles : ℕ) → Octets message → (lent lent' : List ℕ) (count : ℕ)
        → ReadsValues rows members entries root message handles lent lent' (Ok count) → IsWrittenAs (take count lent') message handles
    pub round_trip_of_both : (message : List ℕ) (handles : ℕ) → Octets message → (lent lent' lent_objects lent_objects' : List ℕ) (counts : Lengths)
        → Reads rows members entries root message handles lent lent' lent_objects lent_objects' (Ok counts) → IsWrittenAs (take counts.values lent') message handles
