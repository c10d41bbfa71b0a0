-- The customer's demands 2 and 3, in their words and order, about the answers that the public functions promise. They hold
-- for every type table and root: where the table is not sound or the root not allowed, nothing is accepted or written.
-- Their proofs: proofs/Demands.antt.
use Rattle.std.specs.Prelude.{◌≡◌, ◌↔◌, List, ℕ, ◌+◌, ◌≤◌, length}
use Rattle.rules.specs.Refusals.{accepted}
use Rattle.rules.specs.Bytes.{Octets}
use Rattle.rules.specs.TypeTable.{TypeTable}
use Rattle.rules.specs.Trace.{Event, object_list, present_handles, unknown_handles, unknown_out_of_line, Tiles, FillsAreZero, unknown_lengths, PresentHandlesAreOnes}
use Rattle.rules.specs.Envelope.{UnknownClaimsFit}
use Rattle.rules.specs.Decode.{Message, trace_of}
use Rattle.rules.specs.Answers.{walk, check, read_values, read_objects, read, write}

module _ (t : TypeTable) (root : ℕ) where
  abbrev pub message : (bytes : List ℕ) (handles : ℕ) → Message
  message bytes handles = record { table = t; bytes = bytes; handles = handles }

  -- "a message with its handle count is accepted when every test of the checker before, in and after the walk passes"
  abbrev pub Accepted : (bytes : List ℕ) (handles : ℕ) → Type 0
  Accepted bytes handles = check (message bytes handles) root ≡ accepted tt

  -- "Its value is its value list", which is handed back given room,
  abbrev pub HasValue : (bytes : List ℕ) (handles : ℕ) (values : List ℕ) → Type 0
  HasValue bytes handles values = (room : ℕ) → length values ≤ room → read_values (message bytes handles) root room ≡ accepted values

  -- and so is its object list.
  abbrev pub HasObjects : (bytes : List ℕ) (handles : ℕ) (objects : List ℕ) → Type 0
  HasObjects bytes handles objects = (room : ℕ) → length objects ≤ room → read_objects (message bytes handles) root room ≡ accepted objects

  -- Where both lists are lent, both are handed back.
  abbrev pub HasBoth : (bytes : List ℕ) (handles : ℕ) (values objects : List ℕ) → Type 0
  HasBoth bytes handles values objects =
      (values_room objects_room : ℕ) → length values ≤ values_room → length objects ≤ objects_room
      → read (message bytes handles) root values_room objects_room ≡ accepted (record { values = values; objects = objects })

  -- A value list is written to a message with its handle count, given room.
  abbrev pub IsWrittenTo : (values bytes : List ℕ) (handles : ℕ) → Type 0
  IsWrittenTo values bytes handles = (room : ℕ) → length bytes ≤ room → write t root values room ≡ accepted (record { bytes = bytes; handles = handles })

  -- Demand 2: "For a sound table and an allowed root, a message with its handle count is accepted exactly when it encodes a
  -- value of that root within the limits; reading gives that value, writing a value gives its message."
  pub record Demand2 : Type 0 where
    pub accepted_exactly_when_encoded : (bytes : List ℕ) (handles : ℕ) → Octets bytes → Accepted bytes handles ↔ ((values : List ℕ) × IsWrittenTo values bytes handles)
    pub reading_gives_the_value : (bytes : List ℕ) (handles : ℕ) (values : List ℕ) → IsWrittenTo values bytes handles
        → HasValue bytes handles values × ((objects : List ℕ) × HasBoth bytes handles values objects)
    pub writing_gives_the_message : (bytes : List ℕ) (handles : ℕ) (values : List ℕ) → Octets bytes → HasValue bytes handles values → IsWrittenTo values bytes handles

  -- What an accepted message with its handle count says of itself. `trace` is what its walk met.
  pub record Canonical (bytes : List ℕ) (handles : ℕ) : Type 0 where
    pub values : List ℕ
    pub objects : List ℕ
    pub trace : List Event
    pub trace_is_the_walks : trace ≡ trace_of (walk (message bytes handles) root)
    pub has_value : HasValue bytes handles values
    pub has_objects : HasObjects bytes handles objects
    pub has_both : HasBoth bytes handles values objects
    -- "writing what was read gives back the same bytes and handle count"
    pub round_trip : IsWrittenTo values bytes handles
    -- "Its object list has one object for each claim of the walk, unknown out-of-line content included, and no other"
    pub objects_are_claims : objects ≡ object_list trace
    pub unknown_content_is_an_object : unknown_lengths objects ≡ unknown_out_of_line trace
    -- The object list "takes every byte once": as object, or as zero fill after one.
    pub objects_tile : Tiles 0 (length bytes) objects
    pub fills_are_zero : FillsAreZero bytes objects
    -- "the handle count is the present handles plus the handle numbers of unknown content"
    pub handles_add_up : handles ≡ present_handles trace + unknown_handles trace
    -- "A present handle is a handle's word of all ones met in the walk"
    pub present_handles_are_ones : PresentHandlesAreOnes bytes trace
    -- W-209: "an unknown payload may claim at most one handle in line, and at most a quarter of its byte number out of line"
    pub unknown_claims_fit : UnknownClaimsFit trace

  -- Demand 3: "two accepted messages hold equal values exactly when bytes and handle counts are equal", and the above.
  pub record Demand3 : Type 0 where
    pub equal_values_exactly_when_equal : (bytes bytes₂ : List ℕ) (handles handles₂ : ℕ) (values values₂ : List ℕ) → Octets bytes → Octets bytes₂
        → HasValue bytes handles values → HasValue bytes₂ handles₂ values₂ → (values ≡ values₂) ↔ ((bytes ≡ bytes₂) × (handles ≡ handles₂))
    pub canonical : (bytes : List ℕ) (handles : ℕ) → Octets bytes → Accepted bytes handles → Canonical bytes handles
