-- The round trip: checked, read, written.
-- Assumes nothing.
use Rattle.std.specs.Prelude.{List, ◌≡◌, ℕ, ◌≤◌, length, Err, Ok, Result}
use Rattle.rules.specs.declared.Place.TheVariants.{Amount}
use Rattle.rules.specs.Refusals.{fault, room_too_small, Answer, accepted, refused, and_then}
use Rattle.rules.specs.Bytes.{Octets}
use Rattle.rules.specs.Decode.{Message}
use Rattle.rules.specs.Answers.{Written, check, read_values, write}
use Rattle.demands.specs.declared.Trip.{Trip}
use Rattle.demands.specs.declared.Trip.TheVariants.{Same}
use Rattle.rules.specs.declared.Fault.{Fault}

-- The message that what was read is written to, or the first refusal.
abbrev pub trip : Message → (root values_room out-room : ℕ) → Answer Written
trip m root values_room out-room = and_then (check m root) (λ passed. and_then (read_values m root values_room) (λ values. write m.table root values out-room))

-- The value list on the way, where nothing was refused.
abbrev pub trip_values : Message → (root values_room out-room : ℕ) → Answer (List ℕ)
trip_values m root values_room out-room = and_then (trip m root values_room out-room) (λ w. read_values m root values_room)

-- The refusal of an accepted message where the output is too small: 22 of the values comes first, then that of the message.
abbrev pub output_too_small : Message → (root values_room : ℕ) → Answer Written
output_too_small m root values_room = and_then (read_values m root values_room) (λ values. refused (fault room_too_small (Amount (length m.bytes))))

-- What is answered: a message that comes back is the same.
abbrev pub trip_of : Answer Written → Result Trip Fault
trip_of (accepted w) = Ok Same
trip_of (refused f) = Err f

-- Given room, every message that the checker accepts comes back.
abbrev pub ComesBack : Message → (root : ℕ) → Type 0
ComesBack m root =
    Octets m.bytes → check m root ≡ accepted tt
    → (values : List ℕ) × ((values_room out-room : ℕ) → length values ≤ values_room → length m.bytes ≤ out-room → trip_of (trip m root values_room out-room) ≡ Ok Same)
