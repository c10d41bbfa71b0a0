-- What the header's types stand for in the rules.
-- Assumes nothing.
use Rattle.std.specs.Prelude.{List, [], ◌∷◌, ℕ, ◌+◌, ℤ, pos, length, Result, Ok, Err, slice_index}
use Rattle.rules.specs.declared.Fault.{Fault}
use Rattle.rules.specs.Refusals.{Answer, accepted, refused, and_then}
use Rattle.rules.specs.Header as Rules
use Rattle.header.specs.declared.Header.{Header}
use Rattle.header.specs.declared.Received.{Received}

abbrev pub header_of : Header → Rules.Header
header_of h = record { transaction = h.transaction; flag0 = slice_index h.flags 0; flag1 = slice_index h.flags 1; flag2 = slice_index h.flags 2; ordinal = h.ordinal }

-- What the reader answers of the header,
abbrev pub header_answer : Answer Received → Answer Rules.Header
header_answer answer = and_then answer (λ r. accepted (header_of r.header))

-- its values,
abbrev pub received_fields : Received → List ℕ
received_fields r = Rules.fields (header_of r.header)

-- and the status, which is 0 on a refusal.
abbrev pub status_of : Result Received Fault → ℤ
status_of (Ok r) = r.status
status_of (Err f) = pos 0

-- Where the part handed back starts, by block and offset: at byte 16 of the message itself; on a refusal, where the message starts.
abbrev pub body_start : Answer Rules.Header → (message : ℕ × ℕ) → ℕ × ℕ
body_start (accepted h) message = (message.0, 16 + message.1)
body_start (refused f) message = message

-- What a writer answers of the bytes that it writes: how many there are.
abbrev pub byte_count : Answer (List ℕ) → Answer ℕ
byte_count answer = and_then answer (λ bytes. accepted (length bytes))

-- The epitaph writer's answer, by the three flags in a list.
abbrev pub epitaph_written : (flags : List ℕ) (status : ℤ) (room : ℕ) → Answer (List ℕ)
epitaph_written flags status room = Rules.write_epitaph (slice_index flags 0) (slice_index flags 1) (slice_index flags 2) status room

-- A writer's one value.
abbrev pub one : ℕ → List ℕ
one n = n ∷ []
