-- The transactional header: document 01's section "The header", and W-203 for epitaphs.
-- Assumes nothing.
use Rattle.std.specs.Prelude.{◌≡◌, Bool, true, not, ◌||◌, List, [], ◌∷◌, ◌++◌, ℕ, ◌+◌, leb, eqb, ℤ, pos, length, drop, get_or, if◌then◌else◌}
use Rattle.rules.specs.declared.Place.TheVariants.{Byte}
use Rattle.rules.specs.Refusals.{fault, object_does_not_fit, fill_not_zero, bytes_left, magic_wrong, ordinal_zero, epitaph_transaction, Answer, accepted, refused, require}
use Rattle.rules.specs.Bytes.{Octets, word, bytes_of, part, zeros, leading_zeros, ones64, pattern32, signed32}
use Rattle.rules.specs.Answers.{require_length, require_room}

-- "Transaction number (4 bytes), three flag bytes never judged, magic (1 byte, must be 1), ordinal (8 bytes)."
pub record Header : Type 0 where
  pub transaction : ℕ
  pub flag0 : ℕ
  pub flag1 : ℕ
  pub flag2 : ℕ
  pub ordinal : ℕ

abbrev pub header_of : List ℕ → Header
header_of message =
    record { transaction = word message 0 4; flag0 = get_or message 4 0; flag1 = get_or message 5 0; flag2 = get_or message 6 0; ordinal = word message 8 8 }

-- An epitaph has an ordinal of all ones.
abbrev pub is_epitaph : Header → Bool
is_epitaph h = eqb h.ordinal ones64

-- 24 at 8; 25 at 0: both of the reader and of the writer.
abbrev pub require_ordinal : {A : Type 0} → Header → Answer A → Answer A
require_ordinal h answer =
    require (not (eqb h.ordinal 0)) (fault ordinal_zero (Byte 8))
    (require (not (is_epitaph h) || eqb h.transaction 0) (fault epitaph_transaction (Byte 0)) answer)

-- W-203: "an epitaph's body is a struct with one 32-bit status, so the whole message is 24 bytes, the last four zero." "Refusals, of
-- epitaphs only, places counted from the header's first byte: 6 at 16 if under 24 bytes, then 7 for bytes 20 to 23, at the first
-- nonzero one, then 20 at 24, all after 25."
abbrev pub require_status : {A : Type 0} → (message : List ℕ) → Answer A → Answer A
require_status message answer =
    require (leb 24 (length message)) (fault object_does_not_fit (Byte 16))
    (require (eqb (leading_zeros (part message 20 4)) 4) (fault fill_not_zero (Byte (20 + leading_zeros (part message 20 4))))
    (require (eqb (length message) 24) (fault bytes_left (Byte 24)) answer))

-- "Tests: 3 over the whole; 6 at 0 if under 16 bytes; 23 magic, place 7; 24 ordinal 0, place 8; 25 ordinal all ones (epitaph) with
-- transaction not 0, place 0"; then, of an epitaph, those of its body.
unfoldable pub read_header : (message : List ℕ) → Answer Header
read_header message =
    let read = accepted (header_of message) in
    require_length (length message)
    (require (leb 16 (length message)) (fault object_does_not_fit (Byte 0))
    (require (eqb (get_or message 7 0) 1) (fault magic_wrong (Byte 7))
    (require_ordinal (header_of message) (if is_epitaph (header_of message) then require_status message read else read))))

-- W-203: "the status is read as a signed number, 0 for others"; and 0 on a refusal.
abbrev pub status_after : Answer Header → (message : List ℕ) → ℤ
status_after (accepted h) message = if is_epitaph h then signed32 (word message 16 4) else pos 0
status_after (refused f) message = pos 0

unfoldable pub status : (message : List ℕ) → ℤ
status message = status_after (read_header message) message

-- "On success the body is handed back as a part of the message itself; on a refusal, the empty part at its start." W-203: "The
-- header reader hands back that body as it does others".
abbrev pub body_after : Answer Header → (message : List ℕ) → List ℕ
body_after (accepted h) message = drop 16 message
body_after (refused f) message = []

unfoldable pub body : (message : List ℕ) → List ℕ
body message = body_after (read_header message) message

abbrev pub header_bytes : Header → List ℕ
header_bytes h = bytes_of 4 h.transaction ++ (h.flag0 ∷ h.flag1 ∷ h.flag2 ∷ 1 ∷ bytes_of 8 h.ordinal)

-- "The header writer gives 24, 25 and 22." It writes 16 bytes.
unfoldable pub write_header : Header → (room : ℕ) → Answer (List ℕ)
write_header h room = require_ordinal h (require_room 16 room (accepted (header_bytes h)))

-- The values that the reader answers: a header's fields in order.
abbrev pub fields : Header → List ℕ
fields h = h.transaction ∷ h.flag0 ∷ h.flag1 ∷ h.flag2 ∷ h.ordinal ∷ []

-- W-203: "a writer of a whole epitaph from flags and status is added, with 22."
abbrev pub epitaph_header : (flag0 flag1 flag2 : ℕ) → Header
epitaph_header flag0 flag1 flag2 = record { transaction = 0; flag0 = flag0; flag1 = flag1; flag2 = flag2; ordinal = ones64 }

abbrev pub epitaph_bytes : (flag0 flag1 flag2 : ℕ) (status : ℤ) → List ℕ
epitaph_bytes flag0 flag1 flag2 status = header_bytes (epitaph_header flag0 flag1 flag2) ++ (bytes_of 4 (pattern32 status) ++ zeros 4)

unfoldable pub write_epitaph : (flag0 flag1 flag2 : ℕ) (status : ℤ) (room : ℕ) → Answer (List ℕ)
write_epitaph flag0 flag1 flag2 status room = require_room 24 room (accepted (epitaph_bytes flag0 flag1 flag2 status))

-- What was written is read back: three flags and a status of 32 bits (`Fits32`).
pub record EpitaphIsReadBack (a b c : ℕ) (written : ℤ) : Type 0 where
  pub header_read : read_header (epitaph_bytes a b c written) ≡ accepted (epitaph_header a b c)
  pub status_read : status (epitaph_bytes a b c written) ≡ written
  pub body_read : body (epitaph_bytes a b c written) ≡ bytes_of 4 (pattern32 written) ++ zeros 4

-- An accepted epitaph has one spelling: what its flags and its status are written as.
abbrev pub EpitaphHasOneSpelling : Type 0
EpitaphHasOneSpelling =
    (message : List ℕ) (h : Header) → Octets message → read_header message ≡ accepted h → is_epitaph h ≡ true
    → message ≡ epitaph_bytes h.flag0 h.flag1 h.flag2 (status message)
