-- The listing of a message: document 01, "Cases", P1.
-- Assumes nothing.
use Rattle.std.specs.Prelude.{List, [], ◌++◌, ℕ, ◌/◌, leb, length}
use Rattle.rules.specs.declared.Place.TheVariants.{Byte}
use Rattle.rules.specs.Refusals.{fault, message_too_long, Answer, accepted, refused, require, and_then, number, place}
use Rattle.rules.specs.Cases.{pad_table}
use Rattle.rules.specs.Trace.{object_list}
use Rattle.rules.specs.Decode.{Message}
use Rattle.rules.specs.Answers.{Reading, judged, Lists}
use Rattle.listing.specs.Lines.{line, result=, place=, bytes=, handles=, objects=, values=, object_lines, value_lines}

-- "Built-in table above; no handles."
abbrev pub message_of : (bytes : List ℕ) → Message
message_of bytes = record { table = pad_table; bytes = bytes; handles = 0 }

-- The value list and the object list of an accepted message, whole.
abbrev pub lists_of : Reading → Lists
lists_of reading = record { values = reading.values; objects = object_list reading.trace }

-- "Message on standard input up to 8,192 bytes, else 3."
abbrev pub answered : (bytes : List ℕ) → Answer Lists
answered bytes =
    require (leb (length bytes) 8192) (fault message_too_long (Byte 0)) (and_then (judged (message_of bytes) 4) (λ reading. accepted (lists_of reading)))

abbrev pub head : (number place : ℕ) → List ℕ
head number place = line result= number ++ line place= place

abbrev pub counts : (bytes objects values : ℕ) → List ℕ
counts bytes objects values = line bytes= bytes ++ (line handles= 0 ++ (line objects= objects ++ line values= values))

abbrev pub body : (bytes : ℕ) → Lists → List ℕ
body bytes lists =
    counts bytes (length lists.objects / 4) (length lists.values) ++ (object_lines lists.objects ++ value_lines lists.values)

-- "A refusal writes the first two lines only."
abbrev pub body_of : (bytes : ℕ) → Answer Lists → List ℕ
body_of bytes (accepted lists) = body bytes lists
body_of bytes (refused f) = []

abbrev pub listing_of : (bytes : ℕ) → Answer Lists → List ℕ
listing_of bytes answer = head (number answer) (place answer) ++ body_of bytes answer

unfoldable pub listing : (bytes : List ℕ) → List ℕ
listing bytes = listing_of (length bytes) (answered bytes)
