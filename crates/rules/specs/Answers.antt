-- The whole answers of the operations, from any inputs: document 01's section "Numbers and places".
-- Assumes nothing.
use Rattle.std.specs.Prelude.{List, [], ◌∷◌, ℕ, ◌-◌, leb, ltb, eqb, length, Result, Ok, Err}
use Rattle.rules.specs.declared.Place.TheVariants.{Byte, Index, Amount}
use Rattle.rules.specs.declared.Fault.{Fault}
use Rattle.rules.specs.declared.Layout.{Layout}
use Rattle.rules.specs.Refusals.{fault, place_number, message_too_long, too_many_handles, text_not_utf8, bytes_left, handles_left, room_too_small, not_a_value, Answer, accepted, refused, require, and_then, lent_after}
use Rattle.rules.specs.Bytes.{zeros}
use Rattle.rules.specs.TypeTable.{TypeTable, row_count}
use Rattle.rules.specs.Sizes.{layout_of, size_of}
use Rattle.rules.specs.Sound.{soundness, root_allowed, require_row}
use Rattle.rules.specs.Text.{is_utf8, broken_at}
use Rattle.rules.specs.Trace.{Event, object_list, primary_object}
use Rattle.rules.specs.Decode as D
use Rattle.rules.specs.Decode.{Message, Decoded, went, stopped}
use Rattle.rules.specs.Encode as E
use Rattle.rules.specs.Encode.{Encoded, wrote, cannot}
use Rattle.rules.specs.Walk as W
use Rattle.rules.specs.Writer as R

-- ---- before and after the walk

-- "The primary object (the root) is claimed at 0, depth 0."
unfoldable pub walk : Message → (root : ℕ) → Decoded
walk m root = D.claim m primary_object root (size_of m.table root) (W.decode_row m (W.levels m 32) root) 0 0 0

-- What an accepted message holds: its value list, and what the walk met.
pub record Reading : Type 0 where
  pub values : List ℕ
  pub trace : List Event

-- "After it: 20, 21."
abbrev pub finished : Message → Decoded → Answer Reading
finished m (went next used values trace) =
    require (eqb next (length m.bytes)) (fault bytes_left (Byte next))
    (require (eqb used m.handles) (fault handles_left (Amount used)) (accepted (record { values = values; trace = trace })))
finished m (stopped f values trace) = refused f

-- 3, of the message or of a message with its header.
abbrev pub require_length : {A : Type 0} → (length : ℕ) → Answer A → Answer A
require_length length answer = require (leb length 65536) (fault message_too_long (Byte 0)) answer

-- Every test of the checker. "Before the walk, in this order: 1, 2, 3, 4."
unfoldable pub judged : Message → (root : ℕ) → Answer Reading
judged m root =
    and_then (soundness m.table) (λ sound.
    let walked = finished m (walk m root) in
    require_row (root_allowed m.table root) root
    (require_length (length m.bytes)
    (require (leb m.handles 64) (fault too_many_handles (Amount 0)) walked)))

-- 22: "comes last, only for an input otherwise accepted", with what is needed as its place.
abbrev pub require_room : {A : Type 0} → (needed room : ℕ) → Answer A → Answer A
require_room needed room answer = require (leb needed room) (fault room_too_small (Amount needed)) answer

-- ---- check and read

unfoldable pub check : Message → (root : ℕ) → Answer (Unit {0})
check m root = and_then (judged m root) (λ reading. accepted tt)

unfoldable pub read_values : Message → (root room : ℕ) → Answer (List ℕ)
read_values m root room =
    and_then (judged m root) (λ reading. require_room (length reading.values) room (accepted reading.values))

unfoldable pub read_objects : Message → (root room : ℕ) → Answer (List ℕ)
read_objects m root room =
    and_then (judged m root) (λ reading. require_room (length (object_list reading.trace)) room (accepted (object_list reading.trace)))

pub record Lists : Type 0 where
  pub values : List ℕ
  pub objects : List ℕ

-- 22 of the objects comes first: "with both lists lent, objects first".
unfoldable pub read : Message → (root values_room objects_room : ℕ) → Answer Lists
read m root values_room objects_room =
    and_then (read_objects m root objects_room) (λ objects.
    and_then (read_values m root values_room) (λ values. accepted (record { values = values; objects = objects })))

-- ---- write

-- What a value list is written to.
pub record Written : Type 0 where
  pub bytes : List ℕ
  pub handles : ℕ

-- "then 26 for numbers left": 26 at the first of them. A refusal's index is how many numbers stand before the one judged.
abbrev pub closed : (total : ℕ) → Encoded → Answer Written
closed total (wrote inline out_of_line next used []) = accepted (record { bytes = out_of_line; handles = used })
closed total (wrote inline out_of_line next used (v ∷ rest)) = refused (fault not_a_value (Index (total - length (v ∷ rest))))
closed total (cannot number left) = refused (fault number (Index (total - left)))

unfoldable pub encode : TypeTable → (root : ℕ) → (values : List ℕ) → Encoded
encode t root values = E.claim (size_of t root) (R.encode_row t (R.levels t 32) root) values 0 0

-- "The writer walks the list in the same order: 1, 2, then whichever of 26, 5, 3, 4 is met first"; then 26 for numbers left,
unfoldable pub written : TypeTable → (root : ℕ) → (values : List ℕ) → Answer Written
written t root values =
    and_then (soundness t) (λ sound.
    let closed-list = closed (length values) (encode t root values) in
    require_row (root_allowed t root) root closed-list)

-- "then 22 in bytes". "Success answers the byte and handle counts."
unfoldable pub write : TypeTable → (root : ℕ) → (values : List ℕ) → (room : ℕ) → Answer Written
write t root values room = and_then (written t root values) (λ w. require_room (length w.bytes) room (accepted w))

-- The lent output after the writer.
abbrev pub output_after : Answer Written → (output : List ℕ) → List ℕ
output_after answer output = lent_after (and_then answer (λ w. accepted w.bytes)) output

-- ---- layout

-- "The layout calculator answers size and alignment of any row; it refuses with 1, then 2 for a row that doesn't exist, place that row."
unfoldable pub layout_answer : TypeTable → (row : ℕ) → Answer Layout
layout_answer t row = and_then (soundness t) (λ sound. require_row (ltb row (row_count t)) row (accepted (layout_of t row)))

-- ---- text

-- W-201: 13 of a text by itself, at "the offset of the first byte of the first sequence that RFC 3629 doesn't allow".
unfoldable pub text_answer : (bytes : List ℕ) → Answer (Unit {0})
text_answer bytes = require (is_utf8 bytes) (fault text_not_utf8 (Byte (broken_at bytes))) (accepted tt)

-- ---- the numbers answered

-- What an operation answers in document 01's numbers: number and place, and the other numbers, its values.
pub record Numbers : Type 0 where
  pub number : ℕ
  pub place : ℕ
  pub values : List ℕ

-- "An accepted answer is 0, place 0. A refusal gives number and place, and its place names what was judged; other numbers answered are 0."
abbrev pub numbers_of : {A : Type 0} (count : ℕ) (values : A → List ℕ) → Answer A → Numbers
numbers_of count values (accepted a) = record { number = 0; place = 0; values = values a }
numbers_of count values (refused f) = record { number = f.number; place = place_number f.place; values = zeros count }

-- The values: of the checker and of the text check none,
abbrev pub nothing : Unit {0} → List ℕ
nothing u = []

-- of the layout calculator size and alignment,
abbrev pub laid : Layout → List ℕ
laid l = l.size ∷ l.alignment ∷ []

-- of a list how many numbers it has,
abbrev pub counted : List ℕ → List ℕ
counted list = length list ∷ []

-- and of both lists,
abbrev pub both_counted : Lists → List ℕ
both_counted lists = length lists.values ∷ length lists.objects ∷ []

-- of the writer "the byte and handle counts".
abbrev pub sized : Written → List ℕ
sized w = length w.bytes ∷ w.handles ∷ []

-- ---- what code answers

-- A `Result` of the code as an answer of the rules,
abbrev pub answer_of : {A : Type 0} → Result A Fault → Answer A
answer_of (Ok a) = accepted a
answer_of (Err f) = refused f

-- and in document 01's numbers, case by case.
abbrev pub result_numbers : {A : Type 0} (count : ℕ) (values : A → List ℕ) → Result A Fault → Numbers
result_numbers count values (Ok a) = record { number = 0; place = 0; values = values a }
result_numbers count values (Err f) = record { number = f.number; place = place_number f.place; values = zeros count }
