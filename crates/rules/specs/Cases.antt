-- Document 01's cases P1 to P12 as one table, its slips as another, and cases of the change requests as a third. That they hold
-- is computed: proofs/Cases.antt.
use Rattle.std.specs.Prelude.{◌≡◌, List, [], ◌∷◌, ◌++◌, map, ℕ, zero, suc, ◌+◌, ◌-◌, ◌*◌, ◌/◌, negsuc, length, set, replicate, take}
use Rattle.rules.specs.declared.Place.TheVariants.{Byte}
use Rattle.rules.specs.Refusals.{fault, object_does_not_fit, fill_not_zero, bytes_left, Answer, accepted, refused, number, place}
use Rattle.rules.specs.Bytes.{bytes_of}
use Rattle.rules.specs.TypeTable.{TypeTable, type_table}
use Rattle.rules.specs.Answers.{check, read_objects, Lists, read, written}
use Rattle.rules.specs.Header.{read_header, epitaph_bytes}

-- A message under a table and root, and what the checker answers; or that it is accepted, so many objects in so many bytes;
-- or what the reader hands back. A value list, and what the writer answers.
pub data Case : Type 0 where
  checks : (t : TypeTable) (root : ℕ) (bytes : List ℕ) (handles : ℕ) → (number place : ℕ) → Case
  accepts : (t : TypeTable) (root : ℕ) (bytes : List ℕ) (handles : ℕ) → (objects size : ℕ) → Case
  reads : (t : TypeTable) (root : ℕ) (bytes : List ℕ) (handles : ℕ) → (values objects : List ℕ) → Case
  writes : (t : TypeTable) (root : ℕ) (values : List ℕ) → (number place : ℕ) → Case

pub data Outcome : Type 0 where
  answer : (number place : ℕ) → Outcome
  holds : (objects size : ℕ) → Outcome
  lists : (values objects : List ℕ) → Outcome

abbrev pub expected : Case → Outcome
expected (checks t root bytes handles number place) = answer number place
expected (accepts t root bytes handles objects size) = holds objects size
expected (reads t root bytes handles values objects) = lists values objects
expected (writes t root values number place) = answer number place

abbrev pub answered : {A : Type 0} → Answer A → Outcome
answered a = answer (number a) (place a)

abbrev pub accept_outcome : (size : ℕ) → Answer (List ℕ) → Outcome
accept_outcome size (accepted objects) = holds (length objects / 4) size
accept_outcome size (refused f) = answered {A = List ℕ} (refused f)

abbrev pub read_outcome : Answer Lists → Outcome
read_outcome (accepted l) = lists l.values l.objects
read_outcome (refused f) = answered {A = Lists} (refused f)

-- What the rules answer. A reader is lent just the room that the lists take.
abbrev pub outcome : Case → Outcome
outcome (checks t root bytes handles n p) = answered (check (record { table = t; bytes = bytes; handles = handles }) root)
outcome (accepts t root bytes handles objects size) =
    accept_outcome (length bytes) (read_objects (record { table = t; bytes = bytes; handles = handles }) root (objects * 4))
outcome (reads t root bytes handles values objects) =
    read_outcome (read (record { table = t; bytes = bytes; handles = handles }) root (length values) (length objects))
outcome (writes t root values n p) = answered (written t root values)

-- "Rows: 0 `2,1,0,0`; 1 `2,2,0,0`; 2 `6,0,8,1`; 3 `7,0,2,0`; 4 `9,2,3,0`. Members: `1,1` `2,1` `1,0` `2,3` `3,2`. Root 4."
abbrev pub pad_table : TypeTable
pad_table =
    type_table
    (2 ∷ 1 ∷ 0 ∷ 0 ∷ 2 ∷ 2 ∷ 0 ∷ 0 ∷ 6 ∷ 0 ∷ 8 ∷ 1 ∷ 7 ∷ 0 ∷ 2 ∷ 0 ∷ 9 ∷ 2 ∷ 3 ∷ 0 ∷ [])
    (1 ∷ 1 ∷ 2 ∷ 1 ∷ 1 ∷ 0 ∷ 2 ∷ 3 ∷ 3 ∷ 2 ∷ [])
    []

abbrev pub present : List ℕ
present = replicate 8 0xFF

abbrev pub eight_zeros : List ℕ
eight_zeros = replicate 8 0

-- The message of P1, and its two envelopes.
abbrev pub p1 : List ℕ
p1 =
    (0x02 ∷ 0x00 ∷ 0x00 ∷ 0x00 ∷ 0x00 ∷ 0x00 ∷ 0x00 ∷ 0x00 ∷ [])
    ++ (present
    ++ ((0x02 ∷ 0x00 ∷ 0x00 ∷ 0x00 ∷ 0x00 ∷ 0x00 ∷ 0x01 ∷ 0x00 ∷ [])
    ++ (0x64 ∷ 0x00 ∷ 0xFD ∷ 0xFF ∷ 0x00 ∷ 0x00 ∷ 0x01 ∷ 0x00 ∷ [])))

-- "Count 0, presence all ones, 16 bytes".
abbrev pub p4 : List ℕ
p4 = eight_zeros ++ present

-- "Count 4, P1's envelopes, a zero one, `08 00 00 00 00 00 00 00`, eight bytes of content".
abbrev pub p6 : List ℕ
p6 = set p1 0 4 ++ (eight_zeros ++ ((0x08 ∷ 0 ∷ 0 ∷ 0 ∷ 0 ∷ 0 ∷ 0 ∷ 0 ∷ []) ++ (1 ∷ 2 ∷ 3 ∷ 4 ∷ 5 ∷ 6 ∷ 7 ∷ 8 ∷ [])))

-- "Rows `8,1,0,0` and `7,0,1,0`, member `1,0`, root 1": so many linked objects, a present box in each but the last.
abbrev pub linked_table : TypeTable
linked_table = type_table (8 ∷ 1 ∷ 0 ∷ 0 ∷ 7 ∷ 0 ∷ 1 ∷ 0 ∷ []) (1 ∷ 0 ∷ []) []

abbrev pub linked : (objects : ℕ) → List ℕ
linked objects = replicate ((objects - 1) * 8) 0xFF ++ eight_zeros

abbrev pub cases : List Case
cases =
    -- P1
    checks pad_table 4 p1 0 0 0
    ∷ reads pad_table 4 p1 0 (2 ∷ 1 ∷ 2 ∷ 1 ∷ 100 ∷ 65533 ∷ []) (1 ∷ 4 ∷ 0 ∷ 16 ∷ 4 ∷ 4 ∷ 16 ∷ 16 ∷ [])
    -- P2: "P1, byte 17 set to 1: 7 at 17."
    ∷ checks pad_table 4 (set p1 17 1) 0 7 17
    -- P3: "P1 with count 3 and eight zero bytes added: 19 at 32."
    ∷ checks pad_table 4 (set p1 0 3 ++ eight_zeros) 0 19 32
    -- P4: "16 bytes: value list 0; objects 1,4,0,16 and 4,4,16,0."
    ∷ checks pad_table 4 p4 0 0 0
    ∷ accepts pad_table 4 p4 0 2 16
    ∷ reads pad_table 4 p4 0 (0 ∷ []) (1 ∷ 4 ∷ 0 ∷ 16 ∷ 4 ∷ 4 ∷ 16 ∷ 0 ∷ [])
    -- P5: "P4, presence 0: 10 at 0."
    ∷ checks pad_table 4 (eight_zeros ++ eight_zeros) 0 10 0
    -- P6: "accepted, 56 bytes."
    ∷ checks pad_table 4 p6 0 0 0
    ∷ accepts pad_table 4 p6 0 3 56
    -- P7: "P6, that 08 as 0C: 15 at 40."
    ∷ checks pad_table 4 (set p6 40 0x0C) 0 15 40
    -- P8: "P1 plus one byte: 20 at 32."
    ∷ checks pad_table 4 (p1 ++ (0 ∷ [])) 0 20 32
    -- P9: "P1, one handle: 21 at 0."
    ∷ checks pad_table 4 p1 1 21 0
    -- P10: "No bytes: 6 at 0."
    ∷ checks pad_table 4 [] 0 6 0
    -- P11: "P1, byte 22 set to 0: 15 at 16."
    ∷ checks pad_table 4 (set p1 22 0) 0 15 16
    -- P12: "33 linked objects in 264 bytes accepted, 34 refused 5 at 256."
    ∷ checks linked_table 1 (linked 33) 0 0 0
    ∷ accepts linked_table 1 (linked 33) 0 33 264
    ∷ checks linked_table 1 (linked 34) 0 5 256
    ∷ []

-- The one claim.
abbrev pub CasesHold : Type 0
CasesHold = map outcome cases ≡ map expected cases

-- ---- document 01's "Slips seen before": a message on which each would show

-- Tables within tables: row 0 is a table whose one member is that table again. A table's pointer takes one level and its
-- envelope another, so 16 tables are the most.
abbrev pub nested_table : TypeTable
nested_table = type_table (9 ∷ 0 ∷ 1 ∷ 0 ∷ []) (1 ∷ 0 ∷ []) []

abbrev pub nested : (inner : ℕ) → List ℕ
nested zero = eight_zeros ++ present
nested (suc inner) = bytes_of 8 1 ++ (present ++ (bytes_of 8 (16 + inner * 24) ++ nested inner))

-- A struct with an optional vector of bytes, as a root (2) and as a member of a table (3).
abbrev pub vector_table : TypeTable
vector_table = type_table (2 ∷ 1 ∷ 0 ∷ 0 ∷ 5 ∷ 0 ∷ 10 ∷ 1 ∷ 7 ∷ 0 ∷ 1 ∷ 0 ∷ 9 ∷ 1 ∷ 1 ∷ 0 ∷ []) (1 ∷ 1 ∷ 1 ∷ 2 ∷ []) []

abbrev pub vector_member : (byte_number : ℕ) → List ℕ
vector_member byte_number = bytes_of 8 1 ++ (present ++ (bytes_of 8 byte_number ++ (bytes_of 8 1 ++ (present ++ bytes_of 8 7))))

abbrev pub slips : List Case
slips =
    -- "Taking unknown content's bytes but not its handles."
    checks pad_table 4 (set p6 44 1) 1 0 0
    ∷ checks pad_table 4 (set p6 44 1) 0 14 40
    -- "Raising depth once for a table's pointer and its envelope together."
    ∷ checks nested_table 0 (nested 15) 0 0 0
    ∷ checks nested_table 0 (nested 16) 0 5 384
    -- "Accepting count 5 with an absent optional vector."
    ∷ checks vector_table 2 (bytes_of 8 5 ++ eight_zeros) 0 11 0
    -- "Reading the byte number as the payload's own size, without what it refers to."
    ∷ checks vector_table 3 (vector_member 24) 0 0 0
    ∷ checks vector_table 3 (vector_member 16) 0 16 16
    -- "Rounding in-line structs to 8": P1's second envelope holds a struct of 4 bytes in line.
    ∷ checks pad_table 4 p1 0 0 0
    ∷ []

abbrev pub SlipsShow : Type 0
SlipsShow = map outcome slips ≡ map expected slips

-- ---- W-203: an epitaph with the status -2

abbrev pub epitaph : List ℕ
epitaph = (0 ∷ 0 ∷ 0 ∷ 0 ∷ 1 ∷ 2 ∷ 3 ∷ 1 ∷ []) ++ (present ++ (0xFE ∷ 0xFF ∷ 0xFF ∷ 0xFF ∷ 0 ∷ 0 ∷ 0 ∷ 0 ∷ []))

abbrev pub EpitaphCasesHold : Type 0
EpitaphCasesHold =
    (epitaph_bytes 1 2 3 (negsuc 1) ≡ epitaph)
    -- "6 at 16 if under 24 bytes, then 7 for bytes 20 to 23, at the first nonzero one, then 20 at 24".
    × (read_header (take 16 epitaph) ≡ refused (fault object_does_not_fit (Byte 16)))
    × (read_header (set epitaph 21 5) ≡ refused (fault fill_not_zero (Byte 21)))
    × (read_header (set epitaph 21 5 ++ (0 ∷ [])) ≡ refused (fault fill_not_zero (Byte 21)))
    × (read_header (epitaph ++ (0 ∷ [])) ≡ refused (fault bytes_left (Byte 24)))

-- ---- cases of the change requests

-- The envelope of unknown content in line.
abbrev pub unknown_here : (handles : ℕ) → List ℕ
unknown_here handles = bytes_of 4 0 ++ (bytes_of 2 handles ++ bytes_of 2 1)

-- P6 with its fourth envelope in line.
abbrev pub unknown_fourth : (handles : ℕ) → List ℕ
unknown_fourth handles = set p1 0 4 ++ (eight_zeros ++ unknown_here handles)

-- Unions within unions: row 0 is a flexible union whose one member is that union again. The innermost one's ordinal is unknown.
abbrev pub union_table : TypeTable
union_table = type_table (10 ∷ 0 ∷ 1 ∷ 2 ∷ []) (1 ∷ 0 ∷ []) []

abbrev pub unions_around : (outer handles : ℕ) → List ℕ
unions_around zero handles = bytes_of 8 2 ++ unknown_here handles
unions_around (suc outer) handles = bytes_of 8 1 ++ (bytes_of 8 (16 + outer * 16) ++ unions_around outer handles)

-- A message of the pad's table with a string alone (row 2, ordinal 3), whose object stands at 56.
abbrev pub named : (count : ℕ) (object : List ℕ) → List ℕ
named count object =
    bytes_of 8 3 ++ (present ++ (eight_zeros ++ (eight_zeros ++ (bytes_of 8 (16 + length object) ++ (bytes_of 8 count ++ (present ++ object))))))

-- W-206: a struct (2) of a strict enum of a byte with 14 entries (0), and of strict bits of two bytes, whose mask comes after them (1).
abbrev pub strict_table : (entries : List ℕ) → TypeTable
strict_table entries = type_table (11 ∷ 1 ∷ 0 ∷ 14 ∷ 12 ∷ 2 ∷ 14 ∷ 1 ∷ 7 ∷ 0 ∷ 2 ∷ 0 ∷ []) (1 ∷ 0 ∷ 2 ∷ 1 ∷ []) entries

-- Thirteen buttons, one more, and the mask.
abbrev pub buttons : (last mask : ℕ) → List ℕ
buttons last mask = 1 ∷ 2 ∷ 3 ∷ 4 ∷ 5 ∷ 6 ∷ 7 ∷ 8 ∷ 9 ∷ 10 ∷ 11 ∷ 12 ∷ 13 ∷ last ∷ mask ∷ []

abbrev pub pad : TypeTable
pad = strict_table (buttons 14 0x0103)

abbrev pub pressed : (button low high : ℕ) → List ℕ
pressed button low high = button ∷ 0 ∷ low ∷ high ∷ 0 ∷ 0 ∷ 0 ∷ 0 ∷ []

abbrev pub requests : List Case
requests =
    -- W-208: "A wrong handle number is 28," in line
    checks pad_table 4 (set p1 20 1) 1 28 16
    -- and out of line, "tested after 16 at the same envelope".
    ∷ checks vector_table 3 (set (vector_member 24) 20 1) 1 28 16
    ∷ checks vector_table 3 (set (vector_member 16) 20 1) 1 16 16
    -- W-209: "An unknown in-line payload of four bytes claimed nine handles",
    ∷ checks pad_table 4 (unknown_fourth 9) 9 35 40
    -- "at most one handle in line": two, and one;
    ∷ checks pad_table 4 (unknown_fourth 2) 2 35 40
    ∷ checks pad_table 4 (unknown_fourth 1) 1 0 0
    -- "at most a quarter of its byte number out of line": P6 with three, and two.
    ∷ checks pad_table 4 (set p6 44 3) 3 35 40
    ∷ checks pad_table 4 (set p6 44 2) 2 0 0
    -- "after 15 and before 5".
    ∷ checks pad_table 4 (set (set p6 40 0x0C) 44 4) 4 15 40
    ∷ checks union_table 0 (unions_around 32 2) 2 35 520
    ∷ checks union_table 0 (unions_around 32 1) 1 5 520
    -- "The writer refuses such lists with 26."
    ∷ writes pad_table 4 (4 ∷ 0 ∷ 0 ∷ 0 ∷ 1 ∷ 0 ∷ 1 ∷ 7 ∷ []) 0 0
    ∷ writes pad_table 4 (4 ∷ 0 ∷ 0 ∷ 0 ∷ 1 ∷ 0 ∷ 2 ∷ 7 ∷ []) 26 6
    ∷ writes pad_table 4 (4 ∷ 0 ∷ 0 ∷ 0 ∷ 1 ∷ 8 ∷ 2 ∷ 7 ∷ []) 0 0
    ∷ writes pad_table 4 (4 ∷ 0 ∷ 0 ∷ 0 ∷ 1 ∷ 8 ∷ 3 ∷ 7 ∷ []) 26 6
    -- W-201: "the first byte of the first sequence that RFC 3629 doesn't allow": a lead byte before one that it does not ask for, a tail by
    -- itself,
    ∷ checks pad_table 4 (named 3 (0x41 ∷ 0xC3 ∷ 0x28 ∷ 0 ∷ 0 ∷ 0 ∷ 0 ∷ 0 ∷ [])) 0 13 57
    ∷ checks pad_table 4 (named 3 (0x41 ∷ 0x42 ∷ 0xBF ∷ 0 ∷ 0 ∷ 0 ∷ 0 ∷ 0 ∷ [])) 0 13 58
    ∷ checks pad_table 4 (named 3 (0x41 ∷ 0xC3 ∷ 0xA9 ∷ 0 ∷ 0 ∷ 0 ∷ 0 ∷ 0 ∷ [])) 0 0 0
    -- and "a sequence cut off by the string's end".
    ∷ checks pad_table 4 (named 5 (0x41 ∷ 0xC3 ∷ 0xA9 ∷ 0xE2 ∷ 0x82 ∷ 0 ∷ 0 ∷ 0 ∷ [])) 0 13 59
    -- "The number, its order and the writer's 26 stay": fill before text, 26 at the count.
    ∷ checks pad_table 4 (named 3 (0x41 ∷ 0xC3 ∷ 0x28 ∷ 0 ∷ 0 ∷ 0 ∷ 0 ∷ 1 ∷ [])) 0 7 63
    ∷ writes pad_table 4 (3 ∷ 0 ∷ 0 ∷ 1 ∷ 4 ∷ 0x41 ∷ 0xC3 ∷ 0x28 ∷ []) 26 4
    -- W-206: "A pad sent button 19 of 14": 29 "at the field"
    ∷ checks pad 2 (pressed 14 2 1) 0 0 0
    ∷ checks pad 2 (pressed 19 2 1) 0 29 0
    -- "or with a bit outside the mask"
    ∷ checks pad 2 (pressed 14 4 1) 0 29 2
    ∷ writes pad 2 (5 ∷ 0x0103 ∷ []) 0 0
    ∷ writes pad 2 (19 ∷ 0x0103 ∷ []) 26 0
    ∷ writes pad 2 (5 ∷ 0x0200 ∷ []) 26 1
    -- "a bad entry makes the row unsound": one that doesn't rise, is wider than its row, or doesn't exist
    ∷ writes (strict_table (buttons 13 0x0103)) 2 [] 1 0
    ∷ writes (strict_table (buttons 256 0x0103)) 2 [] 1 0
    ∷ writes (strict_table (buttons 14 0x10000)) 2 [] 1 1
    ∷ writes (strict_table (replicate 14 0)) 2 [] 1 0
    ∷ writes (type_table (12 ∷ 1 ∷ 0 ∷ 1 ∷ []) [] []) 0 [] 1 0
    -- neither kind may be a root
    ∷ writes pad 0 [] 2 0
    ∷ writes pad 1 [] 2 1
    -- "at most 1,024"
    ∷ writes (strict_table (replicate 1025 0)) 2 [] 1 256
    ∷ []

abbrev pub RequestsHold : Type 0
RequestsHold = map outcome requests ≡ map expected requests
