-- Refusals and answers: the numbers of document 01's table and of the change requests, each written here once, and what an answer is.
-- Assumes nothing.
use Rattle.std.specs.Prelude.{Bool, true, false, List, ◌++◌, ℕ, length, drop}
use Rattle.rules.specs.declared.Place.{Place}
use Rattle.rules.specs.declared.Place.TheVariants.{Row, Byte, Index, Amount}
use Rattle.rules.specs.declared.Fault.{Fault}
use Rattle.rules.specs.declared.Refusal.{Refusal}
use Rattle.rules.specs.declared.Refusal.TheVariants as R

-- ---- the numbers

-- the type table is not sound
abbrev pub table_not_sound : ℕ
table_not_sound = 1

-- the root is not allowed; for the layout calculator, the row does not exist
abbrev pub root_not_allowed : ℕ
root_not_allowed = 2

-- over 65,536 bytes
abbrev pub message_too_long : ℕ
message_too_long = 3

-- over 64 handles
abbrev pub too_many_handles : ℕ
too_many_handles = 4

-- the depth would be over 32
abbrev pub too_deep : ℕ
too_deep = 5

-- an object, or the header, does not fit
abbrev pub object_does_not_fit : ℕ
object_does_not_fit = 6

-- fill is not zero
abbrev pub fill_not_zero : ℕ
fill_not_zero = 7

-- a bool is neither 0 nor 1
abbrev pub bool_not_zero_or_one : ℕ
bool_not_zero_or_one = 8

-- a presence is neither 0 nor all ones
abbrev pub presence_wrong : ℕ
presence_wrong = 9

-- something required is absent
abbrev pub required_absent : ℕ
required_absent = 10

-- absent, but its count or its envelope is not zero
abbrev pub absent_not_zero : ℕ
absent_not_zero = 11

-- a count is over the largest
abbrev pub count_over_largest : ℕ
count_over_largest = 12

-- a string is not UTF-8
abbrev pub text_not_utf8 : ℕ
text_not_utf8 = 13

-- too few handles are left
abbrev pub too_few_handles : ℕ
too_few_handles = 14

-- an envelope's flags or its size form are wrong
abbrev pub envelope_form_wrong : ℕ
envelope_form_wrong = 15

-- an envelope's byte number is wrong
abbrev pub byte_number_wrong : ℕ
byte_number_wrong = 16

-- an ordinal that a strict union does not know
abbrev pub ordinal_unknown : ℕ
ordinal_unknown = 17

-- a union's ordinal is not 0, but its envelope is zero
abbrev pub present_envelope_zero : ℕ
present_envelope_zero = 18

-- a table's last envelope is zero
abbrev pub last_envelope_zero : ℕ
last_envelope_zero = 19

-- bytes are left
abbrev pub bytes_left : ℕ
bytes_left = 20

-- handles are left
abbrev pub handles_left : ℕ
handles_left = 21

-- the room is too small
abbrev pub room_too_small : ℕ
room_too_small = 22

-- the header's magic byte is not 1
abbrev pub magic_wrong : ℕ
magic_wrong = 23

-- the header's ordinal is 0
abbrev pub ordinal_zero : ℕ
ordinal_zero = 24

-- an epitaph's transaction number is not 0
abbrev pub epitaph_transaction : ℕ
epitaph_transaction = 25

-- the list is not a value
abbrev pub not_a_value : ℕ
not_a_value = 26

-- an envelope's handle number is wrong
abbrev pub handle_number_wrong : ℕ
handle_number_wrong = 28

-- a strict enum's value is not among its entries, or strict bits have one outside their mask
abbrev pub strict_value_unknown : ℕ
strict_value_unknown = 29

-- a prepared state does not agree with its lists
abbrev pub state_disagrees : ℕ
state_disagrees = 34

-- unknown content claims more handles than its payload has room for
abbrev pub handles_impossible : ℕ
handles_impossible = 35

-- The number of a refusal that the code names.
abbrev pub number_of : Refusal → ℕ
number_of R.TableNotSound = table_not_sound
number_of R.RootNotAllowed = root_not_allowed
number_of R.MessageTooLong = message_too_long
number_of R.TooManyHandles = too_many_handles
number_of R.TooDeep = too_deep
number_of R.ObjectDoesNotFit = object_does_not_fit
number_of R.FillNotZero = fill_not_zero
number_of R.BoolNotZeroOrOne = bool_not_zero_or_one
number_of R.PresenceWrong = presence_wrong
number_of R.RequiredAbsent = required_absent
number_of R.AbsentNotZero = absent_not_zero
number_of R.CountOverLargest = count_over_largest
number_of R.TextNotUtf8 = text_not_utf8
number_of R.TooFewHandles = too_few_handles
number_of R.EnvelopeFormWrong = envelope_form_wrong
number_of R.ByteNumberWrong = byte_number_wrong
number_of R.OrdinalUnknown = ordinal_unknown
number_of R.PresentEnvelopeZero = present_envelope_zero
number_of R.LastEnvelopeZero = last_envelope_zero
number_of R.BytesLeft = bytes_left
number_of R.HandlesLeft = handles_left
number_of R.RoomTooSmall = room_too_small
number_of R.MagicWrong = magic_wrong
number_of R.OrdinalZero = ordinal_zero
number_of R.EpitaphTransaction = epitaph_transaction
number_of R.NotAValue = not_a_value
number_of R.HandleNumberWrong = handle_number_wrong
number_of R.StrictValueUnknown = strict_value_unknown
number_of R.StateDisagrees = state_disagrees
number_of R.HandlesImpossible = handles_impossible

-- ---- answers

abbrev pub fault : ℕ → Place → Fault
fault number place = record { number = number; place = place }

-- The place as document 01 answers it: a plain number.
abbrev pub place_number : Place → ℕ
place_number (Row row) = row
place_number (Byte offset) = offset
place_number (Index index) = index
place_number (Amount amount) = amount

-- What an operation answers: its result, or a refusal.
pub data Answer (A : Type 0) : Type 0 where
  accepted : A → Answer A
  refused : Fault → Answer A

-- "An accepted answer is 0, place 0. A refusal gives number and place".
abbrev pub number : {A : Type 0} → Answer A → ℕ
number (accepted a) = 0
number (refused f) = f.number

abbrev pub place : {A : Type 0} → Answer A → ℕ
place (accepted a) = 0
place (refused f) = place_number f.place

-- The first failed test decides.
abbrev pub require : {A : Type 0} → Bool → Fault → Answer A → Answer A
require true f a = a
require false f a = refused f

abbrev pub and_then : {A B : Type 0} → Answer A → (A → Answer B) → Answer B
and_then (accepted a) k = k a
and_then (refused f) k = refused f

-- A lent list after the operation. "Past a written message or list all keeps what it held"; a refusal changes nothing.
abbrev pub lent_after : Answer (List ℕ) → List ℕ → List ℕ
lent_after (accepted xs) lent = xs ++ drop (length xs) lent
lent_after (refused f) lent = lent
