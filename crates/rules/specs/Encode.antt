-- What the writer is made of: a twin for each part of Decode.antt.
-- Assumes nothing.
use Rattle.std.specs.Prelude.{Bool, true, false, not, List, [], ◌∷◌, ◌++◌, ℕ, zero, suc, ◌+◌, ◌-◌, leb, length, take}
use Rattle.rules.specs.Refusals.{message_too_long, too_many_handles, too_deep, not_a_value}
use Rattle.rules.specs.Bytes.{zeros, padded}

-- A part wrote its in-line bytes and the bytes of the objects it claimed, which only ever are put one after the other;
-- with the next free place, the handles used and the numbers left. Or it cannot: the refusal's number, and how many
-- numbers there were from the one judged on, which gives its index.
pub data Encoded : Type 0 where
  wrote : (inline out_of_line : List ℕ) (next used : ℕ) (rest : List ℕ) → Encoded
  cannot : (number left : ℕ) → Encoded

abbrev pub Encoder : Type 0
Encoder = (values : List ℕ) → (next used : ℕ) → Encoded

-- ---- results

abbrev pub after : (inline out_of_line : List ℕ) → Encoded → Encoded
after a b (wrote inline out_of_line next used rest) = wrote (a ++ inline) (b ++ out_of_line) next used rest
after a b (cannot number left) = cannot number left

abbrev pub and_then : Encoded → Encoder → Encoded
and_then (wrote inline out_of_line next used rest) k = after inline out_of_line (k rest next used)
and_then (cannot number left) k = cannot number left

abbrev pub require : Bool → (number left : ℕ) → Encoded → Encoded
require true number left result = result
require false number left result = cannot number left

-- Refusals of the number that was taken last, before those of `values`.
abbrev pub last_taken : (values : List ℕ) → ℕ
last_taken values = suc (length values)

-- ---- parts in turn

abbrev pub nothing : Encoder
nothing values next used = wrote [] [] next used values

abbrev pub refuse : (number : ℕ) → Encoder
refuse number values next used = cannot number (last_taken values)

unfoldable pub sequence : Encoder → Encoder → Encoder
sequence first second values next used = and_then (first values next used) second

unfoldable pub elements : (ℕ → Encoder) → (index count : ℕ) → Encoder
elements parts index zero = nothing
elements parts index (suc count) = sequence (parts index) (elements parts (suc index) count)

-- ---- numbers of the list

-- The next number, judged (26 at its index), and what is made of it. "A list that ends early is 26 at its length".
unfoldable pub number_then : (ℕ → Bool) → (ℕ → Encoder) → Encoder
number_then holds continue [] next used = cannot not_a_value 0
number_then holds continue (v ∷ values) next used =
    let written = continue v values next used in
    require (holds v) not_a_value (last_taken values) written

pub data WriteRecord : Type 0 where
  put : (bytes : List ℕ) → WriteRecord
  unfit : WriteRecord

abbrev pub record_goes : WriteRecord → (left : ℕ) → Encoded → Encoded
record_goes (put bytes) left result = after bytes [] result
record_goes unfit left result = cannot not_a_value left

-- A record of one number, then what it leads to.
unfoldable pub record_then : (write : ℕ → WriteRecord) → (ℕ → Encoder) → Encoder
record_then write continue [] next used = cannot not_a_value 0
record_then write continue (v ∷ values) next used =
    let written = continue v values next used in
    record_goes (write v) (last_taken values) written

-- A test of the numbers that a part took, after it; at the number before them.
abbrev pub checked_goes : (List ℕ → Bool) → (values : List ℕ) → Encoded → Encoded
checked_goes holds values (wrote inline out_of_line next used rest) =
    require (holds (take (length values - length rest) values)) not_a_value (last_taken values) (wrote inline out_of_line next used rest)
checked_goes holds values (cannot number left) = cannot number left

unfoldable pub checked : (List ℕ → Bool) → Encoder → Encoder
checked holds part values next used = checked_goes holds values (part values next used)

-- ---- depth

pub data Deeper : Type 0 where
  spent : Deeper
  deeper : (rows : ℕ → Encoder) → Deeper → Deeper

-- 5: at the number that leads deeper.
abbrev pub one_deeper : Deeper → ((rows : ℕ → Encoder) → Deeper → Encoder) → Encoder
one_deeper spent k = refuse too_deep
one_deeper (deeper rows below) k = k rows below

-- ---- the message

unfoldable pub inline_bytes : (bytes : List ℕ) → Encoder
inline_bytes bytes values next used = wrote bytes [] next used values

abbrev pub fill : (count : ℕ) → Encoder
fill count = inline_bytes (zeros count)

-- 3: "a claim past 65,536".
abbrev pub require_space : (size next : ℕ) (values : List ℕ) → Encoded → Encoded
require_space size next values result = require (leb (next + padded size) 65536) message_too_long (last_taken values) result

-- What was written in line becomes an object, with its fill, before the objects claimed after it.
abbrev pub as_object : (size : ℕ) → Encoded → Encoded
as_object size (wrote inline out_of_line next used rest) = wrote [] ((inline ++ zeros (padded size - size)) ++ out_of_line) next used rest
as_object size (cannot number left) = cannot number left

unfoldable pub claim : (size : ℕ) → Encoder → Encoder
claim size fields values next used =
    let written = as_object size (fields values (next + padded size) used) in
    require_space size next values written

-- 4: "the 65th handle".
abbrev pub require_handles : (used : ℕ) (values : List ℕ) → Encoded → Encoded
require_handles used values result = require (leb used 64) too_many_handles (last_taken values) result

unfoldable pub take_handles : (count : ℕ) → Encoder
take_handles count values next used = require_handles (used + count) values (wrote [] [] next (used + count) values)

-- ---- envelopes of any edition, `size` bytes each

-- An envelope in a table: 0, which the last may not be, or 1 and its content.
unfoldable pub optional_envelope : (size : ℕ) → (last : Bool) → Encoder → Encoder
optional_envelope size last content [] next used = cannot not_a_value 0
optional_envelope size last content (zero ∷ values) next used =
    require (not last) not_a_value (last_taken values) (wrote (zeros size) [] next used values)
optional_envelope size last content (suc zero ∷ values) next used = content values next used
optional_envelope size last content (suc (suc v) ∷ values) next used = cannot not_a_value (last_taken values)
