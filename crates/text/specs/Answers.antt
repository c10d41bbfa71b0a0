-- What the answer of this crate's public functions means in the rules.
-- Assumes nothing.
use Rattle.std.specs.Prelude.{ℕ, [], Result, Ok, Err}
use Rattle.rules.specs.declared.Place.TheVariants.{Byte}
use Rattle.rules.specs.Refusals.{fault, text_not_utf8, Answer, accepted, refused}
use Rattle.rules.specs.Text.{Text, text, broken}
use Rattle.rules.specs.Answers.{Numbers}

abbrev pub text_of : Result (Unit {0}) ℕ → Text
text_of (Ok u) = text
text_of (Err start) = broken start

-- The same as an answer: 13.
abbrev pub answer_of : Result (Unit {0}) ℕ → Answer (Unit {0})
answer_of (Ok u) = accepted u
answer_of (Err start) = refused (fault text_not_utf8 (Byte start))

-- Document 01's number, place and values of each case.
abbrev pub text_numbers : Result (Unit {0}) ℕ → Numbers
text_numbers (Ok u) = record { number = 0; place = 0; values = [] }
text_numbers (Err start) = record { number = text_not_utf8; place = start; values = [] }
