-- Document 01's numbers of an answer are those of the rules' answer that it means.
-- Assumes nothing.
use Rattle.std.specs.Prelude.{Result, Ok, Err, is_ok}
use mathlib.Core.Path.{◌≡◌, refl, ap, ◌∙◌}
use mathlib.Core.List.{List}
use Prim.Native.Nat.{ℕ}
use Rattle.rules.specs.Bytes.{zeros}
use Rattle.rules.specs.Text.{utf8, is_text, is_utf8, broken_at}
use Rattle.rules.specs.Answers.{text_answer, numbers_of, nothing}
use Rattle.text.specs.Answers.{text_of, answer_of, text_numbers}

pub text_answer_lem : (bytes : List ℕ) (r : Result (Unit {0}) ℕ) → text_of r ≡ utf8 bytes → answer_of r ≡ text_answer bytes
unfolding text_answer is_utf8 broken_at
text_answer_lem bytes (Ok u) is = rw (← is)
text_answer_lem bytes (Err start) is = rw (← is)

text_numbers_lem : (r : Result (Unit {0}) ℕ) → text_numbers r ≡ numbers_of 0 nothing (answer_of r)
unfolding zeros
text_numbers_lem (Ok u) = refl
text_numbers_lem (Err start) = refl

-- Both clauses of a promise follow from its first.
pub judged :
    (bytes : List ℕ) (r : Result (Unit {0}) ℕ) → text_of r ≡ utf8 bytes →
    record { answer : text_of r ≡ utf8 bytes; numbers : text_numbers r ≡ numbers_of 0 nothing (text_answer bytes) }
judged bytes r is = record { answer = is; numbers = text_numbers_lem r ∙ ap (numbers_of 0 nothing) (text_answer_lem bytes r is) }

pub ok_where_text : (bytes : List ℕ) (r : Result (Unit {0}) ℕ) → text_of r ≡ utf8 bytes → is_ok r ≡ is_utf8 bytes
unfolding is_utf8
ok_where_text bytes (Ok u) is = ap is_text is
ok_where_text bytes (Err start) is = ap is_text is
