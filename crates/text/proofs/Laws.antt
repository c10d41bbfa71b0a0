-- Laws of UTF8-octets, for the code that goes over them by places in a text.
-- Assumes nothing.
use mathlib.Core.Path.{◌≡◌, refl, sym, ◌∙◌, ap}
use mathlib.Core.List.{List, [], ◌∷◌}
use Prim.Native.Nat.{ℕ, ◌+◌, ◌≤◌, ◌<◌}
use native.Mathlib.Numerals.{add-one}
use native.Mathlib.Omega.{arith}
use borrow.Author.Tests.{le-leb}
use lib.ListN.{length, drop, get_or, drop_of_length-le}
use lib.Seq.{drop-cons}
use Rattle.rules.specs.Text as Rules
use Rattle.rules.specs.Text.{forms, led, leads, Text, follows, utf8, is_text, is_utf8}
use Rattle.text.specs.Sequences.{text_from, Passes}

-- Between sequences it does not matter where the last one started.
pub begins : (text : List ℕ) (start at : ℕ) → follows text start at (led []) ≡ follows text at at (led [])
unfolding follows
begins [] start at = refl
begins (n ∷ text) start at = refl

-- Between sequences the next byte is a lead.
next_lead :
    (text : List ℕ) (at : ℕ) → at < length text →
    text_from text at ≡ follows (drop (at + 1) text) at (at + 1) (leads forms (get_or text at 0))
unfolding follows
next_lead text at inside = rw (add-one, drop-cons text at 0)

-- ---- runs of ASCII

pub nothing_passed : (text : List ℕ) (at : ℕ) → at ≤ length text → Passes text at at
nothing_passed text at within = record { onward = omega arith; within = within; alike = refl }

pub both_passed :
    {text : List ℕ} {from middle next : ℕ} → Passes text from middle → Passes text middle next → Passes text from next
both_passed p q = record { onward = omega arith; within = q.within; alike = p.alike ∙ q.alike }

-- An ASCII byte is a sequence by itself.
pub byte_passed :
    {text : List ℕ} {from at : ℕ} → Passes text from at → at < length text → get_or text at 0 < 0x80 →
    Passes text from (at + 1)
byte_passed {text} {from} {at} p inside ascii =
    let alone : leads forms (get_or text at 0) ≡ led [] = simp (le-leb 0 (get_or text at 0) (omega arith), le-leb (get_or text at 0) 0x7F (omega arith)) in
    record {
      onward = omega arith;
      within = omega arith;
      alike = p.alike ∙ next_lead text at inside ∙ ap (follows (drop (at + 1) text) at (at + 1)) alone ∙ begins (drop (at + 1) text) at (at + 1);
    }

-- ---- the whole text

pub ends : (text : List ℕ) (at : ℕ) → length text ≤ at → text_from text at ≡ Rules.text
unfolding follows
ends text at ended = rw (drop_of_length-le text ended)

-- A text is judged from its start on, and is UTF-8 where it is text.
pub judged_from : (bytes : List ℕ) {at : ℕ} {judged : Text} → Passes bytes 0 at → judged ≡ text_from bytes at → judged ≡ utf8 bytes
judged_from bytes passed is = is ∙ sym passed.alike
