-- Laws of the number stream, for the code that goes over it by places.
-- Assumes nothing.
use Rattle.std.specs.Prelude.{if◌then◌else◌}
use mathlib.Core.Path.{◌≡◌, refl, sym, ◌∙◌, ap}
use mathlib.Core.Bool.{Bool, true, false}
use mathlib.Core.List.{List, [], ◌∷◌, map}
use Prim.Native.Nat.{ℕ, suc, ◌+◌, ◌-◌, ◌*◌, ◌≤◌, ◌<◌, min}
use native.Mathlib.Numerals.{add-one}
use native.Mathlib.Omega.{arith}
use borrow.Author.Tests.{leb-true, leb-false, le-leb, eq-eqb, ne_eqb}
use lib.Pointwise.{pointwise}
use lib.Dec.{leb, eqb}
use lib.ListN.{length, take, drop, get_or, set, drop_of_length-le}
use Rattle.std.proofs.Common.{add-zero, get_or-drop, drop-drop, length-drop}
use lib.Seq.{sets, drop-cons, length-take-le}
use Rattle.std.specs.Char.{is_ascii_digit}
use Rattle.rules.proofs.Tests.{both}
use Rattle.words.proofs.Stores.{sets_past}
use Rattle.stream.specs.Numbers.{with_digit, numbers_of, line_length, LineRead, list_at, after_list, start_at, Narrows, same_numbers}

-- ---- a line

module _ (text : List ℕ) (at value : ℕ) (inside : at < length text) where
  numbers_at_digit :
      is_ascii_digit (get_or text at 0) ≡ true →
      numbers_of (drop at text) value ≡ numbers_of (drop (at + 1) text) (with_digit value (get_or text at 0))
  unfolding numbers_of
  numbers_at_digit digit = rw (add-one, drop-cons text at 0) (simp digit)

  numbers_at_end :
      is_ascii_digit (get_or text at 0) ≡ false →
      numbers_of (drop at text) value ≡ value ∷ (if eqb (get_or text at 0) 10 then [] else numbers_of (drop (at + 1) text) 0)
  unfolding numbers_of
  numbers_at_end other = rw (add-one, drop-cons text at 0) (simp other)

  length_at : line_length (drop at text) ≡ suc (if eqb (get_or text at 0) 10 then 0 else line_length (drop (at + 1) text))
  unfolding line_length
  length_at = rw (add-one, drop-cons text at 0)

-- Part of a line was read: reading on from a place, in the middle of a number, comes to the same as reading it whole.
pub record Reads (text lent : List ℕ) (value count at : ℕ) (numbers : List ℕ) : Type 0 where
  pub counted : count + length (numbers_of (drop at text) value) ≡ length (numbers_of text 0)
  pub passed : at + line_length (drop at text) ≡ line_length text
  pub put : sets numbers count (numbers_of (drop at text) value) ≡ sets lent 0 (numbers_of text 0)
  pub few : count ≤ at

module _
    {text lent numbers : List ℕ} {value count at : ℕ}
    (inside : at < length text) (read : Reads text lent value count at numbers) where
  pub digit_read :
      {next : ℕ} → is_ascii_digit (get_or text at 0) ≡ true → next ≡ with_digit value (get_or text at 0) →
      Reads text lent next count (at + 1) numbers
  digit_read digit is =
      let tests = both (leb 48 (get_or text at 0)) (leb (get_or text at 0) 57) digit in
      let feed : eqb (get_or text at 0) 10 ≡ false = ne_eqb (get_or text at 0) 10 (λ e. omega (arith, leb-true 48 (get_or text at 0) tests.0)) in
      let same = numbers_at_digit text at value inside digit ∙ ap (numbers_of (drop (at + 1) text)) (sym is) in
      record {
        counted = rw same at read.counted;
        passed = omega (arith, read.passed, simp feed at (length_at text at value inside));
        put = rw same at read.put;
        few = omega (arith, read.few);
      }

  module _ {after : List ℕ} (other : is_ascii_digit (get_or text at 0) ≡ false) (stored : after ≡ set numbers count value) where
    pub number_read : (get_or text at 0 ≡ 10 → ⊥) → Reads text lent 0 (count + 1) (at + 1) after
    number_read no-feed =
        let feed : eqb (get_or text at 0) 10 ≡ false = ne_eqb (get_or text at 0) 10 no-feed in
        let more = simp feed at (numbers_at_end text at value inside other) in
        record {
          counted = omega (arith, read.counted, ap length more);
          passed = omega (arith, read.passed, simp feed at (length_at text at value inside));
          put = rw (stored, add-one count) (rw more at read.put);
          few = omega (arith, read.few);
        }

    pub line_read :
        {rest : List ℕ} → get_or text at 0 ≡ 10 → rest ≡ drop (at + 1) text → LineRead text lent (count + 1) rest after
    line_read is left =
        let feed : eqb (get_or text at 0) 10 ≡ true = eq-eqb (get_or text at 0) 10 is in
        let last = simp feed at (numbers_at_end text at value inside other) in
        let ended : at + 1 ≡ line_length text = omega (arith, read.passed, simp feed at (length_at text at value inside)) in
        record {
          counted = omega (arith, read.counted, ap length last);
          passed = left ∙ ap (λ n. drop n text) ended;
          put = stored ∙ rw last at read.put;
        }

-- The end of a text, from a place on, starts there: by what is left of the length.
pub end_start :
    (text : List ℕ) (at : ℕ) (from : ℕ × ℕ) → at ≤ length text →
    ◌≡◌ {A = ℕ × ℕ} (from.0, at + from.1) (from.0, length text - length (take (length text - at) (drop at text)) + from.1)
end_start text at from inside =
    ap (λ n. (from.0, n)) (omega (arith, inside, length-take-le (length text - at) (drop at text) (omega (arith, length-drop at text))))

pub text_read :
    {text lent numbers : List ℕ} {value count at : ℕ} →
    length text ≤ at → Reads text lent value count at numbers → LineRead text lent count [] numbers
unfolding numbers_of line_length
text_read {text} {at = at} ended read =
    let nothing = drop_of_length-le text ended in
    let whole : length text ≤ line_length text = omega (arith, rw nothing at read.passed) in
    record {
      counted = omega (arith, rw nothing at read.counted);
      passed = sym (drop_of_length-le text whole);
      put = rw nothing at read.put;
    }

-- ---- lists of numbers

-- A list of a part, and what comes after it.
pub list_of_part :
    (numbers : List ℕ) (at : ℕ) {part : List ℕ} → part ≡ drop at numbers → list_at part 0 ≡ list_at numbers at
list_of_part numbers at is = rw (is, get_or-drop, drop-drop, add-zero)

pub after_part :
    (numbers : List ℕ) (at : ℕ) {part : List ℕ} → part ≡ drop at numbers → after_list part 0 ≡ after_list numbers at
after_part numbers at is = rw (list_of_part numbers at is, is, drop-drop) (ap (λ n. drop n numbers) (omega arith))

-- Where a part of a part starts, if it lies in the list.
pub part_start :
    (numbers : List ℕ) (at more : ℕ) {place : ℕ} {part : List ℕ} {start : ℕ × ℕ} (from : ℕ × ℕ) → part ≡ drop at numbers → start ≡ (from.0, at * 8 + from.1) →
    at + more ≡ place → place ≤ length numbers → start_at part more start ≡ (from.0, place * 8 + from.1)
part_start numbers at more {place} from is begins sum inside =
    rw (is, begins, le-leb more (length (drop at numbers)) (omega (arith, sum, inside, length-drop at numbers))) (ap (λ n. (from.0, n)) (omega (arith, sum)))

-- Where the numbers or the room end, there is nothing more to store.
module _ {A : Type 0} (narrowed : ℕ → A) (numbers : List ℕ) (stores : List A) (count : ℕ) (is : count ≡ min (length numbers) (length stores)) where
  nothing_more : sets stores count (map narrowed (drop count numbers)) ≡ stores
  nothing_more = go (leb (length numbers) (length stores)) refl
    where
      go : (few : Bool) → leb (length numbers) (length stores) ≡ few → sets stores count (map narrowed (drop count numbers)) ≡ stores
      go true few =
          let ended : length numbers ≤ count = omega (arith, leb-true (length numbers) (length stores) few) in
          rw drop_of_length-le
      go false many = sets_past stores count (map narrowed (drop count numbers)) (omega (arith, leb-false (length numbers) (length stores) many))

  pub all_stored :
      {lent : List A} → length stores ≡ length lent →
      sets stores count (map narrowed (drop count numbers)) ≡ sets lent 0 (map narrowed numbers) → Narrows narrowed numbers lent count stores
  all_stored long stored =
      let within : count ≤ length stores = omega arith in
      record {
        within = within;
        long = sym (length-take-le count stores within);
        counted = rw (← long) is;
        put = sym nothing_more ∙ stored;
      }

pub same_numbers_is : (xs ys : List ℕ) → pointwise eqb xs ys ≡ same_numbers xs ys
unfolding same_numbers
same_numbers_is [] [] = refl
same_numbers_is [] (y ∷ ys) = refl
same_numbers_is (x ∷ xs) [] = refl
same_numbers_is (x ∷ xs) (y ∷ ys) = rw (same_numbers_is xs ys)
