-- Laws of text that is put into a lent output.
-- Assumes nothing.
use mathlib.Core.Path.{◌≡◌, refl, ap, ◌∙◌}
use mathlib.Core.List.{List, [], ◌∷◌, ◌++◌}
use Prim.Native.Nat.{ℕ, zero, suc, ◌+◌, ◌*◌, ◌/◌, ◌%◌, ◌≤◌, ◌<◌}
use native.Mathlib.Numerals.{add-one}
use native.Mathlib.Omega.{arith}
use lib.ListN.{length, length-append, length-drop, take, drop, get_or, drop_of_length-le}
use Rattle.std.proofs.Common.{drop-drop}
use Rattle.std.specs.Simd.{first_chunks}
use lib.Seq.{sets, length-sets, drop-cons}
use Rattle.rules.specs.Bytes.{bytes_of}
use Rattle.words.proofs.Stores.{sets_append, bytes_of_byte}
use Rattle.listing.specs.Lines.{decimal, line, value=, object_at, object_lines, value_lines, largest, Puts}
use Rattle.listing.proofs.Digits.{decimal_small, decimal_step, decimal_short}

pub byte_put :
    {lent after : List ℕ} {at byte : ℕ} → byte < 256 → after ≡ sets lent at (bytes_of 1 byte) →
    Puts lent at (byte ∷ []) 1 (at + 1) after
byte_put {byte = byte} small stored =
    record { stored = rw (stored, bytes_of_byte byte small); ends = refl; within = omega arith }

module _ {lent after : List ℕ} {at most next : ℕ} {first : List ℕ} (put : Puts lent at first most next after) where
  -- one text after the other
  pub puts_then :
      {last : List ℕ} {more end : ℕ} {second : List ℕ} →
      Puts after next second more end last → Puts lent at (first ++ second) (most + more) end last
  puts_then {second = second} then =
      record {
        stored = rw (then.stored, put.stored, put.ends) (sets_append lent at first second);
        ends = omega (arith, put.ends, then.ends, length-append first second);
        within = omega (arith, put.within, then.within);
      }

  -- within more bytes, or within fewer where the text is known to be short
  pub puts_wider : {more : ℕ} → most ≤ more → Puts lent at first more next after
  puts_wider wider = record { stored = put.stored; ends = put.ends; within = omega (arith, put.within) }

  pub puts_short : {fewer : ℕ} → length first ≤ fewer → Puts lent at first fewer next after
  puts_short short = record { stored = put.stored; ends = put.ends; within = omega (arith, put.ends) }

-- ---- numbers

pub digit_put :
    {lent after : List ℕ} {at next : ℕ} (n : ℕ) → n < 10 →
    Puts lent at ((48 + n) ∷ []) 1 next after → Puts lent at (decimal n) 20 next after
digit_put n small put = rw (decimal_small n small) (puts_short put (omega arith))

pub number_put :
    {lent mid after : List ℕ} {at next last : ℕ} (n : ℕ) → 10 ≤ n → n < 18446744073709551616 →
    Puts lent at (decimal (n / 10)) 20 next mid → Puts mid next ((48 + n % 10) ∷ []) 1 last after →
    Puts lent at (decimal n) 20 last after
number_put {lent} {after = after} {at = at} {last = last} n large wide first digit =
    let put : Puts lent at (decimal n) 21 last after = rw (decimal_step n large) (puts_then first digit) in
    puts_short put (decimal_short n wide)

-- ---- loops

-- Part of a text was put: whoever puts the rest has put it all.
pub record Goes (lent : List ℕ) (at : ℕ) (text : List ℕ) (most : ℕ) (after : List ℕ) (next : ℕ) (left : List ℕ) (more : ℕ) : Type 0 where
  pub whole : (end : ℕ) (last : List ℕ) → Puts after next left more end last → Puts lent at text most end last
  pub room : next + more ≤ largest
  pub long : length after ≡ length lent

pub goes_start :
    {lent : List ℕ} {at : ℕ} {text : List ℕ} {most more : ℕ} → at + most ≤ largest → more ≡ most → Goes lent at text most lent at text more
goes_start room is = record { whole = λ end last put. rw is at put; room = omega arith; long = refl }

module _
    {lent : List ℕ} {at : ℕ} {text : List ℕ} {most : ℕ} {after : List ℕ} {next : ℕ} {left : List ℕ} {more : ℕ}
    (goes : Goes lent at text most after next left more) where
  pub goes_on :
      {first rest : List ℕ} {some fewer then : ℕ} {later : List ℕ} →
      left ≡ first ++ rest → some + fewer ≤ more → Puts after next first some then later →
      Goes lent at text most later then rest fewer
  goes_on is takes put =
      record {
        whole = λ end last rest. goes.whole end last (rw is (puts_wider (puts_then put rest) takes));
        room = omega (arith, goes.room, put.within);
        long = rw (put.stored, length-sets) goes.long;
      }

  pub goes_end : left ≡ [] → Puts lent at text most next after
  goes_end is = goes.whole next after (record { stored = rw is; ends = rw is (omega arith); within = omega arith })

-- What is left of a text, by places: of bytes,
pub byte_left : (text : List ℕ) (i : ℕ) → i < length text → drop i text ≡ (get_or text i 0 ∷ []) ++ drop (i + 1) text
byte_left text i inside = rw (add-one, drop-cons text i 0)

-- of values,
pub value_left :
    (values : List ℕ) (i : ℕ) → i < length values →
    value_lines (drop i values) ≡ line value= (get_or values i 0) ++ value_lines (drop (i + 1) values)
unfolding value_lines
value_left values i inside = rw (add-one, drop-cons values i 0)

pub values_end : (values : List ℕ) (i : ℕ) → length values ≤ i → value_lines (drop i values) ≡ []
unfolding value_lines
values_end values i past = rw (drop_of_length-le values past)

-- and of objects, four numbers each.
first_object : (objects : List ℕ) → 4 ≤ length objects → object_lines objects ≡ object_at (take 4 objects) 0 ++ object_lines (drop 4 objects)
unfolding object_lines
first_object (k ∷ r ∷ o ∷ l ∷ objects) inside = refl
first_object [] inside = absurd (omega arith)
first_object (k ∷ []) inside = absurd (omega arith)
first_object (k ∷ r ∷ []) inside = absurd (omega arith)
first_object (k ∷ r ∷ o ∷ []) inside = absurd (omega arith)

no_object : (objects : List ℕ) → length objects < 4 → object_lines objects ≡ []
unfolding object_lines
no_object [] few = refl
no_object (k ∷ []) few = refl
no_object (k ∷ r ∷ []) few = refl
no_object (k ∷ r ∷ o ∷ []) few = refl
no_object (k ∷ r ∷ o ∷ l ∷ objects) few = absurd (omega arith)

chunk_at : (count : ℕ) (objects : List ℕ) (i : ℕ) (d : List ℕ) → i < count → get_or (first_chunks 4 count objects) i d ≡ take 4 (drop (i * 4) objects)
chunk_at zero objects i d inside = absurd (omega arith)
chunk_at (suc count) objects zero d inside = refl
chunk_at (suc count) objects (suc i) d inside =
    chunk_at count (drop 4 objects) i d (omega arith) ∙ rw drop-drop (ap (λ n. take 4 (drop n objects)) (omega arith))

pub object_left :
    (objects : List ℕ) (i : ℕ) (d : List ℕ) → i < length objects / 4 →
    object_lines (drop (i * 4) objects)
    ≡ object_at (get_or (first_chunks 4 (length objects / 4) objects) i d) 0 ++ object_lines (drop ((i + 1) * 4) objects)
object_left objects i d inside =
    let next : (i + 1) * 4 ≡ i * 4 + 4 = omega arith in
    first_object (drop (i * 4) objects) (omega (arith, length-drop (i * 4) objects))
    ∙ rw (chunk_at (length objects / 4) objects i d inside, next, ← drop-drop 4 (i * 4) objects)

pub objects_end : (objects : List ℕ) (i : ℕ) → length objects / 4 ≤ i → object_lines (drop (i * 4) objects) ≡ []
objects_end objects i ended = no_object (drop (i * 4) objects) (omega (arith, length-drop (i * 4) objects))
