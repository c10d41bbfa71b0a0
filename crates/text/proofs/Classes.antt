-- The classes of bytes, by one test over the whole table.
-- Assumes nothing.
use Rattle.std.specs.Prelude.{if◌then◌else◌, Result, Ok, Err, OkIff}
use Rattle.std.specs.Result.{result_unwrap_or}
use mathlib.Core.Path.{◌≡◌, refl, sym, ◌∙◌, ap}
use mathlib.Core.Bool.{Bool, true, false, ◌&&◌, and-false, false≢true}
use mathlib.Core.List.{List, [], ◌∷◌, map, Memᴰ}
use mathlib.Core.Logic.{⊎_elim}
use Prim.Native.Nat.{ℕ, zero, suc, ◌≤◌, ◌<◌}
use native.Mathlib.Nat.{eq-or-lt_of_le}
use native.Mathlib.Omega.{arith}
use borrow.Author.Tests.{ltb-true, lt-leb, le-leb, leb-true, eqb-true}
use lib.Dec.{eqb, leb, ltb}
use lib.ListN.{length, get_or}
use Rattle.rules.specs.Text.{Range, range, holds}
use Rattle.rules.proofs.Tests.{both}
use Rattle.text.specs.Classes.{ranges, is_in, meanings, holds_class, classes, class_of, has, Alike, ClassesRight}

-- ---- a test of all numbers below one, which is computed, and what it says of each

abbrev pub all_below : (count : ℕ) (test : ℕ → Bool) → Bool
all_below zero test = true
all_below (suc count) test = test count && all_below count test

pub below : (count : ℕ) (test : ℕ → Bool) → all_below count test ≡ true → (k : ℕ) → k < count → test k ≡ true
below zero test all k h = absurd (omega arith)
below (suc count) test all k h =
    let parts = both (test count) (all_below count test) all in
    ⊎_elim (λ (e : k ≡ count). ap test e ∙ parts.0) (λ less. below count test parts.1 k less) (eq-or-lt_of_le (omega arith))

-- ---- two tests of ranges that say the same of each

module _ (f g : Range → Bool) where
  all_same : (rs : List Range) → ((r : Range) → Memᴰ r rs → f r ≡ g r) → map f rs ≡ map g rs
  all_same [] same = refl
  all_same (r ∷ rs) same =
      let here = same r (Memᴰ.head refl) in
      let later = all_same rs (λ s m. same s (Memᴰ.tail m)) in
      cc

  each_same : (rs : List Range) → map f rs ≡ map g rs → (r : Range) → Memᴰ r rs → f r ≡ g r
  each_same [] e r m = elim m [ ]
  each_same (s ∷ rs) e r (Memᴰ.head is) = let here : f s ≡ g s = cc in rw is here
  each_same (s ∷ rs) e r (Memᴰ.tail m) = let later : map f rs ≡ map g rs = cc in each_same rs later r m

-- ---- the class that a byte should have: the first one whose ranges are those that hold it

abbrev pub same : Bool → Bool → Bool
same true b = b
same false true = false
same false false = true

pub is_same : (a b : Bool) → same a b ≡ true → a ≡ b
is_same true b is = sym is
is_same false true is = absurd (false≢true is)
is_same false false is = refl

abbrev same_all : List Bool → List Bool → Bool
same_all [] [] = true
same_all [] (b ∷ right) = false
same_all (a ∷ left) [] = false
same_all (a ∷ left) (b ∷ right) = same a b && same_all left right

is_same_all : (left right : List Bool) → same_all left right ≡ true → left ≡ right
is_same_all [] [] is = refl
is_same_all [] (b ∷ right) is = absurd (false≢true is)
is_same_all (a ∷ left) [] is = absurd (false≢true is)
is_same_all (a ∷ left) (b ∷ right) is =
    let parts = both (same a b) (same_all left right) is in
    rw (is_same a b parts.0, is_same_all left right parts.1)

abbrev class_by : List (List Range) → (held : List Bool) → ℕ
class_by [] held = 0
class_by (m ∷ ms) held = if same_all (map (is_in m) ranges) held then 0 else suc (class_by ms held)

class_found :
    (ms : List (List Range)) (held : List Bool) → class_by ms held < length ms →
    map (is_in (get_or ms (class_by ms held) [])) ranges ≡ held
class_found [] held h = absurd (omega arith)
class_found (m ∷ ms) held h = go (same_all (map (is_in m) ranges) held) refl h (class_found ms held)
  where
    go : (b : Bool) → same_all (map (is_in m) ranges) held ≡ b → (if b then 0 else suc (class_by ms held)) < suc (length ms) →
        (class_by ms held < length ms → map (is_in (get_or ms (class_by ms held) [])) ranges ≡ held) →
        map (is_in (get_or (m ∷ ms) (if b then 0 else suc (class_by ms held)) [])) ranges ≡ held
    go true is h later = is_same_all (map (is_in m) ranges) held is
    go false is h later = later (omega arith)

-- ---- the table

held_by : (byte : ℕ) → List Bool
held_by byte = map (λ r. holds r byte) ranges

right : (byte : ℕ) → Bool
right byte = eqb (class_of byte) (class_by meanings (held_by byte)) && ltb (class_of byte) 13

all_right : all_below 256 right ≡ true
unfolding classes right held_by
all_right = refl

entry : (byte : ℕ) → byte < 256 → (class_of byte ≡ class_by meanings (held_by byte)) × (class_of byte < 13)
unfolding right
entry byte h =
    let parts = both (eqb (class_of byte) (class_by meanings (held_by byte))) (ltb (class_of byte) 13) (below 256 right all_right byte h) in
    (eqb-true _ _ parts.0, ltb-true _ _ parts.1)

means : (byte : ℕ) → byte < 256 → (r : Range) → Memᴰ r ranges → holds r byte ≡ holds_class r (class_of byte)
unfolding held_by
means byte h r m =
    let e = entry byte h in
    let found = class_found meanings (held_by byte) (rw e.0 at e.1) in
    rw e.0 (sym (each_same (is_in (get_or meanings (class_by meanings (held_by byte)) [])) (λ s. holds s byte) ranges found r m))

all_used : all_below 13 (has classes) ≡ true
unfolding classes
all_used = refl

pub classes_right : ClassesRight
unfolding held_by
classes_right = record {
  fourteen = refl;
  used = below 13 (has classes) all_used;
  known = λ byte h. (entry byte h).1;
  means = means;
  shared = λ a b h k e r m. means a h r m ∙ ap (holds_class r) e ∙ sym (means b k r m);
  apart = λ a b h k alike.
      (entry a h).0 ∙ ap (class_by meanings) (all_same (λ r. holds r a) (λ r. holds r b) ranges alike) ∙ sym (entry b k).0;
}

-- ---- numbers above all bytes

-- All ranges end below a number, so none holds it.
abbrev EndBelow : (number : ℕ) → List Range → Type 0
EndBelow number [] = Unit {0}
EndBelow number (range low high ∷ rs) = (high < number) × EndBelow number rs

none_holds : (number : ℕ) (rs : List Range) → EndBelow number rs → (r : Range) → Memᴰ r rs → holds r number ≡ false
none_holds number [] h r m = elim m [ ]
none_holds number (range low high ∷ rs) h r (Memᴰ.head is) = rw is (simp (lt-leb number high h.0, and-false))
none_holds number (range low high ∷ rs) h r (Memᴰ.tail m) = none_holds number rs h.1 r m

pub capped_alike : (number : ℕ) → 255 ≤ number → Alike number 255
capped_alike number h r m = none_holds number ranges (omega arith) r m ∙ sym (none_holds 255 ranges (omega arith) r m)

-- A number that is judged as the byte that it is, or as the last one.
pub as_byte : {E : Type 0} (number byte : ℕ) (r : Result ℕ E) → OkIff r (number < 256) number → byte ≡ result_unwrap_or r 255 → Alike number byte
as_byte number byte (Ok v) fits is = let same : number ≡ byte = sym (is ∙ fits.1) in λ r m. ap (holds r) same
as_byte number byte (Err e) none is = rw is (capped_alike number (omega arith))

-- It is ASCII where the byte is: the range 00-7F holds both.
pub ascii_as_byte : {number byte : ℕ} → Alike number byte → byte < 0x80 → number < 0x80
ascii_as_byte {number} {byte} alike ascii =
    let held : holds (range 0x00 0x7F) byte ≡ true = simp (le-leb 0 byte (omega arith), le-leb byte 0x7F (omega arith)) in
    let is = alike (range 0x00 0x7F) (Memᴰ.head refl) ∙ held in
    omega (arith, leb-true number 0x7F (both (leb 0 number) (leb number 0x7F) is).1)
