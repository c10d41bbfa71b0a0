-- W-202: the classes of bytes. "what each class means is shown once for all 256 entries against the byte ranges of RFC 3629's grammar,
-- and two bytes share a class exactly when each of these ranges, single bytes too, holds both or neither."
-- Assumes nothing.
use Rattle.std.specs.Prelude.{◌≡◌, Bool, true, false, ◌&&◌, ◌||◌, ℕ, ◌<◌, eqb, length, get_or, if◌then◌else◌}
use mathlib.Core.List.{List, [], ◌∷◌, ◌++◌, Memᴰ}
use Rattle.rules.specs.Text.{Range, range, tail, holds, Form, form, forms}

-- ---- the ranges of the grammar, as the rules have it

abbrev pub ranges_of : List Form → List Range
ranges_of [] = []
ranges_of (form lead after ∷ fs) = lead ∷ (after ++ ranges_of fs)

abbrev pub ranges : List Range
ranges = ranges_of forms

abbrev pub same_range : Range → Range → Bool
same_range (range low high) (range low' high') = eqb low low' && eqb high high'

abbrev pub is_in : List Range → Range → Bool
is_in [] r = false
is_in (s ∷ rs) r = same_range r s || is_in rs r

-- Each range once: there are fourteen.
abbrev pub once : List Range → List Range
once [] = []
once (r ∷ rs) = if is_in rs r then once rs else (r ∷ once rs)

-- The ranges of a form, by its place in the grammar: 0 leads 00-7F, 1 C2-DF, 2 E0 (then A0-BF), 3 E1-EC, 4 ED (then 80-9F), 5 EE-EF,
-- 6 F0 (then 90-BF), 7 F1-F3, 8 F4 (then 80-8F).
abbrev pub lead_of : Form → Range
lead_of (form lead after) = lead

abbrev pub after_of : Form → List Range
after_of (form lead after) = after

abbrev pub leading : (place : ℕ) → Range
leading place = lead_of (get_or forms place (form tail []))

abbrev pub following : (place : ℕ) → List Range
following place = after_of (get_or forms place (form tail []))

abbrev pub second : (place : ℕ) → Range
second place = get_or (following place) 0 tail

-- ---- what a class means

-- The ranges that hold the bytes of each class; the last one is of the bytes that no range holds.
abbrev pub meanings : List (List Range)
meanings =
    (leading 0 ∷ [])
    ∷ (tail ∷ second 4 ∷ second 8 ∷ [])
    ∷ (tail ∷ second 4 ∷ second 6 ∷ [])
    ∷ (tail ∷ second 2 ∷ second 6 ∷ [])
    ∷ (leading 1 ∷ [])
    ∷ (leading 2 ∷ [])
    ∷ (leading 3 ∷ [])
    ∷ (leading 4 ∷ [])
    ∷ (leading 5 ∷ [])
    ∷ (leading 6 ∷ [])
    ∷ (leading 7 ∷ [])
    ∷ (leading 8 ∷ [])
    ∷ []
    ∷ []

-- Does a range hold the bytes of a class?
abbrev pub holds_class : Range → (class : ℕ) → Bool
holds_class r class = is_in (get_or meanings class []) r

-- ---- the table

unfoldable pub classes : List ℕ
classes =
    0 ∷ 0 ∷ 0 ∷ 0 ∷ 0 ∷ 0 ∷ 0 ∷ 0 ∷ 0 ∷ 0 ∷ 0 ∷ 0 ∷ 0 ∷ 0 ∷ 0 ∷ 0
    ∷ 0 ∷ 0 ∷ 0 ∷ 0 ∷ 0 ∷ 0 ∷ 0 ∷ 0 ∷ 0 ∷ 0 ∷ 0 ∷ 0 ∷ 0 ∷ 0 ∷ 0 ∷ 0
    ∷ 0 ∷ 0 ∷ 0 ∷ 0 ∷ 0 ∷ 0 ∷ 0 ∷ 0 ∷ 0 ∷ 0 ∷ 0 ∷ 0 ∷ 0 ∷ 0 ∷ 0 ∷ 0
    ∷ 0 ∷ 0 ∷ 0 ∷ 0 ∷ 0 ∷ 0 ∷ 0 ∷ 0 ∷ 0 ∷ 0 ∷ 0 ∷ 0 ∷ 0 ∷ 0 ∷ 0 ∷ 0
    ∷ 0 ∷ 0 ∷ 0 ∷ 0 ∷ 0 ∷ 0 ∷ 0 ∷ 0 ∷ 0 ∷ 0 ∷ 0 ∷ 0 ∷ 0 ∷ 0 ∷ 0 ∷ 0
    ∷ 0 ∷ 0 ∷ 0 ∷ 0 ∷ 0 ∷ 0 ∷ 0 ∷ 0 ∷ 0 ∷ 0 ∷ 0 ∷ 0 ∷ 0 ∷ 0 ∷ 0 ∷ 0
    ∷ 0 ∷ 0 ∷ 0 ∷ 0 ∷ 0 ∷ 0 ∷ 0 ∷ 0 ∷ 0 ∷ 0 ∷ 0 ∷ 0 ∷ 0 ∷ 0 ∷ 0 ∷ 0
    ∷ 0 ∷ 0 ∷ 0 ∷ 0 ∷ 0 ∷ 0 ∷ 0 ∷ 0 ∷ 0 ∷ 0 ∷ 0 ∷ 0 ∷ 0 ∷ 0 ∷ 0 ∷ 0
    ∷ 1 ∷ 1 ∷ 1 ∷ 1 ∷ 1 ∷ 1 ∷ 1 ∷ 1 ∷ 1 ∷ 1 ∷ 1 ∷ 1 ∷ 1 ∷ 1 ∷ 1 ∷ 1
    ∷ 2 ∷ 2 ∷ 2 ∷ 2 ∷ 2 ∷ 2 ∷ 2 ∷ 2 ∷ 2 ∷ 2 ∷ 2 ∷ 2 ∷ 2 ∷ 2 ∷ 2 ∷ 2
    ∷ 3 ∷ 3 ∷ 3 ∷ 3 ∷ 3 ∷ 3 ∷ 3 ∷ 3 ∷ 3 ∷ 3 ∷ 3 ∷ 3 ∷ 3 ∷ 3 ∷ 3 ∷ 3
    ∷ 3 ∷ 3 ∷ 3 ∷ 3 ∷ 3 ∷ 3 ∷ 3 ∷ 3 ∷ 3 ∷ 3 ∷ 3 ∷ 3 ∷ 3 ∷ 3 ∷ 3 ∷ 3
    ∷ 12 ∷ 12 ∷ 4 ∷ 4 ∷ 4 ∷ 4 ∷ 4 ∷ 4 ∷ 4 ∷ 4 ∷ 4 ∷ 4 ∷ 4 ∷ 4 ∷ 4 ∷ 4
    ∷ 4 ∷ 4 ∷ 4 ∷ 4 ∷ 4 ∷ 4 ∷ 4 ∷ 4 ∷ 4 ∷ 4 ∷ 4 ∷ 4 ∷ 4 ∷ 4 ∷ 4 ∷ 4
    ∷ 5 ∷ 6 ∷ 6 ∷ 6 ∷ 6 ∷ 6 ∷ 6 ∷ 6 ∷ 6 ∷ 6 ∷ 6 ∷ 6 ∷ 6 ∷ 7 ∷ 8 ∷ 8
    ∷ 9 ∷ 10 ∷ 10 ∷ 10 ∷ 11 ∷ 12 ∷ 12 ∷ 12 ∷ 12 ∷ 12 ∷ 12 ∷ 12 ∷ 12 ∷ 12 ∷ 12 ∷ 12 ∷ []

abbrev pub class_of : (byte : ℕ) → ℕ
class_of byte = get_or classes byte 0

-- ---- what is claimed of it

-- Each range of the grammar holds both of two numbers, or neither.
abbrev pub Alike : (a b : ℕ) → Type 0
Alike a b = (r : Range) → Memᴰ r ranges → holds r a ≡ holds r b

abbrev pub has : List ℕ → (class : ℕ) → Bool
has [] class = false
has (c ∷ cs) class = eqb c class || has cs class

pub record ClassesRight : Type 0 where
  -- fourteen ranges give thirteen classes, each with bytes in it
  pub fourteen : length (once ranges) ≡ 14
  pub used : (class : ℕ) → class < 13 → has classes class ≡ true
  -- what each class means, at all 256 entries
  pub known : (byte : ℕ) → byte < 256 → class_of byte < 13
  pub means : (byte : ℕ) → byte < 256 → (r : Range) → Memᴰ r ranges → holds r byte ≡ holds_class r (class_of byte)
  -- two bytes share a class exactly when each range holds both or neither
  pub shared : (a b : ℕ) → a < 256 → b < 256 → class_of a ≡ class_of b → Alike a b
  pub apart : (a b : ℕ) → a < 256 → b < 256 → Alike a b → class_of a ≡ class_of b
