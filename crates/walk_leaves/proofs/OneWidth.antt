-- A plan whose parts are all of one width and have no fill: its values are a run, of numbers or of bools.
-- Assumes nothing.
use Rattle.std.specs.Prelude.{Ok, Some, slice_get}
use mathlib.Core.Bool.{true}
use mathlib.Core.List.{List, [], ◌∷◌}
use mathlib.Core.Path.{◌≡◌, refl, sym, ap, ◌∙◌}
use Prim.Native.Nat.{ℕ, zero, suc, ◌+◌, ◌*◌, ◌≤◌, ◌<◌}
use native.Mathlib.Omega.{arith}
use Rattle.std.proofs.Math.Nat.{mul_assoc}
use Rattle.std.proofs.lemmas.List.Elements.{All-head}
use lib.ListN.{length, get_or, replicate}
use Rattle.rules.specs.Sizes.{Field, field, fields_size}
use Rattle.rules.specs.Decode as D
use Rattle.rules.specs.Decode.{Message, Decoder}
use Rattle.rules.specs.Walk as W
use Rattle.plans.specs.declared.Width.{Width}
use Rattle.plans.specs.declared.Width.TheVariants.{Bytes}
use Rattle.plans.specs.declared.Part.{Part}
use Rattle.plans.specs.Plans.{no_part, runnable, PartRuns, Runnable, width_bytes, width_row, part_field, part_fields, width_layout, parts_size}
use Rattle.plans.proofs.Widths.{bytes_allowed, bytes_least, bytes_laid}
use Rattle.nesting.proofs.Runs.{same_elements}
use Rattle.walk_leaves.specs.declared.cursor.Cursor.{Cursor}
use Rattle.walk_leaves.specs.Doing.{message, Ask}
use Rattle.walk_leaves.specs.Parts.{numbers_at, DidValues}
use Rattle.walk_leaves.specs.Planning.{width_at, parts_at, DidAsked}
use Rattle.walk_leaves.proofs.ByPlan.{number_row}
use Rattle.walk_leaves.proofs.Reading.{decoders_grouped, decoders}
use Rattle.walk_leaves.proofs.Steps.{did_more}

-- ---- the parts

pub all_alike : (parts : List Part) (f : Field) → ((k : ℕ) → k < length parts → part_field (get_or parts k no_part) ≡ f)
    → part_fields parts ≡ replicate (length parts) f
all_alike [] f alike = refl
all_alike (p ∷ ps) f alike =
    let first = alike 0 (omega arith) in
    let later = all_alike ps f (λ k h. alike (suc k) (omega arith)) in
    rw (first, later) refl

pub first_runs : (parts : List Part) {first : Part} → Runnable parts → Some first ≡ slice_get parts 0 → runnable first.width ≡ true
first_runs [] runs e = cc
first_runs (p ∷ ps) {first} runs e = let same : p ≡ first = cc in rw same at (All-head PartRuns p ps runs)

fields_alike : (n row : ℕ) → fields_size width_layout (replicate n (field row 0)) ≡ n * (width_layout row).size
unfolding fields_size
fields_alike zero row = omega arith
fields_alike (suc n) row = rw (fields_alike n row) (omega arith)

-- ---- the run

-- So many values of a row, one after the other.
abbrev pub run_at : (row count : ℕ) → Message → Decoder
run_at row count m = D.elements (width_layout row).size (λ i. width_at m row) 0 count

module _ (m : Message) (row : ℕ) where
  abbrev size : ℕ
  size = (width_layout row).size

  abbrev many : (count : ℕ) → Decoder
  many count = run_at row count m

  one_more : (count : ℕ) → D.sequence size (width_at m row) (many count) ≡ many (suc count)
  unfolding D.elements
  one_more count = ap (D.sequence size (width_at m row)) (same_elements (decoders m) size (width_at m row) count 0 1)

  joined : (a b : ℕ) → D.sequence (a * size) (many a) (many b) ≡ many (a + b)
  unfolding D.elements
  joined zero b =
      let none : 0 * size ≡ 0 = omega arith in
      let plain : 0 + b ≡ b = omega arith in
      rw (none, plain) ((decoders_grouped m).nothing_first (many b))
  joined (suc a) b =
      let g = decoders_grouped m in
      let step : suc a * size ≡ size + a * size = omega arith in
      let next : suc a + b ≡ suc (a + b) = omega arith in
      rw (step, next, ← (one_more a)) (sym (g.grouped size (a * size) (width_at m row) (many a) (many b)) ∙ ap (D.sequence size (width_at m row)) (joined a b) ∙ one_more (a + b))

  fields_many : (n : ℕ) → W.fields m width_layout (width_at m) (replicate n (field row 0)) ≡ many n
  unfolding W.fields D.elements
  fields_many zero = refl
  fields_many (suc n) =
      let g = decoders_grouped m in
      rw (g.no_fill, g.nothing_first, fields_many n) (one_more n)

  -- A run of runs is a run.
  run_of_runs : (n count : ℕ) → D.elements (n * size) (λ i. many n) 0 count ≡ many (count * n)
  unfolding D.elements
  run_of_runs n zero = let none : 0 * n ≡ 0 = omega arith in rw none refl
  run_of_runs n (suc count) =
      let next : suc count * n ≡ n + count * n = omega arith in
      rw next (ap (D.sequence (n * size) (many n)) (same_elements (decoders m) (n * size) (many n) count 1 0 ∙ run_of_runs n count) ∙ joined n (count * n))

-- ---- what is asked for, and given

times : (x w : ℕ) → 0 < w → x ≤ x * w
times x zero h = absurd (omega arith)
times x (suc w) h = omega arith

module _ (parts : List Part) (width : Width) (one : (runnable width ≡ true) × (part_fields parts ≡ replicate (length parts) (field (width_row width) 0))) {size : ℕ} (s : parts_size parts ≡ size) where
  size_is : size ≡ length parts * (width_layout (width_row width)).size
  size_is = sym s ∙ rw one.1 (fields_alike (length parts) (width_row width))

  pub run_size : (count : ℕ) → count * size ≡ count * length parts * width_bytes width
  run_size count = rw (size_is, bytes_laid width one.0, mul_assoc) refl

  run_few : (count : ℕ) → count * length parts ≤ count * size
  run_few count = rw (run_size count) (times (count * length parts) (width_bytes width) (bytes_least width one.0))

  pub run_inside : {total handles at : ℕ} {c : Cursor} (count : ℕ) → Ask total handles (count * size) at c → at + count * length parts ≤ total
  run_inside count a = omega (arith, run_few count, a.inside)

  pub run_given : (bytes : List ℕ) (count at : ℕ) {v v' : List ℕ} {c d : Cursor}
      → DidValues bytes v v' (count * length parts) at c (Ok d) (run_at (width_row width) (count * length parts))
      → DidAsked bytes v v' (count * size) at c (Ok d) (λ m. D.elements size (λ i. parts_at parts m) 0 count)
  run_given bytes count at {c = c} did t objects handles a =
      let m = message t bytes handles in
      let row = width_row width in
      rw (one.1, size_is, fields_many m row (length parts), run_of_runs m row (length parts) count, ← size_is)
      (did_more (count * size) (run_few count) (did t objects handles a.free a.held))

-- Numbers.
pub numbers_run : (bytes : List ℕ) (all at : ℕ) {v v' : List ℕ} {c d : Cursor} {width : Width} {w : ℕ} → width ≡ Bytes w → runnable width ≡ true
    → DidValues bytes v v' all at c (Ok d) (numbers_at w all) → DidValues bytes v v' all at c (Ok d) (run_at (width_row width) all)
unfolding numbers_at
numbers_run bytes all at {w = w} e runs did t objects handles free held =
    rw (e, bytes_laid (Bytes w) (bytes_allowed e runs), number_row (message t bytes handles) w (bytes_allowed e runs)) (did t objects handles free held)
