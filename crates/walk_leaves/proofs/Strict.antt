-- Strict enums and strict bits: one value, and what is left of a run of them.
-- Assumes nothing.
use Rattle.std.specs.Prelude.{Err, Ok}
use mathlib.Core.Bool.{Bool, true, false}
use mathlib.Core.List.{List}
use mathlib.Core.Path.{◌≡◌, refl, sym}
use Prim.Native.Nat.{ℕ, ◌+◌, ◌-◌, ◌*◌, ◌<◌}
use lib.ListN.{set}
use Rattle.rules.specs.declared.Place.TheVariants.{Byte}
use Rattle.rules.specs.Refusals.{fault, strict_value_unknown}
use Rattle.rules.specs.Bytes.{word}
use Rattle.rules.specs.TypeTable.{kind_in, a_in, b_in, c_in}
use Rattle.rules.specs.Decode as D
use Rattle.rules.specs.Decode.{Message, Decoder}
use Rattle.rules.specs.Records.{unless, read_number}
use Rattle.layout.proofs.ByKind.{width_positive}
use Rattle.strict.specs.Strict.{allowed, strict_pattern, StrictRow}
use Rattle.strict.proofs.Numbers.{row_allows}
use Rattle.nesting.proofs.Runs.{RunLeft, run_stopped, run_one}
use Rattle.nesting.proofs.Counted.{turns_next}
use native.Mathlib.Omega.{arith}
use Rattle.walk_leaves.specs.declared.cursor.Cursor.{Cursor}
use Rattle.walk_leaves.specs.Doing.{Walked}
use Rattle.walk_leaves.specs.Doing.{gave_one}
use Rattle.walk_leaves.specs.Parts.{strict_at}
use Rattle.walk_leaves.specs.Planning.{DidAsked}
use Rattle.walk_leaves.proofs.Reading.{reading_any}
use Rattle.walk_leaves.proofs.Steps.{did_stop, did_one}

-- What is left of a run of them.
abbrev pub StrictLeft : (rows entries bytes : List ℕ) (row count at : ℕ) (v : List ℕ) (c : Cursor) (v' : List ℕ) (d : Cursor) (left place : ℕ) → Type 0
StrictLeft rows entries bytes row count at v c v' d left place =
    RunLeft (reading_any bytes) (a_in rows row) (λ k. strict_at rows entries row) (count * a_in rows row) at
    (λ m. D.elements (a_in rows row) (λ i. strict_at rows entries row m) 0 count) v c v' d 0 left place

-- By the row's numbers, a value was read and judged.
module _ {rows entries : List ℕ} {row : ℕ} (sound : StrictRow rows entries row) {kind width first named : ℕ}
    (k : kind ≡ kind_in rows row) (w : width ≡ a_in rows row) (f : first ≡ b_in rows row) (n : named ≡ c_in rows row)
    (bytes : List ℕ) (place : ℕ) {x : ℕ} (read : x ≡ word bytes place width) {test : Bool} (judged : test ≡ allowed entries kind first named x) where
  pattern : {b : Bool} → test ≡ b → strict_pattern rows entries row (word bytes place (a_in rows row)) ≡ unless strict_value_unknown b
  pattern e = rw (← w, ← read, ← (row_allows sound k f n x judged), e)

  refused_one : {v : List ℕ} {d : Cursor} → test ≡ false → DidAsked bytes v v (a_in rows row) place d (Err (fault strict_value_unknown (Byte place))) (strict_at rows entries row)
  unfolding strict_at D.record_then read_number
  refused_one e t objects handles a = rw (pattern e) did_stop

  given_one : {v v' : List ℕ} {d e : Cursor} → test ≡ true → v' ≡ set v d.values x → e ≡ gave_one d → DidAsked bytes v v' (a_in rows row) place d (Ok e) (strict_at rows entries row)
  unfolding strict_at D.record_then read_number
  given_one e s g t objects handles a =
      rw (pattern e, s, g, read, w) (did_one (word bytes place (a_in rows row)) (width_positive (a_in rows row) sound.width) a.free a.held)

  -- In a run of them.
  module _ {grow at count i : ℕ} {whole : Message → Decoder} {v : List ℕ} {c : Cursor} {v' : List ℕ} {d : Cursor}
      (run : RunLeft (reading_any bytes) (a_in rows row) (λ i. strict_at rows entries row) grow at whole v c v' d 0 (count - i) place) (more : i < count) where
    pub strict_stopped : {r : Walked} → test ≡ false → r ≡ Err (fault strict_value_unknown (Byte place)) → DidAsked bytes v v' grow at c r whole
    strict_stopped e z = rw z (run_stopped run (omega arith) (refused_one e) refl)

    pub strict_next : {v'' : List ℕ} {e : Cursor} → test ≡ true → v'' ≡ set v' d.values x → e ≡ gave_one d
        → RunLeft (reading_any bytes) (a_in rows row) (λ i. strict_at rows entries row) grow at whole v c v'' e 0 (count - (i + 1)) (place + width)
    strict_next e s g = turns_next run more (given_one e s g) (sym w) refl

-- A value by itself is a run of one.
pub strict_alone : (rows entries bytes : List ℕ) (row : ℕ) {at : ℕ} {v v' : List ℕ} {c : Cursor} {r : Walked}
    → DidAsked bytes v v' (1 * a_in rows row) at c r (λ m. D.elements (a_in rows row) (λ i. strict_at rows entries row m) 0 1) → DidAsked bytes v v' (a_in rows row) at c r (strict_at rows entries row)
strict_alone rows entries bytes row did = run_one (reading_any bytes) {part = strict_at rows entries row} did
