-- Strict enums and strict bits: one value, and what is left of a run of them.
-- Assumes nothing.
use Rattle.std.specs.Prelude.{if◌then◌else◌, Err}
use mathlib.Core.Bool.{Bool, true, false, ◌&&◌}
use mathlib.Core.List.{List}
use mathlib.Core.Path.{◌≡◌, refl, sym}
use Prim.Native.Nat.{ℕ, ◌+◌, ◌-◌, ◌*◌, ◌^◌, ◌<◌}
use native.Mathlib.Omega.{arith}
use borrow.Author.Tests.{lt-ltb, le-ltb, leb-true, leb-false}
use lib.Dec.{leb, ltb}
use lib.ListN.{length, get_or}
use lib.Seq.{sets}
use Rattle.rules.specs.declared.Place.TheVariants.{Index}
use Rattle.rules.specs.Refusals.{fault, not_a_value, strict_value_unknown}
use Rattle.rules.specs.Bytes.{bytes_of}
use Rattle.rules.specs.TypeTable.{kind_in, a_in, b_in, c_in}
use Rattle.rules.specs.Encode as E
use Rattle.rules.specs.Encode.{Encoder, put, unfit}
use Rattle.rules.specs.Records.{write_if, unless, write_number}
use Rattle.rules.proofs.Tests.{both}
use Rattle.words.proofs.Stores.{length_bytes_of}
use Rattle.strict.specs.Strict.{allowed, strict_pattern, StrictRow}
use Rattle.strict.proofs.Numbers.{row_allows}
use Rattle.nesting.proofs.Runs.{RunLeft, run_stopped, run_one}
use Rattle.write_leaves.specs.declared.cursor.Cursor.{Cursor}
use Rattle.write_leaves.specs.Putting.{Wrote, took_one}
use Rattle.write_leaves.specs.InLine.{strict_as}
use Rattle.write_leaves.specs.Planning.{PutAsked}
use Rattle.write_leaves.proofs.InLine.{record_unfit, record_put, took_stands, nothing_put}
use Rattle.write_leaves.proofs.Leading.{ask_stands}
use Rattle.nesting.proofs.Counted.{turns_next}
use Rattle.write_leaves.proofs.Writing.{writing_any}

-- What is left of a run of them.
abbrev pub StrictLeft : (rows entries values : List ℕ) (row count at : ℕ) (o : List ℕ) (c : Cursor) (o' : List ℕ) (d : Cursor) (left place : ℕ) → Type 0
StrictLeft rows entries values row count at o c o' d left place =
    RunLeft (writing_any values) (a_in rows row) (λ i. strict_as rows entries row) (count * a_in rows row) at (E.elements (λ i. strict_as rows entries row) 0 count) o c o' d 0 left place

-- A number that is within the largest of its width, and allowed.
pub strict_small : (most width v : ℕ) (test : Bool) → most + 1 ≡ 256 ^ width → leb v most && test ≡ true → v < 256 ^ width
strict_small most width v test m e = omega (arith, m, leb-true v most (both _ _ e).0)

-- By the row's numbers, a number was judged.
module _ {rows entries : List ℕ} {row : ℕ} (sound : StrictRow rows entries row) {kind width first named : ℕ}
    (k : kind ≡ kind_in rows row) (w : width ≡ a_in rows row) (f : first ≡ b_in rows row) (n : named ≡ c_in rows row)
    (most v : ℕ) (m : most + 1 ≡ 256 ^ width) {test : Bool} (judged : test ≡ allowed entries kind first named v) where
  below_most : ltb v (256 ^ a_in rows row) ≡ leb v most
  below_most = rw (← w) (go (leb v most) refl)
    where
      go : (low : Bool) → leb v most ≡ low → ltb v (256 ^ width) ≡ low
      go true l = lt-ltb v (256 ^ width) (omega (arith, m, leb-true v most l))
      go false l = le-ltb v (256 ^ width) (omega (arith, m, leb-false v most l))

  -- Both tests are those of the rules.
  written : {b : Bool} → leb v most && test ≡ b → write_number (a_in rows row) (strict_pattern rows entries row) v ≡ (if b then put (bytes_of (a_in rows row) v) else unfit)
  unfolding write_number
  written e = rw (below_most, ← (row_allows sound k f n v judged), ← e) (go (leb v most) test)
    where
      go : (low known : Bool) → (if low then write_if (unless strict_value_unknown known) (put (bytes_of (a_in rows row) v)) else unfit) ≡ (if low && known then put (bytes_of (a_in rows row) v) else unfit)
      go true true = refl
      go true false = refl
      go false known = refl

  -- In a run of them.
  module _ (values : List ℕ) {grow at count i place : ℕ} {whole : Encoder} {o : List ℕ} {c : Cursor} {out : List ℕ} {d : Cursor}
      (run : RunLeft (writing_any values) (a_in rows row) (λ k. strict_as rows entries row) grow at whole o c out d 0 (count - i) place) (more : i < count)
      (h : d.index < length values) (read : v ≡ get_or values d.index 0) where
    pub strict_stopped : {r : Wrote} → leb v most && test ≡ false → r ≡ Err (fault not_a_value (Index d.index)) → PutAsked values o out grow at c r whole
    unfolding strict_as
    strict_stopped e z =
        rw z (run_stopped run (omega arith) (λ base a. record_unfit (write_number (a_in rows row) (strict_pattern rows entries row)) (λ v. E.nothing) v h read (written e) base) refl)

    pub strict_next : {out' : List ℕ} {e : Cursor} → leb v most && test ≡ true → out' ≡ sets out place (bytes_of width v) → e ≡ took_one d
        → RunLeft (writing_any values) (a_in rows row) (λ k. strict_as rows entries row) grow at whole o c out' e 0 (count - (i + 1)) (place + width)
    unfolding strict_as
    strict_next e stored t =
        rw t (turns_next run more
        (λ base a. record_put (write_number (a_in rows row) (strict_pattern rows entries row)) (λ v. E.nothing) v h read (bytes_of (a_in rows row) v) (written e) (length_bytes_of (a_in rows row) v)
        (rw w at stored) (nothing_put (took_stands (ask_stands a) h)) base) (sym w) refl)

-- A value by itself is a run of one.
pub strict_alone : (rows entries values : List ℕ) (row : ℕ) {at : ℕ} {out out' : List ℕ} {c : Cursor} {r : Wrote}
    → PutAsked values out out' (1 * a_in rows row) at c r (E.elements (λ i. strict_as rows entries row) 0 1) → PutAsked values out out' (a_in rows row) at c r (strict_as rows entries row)
strict_alone rows entries values row did = run_one (writing_any values) {part = strict_as rows entries row} did
