-- Laws of a run of stores, `sets`, which leaves out what would stand past the end, and of the bytes of a word, at any width.
-- Assumes nothing.
use Rattle.std.proofs.Common.{◌≡◌, ℕ, zero, suc, ◌+◌, ◌/◌, ◌^◌, ◌<◌, ◌≤◌, List, [], ◌∷◌, ◌++◌, length, set, sym, refl, ap, ◌∙◌, add-zero, mod-eq_of_lt, pow-suc, div-one, get_or, take, drop, add-one, add_comm, append_assoc, length-take, arith}
use native.Mathlib.Nat.{div-div-eq-div-mul}
use lib.Seq.{sets, set_comm, set_out, length-sets, sets-eq, drop-drop, take-suc}
use Rattle.std.specs.Int.{bytes_low_first}
use Rattle.rules.specs.Bytes.{bytes_of}

module _ {ℓ} {A : Type ℓ} where
  -- two runs, one after the other
  pub sets_append : (list : List A) (at : ℕ) (first second : List A)
      → sets (sets list at first) (at + length first) second ≡ sets list at (first ++ second)
  sets_append list at [] second = rw add-zero
  sets_append list at (x ∷ first) second =
      let e : at + suc (length first) ≡ suc at + length first = omega arith in
      rw e (sets_append (set list at x) (suc at) first second)

  -- a store and a run that lies after it
  set_sets : (list : List A) (at : ℕ) (x : A) (later : ℕ) (run : List A) → at < later
      → sets (set list at x) later run ≡ set (sets list later run) at x
  set_sets list at x later [] h = refl
  set_sets list at x later (y ∷ run) h =
      ap (λ (l : List A). sets l (suc later) run) (set_comm list at later x y (omega arith))
      ∙ set_sets (set list later y) at x (suc later) run (omega arith)

  -- two runs that do not meet, in either order
  pub sets_comm : (list : List A) (at : ℕ) (first : List A) (later : ℕ) (second : List A) → at + length first ≤ later
      → sets (sets list at first) later second ≡ sets (sets list later second) at first
  sets_comm list at [] later second h = refl
  sets_comm list at (x ∷ first) later second h =
      sets_comm (set list at x) (suc at) first later second (omega arith)
      ∙ ap (λ (l : List A). sets l (suc at) first) (set_sets list at x later second (omega arith))

  -- a run that fits, in the place of what was there
  pub sets_placed : (list : List A) (at : ℕ) (run : List A) (count : ℕ) → at + count ≤ length list → length run ≡ count
      → take at list ++ (run ++ drop count (drop at list)) ≡ sets list at run
  sets_placed list at run count h k = rw (sets-eq run list at (omega arith), k, drop-drop, add_comm, append_assoc)

  -- one element more of a run, and one that is past the end
  pub sets_more : (list : List A) (at : ℕ) (run : List A) (i : ℕ) {after : List A} (d : A) → after ≡ sets list at (take i run) → i < length run
      → set after (at + i) (get_or run i d) ≡ sets list at (take (i + 1) run)
  sets_more list at run i d p h =
      let long : length (take i run) ≡ i = omega (arith, length-take i run) in
      rw (p, add-one, take-suc run i d h, ← sets_append list at (take i run) (get_or run i d ∷ []), long)

  pub sets_more_past : (list : List A) (at : ℕ) (run : List A) (i : ℕ) {after : List A} (d : A) → after ≡ sets list at (take i run) → i < length run
      → length list ≤ at + i → after ≡ sets list at (take (i + 1) run)
  sets_more_past list at run i d p h k =
      let out : length (sets list at (take i run)) ≤ at + i = rw length-sets k in
      p ∙ sym (set_out (sets list at (take i run)) (at + i) (get_or run i d) out) ∙ sets_more list at run i d refl h

  -- a run past the end
  pub sets_past : (list : List A) (at : ℕ) (run : List A) → length list ≤ at → sets list at run ≡ list
  sets_past list at [] h = refl
  sets_past list at (x ∷ run) h = rw (set_out list at x) (sets_past list (suc at) run (omega arith))

pub length_bytes_of : (width value : ℕ) → length (bytes_of width value) ≡ width
unfolding bytes_of
length_bytes_of zero value = refl
length_bytes_of (suc width) value = ap suc (length_bytes_of width (value / 256))

-- a byte is its own word
pub bytes_of_byte : (value : ℕ) → value < 256 → bytes_of 1 value ≡ value ∷ []
unfolding bytes_of
bytes_of_byte value h = rw mod-eq_of_lt

-- the bytes of a number as `to_le_bytes` gives them
low_first : (i width value : ℕ) → bytes_low_first i width value ≡ bytes_of width (value / 256 ^ i)
unfolding bytes_of
low_first i zero value = refl
low_first zero (suc width) value = rw (low_first 1 width value, div-one)
low_first (suc i) (suc width) value = rw (low_first (suc (suc i)) width value, div-div-eq-div-mul, ← pow-suc)

pub stored : (list : List ℕ) (at width value : ℕ) {chunk after : List ℕ} → chunk ≡ bytes_low_first 0 width value → after ≡ sets list at chunk
    → after ≡ sets list at (bytes_of width value)
stored list at width value p q = rw (q, p, low_first, div-one)
