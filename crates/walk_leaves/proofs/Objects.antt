-- Laws of fill and of claims; a law for each way that a function ends.
-- Assumes nothing.
use Rattle.std.specs.Prelude.{Err, Ok}
use mathlib.Core.Path.{◌≡◌, refl, sym}
use mathlib.Core.List.{List, [], ◌∷◌}
use Prim.Native.Nat.{ℕ, zero, suc, ◌+◌, ◌-◌, ◌≤◌, ◌<◌}
use native.Mathlib.Nat.{add-zero}
use native.Mathlib.Numerals.{add-one}
use native.Mathlib.Omega.{arith}
use borrow.Author.Tests.{le-leb, lt-leb, eq-eqb, ne_eqb}
use lib.ListN.{length, set, take, drop}
use lib.Seq.{sets}
use Rattle.rules.specs.declared.Place.TheVariants.{Byte}
use Rattle.rules.specs.Refusals.{fault, object_does_not_fit, fill_not_zero}
use Rattle.rules.specs.Bytes.{part, leading_zeros, padded}
use Rattle.rules.specs.Trace.{object_list}
use Rattle.rules.specs.Decode as D
use Rattle.walk_leaves.specs.declared.cursor.Cursor.{Cursor}
use Rattle.walk_leaves.specs.Doing.{Walked}
use Rattle.walk_leaves.specs.Parts.{claim_at, DidObjects, DidNeither}
use Rattle.walk_leaves.proofs.Steps.{cursor_same, did_stop, did_nothing}

-- ---- fill

zeros_most : (l : List ℕ) (count : ℕ) → leading_zeros (take count l) ≤ count
unfolding leading_zeros
zeros_most l zero = omega arith
zeros_most [] (suc count) = omega arith
zeros_most (zero ∷ l) (suc count) = omega (arith, zeros_most l count)
zeros_most (suc byte ∷ l) (suc count) = omega arith

-- all of it is zero
pub all_zeros : (bytes : List ℕ) (at count : ℕ) {zeros : ℕ} → zeros ≡ leading_zeros (part bytes at count) → count ≤ zeros → leading_zeros (part bytes at count) ≡ count
unfolding part
all_zeros bytes at count e h = omega (arith, zeros_most (drop at bytes) count)

module _ (bytes : List ℕ) (at count : ℕ) (c : Cursor) {zeros : ℕ} (e : zeros ≡ leading_zeros (part bytes at count)) where
  pub fill_refused : {r : Walked} → zeros < count → r ≡ Err (fault fill_not_zero (Byte (at + zeros))) → DidNeither bytes 0 at c r (λ m. D.fill m count)
  unfolding D.fill
  fill_refused h f t values objects handles free held = simp (f, ← e, ne_eqb zeros count (λ q. omega arith)) did_stop

  pub fill_passed : count ≤ zeros → DidNeither bytes 0 at c (Ok c) (λ m. D.fill m count)
  unfolding D.fill
  fill_passed h t values objects handles free held = simp (eq-eqb _ _ (all_zeros bytes at count e h)) (did_nothing free held)

-- ---- claims

-- four stores, one after the other
pub four_stores : (l : List ℕ) (i a b c d : ℕ) {l₁ l₂ l₃ l₄ : List ℕ} → l₁ ≡ set l i a → l₂ ≡ set l₁ (i + 1) b → l₃ ≡ set l₂ (i + 2) c → l₄ ≡ set l₃ (i + 3) d
    → l₄ ≡ sets l i (a ∷ b ∷ c ∷ d ∷ [])
four_stores l i a b c d p q r s =
    let e : i + 2 ≡ suc (suc i) = omega arith in
    let f : i + 3 ≡ suc (suc (suc i)) = omega arith in
    rw (s, r, q, p, add-one i, e, f)

module _ (bytes objects : List ℕ) (kind row size : ℕ) (c : Cursor) {whole : ℕ} (w : whole ≡ padded size) where
  pub claim_unfit : {r : Walked} → length bytes - c.next < whole → r ≡ Err (fault object_does_not_fit (Byte c.next))
      → DidObjects bytes objects objects 4 0 c r (claim_at kind row size)
  unfolding claim_at
  claim_unfit h e t values handles free held = simp (e, ← w, lt-leb (c.next + whole) (length bytes) (omega arith)) did_stop

  module _ (fits : whole ≤ length bytes - c.next) {zeros : ℕ} (e : zeros ≡ leading_zeros (part bytes (c.next + size) (whole - size))) where
    pub claim_unfilled : {r : Walked} → zeros < whole - size → r ≡ Err (fault fill_not_zero (Byte (c.next + size + zeros)))
        → DidObjects bytes objects objects 4 0 c r (claim_at kind row size)
    unfolding claim_at
    claim_unfilled h f t values handles free held =
        simp (f, ← w, ← e, le-leb (c.next + whole) (length bytes) (omega arith), ne_eqb zeros (whole - size) (λ q. omega arith)) did_stop

    pub claim_given : {objects' : List ℕ} → whole - size ≤ zeros → objects' ≡ sets objects c.objects (kind ∷ row ∷ c.next ∷ size ∷ [])
        → DidObjects bytes objects objects' 4 0 c (Ok (record { next = c.next + whole; handles = c.handles; values = c.values; objects = c.objects + 4 })) (claim_at kind row size)
    unfolding claim_at object_list
    claim_given h f t values handles free held =
        simp (← w, le-leb (c.next + whole) (length bytes) (omega arith), eq-eqb _ _ (all_zeros bytes (c.next + size) (whole - size) e h)) (record {
          says = cursor_same (c.next + whole) c.handles (sym (add-zero c.values)) refl;
          valued = refl;
          listed = f;
          within = (omega arith, held, omega arith);
          rises = (omega arith, omega arith);
        })
