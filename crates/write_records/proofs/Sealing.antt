-- The stores of an envelope.
-- Assumes nothing.
use mathlib.Core.List.{List, ◌++◌}
use mathlib.Core.Path.{◌≡◌, ap, ◌∙◌}
use Prim.Native.Nat.{ℕ, ◌+◌, ◌-◌, ◌≤◌, ◌<◌}
use native.Mathlib.Omega.{arith}
use borrow.Author.Tests.{le-leb, lt-leb}
use lib.ListN.{length}
use lib.Seq.{sets}
use Rattle.rules.specs.Bytes.{bytes_of, zeros}
use Rattle.rules.specs.Envelope.{envelope_bytes}
use Rattle.words.proofs.Stores.{sets_append, length_bytes_of}
use Rattle.write_records.specs.Promises.{sealed_out}

module _ (out : List ℕ) (at a b : ℕ) where
  -- The handle number and the flags, one after the other,
  two_stored : {first second : List ℕ} → first ≡ sets out at (bytes_of 2 a) → second ≡ sets first (at + 2) (bytes_of 2 b) → second ≡ sets out at (bytes_of 2 a ++ bytes_of 2 b)
  two_stored e f =
      let place : at + length (bytes_of 2 a) ≡ at + 2 = ap (λ (n : ℕ). at + n) (length_bytes_of 2 a) in
      f ∙ rw (e, ← place) (sets_append out at (bytes_of 2 a) (bytes_of 2 b))

module _ (out : List ℕ) (at low handles flags : ℕ) {first second third : List ℕ} where
  -- and the low word before them.
  pub envelope_stored : first ≡ sets out at (bytes_of 4 low) → second ≡ sets first (at + 4) (bytes_of 2 handles) → third ≡ sets second (at + 6) (bytes_of 2 flags)
      → third ≡ sets out at (envelope_bytes low handles flags)
  envelope_stored e f g =
      let place : at + length (bytes_of 4 low) ≡ at + 4 = ap (λ (n : ℕ). at + n) (length_bytes_of 4 low) in
      let flags-at : at + 6 ≡ at + 4 + 2 = omega arith in
      two_stored first (at + 4) handles flags f (rw flags-at at g) ∙ rw (e, ← place) (sets_append out at (bytes_of 4 low) (bytes_of 2 handles ++ bytes_of 2 flags))

module _ (out : List ℕ) (size at bytes handles : ℕ) where
  pub in_line_sealed : {filled first second : List ℕ} → size ≤ 4 → filled ≡ sets out (at + size) (zeros (4 - size)) → first ≡ sets filled (at + 4) (bytes_of 2 handles)
      → second ≡ sets first (at + 6) (bytes_of 2 1) → second ≡ sealed_out out size at bytes handles
  in_line_sealed {filled} h e f g =
      let flags-at : at + 6 ≡ at + 4 + 2 = omega arith in
      two_stored filled (at + 4) handles 1 f (rw flags-at at g) ∙ rw (le-leb size 4 h, e)

  pub out_of_line_sealed : {after : List ℕ} → 4 < size → after ≡ sets out at (envelope_bytes bytes handles 0) → after ≡ sealed_out out size at bytes handles
  out_of_line_sealed h e = e ∙ rw (lt-leb size 4 h)
