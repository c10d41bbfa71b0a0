-- Runs of one and the same part whose turns are counted upwards.
-- Assumes nothing.
use mathlib.Core.Path.{◌≡◌}
use Prim.Native.Nat.{ℕ, ◌+◌, ◌-◌, ◌*◌, ◌<◌}
use native.Mathlib.Omega.{arith}
use Rattle.nesting.proofs.Algebra.{Algebra, Doing}
use Rattle.nesting.proofs.Runs.{RunLeft, run_start, run_next}

module _ {A : Algebra} {D : Doing A} {size : ℕ} {part : A.Part} where
  pub turns_start : {l : D.Lent} {c : D.Cursor} {step : ℕ} (count at : ℕ) → size ≡ step → D.Ask (count * step) at c
      → RunLeft D size (λ k. part) (count * step) at (A.elements step (λ k. part) 0 count) l c l c 0 (count - 0) at
  turns_start count at s a = let all : count - 0 ≡ count = omega arith in rw all (run_start 0 count at s a)

  pub turns_next : {grow at : ℕ} {whole : A.Part} {l l' l'' : D.Lent} {c d : D.Cursor} {count i place : ℕ} {w : D.Answer}
      → RunLeft D size (λ k. part) grow at whole l c l' d 0 (count - i) place → i < count → D.Did size place l' l'' d w part
      → {step : ℕ} {e : D.Cursor} → size ≡ step → w ≡ D.on e → RunLeft D size (λ k. part) grow at whole l c l'' e 0 (count - (i + 1)) (place + step)
  turns_next {count = count} {i} r h did s z = let left : count - i - 1 ≡ count - (i + 1) = omega arith in rw (← left) (run_next r (omega arith) did s z)
