-- The loops over elements and over a table's envelopes, for whatever is done with each: what is left of a run.
-- Assumes nothing.
use mathlib.Core.Path.{◌≡◌, ap, ◌∙◌}
use Prim.Native.Nat.{ℕ, zero, suc, ◌+◌, ◌-◌, ◌*◌, ◌≤◌, ◌<◌}
use native.Mathlib.Nat.{suc-mul}
use native.Mathlib.Omega.{arith}
use Rattle.rules.specs.declared.Fault.{Fault}
use Rattle.nesting.proofs.Algebra.{Algebra, Doing, Left, left_start, first_asks, left_on, left_refused, left_end}

-- So many parts of `size` bytes from number `i` on, at a place.
pub record RunLeft {A : Algebra} (D : Doing A) (size : ℕ) (parts : ℕ → A.Part) (grow at : ℕ) (whole : A.Part) (l : D.Lent) (c : D.Cursor) (l' : D.Lent) (d : D.Cursor) (i left place : ℕ) : Type 0 where
  pub rest : Left D grow at whole l c l' d (left * size) (A.elements size parts i left) place

module _ {A : Algebra} {D : Doing A} {size : ℕ} {parts : ℕ → A.Part} where
  pub run_start : {l : D.Lent} {c : D.Cursor} {step : ℕ} (i count at : ℕ) → size ≡ step → D.Ask (count * step) at c
      → RunLeft D size parts (count * step) at (A.elements step parts i count) l c l c i count at
  run_start i count at s a = record { rest = rw s (left_start a) }

  module _ {grow at : ℕ} {whole : A.Part} {l : D.Lent} {c : D.Cursor} {l' : D.Lent} {d : D.Cursor} {i left place : ℕ} (r : RunLeft D size parts grow at whole l c l' d i left place) where
    unrolled : 0 < left → Left D grow at whole l c l' d (size + (left - 1) * size) (A.sequence size (parts i) (A.elements size parts (i + 1) (left - 1))) place
    unrolled h =
        let s : suc (left - 1) * size ≡ size + (left - 1) * size = suc-mul (left - 1) size ∙ omega arith in
        let n : left ≡ suc (left - 1) = omega arith in
        let j : suc i ≡ i + 1 = omega arith in
        rw (s, A.laws.next_element size parts i (left - 1), j) at (rw n at r.rest)

    -- the part that is next
    pub run_asks : 0 < left → D.Ask size place d
    run_asks h = first_asks _ _ _ _ (unrolled h)

    pub run_on : {l'' : D.Lent} {e : D.Cursor} → 0 < left → D.Did size place l' l'' d (D.on e) (parts i) → RunLeft D size parts grow at whole l c l'' e (i + 1) (left - 1) (place + size)
    run_on h did = record { rest = left_on _ _ _ _ (unrolled h) did }

    pub run_refused : {l'' : D.Lent} {f : Fault} → 0 < left → D.Did size place l' l'' d (D.refused f) (parts i) → D.Did grow at l l'' c (D.refused f) whole
    run_refused h did = left_refused _ _ _ _ (unrolled h) did

    pub run_end : left ≤ 0 → D.Did grow at l l' c (D.on d) whole
    run_end h =
        let e : left ≡ 0 = omega arith in
        let none : 0 * size ≡ 0 = omega arith in
        left_end (rw (none, A.laws.no_elements size parts i) at (rw e at r.rest))

-- ---- runs of one and the same part, which go by any number

pub same_elements : (A : Algebra) (size : ℕ) (part : A.Part) (count i j : ℕ) → A.elements size (λ k. part) i count ≡ A.elements size (λ k. part) j count
same_elements A size part zero i j = rw (A.laws.no_elements size (λ k. part) i, A.laws.no_elements size (λ k. part) j)
same_elements A size part (suc count) i j =
    rw (A.laws.next_element size (λ k. part) i count, A.laws.next_element size (λ k. part) j count) (ap (A.sequence size part) (same_elements A size part count (suc i) (suc j)))

-- One turn, by what the code's call answered.
module _ {A : Algebra} {D : Doing A} {size : ℕ} {part : A.Part} {grow at : ℕ} {whole : A.Part} {l l' l'' : D.Lent} {c d : D.Cursor} {left place : ℕ} {w : D.Answer}
    (r : RunLeft D size (λ k. part) grow at whole l c l' d 0 left place) (h : 0 < left) (q : D.Did size place l' l'' d w part) where
  pub run_next : {step : ℕ} {e : D.Cursor} → size ≡ step → w ≡ D.on e → RunLeft D size (λ k. part) grow at whole l c l'' e 0 (left - 1) (place + step)
  run_next s z = rw (← s) (record { rest = rw (same_elements A size part (left - 1) (0 + 1) 0) at (run_on r h (rw z at q)).rest })

  pub run_stopped : {f : Fault} → w ≡ D.refused f → D.Did grow at l l'' c (D.refused f) whole
  run_stopped z = run_refused r h (rw z at q)

-- A run of one is the part itself.
pub run_one : {A : Algebra} (D : Doing A) {size at : ℕ} {part : A.Part} {l l' : D.Lent} {c : D.Cursor} {w : D.Answer}
    → D.Did (1 * size) at l l' c w (A.elements size (λ k. part) 0 1) → D.Did size at l l' c w part
run_one {A} D {size} {part = part} did =
    let once : 1 * size ≡ size = omega arith in
    rw (once, A.laws.next_element size (λ k. part) 0 0, A.laws.no_elements size (λ k. part) 1, A.laws.nothing_last size part) at did
