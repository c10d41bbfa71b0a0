-- How the rules' results go together: what came before, what follows, and tests.
-- Assumes nothing.
use Rattle.std.specs.Prelude.{if◌then◌else◌}
use mathlib.Core.Path.{◌≡◌, refl}
use mathlib.Core.Bool.{Bool, true, false}
use mathlib.Core.List.{List, [], ◌++◌, append_assoc, append-nil}
use Prim.Native.Nat.{ℕ}
use Rattle.rules.specs.declared.Fault.{Fault}
use Rattle.rules.specs.Trace.{Event}
use Rattle.rules.specs.Decode as D
use Rattle.rules.specs.Decode.{Decoded, went, stopped}

pub after_none : (r : Decoded) → D.after [] [] r ≡ r
after_none (went n u vs t) = refl
after_none (stopped f vs t) = refl

pub after_after : (vs ws : List ℕ) (s t : List Event) (r : Decoded) → D.after (vs ++ ws) (s ++ t) r ≡ D.after vs s (D.after ws t r)
after_after vs ws s t (went n u xs l) = rw (append_assoc vs ws xs, append_assoc s t l)
after_after vs ws s t (stopped f xs l) = rw (append_assoc vs ws xs, append_assoc s t l)

-- ---- what follows

pub then_same : (r : Decoded) {j k : ℕ → ℕ → Decoded} → ((n u : ℕ) → j n u ≡ k n u) → D.and_then r j ≡ D.and_then r k
then_same (went n u vs t) e = rw (e n u)
then_same (stopped f vs t) e = refl

pub then_nothing : (r : Decoded) → D.and_then r (λ n u. went n u [] []) ≡ r
then_nothing (went n u vs t) = rw (append-nil vs, append-nil t)
then_nothing (stopped f vs t) = refl

pub then_then : (r : Decoded) (j k : ℕ → ℕ → Decoded) → D.and_then (D.and_then r j) k ≡ D.and_then r (λ n u. D.and_then (j n u) k)
then_then (went n u vs t) j k = later vs t (j n u)
  where
    later : (vs : List ℕ) (t : List Event) (r : Decoded) → D.and_then (D.after vs t r) k ≡ D.after vs t (D.and_then r k)
    later vs t (went n u ws s) = after_after vs ws t s (k n u)
    later vs t (stopped f ws s) = refl
then_then (stopped f vs t) j k = refl

-- ---- tests

pub then_require : (holds : Bool) (f : Fault) (r : Decoded) (k : ℕ → ℕ → Decoded) → D.and_then (D.require holds f r) k ≡ D.require holds f (D.and_then r k)
then_require true f r k = refl
then_require false f r k = refl

-- A test after a part that does not look at its values is one more part.
pub require_after_lem : (holds : ℕ → ℕ → Bool) (f : Fault) (r : Decoded)
    → D.require_after (λ n u vs. holds n u) f r ≡ D.and_then r (λ n u. D.require (holds n u) f (went n u [] []))
require_after_lem holds f (went n u vs t) = go (holds n u)
  where
    go : (b : Bool) → (if b then went n u vs t else stopped f vs t) ≡ D.after vs t (D.require b f (went n u [] []))
    go true = rw (append-nil vs, append-nil t)
    go false = rw (append-nil vs, append-nil t)
require_after_lem holds f (stopped g vs t) = refl
