-- One value number given, and then the rest, from the cursor after it on.
-- Assumes nothing.
use mathlib.Core.Path.{◌≡◌}
use mathlib.Core.List.{List, [], ◌∷◌}
use Prim.Native.Nat.{ℕ, ◌+◌, ◌≤◌}
use native.Mathlib.Omega.{arith}
use lib.ListN.{set}
use Rattle.rules.specs.Decode as D
use Rattle.rules.specs.Decode.{Decoded}
use Rattle.walk_leaves.specs.declared.cursor.Cursor.{Cursor}
use Rattle.walk_leaves.specs.Doing.{Walked}
use Rattle.walk_leaves.specs.Doing.{gave_one, Did, Ask}
use Rattle.walk_leaves.proofs.Steps.{did_put}

-- What `gave` promises.
abbrev pub Gave : (values values' : List ℕ) (c e : Cursor) (x : ℕ) → Type 0
Gave values values' c e x = (values' ≡ set values c.values x) × (e ≡ gave_one c)

pub did_gave : {total handles g : ℕ} (h : ℕ) {v v' v'' o o' : List ℕ} {c e : Cursor} (x : ℕ) {r : Walked} (k : ℕ → ℕ → Decoded) → Gave v v' c e x
    → Did total handles g v' v'' o o' e r (k e.next e.handles) → 1 + g ≤ h → Did total handles h v v'' o o' c r (D.after (x ∷ []) [] (k c.next c.handles))
did_gave h {c = c} x k p d l = did_put h c x (rw (p.0, p.1) at d) l

-- One number less may follow.
pub ask_gave : {total handles need at : ℕ} {c e : Cursor} (rest : ℕ) → Ask total handles need at c → e ≡ gave_one c → 1 + rest ≤ need → Ask total handles rest at e
ask_gave rest a q l = rw q (record { short = a.short; few = a.few; inside = omega arith; free = a.free; held = a.held; small = omega arith })
