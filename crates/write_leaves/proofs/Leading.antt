-- Where a part that was written leads to: the cursor and the output after it, and what is asked for there.
-- Assumes nothing.
use Rattle.std.specs.Prelude.{Ok}
use mathlib.Core.List.{List}
use mathlib.Core.Path.{◌≡◌, ap, ◌∙◌}
use Prim.Native.Nat.{ℕ, ◌+◌, ◌-◌, ◌≤◌}
use native.Mathlib.Omega.{arith}
use lib.ListN.{length}
use lib.Seq.{length-sets}
use Rattle.rules.specs.Encode.{Encoded, wrote, cannot}
use Rattle.write_leaves.specs.declared.cursor.Cursor.{Cursor}
use Rattle.write_leaves.specs.Putting.{Wrote, answer, Stored, Fit, Put, Stands, Ask}

pub ask_stands : {values : List ℕ} {size at base : ℕ} {c : Cursor} → Ask values size at base c → Stands values c
ask_stands a = record { free = a.free; held = a.held; left = a.left }

-- The output stays as long as it was.
pub wrote_length : {values out out' : List ℕ} {size at base : ℕ} {c : Cursor} {r : Wrote} {e : Encoded} → Put values out out' size at base c r e → length out' ≡ length out
wrote_length {out = out} {out'} {at = at} {base} {c} {e = e} p = go e p.stored
  where
    go : (e : Encoded) → Stored out out' at (c.next - base) e → length out' ≡ length out
    go (wrote i o n u rest) s = ap length s ∙ simp length-sets
    go (cannot number left) s = s.long

module _ {values out out' : List ℕ} {size at base : ℕ} {c d : Cursor} {e : Encoded} (p : Put values out out' size at base c (Ok d) e) where
  pub wrote_stands : Stands values d × (c.next ≤ d.next)
  wrote_stands = go e p.says p.fit
    where
      go : (e : Encoded) → Ok d ≡ answer (length values) e → Fit values size c e → Stands values d × (c.next ≤ d.next)
      go (wrote i o n u rest) a f =
          let same : d ≡ record { next = n; handles = u; index = length values - length rest } = cc in
          rw same (record { free = f.short; held = f.few; left = omega arith }, omega (arith, f.claimed))
      go (cannot number left) a f = absurd (let w : ◌≡◌ {A = ℕ} 0 1 = cc in omega arith)

  -- What is asked for after it.
  pub ask_rest : (left : ℕ) → base + (at + (size + left)) ≤ c.next → Ask values left (at + size) base d
  ask_rest left h =
      let s = wrote_stands in
      record { inside = omega (arith, s.1); free = s.0.free; held = s.0.held; left = s.0.left }
