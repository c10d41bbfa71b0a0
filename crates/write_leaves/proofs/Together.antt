-- How parts of the writer go together: the code's answers and its output, along the rules' own ways of putting parts
-- together. Assumes nothing.
use Rattle.std.specs.Prelude.{Err, Ok}
use mathlib.Core.Path.{◌≡◌, refl, sym, ap, ◌∙◌}
use mathlib.Core.List.{List, ◌++◌}
use Prim.Native.Nat.{ℕ, ◌+◌, ◌-◌, ◌≤◌}
use native.Mathlib.Omega.{arith}
use lib.ListN.{length, length-append}
use lib.Seq.{sets}
use Rattle.rules.specs.declared.Fault.{Fault}
use Rattle.rules.specs.Encode as E
use Rattle.rules.specs.Encode.{Encoded, wrote, cannot, Encoder}
use Rattle.words.proofs.Stores.{sets_append, sets_comm}
use Rattle.write_leaves.specs.declared.cursor.Cursor.{Cursor}
use Rattle.write_leaves.specs.Putting.{Wrote, KeptBefore, answer, Stored, Fits, Fit, Put, Puts}
use Rattle.write_leaves.proofs.Kept.{kept_sets, kept_then}

-- Two parts, each with its bytes in line and its objects: all that stands in line comes before all objects.
both_stored : (out : List ℕ) (at free : ℕ) (i o j p : List ℕ) → at + (length i + length j) ≤ free
    → sets (sets (sets (sets out at i) free o) (at + length i) j) (free + length o) p ≡ sets (sets out at (i ++ j)) free (o ++ p)
both_stored out at free i o j p h =
    ap (λ (l : List ℕ). sets l (free + length o) p) (sym (sets_comm (sets out at i) (at + length i) j free o (omega arith)))
    ∙ ap (λ (l : List ℕ). sets (sets l free o) (free + length o) p) (sets_append out at i j)
    ∙ sets_append (sets out at (i ++ j)) free o p

-- A part that was written, and then the rest.
pub put_then : {values out out' out'' : List ℕ} {first second at base : ℕ} {c d : Cursor} {r : Wrote} {e : Encoded} (k : Encoder)
    → Put values out out' first at base c (Ok d) e → Puts values out' out'' second (at + first) base d r k
    → base + (at + (first + second)) ≤ c.next → Put values out out'' (first + second) at base c r (E.and_then e k)
put_then {values} {out} {out'} {out''} {first} {second} {at} {base} {c} {d} {r} {e} k p q z = go e p.says p.stored p.fit
  where
    rest_put : (i o : List ℕ) (n u : ℕ) (rest : List ℕ) → Fits values first c i o n u rest → out' ≡ sets (sets out at i) (c.next - base) o
        → (f : Encoded) → r ≡ answer (length values) f → Stored out' out'' (at + first) (n - base) f → Fit values second (record { next = n; handles = u; index = length values - length rest }) f
        → Put values out out'' (first + second) at base c r (E.after i o f)
    rest_put i o n u rest b s (wrote j p' n' u' rest') a t f =
        let at_second : at + length i ≡ at + first = ap (λ (m : ℕ). at + m) b.whole in
        let free-second : c.next - base + length o ≡ n - base = omega (arith, z, b.claimed) in
        record {
          says = a;
          stored = t ∙ rw (s, ← at_second, ← free-second) (both_stored out at (c.next - base) i o j p' (omega (arith, z, b.whole, f.whole)));
          fit = record {
            whole = omega (arith, length-append i j, b.whole, f.whole);
            claimed = omega (arith, length-append o p', b.claimed, f.claimed);
            short = f.short;
            counted = omega (arith, b.counted, f.counted);
            few = f.few;
            taken = omega (arith, b.taken, f.taken);
            left = f.left;
          };
        }
    rest_put i o n u rest b s (cannot number left) a t f =
        let first-kept : KeptBefore out out' at = kept_then (c.next - base) (omega (arith, z)) (kept_sets at i (omega arith) refl) (kept_sets (c.next - base) o (omega arith) s) in
        record { says = a; stored = kept_then (at + first) (omega arith) first-kept t; fit = tt }

    go : (e : Encoded) → Ok d ≡ answer (length values) e → Stored out out' at (c.next - base) e → Fit values first c e → Put values out out'' (first + second) at base c r (E.and_then e k)
    go (wrote i o n u rest) a s f =
        let same : d ≡ record { next = n; handles = u; index = length values - length rest } = cc in
        let q' = rw (same, ← f.left) at q in
        rest_put i o n u rest f s (k rest n u) q'.says q'.stored q'.fit
    go (cannot number left) a s f = absurd (let w : ◌≡◌ {A = ℕ} 0 1 = cc in omega arith)

-- A part that was refused, whatever was to follow.
pub put_halt : {values out out' : List ℕ} {size at base : ℕ} (whole : ℕ) {c : Cursor} {f : Fault} {e : Encoded} (k : Encoder)
    → Put values out out' size at base c (Err f) e → Put values out out' whole at base c (Err f) (E.and_then e k)
put_halt {values} {out} {out'} {size} {at} {base} whole {c} {f} {e} k p = go e p.says p.stored
  where
    go : (e : Encoded) → Err f ≡ answer (length values) e → Stored out out' at (c.next - base) e → Put values out out' whole at base c (Err f) (E.and_then e k)
    go (wrote i o n u rest) a s = absurd (let w : ◌≡◌ {A = ℕ} 0 1 = cc in omega arith)
    go (cannot number left) a s = record { says = a; stored = s; fit = tt }
