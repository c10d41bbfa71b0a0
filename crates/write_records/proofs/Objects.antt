-- An object that was claimed is written into the rest of the output from its own offset on, with its fill.
-- Assumes nothing.
use mathlib.Core.Path.{◌≡◌, refl, ap}
use mathlib.Core.List.{List, [], ◌∷◌, ◌++◌}
use Prim.Native.Nat.{ℕ, ◌-◌, ◌*◌, ◌%◌, ◌≤◌, min}
use native.Mathlib.Omega.{arith}
use lib.ListN.{length, take, drop}
use lib.Seq.{sets}
use Rattle.rules.specs.Bytes.{zeros, padded}
use Rattle.rules.specs.Encode.{Encoded, wrote, cannot, Encoder}
use Rattle.rules.proofs.Bytes.{padded_above, padded_multiple}
use Rattle.write_leaves.specs.declared.cursor.Cursor.{Cursor}
use Rattle.write_leaves.specs.Putting.{Wrote, KeptBefore, answer, Stored, Fit, Put, Puts, Ask}
use Rattle.write_records.specs.declared.records.Opening.{Opening}
use Rattle.write_records.specs.Opening.{opened, claimed_from, Claimed, ObjectPut}
use Rattle.write_records.proofs.Parts.{rest_lent, rest_long, rest_same}
use Rattle.write_records.proofs.Claims.{object_filled}
use Rattle.write_records.proofs.Openings.{padded_is}

-- What the value in an object is asked for.
pub object_asks : {values : List ℕ} (size base : ℕ) (x : Opening) → Claimed values size base x → Ask values size 0 x.start x.cursor
object_asks size base x k = record {
  inside = omega (arith, ap (λ (c : Cursor). c.next) k.advanced, padded_above size);
  free = k.stands.free;
  held = k.stands.held;
  left = k.stands.left;
}

-- It lies in the message.
pub object_few : {values : List ℕ} (size : ℕ) {base : ℕ} (x : Opening) → Claimed values size base x → size ≤ 65536
object_few size x k = omega (arith, ap (λ (c : Cursor). c.next) k.advanced, padded_above size, k.stands.free)

-- The same of its size as the code counts it.
pub object_counted : {values : List ℕ} (size : ℕ) {base : ℕ} (x : Opening) {counted : ℕ} → Claimed values size base x → size ≡ counted → counted ≤ 65536
object_counted size x k e = rw e at (object_few size x k)

-- The fill up to eight, as the code counts it.
pub filled_up : (out : List ℕ) {out' : List ℕ} (size : ℕ) → out' ≡ sets out size (zeros ((8 - size % 8) % 8)) → out' ≡ sets out size (zeros (padded size - size))
filled_up out size s = let fill : (8 - size % 8) % 8 ≡ padded size - size = omega (arith, padded_is size) in rw fill at s

-- What was put in the rest of the output, from the next free byte on, was put in the output.
rest_put : {values out part' : List ℕ} {from base : ℕ} {c : Cursor} {r : Wrote} {e : Encoded} → from ≡ min (c.next - base) (length out)
    → Put values (take (length out - from) (drop from out)) part' 0 0 c.next c r e
    → Put values out (take from out ++ (part' ++ drop (length out - from) (drop from out))) 0 (c.next - base) base c r e
rest_put {values} {out} {part'} {from} {base} {c} {r} {e} least p = go e p.says p.stored p.fit
  where
    rest : List ℕ
    rest = take (length out - from) (drop from out)

    lent : List ℕ
    lent = take from out ++ (part' ++ drop (length out - from) (drop from out))

    here : c.next - c.next ≡ 0
    here = omega arith

    go : (e : Encoded) → r ≡ answer (length values) e → Stored rest part' 0 (c.next - c.next) e → Fit values 0 c e → Put values out lent 0 (c.next - base) base c r e
    go (wrote [] outside n u left) a s f =
        let s' : part' ≡ sets rest 0 outside = rw here at s in
        record { says = a; stored = rest_lent outside out part' (c.next - base) from least s'; fit = f }
    go (wrote (x ∷ inline) outside n u left) a s f = absurd (omega (arith, f.whole))
    go (cannot number left) a s f =
        let kept : KeptBefore out lent (c.next - base) = record {
          long = rest_long out part' (c.next - base) from least s.long;
          same = rest_same out part' (c.next - base) from least s.long;
        }
        in
        record { says = a; stored = kept; fit = tt }

-- The value in an object, from the cursor after the claim on.
value_put : {values part part' : List ℕ} {size : ℕ} {c d : Cursor} {w : Wrote} (fields : Encoder) → d ≡ opened size c → Puts values part part' size 0 c.next d w fields
    → Put values part part' size 0 c.next (opened size c) w (fields (drop c.index values) (opened size c).next c.handles)
value_put fields claimed p = rw claimed at p

-- An object as the code ends it: its fields are written in the rest of the output, then its fill, and the answer is passed on.
pub object_written : (values out : List ℕ) (size base from : ℕ) (x : Opening) (fields : Encoder) {part' part'' : List ℕ} {counted : ℕ} {w r : Wrote} → Claimed values size base x
    → Puts values (take (length out - from) (drop from out)) part' size 0 x.start x.cursor w fields → from ≡ min (x.start - base) (length out) → size ≡ counted
    → part'' ≡ sets part' counted (zeros (padded counted - counted)) → r ≡ w
    → ObjectPut values out (take from out ++ (part'' ++ drop (length out - from) (drop from out))) size base (claimed_from x) r fields
object_written values out size base from x fields k p least sized s same =
    rw same (rest_put {c = claimed_from x} least (object_filled {c = claimed_from x} (value_put {c = claimed_from x} fields k.advanced p) (rw (← sized) at s)))

-- Words need no fill.
pub words_written : (values out : List ℕ) (count base from : ℕ) (x : Opening) (fields : Encoder) {part' : List ℕ} {w : Wrote} → Claimed values (count * 8) base x
    → Puts values (take (length out - from) (drop from out)) part' (count * 8) 0 x.start x.cursor w fields → from ≡ min (x.start - base) (length out)
    → ObjectPut values out (take from out ++ (part' ++ drop (length out - from) (drop from out))) (count * 8) base (claimed_from x) w fields
unfolding zeros
words_written values out count base from x fields {part'} k p least =
    object_written values out (count * 8) base from x fields k p least refl (none (padded (count * 8) - count * 8) (omega (arith, padded_multiple count))) refl
  where
    none : (n : ℕ) → n ≡ 0 → part' ≡ sets part' (count * 8) (zeros n)
    none n e = rw e
