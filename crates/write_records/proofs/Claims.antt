-- An object that was claimed: its bytes in line, its fill, and the objects claimed after it.
-- Assumes nothing.
use mathlib.Core.Path.{◌≡◌, refl, sym, ap, ◌∙◌}
use mathlib.Core.List.{List, ◌++◌}
use Prim.Native.Nat.{ℕ, zero, suc, ◌+◌, ◌-◌}
use native.Mathlib.Omega.{arith}
use lib.ListN.{length, length-append}
use lib.Seq.{sets}
use Rattle.rules.specs.Bytes.{zeros, padded}
use Rattle.rules.specs.Encode as E
use Rattle.rules.specs.Encode.{Encoded, wrote, cannot}
use Rattle.rules.proofs.Bytes.{padded_above}
use Rattle.words.proofs.Stores.{sets_append, sets_comm}
use Rattle.write_leaves.specs.declared.cursor.Cursor.{Cursor}
use Rattle.write_leaves.specs.Putting.{Wrote, answer, Stored, Fit, Put}
use Rattle.write_records.specs.Opening.{opened}
use Rattle.write_leaves.proofs.Kept.{kept_sets, kept_then}

-- The fill may come after all objects within.
pub object_stored : (out : List ℕ) (free whole : ℕ) (inline fill outside : List ℕ) → length inline + length fill ≡ whole
    → sets (sets (sets out free inline) (free + whole) outside) (free + length inline) fill ≡ sets out free ((inline ++ fill) ++ outside)
object_stored out free whole inline fill outside e =
    let end : free + length (inline ++ fill) ≡ free + whole = omega (arith, length-append inline fill, e) in
    sym (sets_comm (sets out free inline) (free + length inline) fill (free + whole) outside (omega (arith, e)))
    ∙ ap (λ (l : List ℕ). sets l (free + whole) outside) (sets_append out free inline fill)
    ∙ ap (λ (k : ℕ). sets (sets out free (inline ++ fill)) k outside) (sym end)
    ∙ sets_append out free (inline ++ fill) outside

pub length_zeros : (count : ℕ) → length (zeros count) ≡ count
unfolding zeros
length_zeros zero = refl
length_zeros (suc count) = ap suc (length_zeros count)

-- An object stands in an output that starts with it: its value at 0, and then its fill. It takes no bytes in line.
pub object_filled : {values out out' out'' : List ℕ} {size : ℕ} {c : Cursor} {r : Wrote} {e : Encoded} → Put values out out' size 0 c.next (opened size c) r e
    → out'' ≡ sets out' size (zeros (padded size - size)) → Put values out out'' 0 0 c.next c r (E.as_object size e)
object_filled {values} {out} {out'} {out''} {size} {c} {r} {e} p z = go e p.says p.stored p.fit
  where
    here : c.next - c.next ≡ 0
    here = omega arith

    go : (e : Encoded) → r ≡ answer (length values) e → Stored out out' 0 ((opened size c).next - c.next) e → Fit values size (opened size c) e → Put values out out'' 0 0 c.next c r (E.as_object size e)
    go (wrote inline outside n u rest) a s f =
        let fill = zeros (padded size - size) in
        let begun : c.next + padded size - c.next ≡ 0 + padded size = omega arith in
        let whole : length inline + length fill ≡ padded size = omega (arith, f.whole, length_zeros (padded size - size), padded_above size) in
        let sized : size ≡ 0 + length inline = omega (arith, f.whole) in
        let s' : out' ≡ sets (sets out 0 inline) (0 + padded size) outside = rw begun at s in
        let z' : out'' ≡ sets out' (0 + length inline) fill = z ∙ ap (λ (k : ℕ). sets out' k fill) sized in
        record {
          says = a;
          stored = rw here (z' ∙ ap (λ (l : List ℕ). sets l (0 + length inline) fill) s' ∙ object_stored out 0 (padded size) inline fill outside whole);
          fit = record {
            whole = refl;
            claimed = omega (arith, f.claimed, length-append (inline ++ fill) outside, length-append inline fill, whole);
            short = f.short;
            counted = f.counted;
            few = f.few;
            taken = f.taken;
            left = f.left;
          };
        }
    go (cannot number left) a s f = record { says = a; stored = kept_then 0 (omega arith) s (kept_sets size (zeros (padded size - size)) (omega arith) z); fit = tt }
