-- So many levels of depth: none is left, or one more and what lies below it. Where an object is open, one is left.
-- Assumes nothing.
use Rattle.std.specs.Prelude.{Err, Ok, Result}
use mathlib.Core.Path.{◌≡◌, refl}
use mathlib.Core.List.{List}
use Prim.Native.Nat.{ℕ, zero, suc, ◌-◌, ◌<◌}
use native.Mathlib.Omega.{arith}
use Rattle.rules.specs.declared.Place.TheVariants.{Byte}
use Rattle.rules.specs.Refusals.{fault, too_deep}
use Rattle.rules.specs.Decode as D
use Rattle.rules.specs.Decode.{Message, Decoder}
use Rattle.rules.specs.Walk as W
use Rattle.walk_leaves.specs.declared.cursor.Cursor.{Cursor}
use Rattle.walk_leaves.specs.Doing.{Walked}
use Rattle.walk_records.specs.declared.records.Opening.{Opening}
use Rattle.walk_records.specs.declared.records.Opened.{Opened}
use Rattle.walk_records.specs.declared.records.Opened.TheVariants.{Open}
use Rattle.walk_leaves.specs.Doing.{Did}
use Rattle.walk_records.specs.Opening.{Reaches}
use Rattle.walk_leaves.proofs.Steps.{did_stop}
use Rattle.rules.specs.declared.Fault.{Fault}

pub levels_spent : (m : Message) (depth : ℕ) → depth ≡ 0 → W.levels m depth ≡ D.spent
unfolding W.levels
levels_spent m depth e = rw e

level : (m : Message) (depth : ℕ) → W.levels m (suc depth) ≡ D.deeper (W.decode_row m (W.levels m depth)) (W.levels m depth)
unfolding W.levels
level m depth = refl

pub levels_down : (m : Message) (depth : ℕ) → (depth ≡ 0 → ⊥) → W.levels m depth ≡ D.deeper (W.decode_row m (W.levels m (depth - 1))) (W.levels m (depth - 1))
levels_down m zero n = absurd (n refl)
levels_down m (suc depth) n = let e : suc depth - 1 ≡ depth = omega arith in rw e (level m depth)

-- 5: at the record or envelope that would go deeper.
pub too_deep_lem : {total handles g : ℕ} {v o : List ℕ} {c : Cursor} {r : Walked} (m : Message) (depth record_at at n u : ℕ) (k : (ℕ → Decoder) → D.Deeper → Decoder)
    → depth ≡ 0 → r ≡ Err (fault too_deep (Byte record_at)) → Did total handles g v v o o c r (D.one_deeper (W.levels m depth) record_at k at n u)
too_deep_lem m depth record_at at n u k e y = rw (levels_spent m depth e, y) did_stop

-- Where an object is open, a level is left.
pub level_left : (depth : ℕ) (r : Result Opened Fault) {x : Opening} → Reaches depth r → r ≡ Ok (Open x) → 0 < depth
level_left depth r h e = rw e at h
