-- A box's number, by the tests that the code makes, and what it leads to.
-- Assumes nothing.
use Rattle.std.specs.Prelude.{Err, Ok, Result}
use mathlib.Core.Path.{◌≡◌, refl, sym, ◌∙◌}
use mathlib.Core.Bool.{true}
use mathlib.Core.List.{List}
use Prim.Native.Nat.{ℕ, zero, suc, ◌-◌, ◌≤◌, ◌<◌}
use native.Mathlib.Omega.{arith}
use lib.ListN.{length, get_or}
use lib.Seq.{sets}
use Rattle.rules.specs.declared.Fault.{Fault}
use Rattle.rules.specs.declared.Place.TheVariants.{Index}
use Rattle.rules.specs.Refusals.{fault, not_a_value}
use Rattle.rules.specs.Bytes.{bytes_of, ones64}
use Rattle.rules.specs.Encode.{put, unfit}
use Rattle.rules.specs.Records.{write_presence}
use Rattle.rules.specs.Writer as R
use Rattle.words.proofs.Stores.{length_bytes_of}
use Rattle.write_leaves.specs.declared.cursor.Cursor.{Cursor}
use Rattle.write_records.specs.declared.records.Opening.{Opening}
use Rattle.write_records.specs.declared.records.Opened.TheVariants.{Closed}
use Rattle.write_leaves.specs.Putting.{took_one, Stands}
use Rattle.write_records.specs.Opening.{to_open}
use Rattle.write_records.specs.Promises.{DeeperOpens, BoxOpens}
use Rattle.write_leaves.proofs.InLine.{record_ended, record_unfit, record_put, nothing_put, took_stands}
use Rattle.write_records.proofs.Openings.{ask_took, record_opens}

over_one : (v : ℕ) → 1 < v → write_presence 8 ones64 true v ≡ unfit
unfolding write_presence
over_one zero k = absurd (omega arith)
over_one (suc zero) k = absurd (omega arith)
over_one (suc (suc v)) k = refl

writes_absent : write_presence 8 ones64 true 0 ≡ put (bytes_of 8 0)
unfolding write_presence
writes_absent = refl

writes_present : write_presence 8 ones64 true 1 ≡ put (bytes_of 8 ones64)
unfolding write_presence
writes_present = refl

module _ (values out : List ℕ) (depth at : ℕ) (c : Cursor) (size : ℕ) (s : Stands values c) where
  pub box_ended : {f : Fault} → length values ≤ c.index → f ≡ fault not_a_value (Index c.index) → BoxOpens values out out depth at c size (Err f)
  box_ended h e t element base sized ask = rw e (record_ended (write_presence 8 ones64 true) (R.after_box t (R.levels t depth) element) s.left h base)

  module _ {v : ℕ} (h : c.index < length values) (read : v ≡ get_or values c.index 0) where
    pub box_large : {f : Fault} → 1 < v → f ≡ fault not_a_value (Index c.index) → BoxOpens values out out depth at c size (Err f)
    box_large k e t element base sized ask = rw e (record_unfit (write_presence 8 ones64 true) (R.after_box t (R.levels t depth) element) v h read (over_one v k) base)

    pub box_absent : {out' : List ℕ} {d : Cursor} → v ≡ 0 → out' ≡ sets out at (bytes_of 8 0) → d ≡ took_one c → BoxOpens values out out' depth at c size (Ok (Closed d))
    box_absent z stored e t element base sized ask =
        rw e (record_put (write_presence 8 ones64 true) (R.after_box t (R.levels t depth) element) 0 h (sym z ∙ read) (bytes_of 8 0) writes_absent (length_bytes_of 8 0) stored
        (nothing_put (took_stands s h)) base)

    pub box_opened : {out' : List ℕ} {d : Cursor} (r : Result Opening Fault) → v ≤ 1 → (v ≡ 0 → ⊥) → out' ≡ sets out at (bytes_of 8 ones64) → d ≡ took_one c → DeeperOpens depth size d r
        → BoxOpens values out out' depth at c size (to_open r)
    box_opened {out'} r k z stored e p t element base sized ask =
        let one : v ≡ 1 = omega arith in
        let q : DeeperOpens depth size (took_one c) r = rw e at p in
        record_opens values out out' 8 at base c (write_presence 8 ones64 true) (R.after_box t (R.levels t depth) element) 1 h (sym one ∙ read) (bytes_of 8 ones64) writes_present (length_bytes_of 8 ones64) stored
        (λ x. size) (λ x. R.encode_row t (R.levels t (depth - 1)) element) (to_open r) (rw sized (q t values out' at base (λ rows b. rows element) (ask_took ask h)))
