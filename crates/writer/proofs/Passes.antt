-- The root's value as the primary object, and the test after it: 26 for numbers left.
-- Assumes nothing.
use Rattle.std.specs.Prelude.{Err, Ok, Result}
use mathlib.Core.Path.{◌≡◌, ap, ◌∙◌}
use mathlib.Core.List.{List, [], ◌∷◌}
use Prim.Native.Nat.{ℕ, suc, ◌+◌, ◌-◌, ◌%◌, ◌^◌, ◌≤◌}
use native.Mathlib.Omega.{arith}
use borrow.Author.Tests.{le-leb, eq-eqb, ne_eqb}
use lib.ListN.{length, get_or, length-drop}
use lib.Seq.{sets}
use Rattle.rules.specs.declared.Fault.{Fault}
use Rattle.rules.specs.declared.Place.TheVariants.{Index}
use Rattle.rules.specs.Refusals.{fault, accepted, refused}
use Rattle.rules.specs.Bytes.{zeros, round_up, padded}
use Rattle.rules.specs.TypeTable.{TypeTable}
use Rattle.rules.specs.Sizes.{size_of}
use Rattle.rules.specs.Encode as E
use Rattle.rules.specs.Encode.{Encoded, wrote, cannot}
use Rattle.rules.specs.Writer as R
use Rattle.rules.specs.Answers as Rules
use Rattle.rules.specs.Answers.{encode, closed, answer_of}
use Rattle.rules.proofs.Envelopes.{nil_of}
use Rattle.words.proofs.Padding.{padded_fits}
use Rattle.layout.proofs.Rows.{sound_rows, sound_size}
use Rattle.layout.proofs.Keeping.{kept_size}
use Rattle.layout.specs.Ready.{Ready}
use Rattle.write_leaves.specs.declared.cursor.Cursor.{Cursor}
use Rattle.write_leaves.specs.Putting.{Wrote, answer, Stored, Fit, Put, Ask}
use Rattle.write_walk.specs.Walking.{ValuePut}
use Rattle.writer.specs.declared.Sizes.{Sizes}
use Rattle.writer.specs.Answers.{sizes_of}
use Rattle.writer.specs.Passing.{start, after_value, PrimaryPut, Passed}
use Rattle.write_leaves.proofs.Leading.{wrote_length}
use Rattle.write_records.proofs.Claims.{object_filled}

-- ---- the primary object

-- The root's size is at most 65,528: its claim at 0 is never refused.
encode_root : (t : TypeTable) (root : ℕ) (values : List ℕ) → size_of t root ≤ 65528
    → encode t root values ≡ E.as_object (size_of t root) (R.encode_row t (R.levels t 32) root values (0 + padded (size_of t root)) 0)
unfolding encode E.claim padded round_up
encode_root t root values h = rw (le-leb (0 + padded (size_of t root)) 65536 (omega arith))

-- A value that is refused, as an object.
object_refused : {values out out' : List ℕ} {inner : ℕ} (size : ℕ) {c d : Cursor} {f : Fault} {e : Encoded} → Put values out out' inner 0 0 d (Err f) e
    → Put values out out' 0 0 0 c (Err f) (E.as_object size e)
object_refused {values} {out} {out'} size {c} {d} {f} {e} p = go e p.says p.stored
  where
    go : (e : Encoded) → Err f ≡ answer (length values) e → Stored out out' 0 (d.next - 0) e → Put values out out' 0 0 0 c (Err f) (E.as_object size e)
    go (wrote inline outside n u rest) a s = absurd (let w : ◌≡◌ {A = ℕ} 0 1 = cc in omega arith)
    go (cannot number left) a s = record { says = a; stored = s; fit = tt }

module _ {t : TypeTable} {sizes alignments : List ℕ} {root : ℕ} (ready : Ready t sizes alignments 32 root) {size : ℕ}
    (kept : size ≡ get_or sizes root 0) where
  root_size : size ≡ size_of t root
  root_size = kept ∙ rw ready.sizes_kept (kept_size t ready.sound root ready.in_use)

  size_bound : size_of t root ≤ 65528
  size_bound = sound_size t root (sound_rows t ready.sound root ready.in_use)

  pub fill_asked : size ≤ 65536
  fill_asked = omega (arith, root_size, size_bound)

  -- where the root's value begins
  module _ {next : ℕ} (n : next ≡ padded size % 2 ^ 64) where
    abbrev first : Cursor
    first = record { next = next; handles = 0; index = 0 }

    claimed : next ≡ 0 + padded (size_of t root)
    claimed = let fits : next ≡ padded size = padded_fits (omega (arith, root_size, size_bound)) n in omega (arith, fits, ap padded root_size)

    pub root_asked : (values : List ℕ) → Ready t sizes alignments 32 root × Ask values (size_of t root) 0 0 first
    unfolding padded round_up
    root_asked values =
        (ready, record { inside = omega (arith, claimed); free = omega (arith, claimed, size_bound); held = omega arith; left = omega arith })

    module _ {values out out' : List ℕ} {r : Wrote} (put : ValuePut t values out out' 0 32 0 first root r) where
      abbrev written : Encoded
      written = R.encode_row t (R.levels t 32) root values (0 + padded (size_of t root)) 0

      value_put : Put values out out' (size_of t root) 0 0
          (record { next = 0 + padded (size_of t root); handles = 0; index = 0 }) r written
      value_put = rw claimed at put

      pub primary_refused : {f : Fault} → r ≡ Err f → PrimaryPut t values root out out' (Err f)
      primary_refused e = rw (encode_root t root values size_bound) (object_refused (size_of t root) (rw e at value_put))

      pub primary_put : {end : Cursor} {out'' : List ℕ} → r ≡ Ok end → out'' ≡ sets out' size (zeros (padded size - size)) → PrimaryPut t values root out out'' (Ok end)
      primary_put e z = rw (encode_root t root values size_bound) (object_filled {c = start} (rw e at value_put) (rw root_size at z))

-- ---- after it

module _ (t : TypeTable) (values : List ℕ) (root : ℕ) {out out' : List ℕ} {r : Wrote} (put : PrimaryPut t values root out out' r) where
  abbrev whole : Encoded
  whole = encode t root values

  pub value_refused : {f : Fault} → r ≡ Err f → Passed t values root out out' (Err f)
  value_refused {f} e = record { answers = says whole put.says; long = wrote_length put; stored = λ w. nothing whole put.says w }
    where
      says : (d : Encoded) → r ≡ answer (length values) d → refused f ≡ sizes_of (closed (length values) d)
      says (wrote i o n u rest) a = absurd (let w : ◌≡◌ {A = ℕ} 0 1 = cc in omega arith)
      says (cannot number left) a = let z : f ≡ fault number (Index (length values - left)) = cc in rw z

      nothing : (d : Encoded) → r ≡ answer (length values) d → (w : Rules.Written) → closed (length values) d ≡ accepted w → out' ≡ sets out 0 w.bytes
      nothing (wrote i o n u rest) a w q = absurd (let z : ◌≡◌ {A = ℕ} 0 1 = cc in omega arith)
      nothing (cannot number left) a w q = absurd (let z : ◌≡◌ {A = ℕ} 0 1 = cc in omega arith)

  pub value_ended : {end : Cursor} {w : Result Sizes Fault} → r ≡ Ok end → answer_of w ≡ after_value end (length values) → Passed t values root out out' w
  value_ended {end} e tested =
      record { answers = tested ∙ says whole put.says put.fit; long = wrote_length put; stored = λ w. stands whole put.says put.stored put.fit w }
    where
      says : (d : Encoded) → r ≡ answer (length values) d → Fit values 0 start d → after_value end (length values) ≡ sizes_of (closed (length values) d)
      says (wrote i o n u []) a f =
          let same : end ≡ record { next = n; handles = u; index = length values - 0 } = cc in
          let all : n ≡ length o = omega (arith, f.claimed) in
          rw (same, eq-eqb (length values - 0) (length values) (omega arith), all)
      says (wrote i o n u (v ∷ rest)) a f =
          let same : end ≡ record { next = n; handles = u; index = length values - suc (length rest) } = cc in
          let more : (length values - suc (length rest) ≡ length values) → ⊥ =
          λ q. omega (arith, q, length-drop (length values - suc (length rest)) values, ap length f.left) in
          rw (same, ne_eqb (length values - suc (length rest)) (length values) more)
      says (cannot number left) a f = absurd (let z : ◌≡◌ {A = ℕ} 0 1 = cc in omega arith)

      stands : (d : Encoded) → r ≡ answer (length values) d → Stored out out' 0 0 d → Fit values 0 start d → (w : Rules.Written)
          → closed (length values) d ≡ accepted w → out' ≡ sets out 0 w.bytes
      stands (wrote i o n u []) a s f w q = let z : o ≡ w.bytes = cc in rw (← z) (s ∙ rw (nil_of i f.whole))
      stands (wrote i o n u (v ∷ rest)) a s f w q = absurd (let z : ◌≡◌ {A = ℕ} 0 1 = cc in omega arith)
      stands (cannot number left) a s f w q = absurd (let z : ◌≡◌ {A = ℕ} 0 1 = cc in omega arith)
