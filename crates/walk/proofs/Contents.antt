-- An envelope's content, from its parts: the payload's value, and then what is judged after it.
-- Assumes nothing.
use Rattle.std.specs.Prelude.{Err, None, Ok, Option, Result, Some}
use mathlib.Core.List.{List}
use mathlib.Core.Path.{◌≡◌, refl}
use Prim.Native.Nat.{ℕ, ◌-◌, ◌≤◌, ◌<◌}
use native.Mathlib.Omega.{arith}
use lib.ListN.{length, get_or}
use Rattle.rules.specs.declared.Fault.{Fault}
use Rattle.rules.specs.TypeTable.{TypeTable, row_count, known}
use Rattle.rules.specs.Sizes.{size_of}
use Rattle.rules.specs.Envelope.{content_of_eight_bytes}
use Rattle.rules.specs.Walk as W
use Rattle.ordinals.specs.Ordinals.{OrdinalFits}
use Rattle.layout.specs.Ready.{Ready}
use Rattle.layout.proofs.Readiness.{row_in_use, row_size, size_small, ready_at}
use Rattle.walk_leaves.specs.declared.cursor.Cursor.{Cursor}
use Rattle.walk_leaves.specs.Doing.{Walked}
use Rattle.walk_records.specs.declared.records.Opening.{Opening}
use Rattle.walk_records.specs.declared.records.Opened.{Opened}
use Rattle.walk_records.specs.declared.records.Opened.TheVariants.{Closed, Open}
use Rattle.walk_leaves.specs.Doing.{message, Ask}
use Rattle.walk_records.specs.Opening.{Opens, sealed_at, payload_of}
use Rattle.walk_records.specs.Promises.{UnknownDid, KnownOpens, SealDid}
use Rattle.walk.specs.Walking.{ValueDid, ContentDid}
use Rattle.walk_leaves.proofs.Steps.{did_then, did_halt, went_on}

pub content_unknown : (t : TypeTable) (bytes : List ℕ) (handles depth row at : ℕ) (v v' o o' : List ℕ) (c : Cursor) (what : Option ℕ) (r : Walked)
    → what ≡ None → UnknownDid bytes handles depth v v' o o' at c row r → ContentDid t bytes handles depth v v' o o' at c row what r
unfolding content_of_eight_bytes
content_unknown t bytes handles depth row at v v' o o' c what r e d = rw e (d t)

-- A known payload's row is in use.
module _ {t : TypeTable} {sizes alignments : List ℕ} {depth row payload : ℕ} (what : Option ℕ) (ready : Ready t sizes alignments depth row)
    (fits : OrdinalFits t what) (is : what ≡ Some payload) where
  in_use : payload < row_count t
  in_use = rw is at fits

  pub payload_few : payload < 256
  payload_few = row_in_use ready payload in_use

  pub payload_small : {size : ℕ} → size ≡ get_or sizes payload 0 → size ≤ 65528
  payload_small kept = size_small ready payload in_use kept

  sized : {size : ℕ} → size ≡ get_or sizes payload 0 → size_of t payload ≡ size
  sized kept = row_size ready payload in_use kept

  pub payload_ready : Ready t sizes alignments (depth - 1) payload
  payload_ready = ready_at ready (depth - 1) payload (omega arith) in_use

module _ (t : TypeTable) (bytes : List ℕ) (handles depth row at : ℕ) (v o o' : List ℕ) (c : Cursor) (what : Option ℕ) {sizes alignments : List ℕ} {payload size : ℕ}
    (ready : Ready t sizes alignments depth row) (fits : OrdinalFits t what) (is : what ≡ Some payload) (kept : size ≡ get_or sizes payload 0)
    (ask : Ask (length bytes) handles 7 at c) (opened : Result Opened Fault) (opens : KnownOpens bytes depth o o' at c payload size opened) where
  opening : {r : Result Opened Fault} → opened ≡ r
      → Opens (length bytes) handles 7 v v o o' c
      (content_of_eight_bytes (message t bytes handles) (W.levels (message t bytes handles) depth) row (known payload) at c.next c.handles)
      (λ x. size) (payload_of (message t bytes handles) depth payload size at c.next c.handles) r
  opening e = rw e at (opens t v handles row (sized what ready fits is kept) ask)

  pub content_closed : {d : Cursor} → opened ≡ Ok (Closed d) → ContentDid t bytes handles depth v v o o' at c row what (Ok d)
  content_closed e = rw is (opening e)

  pub content_not_open : {f : Fault} → opened ≡ Err f → ContentDid t bytes handles depth v v o o' at c row what (Err f)
  content_not_open e = rw is (opening e)

  module _ {x : Opening} (e : opened ≡ Ok (Open x)) where
    pub payload_asks : Ask (length bytes) handles (size_of t payload) x.start x.cursor
    payload_asks = rw (sized what ready fits is kept) (opening e).0

    module _ {v'' o'' : List ℕ} where
      -- What is judged after the payload asks that the cursor did not go back.
      pub payload_rises : {r : Walked} {d : Cursor} → ValueDid t bytes handles (depth - 1) v v'' o' o'' x.start x.cursor payload r → r ≡ Ok d
          → (c.next ≤ d.next) × (c.handles ≤ d.handles)
      payload_rises q h =
          let w = rw h at q in
          let p = opening e in
          (omega (arith, p.2.0, w.rises.0), omega (arith, p.2.1, w.rises.1))

      pub content_sealed : {w : Walked} {d : Cursor} {r : Walked} → ValueDid t bytes handles (depth - 1) v v'' o' o'' x.start x.cursor payload w → w ≡ Ok d
          → SealDid bytes size at c.next c.handles d r → ContentDid t bytes handles depth v v'' o o'' at c row what r
      content_sealed {w} {d} {r} did h s =
          let q = rw h at did in
          let l = went_on q refl in
          rw is ((opening e).1 v'' o'' r
          (did_then size (λ n u. sealed_at (message t bytes handles) size at c.next c.handles n u) q (s t v'' o'' handles l.0 l.1) (omega (arith, l.2, sized what ready fits is kept))))

      pub content_refused : {w : Walked} {f : Fault} → ValueDid t bytes handles (depth - 1) v v'' o' o'' x.start x.cursor payload w → w ≡ Err f
          → ContentDid t bytes handles depth v v'' o o'' at c row what (Err f)
      content_refused {w} {f} did h =
          let q = rw h at did in
          rw is ((opening e).1 v'' o'' (Err f) (did_halt size (λ n u. sealed_at (message t bytes handles) size at c.next c.handles n u) q))
