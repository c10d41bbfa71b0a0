-- Values whose record leads out of line, by their kind: the whole is open as the record is.
-- Assumes nothing.
use Rattle.std.specs.Prelude.{Err, Ok, Option, Result}
use mathlib.Core.List.{List}
use mathlib.Core.Path.{◌≡◌, refl, sym, ◌∙◌}
use Prim.Native.Nat.{ℕ, ◌+◌, ◌-◌, ◌*◌, ◌≤◌, ◌<◌}
use native.Mathlib.Omega.{arith}
use lib.ListN.{length, get_or}
use Rattle.rules.specs.declared.Fault.{Fault}
use Rattle.rules.specs.TypeTable.{TypeTable, eight_byte_envelopes, row_count, kind_at, a_at, b_at, c_at, content_of}
use Rattle.rules.specs.Sizes.{size_of}
use Rattle.rules.specs.Decode as D
use Rattle.rules.specs.Decode.{Decoded}
use Rattle.rules.specs.Envelope.{content_of_eight_bytes}
use Rattle.rules.specs.Walk as W
use Rattle.ordinals.specs.Ordinals.{ordinal_is}
use Rattle.layout.specs.Ready.{Ready}
use Rattle.layout.proofs.ByKind.{size_vector, size_box, size_table, size_union}
use Rattle.layout.proofs.Readiness.{row_size, few_elements}
use Rattle.ordinals.proofs.Members.{vector_in_use, box_in_use}
use Rattle.walk_leaves.specs.declared.cursor.Cursor.{Cursor}
use Rattle.walk_leaves.specs.Doing.{Walked}
use Rattle.walk_records.specs.declared.records.Opening.{Opening}
use Rattle.walk_records.specs.declared.records.Opened.{Opened}
use Rattle.walk_records.specs.declared.records.Opened.TheVariants.{Closed, Open}
use Rattle.walk_records.specs.declared.envelopes.Member.{Member}
use Rattle.walk_records.specs.declared.envelopes.Member.TheVariants.{Absent, Present}
use Rattle.walk_leaves.specs.Doing.{message, Ask}
use Rattle.walk_records.specs.Opening.{Opens, OpensMember, elements_of, value_of}
use Rattle.walk_records.specs.Promises.{CountedOpens, BoxOpens, TableOpens, UnionOpens}
use Rattle.walk.specs.Walking.{walk_row, envelope_at, ValueDid, ElementsDid, EnvelopesDid, ContentDid}
use Rattle.walk.proofs.ByKind.{decode_vector, decode_box, decode_table, decode_union}
use Rattle.walk_leaves.proofs.Steps.{did_more}
use Rattle.walk_records.proofs.Counts.{vector_opens}

-- No more elements than the message has bytes.
pub elements_few : {t : TypeTable} {sizes alignments : List ℕ} {depth row : ℕ} → Ready t sizes alignments depth row → (element : ℕ) → element < row_count t
    → {total handles at : ℕ} {c : Cursor} (count : ℕ) → Ask total handles (count * size_of t element) at c → count ≤ 65536
elements_few ready element h count a = few_elements ready element h count (omega (arith, a.inside, a.short))

-- The record's own bytes, by its kind.
module _ (t : TypeTable) (row : ℕ) {k total handles at : ℕ} {c : Cursor} (e : k ≡ kind_at t row) (a : Ask total handles (size_of t row) at c) where
  pub vector_record : k ≡ 5 → Ask total handles 16 at c
  vector_record q = rw (size_vector t row (sym e ∙ q)) at a

  pub box_record : k ≡ 8 → Ask total handles 8 at c
  box_record q = rw (size_box t row (sym e ∙ q)) at a

  pub table_record_lem : k ≡ 9 → Ask total handles 16 at c
  table_record_lem q = rw (size_table t row (sym e ∙ q)) at a

  pub union_record_lem : t.edition ≡ eight_byte_envelopes → k ≡ 10 → Ask total handles 16 at c
  union_record_lem edition q = rw (size_union t row edition (sym e ∙ q)) at a

module _ (t : TypeTable) (bytes : List ℕ) (handles depth row at : ℕ) (v v' o o' : List ℕ) (c : Cursor) (r : Result Opened Fault) {k : ℕ} (e : k ≡ kind_at t row)
    (ask : Ask (length bytes) handles (size_of t row) at c) where
  abbrev RowOpens : (need : Opening → ℕ) (left : Opening → Decoded) → Result Opened Fault → Type 0
  RowOpens need left r =
      Opens (length bytes) handles (size_of t row) v v' o o' c (walk_row t bytes handles depth row at c.next c.handles) need left r

  -- ---- a vector

  module _ {a b form size : ℕ} (q : k ≡ 5) (f : a ≡ a_at t row) (g : b ≡ b_at t row) (h : form ≡ c_at t row)
      {sizes alignments : List ℕ} (ready : Ready t sizes alignments depth row) (kept : size ≡ get_or sizes a 0) (p : CountedOpens bytes depth v v' o o' at c row size b form r) where
    element_size : size_of t a ≡ size
    element_size = row_size ready a (vector_in_use ready e f q) kept

    vector_whole : RowOpens (λ x. x.count * size_of t a) (elements_of (message t bytes handles) depth (size_of t a) a) r
    vector_whole =
        let m = message t bytes handles in
        let kind : kind_at t row ≡ 5 = sym e ∙ q in
        rw (decode_vector m (W.levels m depth) row kind, size_vector t row kind, ← f, ← g, ← h)
        (vector_opens bytes depth v v' o o' at c row (size_of t a) b form r (rw (← element_size) at p) t handles a refl (vector_record t row e ask q))

    vector_row : {is : Result Opened Fault} → r ≡ is
        → RowOpens (λ x. x.count * size_of t a) (elements_of (message t bytes handles) depth (size_of t a) a) is
    vector_row z = rw z at vector_whole

    pub vector_closed : {d : Cursor} → r ≡ Ok (Closed d) → ValueDid t bytes handles depth v v' o o' at c row (Ok d)
    vector_closed z = vector_row z

    pub vector_refused : {f : Fault} → r ≡ Err f → ValueDid t bytes handles depth v v' o o' at c row (Err f)
    vector_refused z = vector_row z

    pub vector_asks : {x : Opening} → r ≡ Ok (Open x) → Ask (length bytes) handles (x.count * size_of t a) x.start x.cursor
    vector_asks z = (vector_row z).0

    pub vector_done : {v'' o'' : List ℕ} {x : Opening} {w : Walked} → r ≡ Ok (Open x)
        → ElementsDid t bytes handles (depth - 1) v' v'' o' o'' x.start x.cursor a x.count w → ValueDid t bytes handles depth v v'' o o'' at c row w
    vector_done {v''} {o''} {w = w} z did = (vector_row z).1 v'' o'' w did

  -- ---- a box

  module _ {a size : ℕ} (q : k ≡ 8) (f : a ≡ a_at t row) {sizes alignments : List ℕ} (ready : Ready t sizes alignments depth row) (kept : size ≡ get_or sizes a 0)
      (p : BoxOpens bytes depth v v' o o' at c a size r) where
    boxed_size : size_of t a ≡ size
    boxed_size = row_size ready a (box_in_use ready e f q) kept

    box_whole : RowOpens (λ x. size_of t a) (value_of (message t bytes handles) depth a) r
    box_whole =
        let m = message t bytes handles in
        let kind : kind_at t row ≡ 8 = sym e ∙ q in
        rw (decode_box m (W.levels m depth) row kind, size_box t row kind, ← f, boxed_size) (p t handles boxed_size (box_record t row e ask q))

    box_row : {is : Result Opened Fault} → r ≡ is → RowOpens (λ x. size_of t a) (value_of (message t bytes handles) depth a) is
    box_row z = rw z at box_whole

    pub box_absent : {d : Cursor} → r ≡ Ok (Closed d) → ValueDid t bytes handles depth v v' o o' at c row (Ok d)
    box_absent z = box_row z

    pub box_refused : {f : Fault} → r ≡ Err f → ValueDid t bytes handles depth v v' o o' at c row (Err f)
    box_refused z = box_row z

    pub box_asks : {x : Opening} → r ≡ Ok (Open x) → Ask (length bytes) handles (size_of t a) x.start x.cursor
    box_asks z = (box_row z).0

    pub box_done : {v'' o'' : List ℕ} {x : Opening} {w : Walked} → r ≡ Ok (Open x)
        → ValueDid t bytes handles (depth - 1) v' v'' o' o'' x.start x.cursor a w → ValueDid t bytes handles depth v v'' o o'' at c row w
    box_done {v''} {o''} {w = w} z did = (box_row z).1 v'' o'' w did

  -- ---- a table

  module _ (q : k ≡ 9) {sizes alignments : List ℕ} (ready : Ready t sizes alignments depth row) (p : TableOpens bytes depth v v' o o' at c row r) where
    table_whole : RowOpens (λ x. x.count * 8) (λ x. D.elements 8 (envelope_at t bytes handles (depth - 1) row x.count) 1 x.count x.start x.cursor.next x.cursor.handles) r
    table_whole =
        let m = message t bytes handles in
        let kind : kind_at t row ≡ 9 = sym e ∙ q in
        rw (decode_table m (W.levels m depth) row kind, size_table t row kind) (p t handles (content_of t (a_at t row) (b_at t row)) ready.edition (table_record_lem t row e ask q))

    table_row : {is : Result Opened Fault} → r ≡ is
        → RowOpens (λ x. x.count * 8) (λ x. D.elements 8 (envelope_at t bytes handles (depth - 1) row x.count) 1 x.count x.start x.cursor.next x.cursor.handles) is
    table_row z = rw z at table_whole

    pub table_closed : {d : Cursor} → r ≡ Ok (Closed d) → ValueDid t bytes handles depth v v' o o' at c row (Ok d)
    table_closed z = table_row z

    pub table_refused : {f : Fault} → r ≡ Err f → ValueDid t bytes handles depth v v' o o' at c row (Err f)
    table_refused z = table_row z

    pub table_asks : {x : Opening} → r ≡ Ok (Open x) → Ask (length bytes) handles (x.count * 8) x.start x.cursor
    table_asks z = (table_row z).0

    pub table_done : {v'' o'' : List ℕ} {x : Opening} {w : Walked} → r ≡ Ok (Open x)
        → EnvelopesDid t bytes handles (depth - 1) v' v'' o' o'' x.start x.cursor row x.count w → ValueDid t bytes handles depth v v'' o o'' at c row w
    table_done {v''} {o''} {w = w} z did = (table_row z).1 v'' o'' w did

-- ---- a union

module _ (t : TypeTable) (bytes : List ℕ) (handles depth row at : ℕ) (v v' o : List ℕ) (c : Cursor) (r : Result Member Fault) {k a b form : ℕ}
    (e : k ≡ kind_at t row) (f : a ≡ a_at t row) (g : b ≡ b_at t row) (h : form ≡ c_at t row) (q : k ≡ 10)
    {sizes alignments : List ℕ} (ready : Ready t sizes alignments depth row) (ask : Ask (length bytes) handles (size_of t row) at c)
    (p : UnionOpens t.members bytes v v' at c a b form r) where
  union_whole : OpensMember (length bytes) handles (size_of t row) v v' o o c (walk_row t bytes handles depth row at c.next c.handles)
      (λ what d. content_of_eight_bytes (message t bytes handles) (W.levels (message t bytes handles) depth) row (ordinal_is what) (at + 8) d.next d.handles) r
  union_whole =
      let m = message t bytes handles in
      let kind : kind_at t row ≡ 10 = sym e ∙ q in
      rw (decode_union m (W.levels m depth) row kind, size_union t row ready.edition kind, ← f, ← g, ← h) (p t o handles depth row ready.edition refl (union_record_lem t row e ask ready.edition q))

  union_row : {is : Result Member Fault} → r ≡ is
      → OpensMember (length bytes) handles (size_of t row) v v' o o c (walk_row t bytes handles depth row at c.next c.handles)
      (λ what d. content_of_eight_bytes (message t bytes handles) (W.levels (message t bytes handles) depth) row (ordinal_is what) (at + 8) d.next d.handles) is
  union_row z = rw z at union_whole

  pub union_none : {d : Cursor} → r ≡ Ok (Absent d) → ValueDid t bytes handles depth v v' o o at c row (Ok d)
  union_none z = union_row z

  pub union_bad : {f : Fault} → r ≡ Err f → ValueDid t bytes handles depth v v' o o at c row (Err f)
  union_bad z = union_row z

  pub union_asks : {what : Option ℕ} {d : Cursor} → r ≡ Ok (Present what d) → Ask (length bytes) handles 7 (at + 8) d
  union_asks z =
      let u = union_row z in
      let a = union_record_lem t row e ask ready.edition q in
      record {
        short = a.short;
        few = a.few;
        inside = omega (arith, a.inside);
        free = omega (arith, a.free, u.0);
        held = omega (arith, a.held, u.1);
        small = omega (arith, a.small, u.0, u.2, u.3);
      }

  pub union_done : {v'' o'' : List ℕ} {what : Option ℕ} {d : Cursor} {w : Walked} → r ≡ Ok (Present what d)
      → ContentDid t bytes handles depth v' v'' o o'' (at + 8) d row what w → ValueDid t bytes handles depth v v'' o o'' at c row w
  union_done {v''} {o''} {w = w} z did = (union_row z).4 v'' o'' w (did_more 8 (omega arith) did)
