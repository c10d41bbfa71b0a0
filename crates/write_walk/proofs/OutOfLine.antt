-- Values whose record leads out of line, by their kind: the whole is open as the record is.
-- Assumes nothing.
use Rattle.std.specs.Prelude.{Err, Ok, Option, Result}
use mathlib.Core.List.{List, ◌++◌}
use mathlib.Core.Path.{◌≡◌, refl, sym, ap, ◌∙◌}
use Prim.Native.Nat.{ℕ, ◌+◌, ◌-◌, ◌*◌, ◌<◌, min}
use native.Mathlib.Omega.{arith}
use lib.ListN.{length, take, drop, get_or}
use Rattle.rules.specs.declared.Fault.{Fault}
use Rattle.rules.specs.TypeTable.{TypeTable, eight_byte_envelopes, kind_at, a_at, b_at, c_at, content_of}
use Rattle.rules.specs.Sizes.{size_of}
use Rattle.rules.specs.Encode as E
use Rattle.rules.specs.Encode.{Encoder}
use Rattle.rules.specs.Envelope.{write_content_of_eight_bytes}
use Rattle.rules.specs.Writer as R
use Rattle.ordinals.specs.Ordinals.{ordinal_is, OrdinalFits}
use Rattle.layout.specs.Ready.{Ready}
use Rattle.layout.proofs.ByKind.{size_vector, size_box, size_table, size_union}
use Rattle.ordinals.proofs.Members.{MembersRise, ordinal_fits, vector_in_use, box_in_use}
use Rattle.layout.proofs.Readiness.{row_size}
use Rattle.write_leaves.specs.declared.cursor.Cursor.{Cursor}
use Rattle.write_leaves.specs.Putting.{Wrote, Ask}
use Rattle.write_records.specs.declared.records.Opening.{Opening}
use Rattle.write_records.specs.declared.records.Opened.{Opened}
use Rattle.write_records.specs.declared.records.Opened.TheVariants.{Closed, Open}
use Rattle.write_records.specs.declared.envelopes.Member.{Member}
use Rattle.write_records.specs.declared.envelopes.Member.TheVariants.{Absent, Present}
use Rattle.write_records.specs.Opening.{Claimed, Opens}
use Rattle.write_records.specs.Promises.{Reaches, CountedOpens, BoxOpens, TableOpens, OpensMember, UnionOpens, MemberIs}
use Rattle.write_walk.specs.Walking.{write_row, write_elements, write_envelope, ValuePut, ObjectOf, SingleOf, EnvelopesPut, ContentPut}
use Rattle.write_walk.proofs.ByKind.{encode_vector, encode_box, encode_table, encode_union}
use Rattle.write_records.proofs.Counts.{counted_vector}
use Rattle.write_records.proofs.Objects.{words_written}

-- The record's own bytes, by its kind.
module _ (t : TypeTable) (row : ℕ) {values : List ℕ} {k at base : ℕ} {c : Cursor} (e : k ≡ kind_at t row) (a : Ask values (size_of t row) at base c) where
  pub vector_record : k ≡ 5 → Ask values 16 at base c
  vector_record q = rw (size_vector t row (sym e ∙ q)) at a

  pub box_record : k ≡ 8 → Ask values 8 at base c
  box_record q = rw (size_box t row (sym e ∙ q)) at a

  pub table_record_lem : k ≡ 9 → Ask values 16 at base c
  table_record_lem q = rw (size_table t row (sym e ∙ q)) at a

  pub union_record_lem : t.edition ≡ eight_byte_envelopes → k ≡ 10 → Ask values 16 at base c
  union_record_lem edition q = rw (size_union t row edition (sym e ∙ q)) at a

-- Where an object is open, a level is left.
pub level_left : (depth : ℕ) (r : Result Opened Fault) {x : Opening} → Reaches depth r → r ≡ Ok (Open x) → 0 < depth
level_left depth r h e = rw e at h

module _ (t : TypeTable) (values out out' : List ℕ) (base depth row at : ℕ) (c : Cursor) (r : Result Opened Fault) {k : ℕ} (e : k ≡ kind_at t row)
    (ask : Ask values (size_of t row) at base c) where
  abbrev RowOpens : (size : Opening → ℕ) (fields : Opening → Encoder) → Result Opened Fault → Type 0
  RowOpens size fields r = Opens values out out' (size_of t row) at base c (write_row t depth row (drop c.index values) c.next c.handles) size fields r

  claimed_in : (size : Opening → ℕ) (fields : Opening → Encoder) (x : Opening) → RowOpens size fields (Ok (Open x)) → Claimed values (size x) base x
  claimed_in size fields x p = record { within = omega (arith, ask.inside, p.0); advanced = p.1; stands = p.2 }

  -- ---- a vector

  module _ {a b form size : ℕ} (q : k ≡ 5) (f : a ≡ a_at t row) (g : b ≡ b_at t row) (h : form ≡ c_at t row)
      {sizes alignments : List ℕ} (ready : Ready t sizes alignments depth row) (kept : size ≡ get_or sizes a 0) (p : CountedOpens values out out' depth at c size b form r) where
    vector_row : {is : Result Opened Fault} → r ≡ is → RowOpens (λ x. x.count * size_of t a) (λ x. write_elements t (depth - 1) a x.count) is
    vector_row {is} z = rw z at whole
      where
        whole : RowOpens (λ x. x.count * size_of t a) (λ x. write_elements t (depth - 1) a x.count) r
        whole =
            let kind : kind_at t row ≡ 5 = sym e ∙ q in
            let sized = row_size ready a (vector_in_use ready e f q) kept in
            rw (encode_vector t (R.levels t depth) row kind, size_vector t row kind, ← f, ← g, ← h, sized)
            (counted_vector values out out' depth at c size b form r p t a base sized (vector_record t row e ask q))

    pub vector_closed : {d : Cursor} → r ≡ Ok (Closed d) → ValuePut t values out out' base depth at c row (Ok d)
    vector_closed z = vector_row z

    pub vector_refused : {f : Fault} → r ≡ Err f → ValuePut t values out out' base depth at c row (Err f)
    vector_refused z = vector_row z

    module _ {x : Opening} (z : r ≡ Ok (Open x)) where
      pub vector_claimed : Claimed values (x.count * size_of t a) base x
      vector_claimed = claimed_in (λ x. x.count * size_of t a) (λ x. write_elements t (depth - 1) a x.count) x (vector_row z)

      pub vector_done : {out'' : List ℕ} {w : Wrote} → ObjectOf t values out' out'' base (depth - 1) x a w → ValuePut t values out out'' base depth at c row w
      vector_done {out''} {w} put = (vector_row z).3 out'' w put

  -- ---- a box

  module _ {a size : ℕ} (q : k ≡ 8) (f : a ≡ a_at t row) {sizes alignments : List ℕ} (ready : Ready t sizes alignments depth row) (kept : size ≡ get_or sizes a 0)
      (p : BoxOpens values out out' depth at c size r) where
    box_row : {is : Result Opened Fault} → r ≡ is → RowOpens (λ x. size_of t a) (λ x. write_row t (depth - 1) a) is
    box_row {is} z = rw z at whole
      where
        whole : RowOpens (λ x. size_of t a) (λ x. write_row t (depth - 1) a) r
        whole =
            let kind : kind_at t row ≡ 8 = sym e ∙ q in
            let sized = row_size ready a (box_in_use ready e f q) kept in
            rw (encode_box t (R.levels t depth) row kind, size_box t row kind, ← f, sized) (p t a base sized (box_record t row e ask q))

    pub box_absent : {d : Cursor} → r ≡ Ok (Closed d) → ValuePut t values out out' base depth at c row (Ok d)
    box_absent z = box_row z

    pub box_refused : {f : Fault} → r ≡ Err f → ValuePut t values out out' base depth at c row (Err f)
    box_refused z = box_row z

    module _ {x : Opening} (z : r ≡ Ok (Open x)) where
      pub box_claimed : Claimed values (size_of t a) base x
      box_claimed = claimed_in (λ x. size_of t a) (λ x. write_row t (depth - 1) a) x (box_row z)

      pub box_done : {out'' : List ℕ} {w : Wrote} → SingleOf t values out' out'' base (depth - 1) x a w → ValuePut t values out out'' base depth at c row w
      box_done {out''} {w} put = (box_row z).3 out'' w put

  -- ---- a table

  module _ (q : k ≡ 9) {sizes alignments : List ℕ} (ready : Ready t sizes alignments depth row) (p : TableOpens values out out' depth at c r) where
    table_row : {is : Result Opened Fault} → r ≡ is → RowOpens (λ x. x.count * 8) (λ x. E.elements (write_envelope t (depth - 1) row x.count) 1 x.count) is
    table_row {is} z = rw z at whole
      where
        whole : RowOpens (λ x. x.count * 8) (λ x. E.elements (write_envelope t (depth - 1) row x.count) 1 x.count) r
        whole =
            let kind : kind_at t row ≡ 9 = sym e ∙ q in
            rw (encode_table t (R.levels t depth) row kind, size_table t row kind) (p t (content_of t (a_at t row) (b_at t row)) base ready.edition (table_record_lem t row e ask q))

    pub table_closed : {d : Cursor} → r ≡ Ok (Closed d) → ValuePut t values out out' base depth at c row (Ok d)
    table_closed z = table_row z

    pub table_refused : {f : Fault} → r ≡ Err f → ValuePut t values out out' base depth at c row (Err f)
    table_refused z = table_row z

    module _ {x : Opening} (z : r ≡ Ok (Open x)) where
      pub table_claimed : Claimed values (x.count * 8) base x
      table_claimed = claimed_in (λ x. x.count * 8) (λ x. E.elements (write_envelope t (depth - 1) row x.count) 1 x.count) x (table_row z)

      pub table_done : (from : ℕ) {part' : List ℕ} {w : Wrote} → from ≡ min (x.start - base) (length out')
          → EnvelopesPut t values (take (length out' - from) (drop from out')) part' x.start (depth - 1) x.cursor row x.count w
          → ValuePut t values out (take from out' ++ (part' ++ drop (length out' - from) (drop from out'))) base depth at c row w
      table_done from {part'} {w} least put =
          (table_row z).3 (take from out' ++ (part' ++ drop (length out' - from) (drop from out'))) w
          (words_written values out' x.count base from x (E.elements (write_envelope t (depth - 1) row x.count) 1 x.count) table_claimed put least)

-- ---- a union

module _ (t : TypeTable) (values out out' : List ℕ) (base depth row at : ℕ) (c : Cursor) (r : Result Member Fault) {k a b form : ℕ}
    (e : k ≡ kind_at t row) (f : a ≡ a_at t row) (g : b ≡ b_at t row) (h : form ≡ c_at t row) (q : k ≡ 10)
    {sizes alignments : List ℕ} (ready : Ready t sizes alignments depth row) (ask : Ask values (size_of t row) at base c) (p : UnionOpens t.members values out out' at c a b form r) where
  abbrev UnionIs : Result Member Fault → Type 0
  UnionIs r =
      OpensMember values out out' (size_of t row) at base c (write_row t depth row (drop c.index values) c.next c.handles)
      (λ what. write_content_of_eight_bytes t (R.levels t depth) (ordinal_is what)) r

  union_row : {is : Result Member Fault} → r ≡ is → UnionIs is
  union_row {is} z = rw z at whole
    where
      whole : UnionIs r
      whole =
          let kind : kind_at t row ≡ 10 = sym e ∙ q in
          rw (encode_union t (R.levels t depth) row kind, size_union t row ready.edition kind, ← f, ← g, ← h) (p t depth base ready.edition refl (union_record_lem t row e ask ready.edition q))

  pub union_none : {d : Cursor} → r ≡ Ok (Absent d) → ValuePut t values out out' base depth at c row (Ok d)
  union_none z = union_row z

  pub union_bad : {f : Fault} → r ≡ Err f → ValuePut t values out out' base depth at c row (Err f)
  union_bad z = union_row z

  module _ {what : Option ℕ} {d : Cursor} (z : r ≡ Ok (Present what d)) where
    pub union_asks : Ask values 8 (at + 8) base d × (0 < d.index)
    union_asks =
        let u = union_row z in
        let n : d.next ≡ c.next = ap (λ (c : Cursor). c.next) u.0 in
        let m : d.handles ≡ c.handles = ap (λ (c : Cursor). c.handles) u.0 in
        let i : d.index ≡ c.index + 1 = ap (λ (c : Cursor). c.index) u.0 in
        let w = union_record_lem t row e ask ready.edition q in
        (record { inside = omega (arith, w.inside); free = omega (arith, w.free); held = omega (arith, w.held); left = omega (arith, u.1) }, omega arith)

    pub union_fits : MembersRise t a b → MemberIs t.members values c a b r → OrdinalFits t what
    union_fits rise is = ordinal_fits rise (get_or values c.index 0) what ((rw z at is) t refl)

    pub union_done : {out'' : List ℕ} {w : Wrote} → ContentPut t values out' out'' base depth (at + 8) d what w → ValuePut t values out out'' base depth at c row w
    union_done {out''} {w} put = (union_row z).2 out'' w put
