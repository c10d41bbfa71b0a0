-- A vector's or a string's record, by the tests that the code makes on it, and what it leads to.
-- Assumes nothing.
use Rattle.std.specs.Prelude.{Err, None, Ok, Option, Result, Some}
use mathlib.Core.Path.{◌≡◌, refl, sym, ◌∙◌}
use mathlib.Core.Bool.{Bool, true, false}
use mathlib.Core.List.{List, [], ◌∷◌}
use Prim.Native.Nat.{ℕ, zero, suc, ◌+◌, ◌*◌, ◌≤◌, ◌<◌}
use native.Mathlib.Nat.{mul-le-mul}
use native.Mathlib.Numerals.{add-one}
use native.Mathlib.Omega.{arith}
use mir.Syntax.{w32, w64}
use mir.Val.{Fits}
use borrow.Author.Tests.{ne_eqb, le-leb, lt-leb, leb-true}
use lib.Dec.{leb, eqb}
use lib.ListN.{length, set}
use Rattle.rules.specs.declared.Fault.{Fault}
use Rattle.rules.specs.declared.Place.TheVariants.{Byte}
use Rattle.rules.specs.Refusals.{fault, presence_wrong, required_absent, absent_not_zero, count_over_largest}
use Rattle.rules.specs.Bytes.{word, ones64}
use Rattle.rules.specs.TypeTable.{TypeTable}
use Rattle.rules.specs.Sizes.{size_of}
use Rattle.rules.specs.Trace.{vector_object}
use Rattle.rules.specs.Decode as D
use Rattle.rules.specs.Decode.{Message, Decoder, got}
use Rattle.rules.specs.Records.{Presence, absent, present, neither, presence, unless, read_if, count_record, read_count}
use Rattle.rules.specs.Walk as W
use Rattle.layout.specs.Ready.{some_table}
use Rattle.walk_leaves.specs.declared.cursor.Cursor.{Cursor}
use Rattle.walk_records.specs.declared.records.Opening.{Opening}
use Rattle.walk_records.specs.declared.records.Opened.{Opened}
use Rattle.walk_records.specs.declared.records.Opened.TheVariants.{Closed, Open}
use Rattle.walk_leaves.specs.Doing.{message, gave_one, Ask}
use Rattle.walk_records.specs.Opening.{count_of, HasCount, after_count, counted_at}
use Rattle.walk_records.specs.Promises.{CountAt, DeeperOpens, CountedOpens, VectorOpens}
use Rattle.walk_leaves.proofs.Steps.{did_stop, did_one}
use Rattle.walk_records.proofs.Openings.{record_got, record_wrong, record_same, deeper_anywhere, ask_gave, opens_put, opens_same}

-- ---- the record, of which `count` and `says` were loaded

module _ (bytes : List ℕ) (optional largest at : ℕ) {count says : ℕ} (counted : count ≡ word bytes at 8) (said : says ≡ word bytes (at + 8) 8) where
  pub count_absent : says ≡ 0 → optional ≡ 1 → count ≡ 0 → CountAt bytes optional largest at (Ok None)
  unfolding read_count presence
  count_absent p q e t handles = simp (← counted, ← said, p, q, e)

  pub count_absent_not_zero : says ≡ 0 → optional ≡ 1 → (count ≡ 0 → ⊥) → {f : Fault} → f ≡ fault absent_not_zero (Byte at) → CountAt bytes optional largest at (Err f)
  unfolding read_count presence
  count_absent_not_zero p q e y t handles = simp (← counted, ← said, p, q, ne_eqb _ _ e, y)

  pub count_required : says ≡ 0 → (optional ≡ 1 → ⊥) → {f : Fault} → f ≡ fault required_absent (Byte at) → CountAt bytes optional largest at (Err f)
  unfolding read_count presence
  count_required p q y t handles = simp (← counted, ← said, p, ne_eqb _ _ q, y)

  pub count_over : says ≡ ones64 → largest < count → {f : Fault} → f ≡ fault count_over_largest (Byte at) → CountAt bytes optional largest at (Err f)
  unfolding read_count presence
  count_over p h y t handles = simp (← counted, ← said, p, lt-leb _ _ h, y)

  pub count_present : says ≡ ones64 → count ≤ largest → CountAt bytes optional largest at (Ok (Some count))
  unfolding read_count presence
  count_present p h t handles = simp (← counted, ← said, p, le-leb _ _ h)

  pub count_neither : (says ≡ 0 → ⊥) → (says ≡ ones64 → ⊥) → {f : Fault} → f ≡ fault presence_wrong (Byte at) → CountAt bytes optional largest at (Err f)
  unfolding read_count presence
  count_neither p q y t handles = simp (← counted, ← said, ne_eqb _ _ p, ne_eqb _ _ q, y)

-- A count that is present is not over the largest, so its elements have fewer than 2^48 bytes.
module _ (bytes : List ℕ) (optional largest at : ℕ) (k : Result (Option ℕ) Fault) (reads : CountAt bytes optional largest at k) {count : ℕ} (is : k ≡ Ok (Some count)) where
  count_bounded : count ≤ largest
  unfolding read_count
  count_bounded = go (presence ones64 (word bytes (at + 8) 8)) (rw is at (reads some_table 0))
    where
      not_absent : (o z : Bool) → got (suc count) ≡ read_if (unless required_absent o) at (read_if (unless absent_not_zero z) at (got 0)) → ⊥
      not_absent true true y = let w : ◌≡◌ {A = ℕ} 0 1 = cc in omega arith
      not_absent true false y = let w : ◌≡◌ {A = ℕ} 0 1 = cc in omega arith
      not_absent false z y = let w : ◌≡◌ {A = ℕ} 0 1 = cc in omega arith

      bounded : (n : ℕ) (l : Bool) → leb n largest ≡ l → got (suc count) ≡ read_if (unless count_over_largest l) at (got (suc n)) → count ≤ largest
      bounded n true e y = let same : count ≡ n = cc in omega (arith, leb-true n largest e)
      bounded n false e y = absurd (let w : ◌≡◌ {A = ℕ} 0 1 = cc in omega arith)

      go : (p : Presence) → got (suc count) ≡ count_record (eqb optional 1) largest at (word bytes at 8) p → count ≤ largest
      go absent y = absurd (not_absent (eqb optional 1) (eqb (word bytes at 8) 0) y)
      go present y = bounded (word bytes at 8) (leb (word bytes at 8) largest) refl y
      go neither y = absurd (let w : ◌≡◌ {A = ℕ} 0 1 = cc in omega arith)

  pub count_fits : Fits w32 largest → Fits w64 (count + 1)
  count_fits h = omega (arith, count_bounded)

  pub elements_below : {size : ℕ} → Fits w32 largest → size ≤ 65528 → count * size < 281474976710656
  elements_below {size} h l =
      let most : count * size ≤ 4294967295 * 65528 = mul-le-mul {n₁ = count} {m₁ = size} {n₂ = 4294967295} {m₂ = 65528} (omega (arith, count_bounded)) l in
      omega arith

  pub elements_fit : {size : ℕ} → Fits w32 largest → size ≤ 65528 → Fits w64 (count * size)
  elements_fit h l = omega (arith, elements_below h l)

-- ---- what it leads to

module _ (bytes : List ℕ) (depth : ℕ) (values objects : List ℕ) (at : ℕ) (c : Cursor) (row size largest optional : ℕ) (k : Result (Option ℕ) Fault) (reads : CountAt bytes optional largest at k) where
  read : (t : TypeTable) (handles : ℕ) {is : Result (Option ℕ) Fault} → k ≡ is → read_count (message t bytes handles) (eqb optional 1) largest at ≡ count_of is
  read t handles h = rw h at (sym (reads t handles))

  pub counted_closed : {values' : List ℕ} {d : Cursor} → k ≡ Ok None → values' ≡ set values c.values 0 → d ≡ gave_one c
      → CountedOpens bytes depth values values' objects objects at c row size largest optional (Ok (Closed d))
  counted_closed is e g t handles fields ask =
      rw (e, g, record_got 16 _ _ at c.next c.handles (read t handles is)) (did_one 0 (omega arith) ask.free ask.held)

  pub counted_refused : {f : Fault} → k ≡ Err f → CountedOpens bytes depth values values objects objects at c row size largest optional (Err f)
  counted_refused is t handles fields ask = rw (record_wrong 16 _ _ at c.next c.handles (read t handles is)) did_stop

  counted_whole : (count : ℕ) (t : TypeTable) (handles : ℕ) (fields : (count : ℕ) → (ℕ → Decoder) → D.Deeper → Decoder) → k ≡ Ok (Some count)
      → counted_at (message t bytes handles) depth row size largest (eqb optional 1) fields at c.next c.handles
      ≡ D.after ((count + 1) ∷ []) [] (D.one_deeper (W.levels (message t bytes handles) depth) at
      (λ deep below. D.claim (message t bytes handles) vector_object row (count * size) (fields count deep below)) at c.next c.handles)
  counted_whole count t handles fields is =
      let m = message t bytes handles in
      record_got 16 _ _ at c.next c.handles (read t handles is)
      ∙ rw (add-one, deeper_anywhere m vector_object row (count * size) (W.levels m depth) at (fields count) (at + 16) at)

  pub counted_opened : (count : ℕ) {values' : List ℕ} (objects' : List ℕ) {d : Cursor} (r : Result Opened Fault) → k ≡ Ok (Some count) → values' ≡ set values c.values (count + 1) → d ≡ gave_one c
      → DeeperOpens bytes depth objects objects' at d vector_object row (count * size) r → HasCount count r
      → CountedOpens bytes depth values values' objects objects' at c row size largest optional r
  counted_opened count objects' r is e g opens has t handles fields ask =
      let given = set values c.values (count + 1) in
      rw (e, counted_whole count t handles fields is)
      (opens_same (length bytes) handles values given objects objects' c _ 16 count (λ x h. rw h) (λ x h. rw h) r has
      (opens_put (length bytes) handles values given objects objects' c _ 4 16 (count + 1) _ _ r (omega arith) (rw g at (opens t given handles (fields count) (ask_gave 16 ask (omega arith) g)))))

-- What lies in the object, once it is open.
pub counted_ask : (bytes : List ℕ) (depth : ℕ) (values values' objects objects' : List ℕ) (at : ℕ) (c : Cursor) (row size largest optional : ℕ) (r : Result Opened Fault)
    → CountedOpens bytes depth values values' objects objects' at c row size largest optional r → {handles : ℕ} → Ask (length bytes) handles 16 at c → {x : Opening} → r ≡ Ok (Open x)
    → Ask (length bytes) handles (x.count * size) x.start x.cursor
counted_ask bytes depth values values' objects objects' at c row size largest optional r opens {handles} ask h = (rw h at (opens some_table handles (λ count rows below. D.nothing) ask)).0

-- ---- a vector's elements

after_vector_lem : (m : Message) (depth row element size at p n u v : ℕ) → size_of m.table element ≡ size
    → W.after_vector m (W.levels m depth) row element at v p n u ≡ after_count m depth row size (λ count rows below. D.elements size (λ i. rows element) 0 count) at v p n u
after_vector_lem m depth row element size at p n u zero e = refl
after_vector_lem m depth row element size at p n u (suc count) e = rw e

pub vector_opens : (bytes : List ℕ) (depth : ℕ) (values values' objects objects' : List ℕ) (at : ℕ) (c : Cursor) (row size largest optional : ℕ) (r : Result Opened Fault)
    → CountedOpens bytes depth values values' objects objects' at c row size largest optional r
    → VectorOpens bytes depth values values' objects objects' at c row size largest optional r
vector_opens bytes depth values values' objects objects' at c row size largest optional r opens t handles element sized ask =
    let m = message t bytes handles in
    let same = record_same 16 (read_count m (eqb optional 1) largest) (W.after_vector m (W.levels m depth) row element) at c.next c.handles _
    (λ v. after_vector_lem m depth row element size at (at + 16) c.next c.handles v sized) in
    rw same (opens t handles (λ count deep below. D.elements size (λ i. deep element) 0 count) ask)
