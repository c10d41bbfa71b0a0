-- Records, and the objects that they open: the claim, one level down, and what is left then.
-- Assumes nothing.
use Rattle.std.specs.Prelude.{Err, Ok, Result, IfOk, OnOk}
use mathlib.Core.Path.{◌≡◌, refl, ap}
use mathlib.Core.Bool.{true, false}
use mathlib.Core.List.{List, [], ◌∷◌}
use Prim.Native.Nat.{ℕ, suc, ◌+◌, ◌-◌, ◌*◌, ◌/◌, ◌≤◌, ◌<◌}
use native.Mathlib.Omega.{arith}
use borrow.Author.Tests.{le-leb, lt-leb}
use lib.Dec.{leb}
use lib.ListN.{length, drop, get_or, length-drop}
use lib.Seq.{sets}
use Rattle.rules.specs.declared.Fault.{Fault}
use Rattle.rules.specs.declared.Place.TheVariants.{Index}
use Rattle.rules.specs.Refusals.{fault, message_too_long, too_deep}
use Rattle.rules.specs.Bytes.{round_up, padded}
use Rattle.rules.specs.Encode as E
use Rattle.rules.specs.Encode.{Encoded, wrote, cannot, Encoder, WriteRecord, put}
use Rattle.rules.specs.Writer as R
use Rattle.write_leaves.specs.declared.cursor.Cursor.{Cursor}
use Rattle.write_leaves.specs.Putting.{Wrote, answer, Stored, Fit, Put, took_one, Stands, Ask}
use Rattle.write_records.specs.declared.records.Opening.{Opening}
use Rattle.write_records.specs.declared.records.Opened.{Opened}
use Rattle.write_records.specs.declared.records.Opened.TheVariants.{Closed, Open}
use Rattle.write_records.specs.Opening.{to_open, Opens}
use Rattle.write_records.specs.Promises.{ClaimOpens, DeeperOpens}
use Rattle.write_leaves.proofs.Kept.{kept_all, kept_then}
use Rattle.write_leaves.proofs.InLine.{put_cannot, after_put, record_at}
use Rattle.write_records.proofs.Levels.{levels_spent, levels_down}

-- ---- claims

pub padded_is : (size : ℕ) → padded size ≡ (size + 7) / 8 * 8
unfolding padded round_up
padded_is size = refl

-- What takes no bytes in line stands at any place before.
put_before : {values out out' : List ℕ} {at base : ℕ} (there : ℕ) {c : Cursor} {r : Wrote} {e : Encoded} → at ≤ there → Put values out out' 0 there base c r e → Put values out out' 0 at base c r e
put_before {values} {out} {out'} {at} {base} there {c} {r} {e} before p = go e p.says p.stored p.fit
  where
    go : (e : Encoded) → r ≡ answer (length values) e → Stored out out' there (c.next - base) e → Fit values 0 c e → Put values out out' 0 at base c r e
    go (wrote [] outside n u rest) a s f = record { says = a; stored = s; fit = f }
    go (wrote (x ∷ inline) outside n u rest) a s f = absurd (omega (arith, f.whole))
    go (cannot number left) a s f = record { says = a; stored = kept_then there before kept_all s; fit = tt }

-- 3: at the number taken last.
pub claim_refused : (size : ℕ) (fields : Encoder) (numbers : List ℕ) (next used : ℕ) → 65536 < next + padded size
    → E.claim size fields numbers next used ≡ cannot message_too_long (suc (length numbers))
unfolding E.claim
claim_refused size fields numbers next used h = let k : leb (next + padded size) 65536 ≡ false = lt-leb _ _ h in rw k

claim_goes : (size : ℕ) (fields : Encoder) (numbers : List ℕ) (next used : ℕ) → next + padded size ≤ 65536
    → E.claim size fields numbers next used ≡ E.as_object size (fields numbers (next + padded size) used)
unfolding E.claim
claim_goes size fields numbers next used h = let k : leb (next + padded size) 65536 ≡ true = le-leb _ _ h in rw k

-- A refusal at the number taken last.
pub put_last : {values out : List ℕ} {size at base : ℕ} {c : Cursor} (number i index : ℕ) → i ≡ index + 1 → i ≤ length values
    → Put values out out size at base c (Err (fault number (Index index))) (cannot number (suc (length (drop i values))))
put_last {values} number i index e within = put_cannot number (suc (length (drop i values))) index (omega (arith, length-drop i values))

module _ (size : ℕ) (c : Cursor) {whole : ℕ} (w : whole ≡ padded size) where
  pub claim_over : {f : Fault} → 0 < c.index → 65536 - c.next < whole → f ≡ fault message_too_long (Index (c.index - 1)) → ClaimOpens size c (Err f)
  claim_over i h e values out at base fields ask =
      rw (e, claim_refused size fields (drop c.index values) c.next c.handles (omega arith)) (put_last message_too_long c.index (c.index - 1) (omega arith) ask.left)

  pub claim_opened : (count : ℕ) → c.next ≤ 65536 → whole ≤ 65536 - c.next
      → ClaimOpens size c (Ok (record { count = count; start = c.next; cursor = record { next = c.next + whole; handles = c.handles; index = c.index } }))
  claim_opened count n h values out at base fields ask =
      let ends : c.next + padded size ≤ 65536 = omega arith in (
        refl,
        ap (λ (k : ℕ). record { next = c.next + k; handles = c.handles; index = c.index }) w,
        record { free = omega arith; held = ask.held; left = ask.left },
        λ out'' r q. rw (claim_goes size fields (drop c.index values) c.next c.handles ends) (put_before (c.next - base) (omega (arith, ask.inside)) q),
      )

-- ---- one level down, and a claim there

module _ (depth size : ℕ) (c : Cursor) where
  pub deeper_spent : {f : Fault} → depth ≡ 0 → 0 < c.index → f ≡ fault too_deep (Index (c.index - 1)) → DeeperOpens depth size c (Err f)
  deeper_spent h i e t values out at base fields ask = rw (e, levels_spent t depth h) (put_last too_deep c.index (c.index - 1) (omega arith) ask.left)

  pub deeper_down : (r : Result Opening Fault) → (depth ≡ 0 → ⊥) → ClaimOpens size c r → DeeperOpens depth size c r
  deeper_down r n p t values out at base fields ask =
      rw (levels_down t depth n) (p values out at base (fields (R.encode_row t (R.levels t (depth - 1))) (R.levels t (depth - 1))) ask)

pub reaches_down : (depth : ℕ) (r : Result Opening Fault) → (depth ≡ 0 → ⊥) → OnOk r (0 < depth)
reaches_down depth (Ok x) n = omega arith
reaches_down depth (Err f) n = tt

-- ---- a record, and the object that it leads to

pub record_same : (write : ℕ → WriteRecord) (continue other : ℕ → Encoder) → ((v : ℕ) (numbers : List ℕ) (next used : ℕ) → continue v numbers next used ≡ other v numbers next used)
    → (numbers : List ℕ) (next used : ℕ) → E.record_then write continue numbers next used ≡ E.record_then write other numbers next used
unfolding E.record_then
record_same write continue other e [] next used = refl
record_same write continue other e (v ∷ numbers) next used = rw (e v numbers next used)

-- What is asked for after the record's number.
pub ask_took : {values : List ℕ} {size at base : ℕ} {c : Cursor} → Ask values size at base c → c.index < length values → Ask values 0 at base (took_one c)
ask_took ask h = record { inside = omega (arith, ask.inside); free = ask.free; held = ask.held; left = omega arith }

pub took_free : (values : List ℕ) (c d : Cursor) → Stands values c → d ≡ took_one c → d.next ≤ 65536
took_free values c d s e = rw e s.free

module _ (values out out' : List ℕ) (size at base : ℕ) (c : Cursor) where
  opens_after : (bytes : List ℕ) (whole : Encoded) (sizes : Opening → ℕ) (fields : Opening → Encoder) (r : Result Opened Fault) → length bytes ≡ size → out' ≡ sets out at bytes
      → Opens values out' out' 0 at base (took_one c) whole sizes fields r → Opens values out out' size at base c (E.after bytes [] whole) sizes fields r
  opens_after bytes whole sizes fields (Ok (Closed d)) l s p = after_put bytes l s p (omega arith)
  opens_after bytes whole sizes fields (Err f) l s p = after_put bytes l s p (omega arith)
  opens_after bytes whole sizes fields (Ok (Open x)) l s p = (p.0, p.1, p.2, λ out'' r q. after_put bytes l s (p.3 out'' r q) (omega arith))

  pub record_opens : (write : ℕ → WriteRecord) (continue : ℕ → Encoder) (v : ℕ) → c.index < length values → v ≡ get_or values c.index 0
      → (bytes : List ℕ) → write v ≡ put bytes → length bytes ≡ size → out' ≡ sets out at bytes
      → (sizes : Opening → ℕ) (fields : Opening → Encoder) (r : Result Opened Fault)
      → Opens values out' out' 0 at base (took_one c) (continue v (drop (c.index + 1) values) c.next c.handles) sizes fields r
      → Opens values out out' size at base c (E.record_then write continue (drop c.index values) c.next c.handles) sizes fields r
  record_opens write continue v h read bytes w l s sizes fields r p =
      rw (record_at write continue values c.index c.next c.handles h, ← read, w) (opens_after bytes _ sizes fields r l s p)

-- With what is left said by the opening's own count.
pub opens_same : (values out out' : List ℕ) (inline at base : ℕ) (c : Cursor) (whole : Encoded) (count : ℕ) {sizes sizes' : Opening → ℕ} {fields fields' : Opening → Encoder}
    → ((x : Opening) → x.count ≡ count → sizes x ≡ sizes' x) → ((x : Opening) → x.count ≡ count → fields x ≡ fields' x)
    → (r : Result Opening Fault) → IfOk r (λ x. x.count ≡ count) → Opens values out out' inline at base c whole sizes fields (to_open r) → Opens values out out' inline at base c whole sizes' fields' (to_open r)
opens_same values out out' inline at base c whole count f k (Err e) h p = p
opens_same values out out' inline at base c whole count f k (Ok x) h p = rw (f x h, k x h) at p
