-- Records, and the objects that they open: one level down, the claim, and what is left then.
-- Assumes nothing.
use Rattle.std.specs.Prelude.{Err, Ok, Result}
use mathlib.Core.Path.{◌≡◌, refl, ap}
use mathlib.Core.Bool.{false}
use mathlib.Core.List.{List, [], ◌∷◌}
use Prim.Native.Nat.{ℕ, ◌+◌, ◌-◌, ◌≤◌, ◌<◌}
use native.Mathlib.Omega.{arith}
use borrow.Author.Tests.{lt-leb}
use lib.Dec.{leb}
use lib.ListN.{length, set}
use Rattle.rules.specs.declared.Fault.{Fault}
use Rattle.rules.specs.declared.Place.TheVariants.{Byte}
use Rattle.rules.specs.Refusals.{fault, too_deep, object_does_not_fit}
use Rattle.rules.specs.Bytes.{padded}
use Rattle.rules.specs.Decode as D
use Rattle.rules.specs.Decode.{Message, Decoded, stopped, Decoder, ReadRecord, got, wrong}
use Rattle.rules.specs.Walk as W
use Rattle.rules.proofs.Bytes.{padded_above}
use Rattle.layout.specs.Ready.{some_table}
use Rattle.walk_leaves.specs.declared.cursor.Cursor.{Cursor}
use Rattle.walk_leaves.specs.Doing.{Walked}
use Rattle.walk_records.specs.declared.records.Opening.{Opening}
use Rattle.walk_records.specs.declared.records.Opened.{Opened}
use Rattle.walk_records.specs.declared.records.Opened.TheVariants.{Closed, Open}
use Rattle.walk_leaves.specs.Doing.{message, gave_one, Did, Ask}
use Rattle.walk_leaves.specs.Parts.{claim_at, DidObjects}
use Rattle.walk_records.specs.Opening.{AskBytes, Opens, HasCount}
use Rattle.walk_records.specs.Promises.{DeeperOpens}
use Rattle.walk_records.proofs.Levels.{levels_spent, levels_down}
use Rattle.walk_records.proofs.Claiming.{claim_then, claim_on, claim_anywhere}
use Rattle.walk_leaves.proofs.Steps.{did_stop, did_put, did_then, did_halt}

-- ---- records

module _ (size : ℕ) (read : ℕ → ReadRecord) (continue : (record_at value : ℕ) → Decoder) (at n u : ℕ) where
  pub record_got : {v : ℕ} → read at ≡ got v → D.record_then size read continue at n u ≡ D.after (v ∷ []) [] (continue at v (at + size) n u)
  unfolding D.record_then
  record_got e = rw e

  pub record_wrong : {f : Fault} → read at ≡ wrong f → D.record_then size read continue at n u ≡ stopped f [] []
  unfolding D.record_then
  record_wrong e = rw e

  pub record_same : (other : (record_at value : ℕ) → Decoder) → ((v : ℕ) → continue at v (at + size) n u ≡ other at v (at + size) n u)
      → D.record_then size read continue at n u ≡ D.record_then size read other at n u
  unfolding D.record_then
  record_same other e = go (read at)
    where
      go : (r : ReadRecord) → D.record_goes r (λ v. continue at v (at + size) n u) ≡ D.record_goes r (λ v. other at v (at + size) n u)
      go (got v) = ap (D.after (v ∷ []) []) (e v)
      go (wrong f) = refl

-- ---- claims

module _ (m : Message) (kind row size : ℕ) where
  -- One that is longer than the message does not fit.
  pub claim_over : (fields : Decoder) (at n u : ℕ) → length m.bytes < size → D.claim m kind row size fields at n u ≡ stopped (fault object_does_not_fit (Byte n)) [] []
  unfolding D.claim
  claim_over fields at n u h =
      let k : leb (n + padded size) (length m.bytes) ≡ false = lt-leb (n + padded size) (length m.bytes) (omega (arith, padded_above size)) in
      rw k

  -- A claim stands at no place in line.
  pub deeper_anywhere : (below : D.Deeper) (record_at : ℕ) (fields : (ℕ → Decoder) → D.Deeper → Decoder) (p q n u : ℕ)
      → D.one_deeper below record_at (λ rows b. D.claim m kind row size (fields rows b)) p n u ≡ D.one_deeper below record_at (λ rows b. D.claim m kind row size (fields rows b)) q n u
  unfolding D.claim
  deeper_anywhere D.spent record_at fields p q n u = refl
  deeper_anywhere (D.deeper rows b) record_at fields p q n u = refl

-- ---- one level down, and a claim there

module _ (bytes : List ℕ) (depth : ℕ) (objects : List ℕ) (at : ℕ) (c : Cursor) (kind row size : ℕ) where
  pub deeper_spent : {f : Fault} → depth ≡ 0 → f ≡ fault too_deep (Byte at) → DeeperOpens bytes depth objects objects at c kind row size (Err f)
  deeper_spent h e t values handles fields ask = rw (e, levels_spent (message t bytes handles) depth h) did_stop

  module _ {objects' : List ℕ} {w : Walked} (down : depth ≡ 0 → ⊥) (claims : DidObjects bytes objects objects' 4 0 c w (claim_at kind row size)) where
    pub deeper_opened : (count : ℕ) {d : Cursor} → w ≡ Ok d → DeeperOpens bytes depth objects objects' at c kind row size (Ok (Open (record { count = count; start = c.next; cursor = d })))
    deeper_opened count {d} e t values handles fields ask =
        let m = message t bytes handles in
        let did : Did (length bytes) handles 4 values values objects objects' c (Ok d) (claim_at kind row size m 0 c.next c.handles) =
        rw e at (claims t values handles ask.free ask.held)
        in
        let took = claim_on m kind row size 0 did in
        let ends = padded_above size in (
          record {
            short = ask.short;
            few = ask.few;
            inside = omega arith;
            free = did.within.0;
            held = did.within.1;
            small = omega arith;
          },
          λ v o r q.
              rw (levels_down m depth down, claim_then m kind row size, claim_anywhere m kind row size at 0)
              (did_then 4 (λ n₁ u₁. fields (W.decode_row m (W.levels m (depth - 1))) (W.levels m (depth - 1)) c.next n₁ u₁) did q (omega arith)),
          did.rises,
        )

    pub deeper_refused : {f : Fault} → w ≡ Err f → DeeperOpens bytes depth objects objects' at c kind row size (Err f)
    deeper_refused e t values handles fields ask =
        let m = message t bytes handles in
        rw (levels_down m depth down, claim_then m kind row size, claim_anywhere m kind row size at 0) (did_halt 4 _ (rw e at (claims t values handles ask.free ask.held)))

-- What lies in an object that is open, after a claim,
pub deeper_ask : (bytes : List ℕ) (depth : ℕ) (objects objects' : List ℕ) (at : ℕ) (c : Cursor) (kind row size : ℕ) (r : Result Opened Fault) → DeeperOpens bytes depth objects objects' at c kind row size r
    → {handles : ℕ} → Ask (length bytes) handles 4 at c → {x : Opening} → r ≡ Ok (Open x) → Ask (length bytes) handles size x.start x.cursor
deeper_ask bytes depth objects objects' at c kind row size r opens {handles} ask h = (rw h at (opens some_table [] handles (λ rows below. D.nothing) ask)).0

-- and before one, after a value number.
pub ask_gave : {total handles at : ℕ} (need : ℕ) {c d : Cursor} → Ask total handles need at c → 5 ≤ need → d ≡ gave_one c → Ask total handles 4 at d
ask_gave need ask h e = rw e (record {
  short = ask.short;
  few = ask.few;
  inside = omega arith;
  free = ask.free;
  held = ask.held;
  small = omega arith;
})

pub bytes_gave : {total at : ℕ} (need : ℕ) {c d : Cursor} → AskBytes total need at c → 5 ≤ need → d ≡ gave_one c → AskBytes total 4 at d
bytes_gave need ask h e = rw e (ask_gave need ask h refl)

-- Of the handles, those that are used are enough.
pub ask_bytes : {total handles need at : ℕ} {c : Cursor} → Ask total handles need at c → AskBytes total need at c
ask_bytes ask = record {
  short = ask.short;
  few = omega (arith, ask.few, ask.held);
  inside = ask.inside;
  free = ask.free;
  held = omega arith;
  small = ask.small;
}

-- ---- an answer that is handed on

pub opened_count : (count : ℕ) (r : Result Opened Fault) {x : Opening} → HasCount count r → r ≡ Ok (Open x) → x.count ≡ count
opened_count count r h e = rw e at h

module _ (total handles : ℕ) (v v' o o' : List ℕ) (c : Cursor) (whole : Decoded) where
  -- After a value number,
  pub opens_put : (g h x : ℕ) (need : Opening → ℕ) (left : Opening → Decoded) (r : Result Opened Fault) → 1 + g ≤ h
      → Opens total handles g (set v c.values x) v' o o' (gave_one c) whole need left r → Opens total handles h v v' o o' c (D.after (x ∷ []) [] whole) need left r
  opens_put g h x need left (Ok (Closed e)) k p = did_put h c x p k
  opens_put g h x need left (Err f) k p = did_put h c x p k
  opens_put g h x need left (Ok (Open y)) k p = (p.0, λ v₁ o₁ r q. did_put h c x (p.1 v₁ o₁ r q) k, p.2)

  -- and with what is left said by the opening's own count.
  pub opens_same : (g count : ℕ) {need need' : Opening → ℕ} {left left' : Opening → Decoded}
      → ((x : Opening) → x.count ≡ count → need x ≡ need' x) → ((x : Opening) → x.count ≡ count → left x ≡ left' x)
      → (r : Result Opened Fault) → HasCount count r → Opens total handles g v v' o o' c whole need left r → Opens total handles g v v' o o' c whole need' left' r
  opens_same g count f k (Ok (Closed e)) h p = p
  opens_same g count f k (Err e) h p = p
  opens_same g count f k (Ok (Open x)) h p = rw (f x h, k x h) at p
