-- What a result that went on, or that was written, says of the parts that it was made of.
use Rattle.std.specs.Prelude.{if◌then◌else◌}
use mathlib.Core.Path.{◌≡◌, refl, sym, ◌∙◌}
use mathlib.Core.Bool.{Bool, true, false}
use mathlib.Core.List.{List, [], ◌∷◌, ◌++◌}
use Prim.Native.Nat.{ℕ, ◌+◌, ◌-◌, ◌≤◌}
use native.Mathlib.Omega.{arith}
use lib.Dec.{leb}
use borrow.Author.Tests.{leb-true}
use Rattle.rules.specs.declared.Place.TheVariants.{Byte}
use Rattle.rules.specs.declared.Fault.{Fault}
use Rattle.rules.specs.Refusals.{fault, too_few_handles, too_many_handles}
use Rattle.rules.specs.Bytes.{zeros, padded}
use Rattle.rules.specs.Trace.{Event, handles_of}
use Rattle.rules.specs.Decode as D
use Rattle.rules.specs.Decode.{Message, Decoded, went, stopped, ReadRecord, got, wrong}
use Rattle.rules.specs.Encode as E
use Rattle.rules.specs.Encode.{Encoded, wrote, cannot, Encoder, WriteRecord, put, unfit}

pub stopped_not_went : {f : Fault} {vs ws : List ℕ} {s t : List Event} {n u : ℕ} → stopped f vs s ≡ went n u ws t → ⊥
stopped_not_went e = let z : ◌≡◌ {A = ℕ} 0 1 = cc in omega arith

pub cannot_not_wrote : {number left : ℕ} {inl ool rest : List ℕ} {n u : ℕ} → cannot number left ≡ wrote inl ool n u rest → ⊥
cannot_not_wrote e = let z : ◌≡◌ {A = ℕ} 0 1 = cc in omega arith

-- ---- tests

pub require_inv : (b : Bool) (f : Fault) (r : Decoded) {n u : ℕ} {vs : List ℕ} {t : List Event} → D.require b f r ≡ went n u vs t → (b ≡ true) × (r ≡ went n u vs t)
require_inv true f r e = (refl, e)
require_inv false f r e = absurd (stopped_not_went e)

pub write_require_inv : (b : Bool) (number left : ℕ) (r : Encoded) {inl ool : List ℕ} {n u : ℕ} {rest : List ℕ}
    → E.require b number left r ≡ wrote inl ool n u rest → (b ≡ true) × (r ≡ wrote inl ool n u rest)
write_require_inv true number left r e = (refl, e)
write_require_inv false number left r e = absurd (cannot_not_wrote e)

after_test : (b : Bool) (f : Fault) (n₁ u₁ : ℕ) (vs₁ : List ℕ) (t₁ : List Event) {n u : ℕ} {vs : List ℕ} {t : List Event}
    → (if b then went n₁ u₁ vs₁ t₁ else stopped f vs₁ t₁) ≡ went n u vs t → (b ≡ true) × (went n₁ u₁ vs₁ t₁ ≡ went n u vs t)
after_test true f n₁ u₁ vs₁ t₁ e = (refl, e)
after_test false f n₁ u₁ vs₁ t₁ e = absurd (stopped_not_went e)

pub require_after_inv : (holds : ℕ → ℕ → List ℕ → Bool) (f : Fault) (r : Decoded) {n u : ℕ} {vs : List ℕ} {t : List Event}
    → D.require_after holds f r ≡ went n u vs t → (r ≡ went n u vs t) × (holds n u vs ≡ true)
require_after_inv holds f (stopped g vs₁ t₁) e = absurd (stopped_not_went e)
require_after_inv holds f (went n₁ u₁ vs₁ t₁) {n} {u} {vs} {t} e =
    let i = after_test (holds n₁ u₁ vs₁) f n₁ u₁ vs₁ t₁ e in
    let q : went n₁ u₁ vs₁ t₁ ≡ went n u vs t = i.1 in
    let z : holds n₁ u₁ vs₁ ≡ holds n u vs = cc in
    (q, sym z ∙ i.0)

-- ---- what came before

pub data After (vs₀ : List ℕ) (t₀ : List Event) (r : Decoded) (n u : ℕ) : List ℕ → List Event → Type 0 where
  after : {vs : List ℕ} {t : List Event} → r ≡ went n u vs t → After vs₀ t₀ r n u (vs₀ ++ vs) (t₀ ++ t)

pub after_inv : (vs₀ : List ℕ) (t₀ : List Event) (r : Decoded) {n u : ℕ} {vs : List ℕ} {t : List Event} → D.after vs₀ t₀ r ≡ went n u vs t → After vs₀ t₀ r n u vs t
after_inv vs₀ t₀ (stopped f vs₁ t₁) e = absurd (stopped_not_went e)
after_inv vs₀ t₀ (went n₁ u₁ vs₁ t₁) {n} {u} {vs} {t} e =
    let x : vs ≡ vs₀ ++ vs₁ = cc in
    let y : t ≡ t₀ ++ t₁ = cc in
    let z : went n₁ u₁ vs₁ t₁ ≡ went n u vs₁ t₁ = cc in
    rw (x, y) (after z)

pub data WriteAfter (a b : List ℕ) (r : Encoded) (n u : ℕ) (rest : List ℕ) : List ℕ → List ℕ → Type 0 where
  after : {inl ool : List ℕ} → r ≡ wrote inl ool n u rest → WriteAfter a b r n u rest (a ++ inl) (b ++ ool)

pub write_after_inv : (a b : List ℕ) (r : Encoded) {inl ool : List ℕ} {n u : ℕ} {rest : List ℕ} → E.after a b r ≡ wrote inl ool n u rest → WriteAfter a b r n u rest inl ool
write_after_inv a b (cannot number left) e = absurd (cannot_not_wrote e)
write_after_inv a b (wrote inl₁ ool₁ n₁ u₁ rest₁) {inl} {ool} {n} {u} {rest} e =
    let x : inl ≡ a ++ inl₁ = cc in
    let y : ool ≡ b ++ ool₁ = cc in
    let z : wrote inl₁ ool₁ n₁ u₁ rest₁ ≡ wrote inl₁ ool₁ n u rest = cc in
    rw (x, y) (after z)

-- ---- one after the other

pub data Then (r : Decoded) (k : ℕ → ℕ → Decoded) : ℕ → ℕ → List ℕ → List Event → Type 0 where
  both : {n₁ u₁ n u : ℕ} {vs₁ vs₂ : List ℕ} {t₁ t₂ : List Event} → r ≡ went n₁ u₁ vs₁ t₁ → k n₁ u₁ ≡ went n u vs₂ t₂ → Then r k n u (vs₁ ++ vs₂) (t₁ ++ t₂)

then_after : {vs₁ : List ℕ} {t₁ : List Event} (k : ℕ → ℕ → Decoded) {n₁ u₁ n u : ℕ} {vs : List ℕ} {t : List Event}
    → After vs₁ t₁ (k n₁ u₁) n u vs t → Then (went n₁ u₁ vs₁ t₁) k n u vs t
then_after k (after e) = both refl e

pub then_inv : (r : Decoded) (k : ℕ → ℕ → Decoded) {n u : ℕ} {vs : List ℕ} {t : List Event} → D.and_then r k ≡ went n u vs t → Then r k n u vs t
then_inv (stopped f vs₁ t₁) k e = absurd (stopped_not_went e)
then_inv (went n₁ u₁ vs₁ t₁) k e = then_after k (after_inv vs₁ t₁ (k n₁ u₁) e)

pub data WriteThen (r : Encoded) (k : Encoder) : List ℕ → List ℕ → ℕ → ℕ → List ℕ → Type 0 where
  both : {n₁ u₁ n u : ℕ} {inl₁ ool₁ rest₁ inl₂ ool₂ rest : List ℕ} → r ≡ wrote inl₁ ool₁ n₁ u₁ rest₁ → k rest₁ n₁ u₁ ≡ wrote inl₂ ool₂ n u rest
      → WriteThen r k (inl₁ ++ inl₂) (ool₁ ++ ool₂) n u rest

write_then_after : {inl₁ ool₁ rest₁ : List ℕ} (k : Encoder) {n₁ u₁ n u : ℕ} {inl ool rest : List ℕ}
    → WriteAfter inl₁ ool₁ (k rest₁ n₁ u₁) n u rest inl ool → WriteThen (wrote inl₁ ool₁ n₁ u₁ rest₁) k inl ool n u rest
write_then_after k (after e) = both refl e

pub write_then_inv : (r : Encoded) (k : Encoder) {inl ool : List ℕ} {n u : ℕ} {rest : List ℕ} → E.and_then r k ≡ wrote inl ool n u rest → WriteThen r k inl ool n u rest
write_then_inv (cannot number left) k e = absurd (cannot_not_wrote e)
write_then_inv (wrote inl₁ ool₁ n₁ u₁ rest₁) k e = write_then_after k (write_after_inv inl₁ ool₁ (k rest₁ n₁ u₁) e)

-- ---- records

pub data Record (r : ReadRecord) (k : ℕ → Decoded) (n u : ℕ) : List ℕ → List Event → Type 0 where
  record_of : {v : ℕ} {vs : List ℕ} {t : List Event} → r ≡ got v → k v ≡ went n u vs t → Record r k n u (v ∷ vs) t

record_after : (v : ℕ) (k : ℕ → Decoded) {n u : ℕ} {vs : List ℕ} {t : List Event} → After (v ∷ []) [] (k v) n u vs t → Record (got v) k n u vs t
record_after v k (after e) = record_of refl e

pub record_inv : (r : ReadRecord) (k : ℕ → Decoded) {n u : ℕ} {vs : List ℕ} {t : List Event} → D.record_goes r k ≡ went n u vs t → Record r k n u vs t
record_inv (wrong f) k e = absurd (stopped_not_went e)
record_inv (got v) k e = record_after v k (after_inv (v ∷ []) [] (k v) e)

pub data WriteOf (write : ℕ → WriteRecord) (k : ℕ → Encoder) (n u n₁ u₁ : ℕ) (rest : List ℕ) : List ℕ → List ℕ → List ℕ → Type 0 where
  record_of : {v : ℕ} {vs bytes inl ool : List ℕ} → write v ≡ put bytes → k v vs n u ≡ wrote inl ool n₁ u₁ rest
      → WriteOf write k n u n₁ u₁ rest (v ∷ vs) (bytes ++ inl) ool

write_record_after : {write : ℕ → WriteRecord} (k : ℕ → Encoder) {v n u n₁ u₁ : ℕ} {vs bytes rest inl ool : List ℕ} → write v ≡ put bytes
    → WriteAfter bytes [] (k v vs n u) n₁ u₁ rest inl ool → WriteOf write k n u n₁ u₁ rest (v ∷ vs) inl ool
write_record_after k q (after e) = record_of q e

write_record_go : (write : ℕ → WriteRecord) (k : ℕ → Encoder) (v n u left : ℕ) (vs : List ℕ) (w : WriteRecord) → write v ≡ w → {n₁ u₁ : ℕ} {rest inl ool : List ℕ}
    → E.record_goes w left (k v vs n u) ≡ wrote inl ool n₁ u₁ rest → WriteOf write k n u n₁ u₁ rest (v ∷ vs) inl ool
write_record_go write k v n u left vs unfit q e = absurd (cannot_not_wrote e)
write_record_go write k v n u left vs (put bytes) q e = write_record_after k q (write_after_inv bytes [] (k v vs n u) e)

pub write_record_inv : (write : ℕ → WriteRecord) (k : ℕ → Encoder) (vs : List ℕ) {n u n₁ u₁ : ℕ} {rest inl ool : List ℕ}
    → E.record_then write k vs n u ≡ wrote inl ool n₁ u₁ rest → WriteOf write k n u n₁ u₁ rest vs inl ool
unfolding E.record_then
write_record_inv write k [] e = absurd (cannot_not_wrote e)
write_record_inv write k (v ∷ vs) {n} {u} e = write_record_go write k v n u (E.last_taken vs) vs (write v) refl e

-- ---- handles

pub data Took (m : Message) (event : Event) (n u : ℕ) : ℕ → ℕ → List ℕ → List Event → Type 0 where
  took : u + handles_of event ≤ m.handles → Took m event n u n (u + handles_of event) [] (event ∷ [])

pub took_inv : (m : Message) (word_at : ℕ) (event : Event) (at n u : ℕ) {n₁ u₁ : ℕ} {vs : List ℕ} {t : List Event}
    → D.take_handles m word_at event at n u ≡ went n₁ u₁ vs t → Took m event n u n₁ u₁ vs t
unfolding D.take_handles
took_inv m word_at event at n u {n₁} {u₁} {vs} {t} e =
    let i = require_inv (leb (u + handles_of event) m.handles) (fault too_few_handles (Byte word_at)) (went n (u + handles_of event) [] (event ∷ [])) e in
    let a : n₁ ≡ n = cc in
    let b : u₁ ≡ u + handles_of event = cc in
    let c : vs ≡ [] = cc in
    let d : t ≡ event ∷ [] = cc in
    rw (a, b, c, d) (took (leb-true (u + handles_of event) m.handles i.0))

pub data Taken (count : ℕ) (vs : List ℕ) (n u : ℕ) : List ℕ → List ℕ → ℕ → ℕ → List ℕ → Type 0 where
  taken : u + count ≤ 64 → Taken count vs n u [] [] n (u + count) vs

pub taken_inv : (count : ℕ) (vs : List ℕ) (n u : ℕ) {inl ool : List ℕ} {n₁ u₁ : ℕ} {rest : List ℕ} → E.take_handles count vs n u ≡ wrote inl ool n₁ u₁ rest → Taken count vs n u inl ool n₁ u₁ rest
unfolding E.take_handles
taken_inv count vs n u {inl} {ool} {n₁} {u₁} {rest} e =
    let i = write_require_inv (leb (u + count) 64) too_many_handles (E.last_taken vs) (wrote [] [] n (u + count) vs) e in
    let a : inl ≡ [] = cc in
    let b : ool ≡ [] = cc in
    let c : n₁ ≡ n = cc in
    let d : u₁ ≡ u + count = cc in
    let f : rest ≡ vs = cc in
    rw (a, b, c, d, f) (taken (leb-true (u + count) 64 i.0))

-- ---- objects

pub data AsObject (size : ℕ) (r : Encoded) (n u : ℕ) (rest : List ℕ) : List ℕ → List ℕ → Type 0 where
  object : {inl ool : List ℕ} → r ≡ wrote inl ool n u rest → AsObject size r n u rest [] ((inl ++ zeros (padded size - size)) ++ ool)

pub object_inv : (size : ℕ) (r : Encoded) {inl ool : List ℕ} {n u : ℕ} {rest : List ℕ} → E.as_object size r ≡ wrote inl ool n u rest → AsObject size r n u rest inl ool
object_inv size (cannot number left) e = absurd (cannot_not_wrote e)
object_inv size (wrote inl₁ ool₁ n₁ u₁ rest₁) {inl} {ool} {n} {u} {rest} e =
    let x : inl ≡ [] = cc in
    let y : ool ≡ (inl₁ ++ zeros (padded size - size)) ++ ool₁ = cc in
    let z : wrote inl₁ ool₁ n₁ u₁ rest₁ ≡ wrote inl₁ ool₁ n u rest = cc in
    rw (x, y) (object z)
