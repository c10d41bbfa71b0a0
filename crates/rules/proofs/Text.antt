-- W-201: where text breaks lies in the bytes, what stands before is text, and with any byte more it is none.
use Rattle.std.specs.Prelude.{if◌then◌else◌}
use mathlib.Core.Path.{◌≡◌, refl, ap}
use mathlib.Core.Bool.{Bool, true, false}
use mathlib.Core.List.{List, [], ◌∷◌}
use Prim.Native.Nat.{ℕ, zero, suc, ◌+◌, ◌-◌, ◌≤◌, ◌<◌}
use native.Mathlib.Omega.{arith}
use lib.ListN.{length, take}
use Rattle.rules.specs.Text.{Range, holds, forms, Led, led, not_a_lead, leads, Text, text, broken, follows, utf8, is_text, start_of, is_utf8, broken_at, BreaksThere, TextBreaksThere}

-- At the start of the sequence that was begun, which the bytes so far leave open; or later, where a sequence would start.
data Stops (bytes : List ℕ) (start at : ℕ) (due : Led) (s : ℕ) : Type 0 where
  begun : s ≡ start → follows [] start at due ≡ broken s → Stops bytes start at due s
  later : at ≤ s → s < at + length bytes → follows (take (s - at) bytes) start at due ≡ text → Stops bytes start at due s

started : {start s : ℕ} → broken start ≡ broken s → s ≡ start
started e = cc

not_broken : {A : Type 0} {s : ℕ} → text ≡ broken s → A
not_broken e = let z : ◌≡◌ {A = ℕ} 0 1 = cc in absurd (omega arith)

-- One byte before.
next_lead : (byte : ℕ) (bytes : List ℕ) (start at s : ℕ) → Stops bytes at (suc at) (leads forms byte) s → Stops (byte ∷ bytes) start at (led []) s
unfolding follows
next_lead byte bytes start at s (begun q f) = let z : s - at ≡ 0 = omega arith in later (omega arith) (omega arith) (rw z refl)
next_lead byte bytes start at s (later h k f) = let z : s - at ≡ suc (s - suc at) = omega arith in later (omega arith) (omega arith) (rw z f)

next_tail : (byte : ℕ) (bytes : List ℕ) (start at s : ℕ) (r : Range) (due : List Range) → holds r byte ≡ true
    → Stops bytes start (suc at) (led due) s → Stops (byte ∷ bytes) start at (led (r ∷ due)) s
unfolding follows
next_tail byte bytes start at s r due e (begun q f) = begun q (cc)
next_tail byte bytes start at s r due e (later h k f) = let z : s - at ≡ suc (s - suc at) = omega arith in later (omega arith) (omega arith) (rw (z, e) f)

stops : (bytes : List ℕ) (start at : ℕ) (due : Led) (s : ℕ) → follows bytes start at due ≡ broken s → Stops bytes start at due s
unfolding follows
stops [] start at not_a_lead s e = begun (started e) e
stops [] start at (led []) s e = not_broken e
stops [] start at (led (r ∷ due)) s e = begun (started e) e
stops (byte ∷ bytes) start at not_a_lead s e = begun (started e) e
stops (byte ∷ bytes) start at (led []) s e = next_lead byte bytes start at s (stops bytes at (suc at) (leads forms byte) s e)
stops (byte ∷ bytes) start at (led (r ∷ due)) s e = go (holds r byte) refl (λ q. stops bytes start (suc at) (led due) s q) e
  where
    go : (b : Bool) → holds r byte ≡ b → (follows bytes start (suc at) (led due) ≡ broken s → Stops bytes start (suc at) (led due) s)
        → (if b then follows bytes start (suc at) (led due) else broken start) ≡ broken s → Stops (byte ∷ bytes) start at (led (r ∷ due)) s
    go true q f e = next_tail byte bytes start at s r due q (f e)
    go false q f e = begun (started e) e

-- As many of the bytes as reach past that place break there too.
part_stops : (bytes : List ℕ) (start at : ℕ) (due : Led) (s count : ℕ) → s < at + count → follows bytes start at due ≡ broken s
    → follows (take count bytes) start at due ≡ broken s
unfolding follows
part_stops bytes start at due s zero h e = go (stops bytes start at due s e)
  where
    go : Stops bytes start at due s → follows [] start at due ≡ broken s
    go (begun q f) = f
    go (later a b f) = absurd (omega arith)
part_stops [] start at due s (suc count) h e = e
part_stops (byte ∷ bytes) start at not_a_lead s (suc count) h e = e
part_stops (byte ∷ bytes) start at (led []) s (suc count) h e = part_stops bytes at (suc at) (leads forms byte) s count (omega arith) e
part_stops (byte ∷ bytes) start at (led (r ∷ due)) s (suc count) h e = go (holds r byte) (λ q. part_stops bytes start (suc at) (led due) s count (omega arith) q) e
  where
    go : (b : Bool) → (follows bytes start (suc at) (led due) ≡ broken s → follows (take count bytes) start (suc at) (led due) ≡ broken s)
        → (if b then follows bytes start (suc at) (led due) else broken start) ≡ broken s
        → (if b then follows (take count bytes) start (suc at) (led due) else broken start) ≡ broken s
    go true f e = f e
    go false f e = e

-- Of a whole text.
record Found (bytes : List ℕ) (s : ℕ) : Type 0 where
  inside : s < length bytes
  before : utf8 (take s bytes) ≡ text

found : (bytes : List ℕ) (s : ℕ) → utf8 bytes ≡ broken s → Found bytes s
unfolding follows
found bytes s e = go (stops bytes 0 0 (led []) s e)
  where
    go : Stops bytes 0 0 (led []) s → Found bytes s
    go (begun q f) = not_broken f
    go (later h k f) = let z : s - 0 ≡ s = omega arith in record { inside = omega arith; before = rw z at f }

pub broken_inside : (bytes : List ℕ) {s : ℕ} → utf8 bytes ≡ broken s → s < length bytes
broken_inside bytes {s} e = (found bytes s e).inside

breaks_there : (bytes : List ℕ) (s : ℕ) → utf8 bytes ≡ broken s → BreaksThere bytes
unfolding is_utf8 broken_at
breaks_there bytes s e =
    let place : start_of (utf8 bytes) ≡ s = ap start_of e in
    let w = found bytes s e in
    record {
      inside = rw place w.inside;
      before = rw place (ap is_text w.before);
      beyond = λ count h. ap is_text (part_stops bytes 0 0 (led []) s count (omega arith) e);
    }

pub text_breaks_there : TextBreaksThere
unfolding is_utf8
text_breaks_there bytes e = go (utf8 bytes) refl e
  where
    go : (t : Text) → utf8 bytes ≡ t → is_text t ≡ false → BreaksThere bytes
    go text q e = let z : ◌≡◌ {A = ℕ} 0 1 = cc in absurd (omega arith)
    go (broken s) q e = breaks_there bytes s q
