-- Laws of traces: what a trace in two parts comes to.
use Rattle.std.specs.Prelude.{if◌then◌else◌}
use mathlib.Core.Path.{◌≡◌, refl, ap}
use mathlib.Core.Bool.{Bool, true, false}
use mathlib.Core.List.{List, [], ◌∷◌, ◌++◌}
use Prim.Native.Nat.{ℕ, ◌+◌}
use native.Mathlib.Omega.{arith}
use lib.Dec.{eqb}
use Rattle.rules.specs.Bytes.{padded}
use Rattle.rules.specs.Trace.{Event, claimed, present_handle, unknown_content, unknown_object, object_list, present_handles, unknown_handles, unknown_out_of_line, Tiles, unknown_lengths}

abbrev pub all_handles : List Event → ℕ
all_handles t = present_handles t + unknown_handles t

pub all_handles_append : (s t : List Event) → all_handles (s ++ t) ≡ all_handles s + all_handles t
unfolding present_handles unknown_handles
all_handles_append [] t = omega arith
all_handles_append (claimed kind row offset length ∷ s) t = all_handles_append s t
all_handles_append (present_handle at ∷ s) t = omega (arith, all_handles_append s t)
all_handles_append (unknown_content bytes handles ∷ s) t = omega (arith, all_handles_append s t)

pub objects_append : (s t : List Event) → object_list (s ++ t) ≡ object_list s ++ object_list t
unfolding object_list
objects_append [] t = refl
objects_append (claimed kind row offset length ∷ s) t = ap (λ (l : List ℕ). kind ∷ row ∷ offset ∷ length ∷ l) (objects_append s t)
objects_append (present_handle at ∷ s) t = objects_append s t
objects_append (unknown_content bytes handles ∷ s) t = objects_append s t

pub tiles_append : (a b c : ℕ) (s t : List Event) → Tiles a b (object_list s) → Tiles b c (object_list t) → Tiles a c (object_list (s ++ t))
unfolding object_list Tiles
tiles_append a b c [] t x y = rw x y
tiles_append a b c (claimed kind row offset length ∷ s) t x y = (x.0, tiles_append (a + padded length) b c s t x.1 y)
tiles_append a b c (present_handle at ∷ s) t x y = tiles_append a b c s t x y
tiles_append a b c (unknown_content bytes handles ∷ s) t x y = tiles_append a b c s t x y

if_append : (b : Bool) (x : ℕ) (l₁ l₂ l : List ℕ) → l ≡ l₁ ++ l₂ → (if b then (x ∷ l) else l) ≡ (if b then (x ∷ l₁) else l₁) ++ l₂
if_append true x l₁ l₂ l e = ap (λ (r : List ℕ). x ∷ r) e
if_append false x l₁ l₂ l e = e

unless_append : (b : Bool) (x : ℕ) (l₁ l₂ l : List ℕ) → l ≡ l₁ ++ l₂ → (if b then l else (x ∷ l)) ≡ (if b then l₁ else (x ∷ l₁)) ++ l₂
unless_append true x l₁ l₂ l e = e
unless_append false x l₁ l₂ l e = ap (λ (r : List ℕ). x ∷ r) e

lengths_append : (s t : List Event) → unknown_lengths (object_list (s ++ t)) ≡ unknown_lengths (object_list s) ++ unknown_lengths (object_list t)
unfolding object_list unknown_lengths
lengths_append [] t = refl
lengths_append (claimed kind row offset length ∷ s) t =
    if_append (eqb kind unknown_object) length (unknown_lengths (object_list s)) (unknown_lengths (object_list t)) _ (lengths_append s t)
lengths_append (present_handle at ∷ s) t = lengths_append s t
lengths_append (unknown_content bytes handles ∷ s) t = lengths_append s t

out_of_line_append : (s t : List Event) → unknown_out_of_line (s ++ t) ≡ unknown_out_of_line s ++ unknown_out_of_line t
unfolding unknown_out_of_line
out_of_line_append [] t = refl
out_of_line_append (claimed kind row offset length ∷ s) t = out_of_line_append s t
out_of_line_append (present_handle at ∷ s) t = out_of_line_append s t
out_of_line_append (unknown_content bytes handles ∷ s) t =
    unless_append (eqb bytes 0) bytes (unknown_out_of_line s) (unknown_out_of_line t) _ (out_of_line_append s t)

-- Unknown content out of line is an object, and each object of its kind is such content.
abbrev pub UnknownAreObjects : List Event → Type 0
UnknownAreObjects t = unknown_lengths (object_list t) ≡ unknown_out_of_line t

pub unknown_append : (s t : List Event) → UnknownAreObjects s → UnknownAreObjects t → UnknownAreObjects (s ++ t)
unknown_append s t x y = rw (lengths_append, out_of_line_append, x, y)
