-- What stays as it was before a place of the output, and how such facts go together.
-- Assumes nothing.
use mathlib.Core.Path.{◌≡◌, refl, sym, ap, ◌∙◌}
use mathlib.Core.List.{List, [], ◌∷◌}
use Prim.Native.Nat.{ℕ, suc, ◌≤◌}
use native.Mathlib.Omega.{arith}
use lib.ListN.{length, take, set}
use lib.Seq.{sets, length-sets, take-set-le, take-take}
use Rattle.write_leaves.specs.Putting.{KeptBefore}

take_sets : (n : ℕ) (list : List ℕ) (place : ℕ) (run : List ℕ) → n ≤ place → take n (sets list place run) ≡ take n list
take_sets n list place [] h = refl
take_sets n list place (x ∷ run) h = take_sets n (set list place x) (suc place) run (omega arith) ∙ take-set-le n list place x h

-- Nothing was stored.
pub kept_all : {out : List ℕ} {at : ℕ} → KeptBefore out out at
kept_all = record { long = refl; same = refl }

-- Bytes were stored from there on.
pub kept_sets : {out out' : List ℕ} {at : ℕ} (place : ℕ) (bytes : List ℕ) → at ≤ place → out' ≡ sets out place bytes → KeptBefore out out' at
kept_sets {out} {at = at} place bytes h s = record { long = ap length s ∙ length-sets out place bytes; same = ap (take at) s ∙ take_sets at out place bytes h }

-- First from a place on, and then from a later place on.
pub kept_then : {out out' out'' : List ℕ} {at : ℕ} (there : ℕ) → at ≤ there → KeptBefore out out' at → KeptBefore out' out'' there → KeptBefore out out'' at
kept_then {out} {out'} {out''} {at} there h p q = record {
  long = q.long ∙ p.long;
  same = sym (take-take at there out'' h) ∙ ap (take at) q.same ∙ take-take at there out' h ∙ p.same;
}
