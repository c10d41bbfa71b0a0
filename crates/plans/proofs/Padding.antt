-- The array that a plan's parts are put into: past the parts so far it is as it was.
-- Assumes nothing.
use Rattle.std.proofs.lemmas.List.{take-append-drop, length-take-le, drop-drop, drop-set-lt, drop-replicate}
use mathlib.Core.List.{List, [], ◌∷◌, ◌++◌}
use mathlib.Core.Path.{◌≡◌, refl, sym, ap, ◌∙◌}
use Prim.Native.Nat.{ℕ, ◌+◌, ◌-◌, ◌≤◌, ◌<◌}
use native.Mathlib.Omega.{arith}
use lib.ListN.{length, set, take, drop, replicate}
use Rattle.plans.specs.declared.Part.{Part}
use Rattle.plans.specs.Plans.{no_part, padded}

-- One part more.
pub past_more : (parts lent : List Part) (i : ℕ) (part : Part) → drop i parts ≡ drop i lent → drop (i + 1) (set parts i part) ≡ drop (i + 1) lent
past_more parts lent i part h = drop-set-lt (i + 1) parts i part (omega arith) ∙ sym (drop-drop 1 i parts) ∙ ap (drop 1) h ∙ drop-drop 1 i lent

-- A whole plan, in an array of its own.
pub padded_end : (parts : List Part) (n : ℕ) → length parts ≡ 16 → n ≤ 16 → drop n parts ≡ drop n (replicate 16 no_part) → parts ≡ padded (take n parts)
padded_end parts n long few h =
    let left : drop n parts ≡ replicate (16 - n) no_part = h ∙ drop-replicate n 16 no_part in
    let count : length (take n parts) ≡ n = length-take-le n parts (omega (arith, long, few)) in
    sym (take-append-drop n parts) ∙ ap (λ rest. take n parts ++ rest) (left ∙ ap (λ k. replicate (16 - k) no_part) (sym count))

-- One part, in the first place.
pub first_put : (parts : List Part) (part : Part) → 0 < length parts → (take 1 (set parts 0 part) ≡ part ∷ []) × (drop 1 (set parts 0 part) ≡ drop 1 parts)
first_put [] part h = absurd (omega arith)
first_put (p ∷ ps) part h = (refl, refl)
