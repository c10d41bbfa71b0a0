-- Stores in the rest of the output, which was lent from a place on or, of a shorter output, from its end on.
-- Assumes nothing.
use mathlib.Core.Path.{◌≡◌, refl, ap, sym, ◌∙◌}
use mathlib.Core.Bool.{Bool, true, false}
use mathlib.Core.List.{List, [], ◌∷◌, ◌++◌, append-nil}
use Prim.Native.Nat.{ℕ, suc, ◌+◌, ◌-◌, ◌≤◌, min}
use native.Mathlib.Nat.{add-suc, add-zero, le_of_lt, min-eq_left, min-eq_right}
use native.Mathlib.Omega.{arith}
use borrow.Author.Tests.{leb-true, leb-false}
use lib.Dec.{leb}
use lib.ListN.{length, take, drop, set, take-append-drop, length-drop, length-append, drop_of_length-le}
use lib.Seq.{sets, take-set-le, drop-set-add, take_all, take_at, length-take-le, length_front}
use Rattle.words.proofs.Stores.{sets_past}

module _ {ℓ} {A : Type ℓ} where
  -- A run in the part from n on, said of the whole.
  part_run : (run list : List A) (n i : ℕ) → take n list ++ sets (drop n list) i run ≡ sets list (n + i) run
  part_run [] list n i = take-append-drop n list
  part_run (x ∷ run) list n i =
      ap (λ (m : List A). take n list ++ sets m (suc i) run) (sym (drop-set-add n list i x))
      ∙ ap (λ (m : List A). m ++ sets (drop n (set list (n + i) x)) (suc i) run) (sym (take-set-le n list (n + i) x (omega arith)))
      ∙ part_run run (set list (n + i) x) n (suc i)
      ∙ ap (λ (k : ℕ). sets (set list (n + i) x) k run) (add-suc n i)

  -- What a callee that was lent the part from n on, or from the end on, left in it, as the borrow checker states it.
  pub rest_lent : (run list part : List A) (n a : ℕ) → a ≡ min n (length list) → part ≡ sets (take (length list - a) (drop a list)) 0 run
      → take a list ++ (part ++ drop (length list - a) (drop a list)) ≡ sets list n run
  rest_lent run list part n a e h =
      let g : length (drop a list) ≤ length list - a = omega (arith, length-drop a list) in
      ap (λ (z : List A). take a list ++ (part ++ z)) (drop_of_length-le (drop a list) g)
      ∙ ap (λ (z : List A). take a list ++ z) (append-nil part ∙ h ∙ ap (λ (z : List A). sets z 0 run) (take_all (length list - a) (drop a list) g))
      ∙ part_run run list a 0
      ∙ ap (λ (k : ℕ). sets list k run) (add-zero a)
      ∙ clipped (leb n (length list)) refl
    where
      clipped : (short : Bool) → leb n (length list) ≡ short → sets list a run ≡ sets list n run
      clipped true q = let s : a ≡ n = e ∙ min-eq_left (leb-true n (length list) q) in rw s
      clipped false q =
          let h : length list ≤ n = le_of_lt (leb-false n (length list) q) in
          let s : a ≡ length list = e ∙ min-eq_right h in
          rw (sets_past list a run (omega (arith, s)), sets_past list n run h)

  -- Whatever such a callee left there, of the same length: the whole is as long as it was, and nothing before n changes.
  module _ (list part : List A) (n a : ℕ) (e : a ≡ min n (length list)) (long : length part ≡ length (take (length list - a) (drop a list))) where
    abbrev whole : List A
    whole = take a list ++ (part ++ drop (length list - a) (drop a list))

    pub rest_long : length whole ≡ length list
    rest_long =
        length-append (take a list) (part ++ drop (length list - a) (drop a list))
        ∙ ap (λ (k : ℕ). length (take a list) + k) (length_front (drop a list) part (length list - a) long)
        ∙ sym (length-append (take a list) (drop a list))
        ∙ ap length (take-append-drop a list)

    front : a ≤ length list → take a whole ≡ take a list
    front h = take_at (take a list) (part ++ drop (length list - a) (drop a list)) a (length-take-le a list h)

    pub rest_same : take n whole ≡ take n list
    rest_same = clipped (leb n (length list)) refl
      where
        clipped : (short : Bool) → leb n (length list) ≡ short → take n whole ≡ take n list
        clipped true q =
            let h : n ≤ length list = leb-true n (length list) q in
            let s : a ≡ n = e ∙ min-eq_left h in
            ap (λ (k : ℕ). take k whole) (sym s) ∙ front (omega (arith, s)) ∙ ap (λ (k : ℕ). take k list) s
        clipped false q =
            let h : length list ≤ n = le_of_lt (leb-false n (length list) q) in
            let s : a ≡ length list = e ∙ min-eq_right h in
            let all = take_all n whole (omega (arith, rest_long)) ∙ sym (take_all a whole (omega (arith, rest_long, s))) in
            all ∙ front (omega (arith, s)) ∙ take_all a list (omega (arith, s)) ∙ sym (take_all n list h)
