-- The entries of a strict enum, or the mask of strict bits: those that rise up to a last one within the width.
-- Assumes nothing.
use Rattle.std.proofs.Common.{◌≡◌, ℕ, zero, suc, ◌+◌, ◌-◌, ◌*◌, ◌/◌, ◌^◌, ◌<◌, ◌≤◌, Bool, true, false, ◌&&◌, ltb, List, [], ◌∷◌, length, get_or, slice_get, Some, None, Bor, refl, sym, ◌∙◌, arith}
use Rattle.std.proofs.lemmas.List.{get_or-take, get_or-drop}
use Rattle.std.proofs.lemmas.Option.{slice_get_within, slice_get-get_or, get_or_from_slice_get}
use Rattle.std.specs.List.{IsAllAdjacentAnswer}
use Rattle.std.specs.Slice.{IsGetRangeResult}
use mathlib.Core.Bool.{and-false}
use borrow.Author.Tests.{le-leb, lt-leb, lt-ltb, le-ltb, ltb-true, ltb-false}
use Rattle.rules.specs.TypeTable.{TypeTable, entry_at}
use Rattle.rules.specs.Sound.{entries_exist, rising_entries, width_allowed}
use Rattle.layout.specs.Running.{Alignment, one, two, four, eight}
use Rattle.layout.proofs.Rows.{entries_none}
use Rattle.layout.proofs.Bounds.{width_alignment}

module _ (t : TypeTable) (width : ℕ) where
  abbrev Rise : (first count : ℕ) → Type 0
  Rise first count = (i : ℕ) → i + 1 < count → entry_at t (first + i) < entry_at t (first + (i + 1))

  rise_later : (first count : ℕ) → Rise first (suc count) → Rise (suc first) count
  rise_later first count rise i h =
      let a : suc first + i ≡ first + (i + 1) = omega arith in
      let b : suc first + (i + 1) ≡ first + (i + 1 + 1) = omega arith in
      rw (a, b) (rise (i + 1) (omega arith))

  -- The first is the least of them.
  first_least : (first count : ℕ) → Rise first (suc count) → entry_at t first ≤ entry_at t (first + count)
  first_least first zero rise = let z : first + 0 ≡ first = omega arith in rw z (omega arith)
  first_least first (suc count) rise =
      let a : first + suc count ≡ first + (count + 1) = omega arith in
      let next = rise count (omega arith) in
      rw a (omega (arith, first_least first count (λ i h. rise i (omega arith)), next))

  rising : (first count least : ℕ) → Rise first count → (0 < count → least ≤ entry_at t first)
      → (0 < count → entry_at t (first + (count - 1)) < 256 ^ width) → rising_entries t width first count least ≡ true
  unfolding rising_entries
  rising first zero least rise low high = refl
  rising first (suc count) least rise low high =
      let last : first + (suc count - 1) ≡ first + count = omega arith in
      let top = rw last at (high (omega arith)) in
      rw (le-leb least (entry_at t first) (low (omega arith)), lt-ltb (entry_at t first) (256 ^ width) (omega (arith, first_least first count rise, top)))
      (rising (suc first) count (suc (entry_at t first)) (rise_later first count rise)
      (λ h. let a : first + 0 ≡ first = omega arith in let b : first + (0 + 1) ≡ suc first = omega arith in rw (a, b) at (rise 0 (omega arith)))
      (λ h. let c : suc first + (count - 1) ≡ first + (suc count - 1) = omega arith in rw c (high (omega arith))))

  falling : (k first count least : ℕ) → k + 1 < count → entry_at t (first + (k + 1)) ≤ entry_at t (first + k) → rising_entries t width first count least ≡ false
  unfolding rising_entries
  falling k first zero least h e = absurd (omega arith)
  falling k first (suc zero) least h e = absurd (omega arith)
  falling zero first (suc (suc count)) least h e =
      let a : first + (0 + 1) ≡ suc first = omega arith in
      let b : first + 0 ≡ first = omega arith in
      let f = rw (a, b) at e in
      rw (lt-leb (suc (entry_at t first)) (entry_at t (suc first)) (omega arith)) (and-false _)
  falling (suc k) first (suc (suc count)) least h e =
      let a : first + (suc k + 1) ≡ suc first + (k + 1) = omega arith in
      let b : first + suc k ≡ suc first + k = omega arith in
      rw (falling k (suc first) (suc count) (suc (entry_at t first)) (omega arith) (rw (a, b) at e)) (and-false _)

  past : (first count least : ℕ) → 0 < count → 256 ^ width ≤ entry_at t (first + (count - 1)) → rising_entries t width first count least ≡ false
  unfolding rising_entries
  past first zero least h e = absurd (omega arith)
  past first (suc zero) least h e =
      let a : first + (1 - 1) ≡ first = omega arith in
      let f = rw a at e in
      rw (le-ltb (entry_at t first) (256 ^ width) f, and-false)
  past first (suc (suc count)) least h e =
      let a : first + (suc (suc count) - 1) ≡ suc first + (suc count - 1) = omega arith in
      rw (past (suc first) (suc count) (suc (entry_at t first)) (omega arith) (rw a at e)) (and-false _)

-- ---- the entries as the code has them

largest_lem : {width : ℕ} → Alignment width → suc (18446744073709551615 / 2 ^ (64 - 8 * width)) ≡ 256 ^ width
largest_lem one = refl
largest_lem two = refl
largest_lem four = refl
largest_lem eight = refl

-- The largest pattern of so many bytes.
pub largest : (width : ℕ) → width_allowed width ≡ true → suc (18446744073709551615 / 2 ^ (64 - 8 * width)) ≡ 256 ^ width
largest width allowed = largest_lem (width_alignment width allowed)

no_last : (xs : List ℕ) → None ≡ slice_get xs (length xs - 1) → length xs ≡ 0
no_last [] e = refl
no_last (x ∷ xs) e = let z : None ≡ Some (get_or (x ∷ xs) (length (x ∷ xs) - 1) 0) = e ∙ slice_get-get_or (x ∷ xs) (length (x ∷ xs) - 1) 0 (omega arith) in cc

module _
    (t : TypeTable)
    (width first count : ℕ)
    {entries : List ℕ}
    (own : Bor (List ℕ))
    (same : t.entries ≡ entries)
    (allowed : width_allowed width ≡ true)
    (got : IsGetRangeResult entries first (first + count) (Some own))
  where
    own_at : (i : ℕ) → i < count → get_or own.now i 0 ≡ entry_at t (first + i)
    own_at i h = let place : (first + count) - first ≡ count = omega arith in rw (got.0.2, place, get_or-take, get_or-drop, same)

    there : (width_allowed width && (entries_exist t first count && rising_entries t width first count 0)) ≡ rising_entries t width first count 0
    there = rw (allowed, same, le-leb (first + count) (length entries) got.0.1)

    pub fit_none : None ≡ slice_get own.now (length own.now - 1) → true ≡ (width_allowed width && (entries_exist t first count && rising_entries t width first count 0))
    fit_none e =
        let none : count ≡ 0 = omega (arith, no_last own.now e) in
        sym (there ∙ rw none (entries_none t width first 0))

    module _ (last : ℕ) (is_last : Some last ≡ slice_get own.now (length own.now - 1)) where
      some : 0 < count
      some = omega (arith, slice_get_within own.now (length own.now - 1) last (sym is_last))

      last_at : last ≡ entry_at t (first + (count - 1))
      last_at =
          let end : length own.now - 1 ≡ count - 1 = omega arith in
          sym (get_or_from_slice_get own.now (length own.now - 1) last 0 (sym is_last)) ∙ rw end (own_at (count - 1) (omega (arith, some)))

      pub fit_sorted : last < 256 ^ width → (r : Bool) → IsAllAdjacentAnswer (λ x y b. b ≡ ltb x y) own.now r
          → r ≡ (width_allowed width && (entries_exist t first count && rising_entries t width first count 0))
      fit_sorted high true rise =
          let steps : Rise t width first count = λ i h.
          let e = ltb-true (get_or own.now i 0) (get_or own.now (i + 1) 0) (sym (rise i 0 (omega arith))) in
          rw (own_at i (omega arith), own_at (i + 1) h) at e in
          sym (there ∙ rising t width first count 0 steps (λ h. omega arith) (λ h. rw last_at at high))
      fit_sorted high false (k, h, e) =
          let here : k + 1 < count = omega arith in
          let f = ltb-false (get_or own.now k 0) (get_or own.now (k + 1) 0) (sym (e 0)) in
          sym (there ∙ falling t width k first count 0 here (rw (own_at k (omega arith), own_at (k + 1) here) at f))

      pub fit_past : 256 ^ width ≤ last → false ≡ (width_allowed width && (entries_exist t first count && rising_entries t width first count 0))
      fit_past h = sym (there ∙ past t width first count 0 some (rw last_at at h))
