-- A value among entries that rise, searched by halves: what each turn of the search leaves to search.
-- Assumes nothing.
use mathlib.Core.Bool.{Bool, true, false}
use mathlib.Core.List.{List}
use mathlib.Core.Path.{◌≡◌, refl, sym}
use Prim.Native.Nat.{ℕ, zero, suc, ◌+◌, ◌-◌, ◌/◌, ◌^◌, ◌≤◌, ◌<◌}
use native.Mathlib.Omega.{arith}
use borrow.Author.Tests.{eqb-true, eqb-false}
use lib.Dec.{eqb}
use lib.ListN.{length, take, drop}
use Rattle.std.proofs.lemmas.Grind.{common_steps}
use Rattle.rules.specs.TypeTable.{entry_in}
use Rattle.rules.specs.Records.{among_entries}
use Rattle.strict.specs.Strict.{Rising, shift_away}

-- ---- any entries

module _ (entries : List ℕ) (value : ℕ) where
  among_none : (first count : ℕ) → ((k : ℕ) → first ≤ k → k < first + count → entry_in entries k ≡ value → ⊥) → among_entries entries first count value ≡ false
  unfolding among_entries
  among_none first zero other = refl
  among_none first (suc count) other =
      grind (arith, common_steps, other first, among_none (suc first) count (λ k h l. other k (omega arith) (omega arith)))

  among_found : (first count k : ℕ) → first ≤ k → k < first + count → entry_in entries k ≡ value → among_entries entries first count value ≡ true
  unfolding among_entries
  among_found first zero k h l e = absurd (omega arith)
  among_found first (suc count) k h l e =
      let later : suc first ≤ k → among_entries entries (suc first) count value ≡ true = λ i. among_found (suc first) count k i (omega arith) e in
      grind (arith, common_steps, later)

  pub among_empty : length entries ≡ 0 → false ≡ among_entries entries 0 (length entries) value
  among_empty e = sym (among_none 0 (length entries) (λ k h l. absurd (omega arith)))

-- The same entries elsewhere.
among_moved : (xs ys : List ℕ) (i j count value : ℕ) → ((k : ℕ) → k < count → entry_in xs (i + k) ≡ entry_in ys (j + k))
    → among_entries xs i count value ≡ among_entries ys j count value
unfolding among_entries
among_moved xs ys i j zero value same = refl
among_moved xs ys i j (suc count) value same =
    grind (arith, common_steps, same 0, among_moved xs ys (suc i) (suc j) count value (λ k h. grind (arith, common_steps, same (suc k))))

pub among_part : (entries : List ℕ) (first count value : ℕ) {part : List ℕ} → first + count ≤ length entries → part ≡ take count (drop first entries)
    → among_entries part 0 (length part) value ≡ among_entries entries first count value
among_part entries first count value {part} exist is =
    let all : length part ≡ count = grind (arith, common_steps) in
    rw all (among_moved part entries 0 first count value (λ k h. grind (arith, common_steps)))

-- ---- entries that rise

-- The value can only be one of the `left` entries from `low` on.
pub record Narrowed (entries : List ℕ) (value low left : ℕ) : Type 0 where
  pub some : 1 ≤ left
  pub upto : low + left ≤ length entries
  pub only : (k : ℕ) → k < length entries → entry_in entries k ≡ value → (low ≤ k) × (k < low + left)

pub narrowed_whole : {entries : List ℕ} {value : ℕ} → (length entries ≡ 0 → ⊥) → Narrowed entries value 0 (length entries)
narrowed_whole n = record { some = omega (arith, n); upto = omega arith; only = λ k l e. (omega arith, omega arith) }

-- A shift that the language allows.
pub away_small : {away : ℕ} (value entry : ℕ) → away ≡ shift_away value entry → away < 64
away_small value entry is = grind (arith, common_steps)

module _ {entries : List ℕ} {value low left : ℕ} (s : Narrowed entries value low left) where
  -- A turn of the search: the lower end moves by a half, or by nothing.
  pub narrowed_next : Rising entries 0 (length entries) → 1 < left → length entries ≤ 1024 → {away : ℕ} → away ≡ shift_away value (entry_in entries (low + left / 2))
      → Narrowed entries value (low + left / 2 / 2 ^ away) (left - left / 2)
  narrowed_next rising more few {away} is = record {
    some = omega arith;
    upto = grind (arith, common_steps, s.upto);
    only = λ k l e. grind (arith, common_steps, s.only k l e, s.upto, rising k (low + left / 2), rising (low + left / 2) k);
  }

  -- One entry is left.
  pub narrowed_one : left ≤ 1 → eqb (entry_in entries low) value ≡ among_entries entries 0 (length entries) value
  narrowed_one h = go (eqb (entry_in entries low) value) refl
    where
      go : (b : Bool) → eqb (entry_in entries low) value ≡ b → b ≡ among_entries entries 0 (length entries) value
      go true q = sym (among_found entries value 0 (length entries) low (omega arith) (omega (arith, s.some, s.upto)) (eqb-true (entry_in entries low) value q))
      go false q = sym (among_none entries value 0 (length entries) (λ k i l e.
          let z : k ≡ low = omega (arith, s.only k (omega arith) e) in
          eqb-false (entry_in entries low) value q (rw z at e)))
