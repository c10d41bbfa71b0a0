-- The members of a row, read two numbers at a time.
-- Assumes nothing.
use Rattle.std.proofs.Common.{◌≡◌, ℕ, zero, suc, ◌+◌, ◌-◌, ◌*◌, ◌/◌, ◌<◌, true, ◌&&◌, eqb, ltb, List, [], ◌∷◌, length, get_or, take, drop, Option, Some, None, Bor, MatchOption, refl, ◌∙◌, inl, inr, add-one, drop-cons, arith}
use Rattle.std.proofs.lemmas.List.{get_or-take, get_or-drop, drop-drop}
use borrow.Author.Tests.{le-leb}
use Rattle.std.specs.Simd.{first_chunks}
use Rattle.std.specs.Slice.{IsGetRangeResult}
use Rattle.rules.specs.TypeTable.{TypeTable, row_count}
use Rattle.rules.specs.Sound.{members_exist, struct_members, rising_members}
use Rattle.layout.specs.Kept.{Members}
use Rattle.layout.proofs.Rows.{struct_step, rising_step}

-- One member of the list.
pair_at : (xs : List ℕ) (n : ℕ) → n + 1 < length xs → take 2 (drop n xs) ≡ get_or xs n 0 ∷ get_or xs (n + 1) 0 ∷ []
pair_at xs n h =
    let first : n < length xs = omega arith in
    let second : suc n < length xs = omega arith in
    rw (drop-cons xs n 0, drop-cons xs (suc n) 0, add-one n)

chunk_at : (count : ℕ) (xs : List ℕ) (i : ℕ) → i < count → get_or (first_chunks 2 count xs) i [] ≡ take 2 (drop (i * 2) xs)
chunk_at zero xs i h = absurd (omega arith)
chunk_at (suc count) xs zero h = refl
chunk_at (suc count) xs (suc i) h =
    let place : suc i * 2 ≡ 2 + i * 2 = omega arith in
    chunk_at count (drop 2 xs) i (omega arith) ∙ rw (drop-drop, place)

pub members_lem : (members : List ℕ) (first count : ℕ) {pairs : List (List ℕ)} (r : Option (Bor (List (List ℕ))))
    → pairs ≡ first_chunks 2 (length members / 2) members → length pairs ≡ length members / 2 → IsGetRangeResult pairs first (first + count) r
    → MatchOption r (length members / 2 < first + count) (λ some. Members members first count some.now)
members_lem members first count None chunks whole got =
    elim got.0 [ inl h ↦ omega arith | inr h ↦ omega arith ]
members_lem members first count {pairs} (Some own) chunks whole got =
    record {
      exist = omega arith;
      whole = omega arith;
      each = λ i h.
          let inside : first + i < length members / 2 = omega arith in
          let place : (first + count) - first ≡ count = omega arith in
          let p = pair_at members ((first + i) * 2) (omega arith) in
          rw (got.0.2, place, get_or-take, get_or-drop, chunks) (chunk_at (length members / 2) members (first + i) inside ∙ p);
    }

pub members_there : (t : TypeTable) (first count : ℕ) {members : List ℕ} {own : List (List ℕ)} → t.members ≡ members → Members members first count own
    → members_exist t first count ≡ true
members_there t first count {members} same some = rw same (le-leb (first + count) (length members / 2) some.exist)

-- A turn through the members of a struct, and of a table or union.
module _
    (t : TypeTable)
    (first count i : ℕ)
    {members : List ℕ}
    {own : List (List ℕ)}
    (same : t.members ≡ members)
    (some : Members members first count own)
    (h : i < count)
  where
    pub struct_turn : (row : ℕ)
        → struct_members t row (first + i) (count - i) (i + 1)
        ≡ ((eqb (get_or (get_or own i []) 0 0) (i + 1) && ltb (get_or (get_or own i []) 1 0) row) && struct_members t row (first + (i + 1)) (count - (i + 1)) (i + 1 + 1))
    struct_turn row =
        let a : first + i + 1 ≡ first + (i + 1) = omega arith in
        let b : count - i - 1 ≡ count - (i + 1) = omega arith in
        struct_step t row (first + i) (count - i) (i + 1) (omega arith) ∙ rw (some.each i h, same, a, b)

    pub rising_turn : (before : ℕ)
        → rising_members t (first + i) (count - i) before
        ≡ ((ltb before (get_or (get_or own i []) 0 0) && ltb (get_or (get_or own i []) 1 0) (row_count t)) && rising_members t (first + (i + 1)) (count - (i + 1)) (get_or (get_or own i []) 0 0))
    rising_turn before =
        let a : first + i + 1 ≡ first + (i + 1) = omega arith in
        let b : count - i - 1 ≡ count - (i + 1) = omega arith in
        rising_step t (first + i) (count - i) before (omega arith) ∙ rw (some.each i h, same, a, b)
