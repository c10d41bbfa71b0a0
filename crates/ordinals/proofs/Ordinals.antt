-- The member that has an ordinal: among members whose ordinals rise, the search by halves finds what the rules say.
-- Assumes nothing.
use mathlib.Core.Path.{◌≡◌, refl}
use mathlib.Core.List.{List}
use Prim.Native.Nat.{ℕ, zero, suc, ◌+◌, ◌-◌, ◌/◌, ◌≤◌, ◌<◌}
use native.Mathlib.Omega.{arith}
use borrow.Author.Tests.{le-ltb}
use Rattle.std.proofs.lemmas.Grind.{common_steps}
use Rattle.rules.specs.TypeTable.{ordinal_in, TypeTable, ordinal_at, row_of, known, unknown, content_of}
use Rattle.ordinals.specs.Ordinals.{halved_in, halved, Rising}
use Rattle.layout.proofs.Rising.{rises, not_falls}

-- ---- any members

content_none : (t : TypeTable) (first count ordinal : ℕ) → ((k : ℕ) → first ≤ k → k < first + count → ordinal_at t k ≡ ordinal → ⊥) → content_of t first count ordinal ≡ unknown
unfolding content_of
content_none t first zero ordinal none = refl
content_none t first (suc count) ordinal none =
    grind (arith, common_steps, none first, content_none t (suc first) count ordinal (λ k h l. none k (omega arith) (omega arith)))

content_first : (t : TypeTable) (first count ordinal k : ℕ) → first ≤ k → k < first + count → ((j : ℕ) → first ≤ j → j < k → ordinal_at t j ≡ ordinal → ⊥)
    → ordinal_at t k ≡ ordinal → content_of t first count ordinal ≡ known (row_of t k)
unfolding content_of
content_first t first zero ordinal k h l before e = absurd (omega arith)
content_first t first (suc count) ordinal k h l before e =
    grind (arith, common_steps, before first, λ (g : suc first ≤ k). content_first t (suc first) count ordinal k g (omega arith) (λ j i. before j (omega arith)) e)

-- ---- members whose ordinals rise

-- What a search by halves knows: the members before `low` have smaller ordinals, those from `high` on larger ones.
record Narrowed (members : List ℕ) (first count ordinal low high : ℕ) : Type 0 where
  pub from : first ≤ low
  pub upto : high ≤ first + count
  pub smaller : (k : ℕ) → first ≤ k → k < low → ordinal_in members k < ordinal
  pub larger : (k : ℕ) → high ≤ k → k < first + count → ordinal < ordinal_in members k

module _ (t : TypeTable) (first count : ℕ) (rising : Rising t.members first count) where
  module _ {ordinal low high : ℕ} (s : Narrowed t.members first count ordinal low high) where
    -- None is left;
    narrowed_none : high ≤ low → content_of t first count ordinal ≡ unknown
    narrowed_none h = content_none t first count ordinal (λ k i l e. grind (arith, s.smaller k i, s.larger k))

    module _ (left : low < high) where
      -- the middle member is the one;
      narrowed_found : ordinal_at t ((low + high) / 2) ≡ ordinal → content_of t first count ordinal ≡ known (row_of t ((low + high) / 2))
      narrowed_found q =
          let middle : ℕ = (low + high) / 2 in
          content_first t first count ordinal middle (omega (arith, s.from)) (omega (arith, s.upto))
          (λ j i g z. omega (arith, rises (λ k. ordinal_at t k) first count rising j middle i g (omega (arith, s.upto)))) q

      -- its ordinal is smaller;
      narrowed_up : ordinal_at t ((low + high) / 2) < ordinal → Narrowed t.members first count ordinal ((low + high) / 2 + 1) high
      narrowed_up q = record {
        from = omega (arith, s.from);
        upto = s.upto;
        smaller = λ k h l. omega (arith, not_falls (λ k. ordinal_at t k) first count rising k ((low + high) / 2) h (omega arith) (omega (arith, s.upto)));
        larger = s.larger;
      }

      -- it is larger.
      narrowed_down : ordinal < ordinal_at t ((low + high) / 2) → Narrowed t.members first count ordinal low ((low + high) / 2)
      narrowed_down q = record {
        from = s.from;
        upto = omega (arith, s.upto);
        smaller = s.smaller;
        larger = λ k h l. omega (arith, not_falls (λ k. ordinal_at t k) first count rising ((low + high) / 2) k (omega (arith, s.from)) h l);
      }

  narrowed_halved : (ordinal steps low high : ℕ) → high - low < steps → Narrowed t.members first count ordinal low high
      → halved_in t.members ordinal steps low high ≡ content_of t first count ordinal
  unfolding halved_in
  narrowed_halved ordinal zero low high h s = absurd (omega arith)
  narrowed_halved ordinal (suc steps) low high h s =
      let middle : ℕ = (low + high) / 2 in
      let up : low < high → ordinal_at t middle < ordinal → halved_in t.members ordinal steps (middle + 1) high ≡ content_of t first count ordinal
      = λ l g. narrowed_halved ordinal steps (middle + 1) high (omega arith) (narrowed_up s l g) in
      let down : low < high → ordinal < ordinal_at t middle → halved_in t.members ordinal steps low middle ≡ content_of t first count ordinal
      = λ l g. narrowed_halved ordinal steps low middle (omega arith) (narrowed_down s l g) in
      grind (arith, common_steps, narrowed_none s, narrowed_found s, up, down)

pub halved_content : (t : TypeTable) {members : List ℕ} (first count ordinal : ℕ) → t.members ≡ members → first + count ≤ 1024 → Rising members first count
    → halved members ordinal first count ≡ content_of t first count ordinal
halved_content t first count ordinal e few rising =
    rw (le-ltb 1024 first (omega arith), le-ltb 1024 count (omega arith), ← e)
    (narrowed_halved t first count (rw (← e) at rising) ordinal (suc count) first (first + count) (omega arith) (record {
      from = omega arith;
      upto = omega arith;
      smaller = λ k h l. absurd (omega arith);
      larger = λ k h l. absurd (omega arith);
    }))
