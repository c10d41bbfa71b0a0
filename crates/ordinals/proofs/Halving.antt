-- The member that has an ordinal, searched by halves: what each turn of the search leaves to search. More steps than
-- there are members change nothing.
-- Assumes nothing.
use mathlib.Core.Path.{◌≡◌}
use mathlib.Core.List.{List}
use Prim.Native.Nat.{ℕ, zero, suc, ◌+◌, ◌-◌, ◌/◌, ◌≤◌, ◌<◌}
use native.Mathlib.Omega.{arith}
use borrow.Author.Tests.{le-ltb}
use Rattle.std.proofs.lemmas.Grind.{common_steps}
use Rattle.rules.specs.TypeTable.{ordinal_in, row_in, known, unknown}
use Rattle.ordinals.specs.Ordinals.{halved_in, halved}

steps_same : (members : List ℕ) (ordinal s s' low high : ℕ) → high - low < s → high - low < s' → halved_in members ordinal s low high ≡ halved_in members ordinal s' low high
unfolding halved_in
steps_same members ordinal zero s' low high h k = absurd (omega arith)
steps_same members ordinal (suc s) zero low high h k = absurd (omega arith)
steps_same members ordinal (suc s) (suc s') low high h k =
    grind (arith, common_steps, steps_same members ordinal s s' ((low + high) / 2 + 1) high, steps_same members ordinal s s' low ((low + high) / 2))

-- What is left between `low` and `high` is what the whole search finds.
pub record Searched (members : List ℕ) (first count ordinal low high : ℕ) : Type 0 where
  pub few : high ≤ 2048
  pub same : halved_in members ordinal (suc (high - low)) low high ≡ halved members ordinal first count

pub searched_whole : {members : List ℕ} {first count ordinal : ℕ} → first ≤ 1024 → count ≤ 1024 → Searched members first count ordinal first (first + count)
searched_whole {members} {first} {count} {ordinal} f c = record {
  few = omega arith;
  same = rw (le-ltb 1024 first f, le-ltb 1024 count c) (steps_same members ordinal _ _ first (first + count) (omega arith) (omega arith));
}

module _ {members : List ℕ} {first count ordinal low high : ℕ} (s : Searched members first count ordinal low high) where
  pub searched_none : high ≤ low → unknown ≡ halved members ordinal first count
  unfolding halved_in
  searched_none h = grind (arith, common_steps, s.same)

  module _ (left : low < high) {here : ℕ} (e : here ≡ ordinal_in members ((low + high) / 2)) where
    pub searched_here : {row : ℕ} → here ≡ ordinal → row ≡ row_in members ((low + high) / 2) → known row ≡ halved members ordinal first count
    unfolding halved_in
    searched_here q r = grind (arith, common_steps, s.same)

    pub searched_up : (here ≡ ordinal → ⊥) → here < ordinal → Searched members first count ordinal ((low + high) / 2 + 1) high
    unfolding halved_in
    searched_up n q = record {
      few = s.few;
      same = grind (arith, common_steps, s.same, steps_same members ordinal (suc (high - ((low + high) / 2 + 1))) (high - low) ((low + high) / 2 + 1) high);
    }

    pub searched_down : (here ≡ ordinal → ⊥) → ordinal ≤ here → Searched members first count ordinal low ((low + high) / 2)
    unfolding halved_in
    searched_down n q = record {
      few = omega (arith, s.few);
      same = grind (arith, common_steps, s.same, steps_same members ordinal (suc ((low + high) / 2 - low)) (high - low) low ((low + high) / 2));
    }
