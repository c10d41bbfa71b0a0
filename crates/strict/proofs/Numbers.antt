-- A row of kind 11 or 12 by its numbers, which the code reads once for many values.
-- Assumes nothing.
use mathlib.Core.Bool.{Bool, true}
use mathlib.Core.List.{List}
use mathlib.Core.Path.{◌≡◌}
use Prim.Native.Nat.{ℕ}
use Rattle.rules.specs.TypeTable.{kind_in, a_in, b_in, c_in}
use Rattle.rules.specs.Sound.{width_allowed}
use Rattle.strict.specs.Strict.{Searchable, allowed, StrictRow}

module _ {rows entries : List ℕ} {row : ℕ} (sound : StrictRow rows entries row) where
  pub row_width : {width : ℕ} → width ≡ a_in rows row → width_allowed width ≡ true
  row_width w = rw w sound.width

  module _ {kind first named : ℕ} (k : kind ≡ kind_in rows row) (f : first ≡ b_in rows row) (n : named ≡ c_in rows row) where
    pub row_searchable : Searchable entries kind first named
    row_searchable = rw (k, f, n) sound.searchable

    -- What was judged by them.
    pub row_allows : (value : ℕ) {test : Bool} → test ≡ allowed entries kind first named value → test ≡ allowed entries (kind_in rows row) (b_in rows row) (c_in rows row) value
    row_allows value judged = rw (k, f, n) at judged
