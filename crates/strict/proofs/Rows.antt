-- A row of kind 11 or 12 in a sound type table: its entries exist and rise, and its values are judged as the rules say.
-- Assumes nothing.
use mathlib.Core.Bool.{Bool, true, false, ◌&&◌, ◌||◌}
use mathlib.Core.List.{List}
use mathlib.Core.Path.{◌≡◌, refl, sym, ◌∙◌}
use Prim.Native.Nat.{ℕ, zero, suc, ◌^◌}
use native.Mathlib.Omega.{arith}
use borrow.Author.Tests.{leb-true, eqb-true}
use lib.Dec.{eqb, leb, ltb}
use Rattle.rules.specs.TypeTable.{TypeTable, kind_at, a_at, b_at, c_at, entry_at}
use Rattle.rules.specs.Sizes.{size_of}
use Rattle.rules.specs.Sound.{rising_entries}
use Rattle.rules.specs.Records.{enum_pattern, bits_pattern}
use Rattle.rules.proofs.Tests.{both}
use Rattle.layout.specs.Ready.{Ready}
use Rattle.layout.proofs.Rows.{enum_fits, bits_fits, lists_whole_lem, sound_lists}
use Rattle.layout.proofs.ByKind.{fits_kind, size_enum, size_bits}
use Rattle.layout.proofs.Rising.{Stepwise, none, more, pairwise}
use Rattle.strict.specs.Strict.{StrictRow, strict_pattern}

stepwise : (t : TypeTable) (width first count least : ℕ) → rising_entries t width first count least ≡ true → Stepwise (λ k. entry_at t k) first count least
unfolding rising_entries
stepwise t width first zero least e = none
stepwise t width first (suc count) least e =
    let parts = both (leb least (entry_at t first) && ltb (entry_at t first) (256 ^ width)) (rising_entries t width (suc first) count (suc (entry_at t first))) e in
    let here = both (leb least (entry_at t first)) (ltb (entry_at t first) (256 ^ width)) parts.0 in
    more (leb-true least (entry_at t first) here.0) (stepwise t width (suc first) count (suc (entry_at t first)) parts.1)

-- A strict kind is one of two.
pub enum_or_bits : {A : Type 0} (k : ℕ) → (k ≡ 11 → A) → (k ≡ 12 → A) → (eqb k 11 || eqb k 12) ≡ true → A
enum_or_bits {A} k enum bits q = go (eqb k 11) (eqb k 12) refl refl q
  where
    go : (a b : Bool) → eqb k 11 ≡ a → eqb k 12 ≡ b → (a || b) ≡ true → A
    go true b f g h = enum (eqb-true k 11 f)
    go false true f g h = bits (eqb-true k 12 g)
    go false false f g h = absurd (let z : ◌≡◌ {A = ℕ} 0 1 = cc in omega arith)

module _ {t : TypeTable} {sizes alignments : List ℕ} {depth row : ℕ} (ready : Ready t sizes alignments depth row) {k : ℕ} (e : k ≡ kind_at t row) where
  pub enum_row : k ≡ 11 → StrictRow t.rows t.entries row
  enum_row q =
      let fits = enum_fits t row (a_at t row) (b_at t row) (c_at t row) (fits_kind t row ready.sound ready.in_use (sym e ∙ q)) in
      record {
        width = fits.allowed;
        searchable = λ z. (pairwise (λ i. entry_at t i) (stepwise t (a_at t row) (b_at t row) (c_at t row) 0 fits.rise), fits.exist, (lists_whole_lem t (sound_lists t ready.sound)).entries);
      }

  -- A mask is not searched.
  pub bits_row : k ≡ 12 → StrictRow t.rows t.entries row
  bits_row q =
      let fits = bits_fits t row (a_at t row) (b_at t row) (fits_kind t row ready.sound ready.in_use (sym e ∙ q)) in
      record { width = fits.allowed; searchable = λ z. absurd (let n : ◌≡◌ {A = ℕ} 11 12 = sym z ∙ sym e ∙ q in omega arith) }

  pub strict_row : (eqb k 11 || eqb k 12) ≡ true → StrictRow t.rows t.entries row
  strict_row q = enum_or_bits k enum_row bits_row q

-- Its value takes as many bytes as it is wide.
pub strict_size : (t : TypeTable) (row : ℕ) {k : ℕ} → k ≡ kind_at t row → (eqb k 11 || eqb k 12) ≡ true → size_of t row ≡ a_at t row
strict_size t row {k} e q = enum_or_bits k (λ z. size_enum t row (sym e ∙ z)) (λ z. size_bits t row (sym e ∙ z)) q

-- What the row's values are judged by.
module _ (t : TypeTable) (row : ℕ) where
  pub enum_pattern_lem : kind_at t row ≡ 11 → (value : ℕ) → strict_pattern t.rows t.entries row value ≡ enum_pattern t (b_at t row) (c_at t row) value
  enum_pattern_lem e value = rw e

  pub bits_pattern_lem : kind_at t row ≡ 12 → (value : ℕ) → strict_pattern t.rows t.entries row value ≡ bits_pattern t (b_at t row) value
  bits_pattern_lem e value = rw e
