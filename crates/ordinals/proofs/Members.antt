-- The members of a table or union in a sound type table: their ordinals rise, and their rows are in use.
-- Assumes nothing.
use Rattle.std.specs.Prelude.{Option, Some, None}
use mathlib.Core.Bool.{Bool, true, false, ◌&&◌}
use mathlib.Core.List.{List}
use mathlib.Core.Path.{◌≡◌, refl, sym, ◌∙◌}
use Prim.Native.Nat.{ℕ, zero, suc, ◌+◌, ◌≤◌, ◌<◌}
use native.Mathlib.Omega.{arith}
use borrow.Author.Tests.{leb-true, ltb-true, eqb-true, eqb-false}
use Rattle.std.proofs.lemmas.Grind.{common_steps}
use lib.Dec.{ltb, leb, eqb}
use Rattle.rules.specs.TypeTable.{TypeTable, row_count, member_count, kind_at, a_at, b_at, c_at, ordinal_at, row_of, known, content_of}
use Rattle.rules.specs.Sound.{rising_members, members_exist, row_fits}
use Rattle.rules.proofs.Tests.{both}
use Rattle.layout.proofs.Rows.{sound_row, OtherKind, other_kind}
use Rattle.ordinals.specs.Ordinals.{ordinal_is, halved, Rising, OrdinalFits}
use Rattle.layout.specs.Ready.{Ready, Outside}
use Rattle.layout.proofs.ByKind.{fits_kind}
use Rattle.layout.proofs.Rising.{Stepwise, none, more, pairwise}
use Rattle.ordinals.proofs.Ordinals.{halved_content}

-- ---- members that rise

-- The first of them, and the rest.
first_member : (t : TypeTable) (first count before : ℕ) → rising_members t first (suc count) before ≡ true
    → (before < ordinal_at t first) × (row_of t first < row_count t) × (rising_members t (suc first) count (ordinal_at t first) ≡ true)
unfolding rising_members
first_member t first count before e =
    let parts = both (ltb before (ordinal_at t first) && ltb (row_of t first) (row_count t)) (rising_members t (suc first) count (ordinal_at t first)) e in
    let here = both (ltb before (ordinal_at t first)) (ltb (row_of t first) (row_count t)) parts.0 in
    (ltb-true _ _ here.0, ltb-true _ _ here.1, parts.1)

stepwise : (t : TypeTable) (first count before : ℕ) → rising_members t first count before ≡ true → Stepwise (λ k. ordinal_at t k) first count (suc before)
stepwise t first zero before e = none
stepwise t first (suc count) before e =
    let p = first_member t first count before e in
    more p.0 (stepwise t (suc first) count (ordinal_at t first) p.2)

content_in_use : (t : TypeTable) (first count before ordinal : ℕ) {row : ℕ} → rising_members t first count before ≡ true → content_of t first count ordinal ≡ known row → row < row_count t
unfolding content_of
content_in_use t first zero before ordinal e q = (cc)
content_in_use t first (suc count) before ordinal {row} e q =
    let p = first_member t first count before e in
    grind (arith, common_steps, p.1, content_in_use t (suc first) count (ordinal_at t first) ordinal {row = row} p.2)

-- ---- in a sound table

-- What the members of a table or union are.
pub record MembersRise (t : TypeTable) (first count : ℕ) : Type 0 where
  pub exist : first + count ≤ 1024
  pub all : rising_members t first count 0 ≡ true

module _ {t : TypeTable} {first count : ℕ} (m : MembersRise t first count) where
  pub members_rise : Rising t.members first count
  members_rise = pairwise (λ k. ordinal_at t k) (stepwise t first count 0 m.all)

  -- What the search by halves finds is what the rules say,
  pub ordinal_content : (ordinal : ℕ) (what : Option ℕ) → ordinal_is what ≡ halved t.members ordinal first count → ordinal_is what ≡ content_of t first count ordinal
  ordinal_content ordinal what e = e ∙ halved_content t first count ordinal refl m.exist members_rise

  -- and is in use.
  pub ordinal_fits : (ordinal : ℕ) (what : Option ℕ) → ordinal_is what ≡ content_of t first count ordinal → OrdinalFits t what
  ordinal_fits ordinal (Some row) w = content_in_use t first count 0 ordinal m.all (sym w)
  ordinal_fits ordinal None w = tt

module _ {t : TypeTable} {sizes alignments : List ℕ} {depth row : ℕ} (ready : Ready t sizes alignments depth row) {k a : ℕ}
    (e : k ≡ kind_at t row) (f : a ≡ a_at t row) where
  -- the row of a vector's elements, and of what a box holds
  pub vector_in_use : k ≡ 5 → a < row_count t
  unfolding row_fits
  vector_in_use q =
      let fits : (ltb (a_at t row) (row_count t) && leb (c_at t row) 1) ≡ true = fits_kind t row ready.sound ready.in_use (sym e ∙ q) in
      rw f (ltb-true _ _ (both _ _ fits).0)

  pub box_in_use : k ≡ 8 → a < row_count t
  unfolding row_fits
  box_in_use q =
      let fits : (((ltb (a_at t row) (row_count t) && eqb (kind_at t (a_at t row)) 7) && eqb (b_at t row) 0) && eqb (c_at t row) 0) ≡ true =
      fits_kind t row ready.sound ready.in_use (sym e ∙ q)
      in
      rw f (ltb-true _ _ (both _ _ (both _ _ (both _ _ fits).0).0).0)

  module _ {b : ℕ} (g : b ≡ b_at t row) where
    pub table_members : k ≡ 9 → MembersRise t a b
    unfolding row_fits
    table_members q =
        let fits : ((members_exist t (a_at t row) (b_at t row) && eqb (c_at t row) 0) && rising_members t (a_at t row) (b_at t row) 0) ≡ true =
        fits_kind t row ready.sound ready.in_use (sym e ∙ q)
        in
        let parts = both (members_exist t (a_at t row) (b_at t row) && eqb (c_at t row) 0) (rising_members t (a_at t row) (b_at t row) 0) fits in
        let many : a_at t row + b_at t row ≤ member_count t = leb-true _ _ (both _ _ parts.0).0 in
        rw (f, g) (record { exist = omega (arith, many, (sound_row t ready.sound row ready.in_use).members); all = parts.1 })

    -- A union's `c` is 0 to 3 besides.
    pub union_members : k ≡ 10 → MembersRise t a b × (c_at t row ≤ 3)
    unfolding row_fits
    union_members q =
        let fits : (((members_exist t (a_at t row) (b_at t row) && leb 1 (b_at t row)) && leb (c_at t row) 3) && rising_members t (a_at t row) (b_at t row) 0) ≡ true =
        fits_kind t row ready.sound ready.in_use (sym e ∙ q)
        in
        let parts = both ((members_exist t (a_at t row) (b_at t row) && leb 1 (b_at t row)) && leb (c_at t row) 3) (rising_members t (a_at t row) (b_at t row) 0) fits in
        let forms = both (members_exist t (a_at t row) (b_at t row) && leb 1 (b_at t row)) (leb (c_at t row) 3) parts.0 in
        let many : a_at t row + b_at t row ≤ member_count t = leb-true _ _ (both _ _ forms.0).0 in
        (rw (f, g) (record { exist = omega (arith, many, (sound_row t ready.sound row ready.in_use).members); all = parts.1 }), leb-true _ _ forms.1)

-- A record that leads out of line is one of four.
pub union_else : {t : TypeTable} {sizes alignments : List ℕ} {depth row : ℕ} {k : ℕ} → Ready t sizes alignments depth row → k ≡ kind_at t row
    → Outside (kind_at t row) → (k ≡ 5 → ⊥) → (k ≡ 8 → ⊥) → (k ≡ 9 → ⊥) → k ≡ 10
unfolding row_fits
union_else {t} {row = row} {k} ready e o n₅ n₈ n₉ = go (eqb k 10) refl
  where
    go : (b : Bool) → eqb k 10 ≡ b → k ≡ 10
    go true q = eqb-true k 10 q
    go false q =
        let other : OtherKind k = record {
          not_bool = λ z. o.0 (sym e ∙ z);
          not_number = λ z. o.1 (sym e ∙ z);
          not_handle = λ z. o.2 (sym e ∙ z);
          not_array = λ z. o.3 (sym e ∙ z);
          not_vector = n₅;
          not_string = λ z. o.4 (sym e ∙ z);
          not_struct = λ z. o.5 (sym e ∙ z);
          not_box = n₈;
          not_table = n₉;
          not_union = eqb-false k 10 q;
          not_enum = λ z. o.6 (sym e ∙ z);
          not_bits = λ z. o.7 (sym e ∙ z);
        } in
        let fits = fits_kind t row ready.sound ready.in_use (sym e) in
        let none : false ≡ true = rw (other_kind k (a_at t row) (b_at t row) (c_at t row) other) at fits in
        absurd (let z : ◌≡◌ {A = ℕ} 0 1 = cc in omega arith)
