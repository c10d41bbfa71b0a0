-- Lists that go on past others: what the shorter lists say of their sound rows, the longer ones say too.
-- Assumes nothing.
use Rattle.std.specs.Prelude.{if◌then◌else◌}
use mathlib.Core.Bool.{true, ◌&&◌}
use mathlib.Core.List.{List}
use mathlib.Core.Path.{◌≡◌, refl, ap, sym, ◌∙◌, fun_ext}
use Prim.Native.Nat.{ℕ, zero, suc, ◌+◌, ◌*◌, ◌≤◌, ◌<◌}
use native.Mathlib.Nat.{min-le_left, min-le_right}
use native.Mathlib.Omega.{arith}
use lib.Dec.{eqb, leb, ltb}
use lib.ListN.{length, take, get_or, length-take}
use lib.Seq.{get_or-take}
use borrow.Author.Tests.{leb-true, ltb-true, le-leb, lt-ltb}
use Rattle.rules.specs.declared.Layout.{Layout}
use Rattle.rules.specs.TypeTable.{TypeTable, row_count, member_count, kind_at, a_at, b_at, c_at, ordinal_at, row_of, entry_at, FidlType, bool, number, handle, array, vector, string, struct, box, table, union, strict_enum, strict_bits, none, type_of, member_rows, below, envelope_size}
use Rattle.rules.specs.Sizes.{layout, layout_as, layout_step, layout_below, layout_of, size_of}
use Rattle.rules.specs.Sound.{struct_members, rising_members, rising_entries, members_exist, entries_exist, width_allowed, row_fits, row_sound}
use Rattle.rules.proofs.Tests.{both}
use Rattle.layout.specs.Kept.{SoundBelow, KeptBelow}
use Rattle.layout.proofs.Rows.{sound_fits, struct_fits}
use Rattle.prepared.specs.declared.Counts.{Counts}
use Rattle.prepared.specs.Operations.{cut_to}

pub record Extends (t u : TypeTable) : Type 0 where
  pub edition : t.edition ≡ u.edition
  pub rows : length t.rows ≤ length u.rows
  pub members : length t.members ≤ length u.members
  pub entries : length t.entries ≤ length u.entries
  pub row : (i : ℕ) → i < length t.rows → get_or t.rows i 0 ≡ get_or u.rows i 0
  pub member : (i : ℕ) → i < length t.members → get_or t.members i 0 ≡ get_or u.members i 0
  pub entry : (i : ℕ) → i < length t.entries → get_or t.entries i 0 ≡ get_or u.entries i 0

-- ---- a list cut to its first numbers

take_short : (n : ℕ) (l : List ℕ) → (length (take n l) ≤ n) × (length (take n l) ≤ length l)
take_short n l = rw (length-take n l) (min-le_left n (length l), min-le_right n (length l))

take_get : (n : ℕ) (l : List ℕ) (i : ℕ) → i < length (take n l) → get_or (take n l) i 0 ≡ get_or l i 0
take_get n l i h = get_or-take n l i 0 (omega (arith, (take_short n l).0))

pub cut_extends : (n : Counts) (t : TypeTable) → Extends (cut_to n t) t
cut_extends n t =
    record {
      edition = refl;
      rows = (take_short (n.rows * 4) t.rows).1;
      members = (take_short (n.members * 2) t.members).1;
      entries = (take_short n.entries t.entries).1;
      row = take_get (n.rows * 4) t.rows;
      member = take_get (n.members * 2) t.members;
      entry = take_get n.entries t.entries;
    }

-- ---- what stays the same

module _ {t u : TypeTable} (x : Extends t u) where
  more_rows : row_count t ≤ row_count u
  more_rows = omega (arith, x.rows)

  module _ (row : ℕ) (h : row < row_count t) where
    same_kind : kind_at t row ≡ kind_at u row
    same_kind = x.row (row * 4) (omega arith)

    same_a : a_at t row ≡ a_at u row
    same_a = x.row (row * 4 + 1) (omega arith)

    same_b : b_at t row ≡ b_at u row
    same_b = x.row (row * 4 + 2) (omega arith)

    same_c : c_at t row ≡ c_at u row
    same_c = x.row (row * 4 + 3) (omega arith)

    pub same_type : type_of t row ≡ type_of u row
    unfolding type_of
    same_type = rw (same_kind, same_a, same_b, same_c)

  module _ (member : ℕ) (h : member < member_count t) where
    same_ordinal : ordinal_at t member ≡ ordinal_at u member
    same_ordinal = x.member (member * 2) (omega arith)

    same_row : row_of t member ≡ row_of u member
    same_row = x.member (member * 2 + 1) (omega arith)

  same_members : (first count : ℕ) → first + count ≤ member_count t → member_rows t first count ≡ member_rows u first count
  unfolding member_rows
  same_members first zero h = refl
  same_members first (suc count) h = rw (same_row first (omega arith), same_members (suc first) count (omega arith))

  same_struct : (row first count ordinal : ℕ) → first + count ≤ member_count t → struct_members t row first count ordinal ≡ struct_members u row first count ordinal
  unfolding struct_members
  same_struct row first zero ordinal h = refl
  same_struct row first (suc count) ordinal h =
      rw (same_ordinal first (omega arith), same_row first (omega arith), same_struct row (suc first) count (suc ordinal) (omega arith))

  still_rising : (first count before : ℕ) → first + count ≤ member_count t → rising_members t first count before ≡ true → rising_members u first count before ≡ true
  unfolding rising_members
  still_rising first zero before h e = refl
  still_rising first (suc count) before h e =
      let ordinal = ltb before (ordinal_at t first) in let exists = ltb (row_of t first) (row_count t) in
      let parts = both (ordinal && exists) (rising_members t (suc first) count (ordinal_at t first)) e in
      let here = both ordinal exists parts.0 in
      let row : ltb (row_of t first) (row_count u) ≡ true = lt-ltb (row_of t first) (row_count u) (omega (arith, ltb-true (row_of t first) (row_count t) here.1, more_rows)) in
      let rest = still_rising (suc first) count (ordinal_at t first) (omega arith) parts.1 in
      rw (← same_ordinal first (omega arith), ← same_row first (omega arith), here.0, row) rest

  same_entries : (width first count least : ℕ) → first + count ≤ length t.entries → rising_entries t width first count least ≡ rising_entries u width first count least
  unfolding rising_entries
  same_entries width first zero least h = refl
  same_entries width first (suc count) least h =
      let here : entry_at t first ≡ entry_at u first = x.entry first (omega arith) in
      rw (here, same_entries width (suc first) count (suc (entry_at u first)) (omega arith))

  -- A row that fits still fits,
  module _ (row : ℕ) (h : row < row_count t) where
    still_fits : (type : FidlType) → row_fits t row type ≡ true → row_fits u row type ≡ true
    unfolding row_fits
    still_fits bool e = rw (← same_a row h, ← same_b row h, ← same_c row h) e
    still_fits (number width) e = rw (← same_b row h, ← same_c row h) e
    still_fits (handle optional) e = rw (← same_a row h, ← same_b row h, ← same_c row h) e
    still_fits (array element count) e = rw (← same_c row h) e
    still_fits (vector element largest optional) e =
        let parts = both (ltb element (row_count t)) (leb (c_at t row) 1) e in
        rw (lt-ltb element (row_count u) (omega (arith, ltb-true element (row_count t) parts.0, more_rows)), ← same_c row h) parts.1
    still_fits (string largest optional) e = rw (← same_a row h, ← same_c row h) e
    still_fits (struct first count) e =
        let parts = both (members_exist t first count && eqb (c_at t row) 0) (struct_members t row first count 1) e in
        let cells = both (members_exist t first count) (eqb (c_at t row) 0) parts.0 in
        let exist = leb-true (first + count) (member_count t) cells.0 in
        rw (le-leb (first + count) (member_count u) (omega (arith, exist, x.members)), ← same_c row h, cells.1, ← same_struct row first count 1 exist) parts.1
    still_fits (box element) e =
        let exists = ltb element (row_count t) in let kind = eqb (kind_at t element) 7 in let b = eqb (b_at t row) 0 in
        let three = both (exists && kind && b) (eqb (c_at t row) 0) e in
        let two = both (exists && kind) b three.0 in
        let one = both exists kind two.0 in
        let in_use = ltb-true element (row_count t) one.0 in
        rw (lt-ltb element (row_count u) (omega (arith, in_use, more_rows)), ← same_kind element in_use, one.1, ← same_b row h, two.1, ← same_c row h) three.1
    still_fits (table first count) e =
        let parts = both (members_exist t first count && eqb (c_at t row) 0) (rising_members t first count 0) e in
        let cells = both (members_exist t first count) (eqb (c_at t row) 0) parts.0 in
        let exist = leb-true (first + count) (member_count t) cells.0 in
        rw (le-leb (first + count) (member_count u) (omega (arith, exist, x.members)), ← same_c row h, cells.1) (still_rising first count 0 exist parts.1)
    still_fits (union first count optional flexible) e =
        let parts = both (members_exist t first count && leb 1 count && leb (c_at t row) 3) (rising_members t first count 0) e in
        let cells = both (members_exist t first count && leb 1 count) (leb (c_at t row) 3) parts.0 in
        let counts = both (members_exist t first count) (leb 1 count) cells.0 in
        let exist = leb-true (first + count) (member_count t) counts.0 in
        rw (le-leb (first + count) (member_count u) (omega (arith, exist, x.members)), counts.1, ← same_c row h, cells.1) (still_rising first count 0 exist parts.1)
    still_fits (strict_enum width first count) e =
        let parts = both (width_allowed width && leb 1 count && entries_exist t first count) (rising_entries t width first count 0) e in
        let cells = both (width_allowed width && leb 1 count) (entries_exist t first count) parts.0 in
        let exist = leb-true (first + count) (length t.entries) cells.1 in
        rw (cells.0, le-leb (first + count) (length u.entries) (omega (arith, exist, x.entries)), ← same_entries width first count 0 exist) parts.1
    still_fits (strict_bits width mask) e =
        let parts = both (width_allowed width && eqb (c_at t row) 1 && entries_exist t mask 1) (rising_entries t width mask 1 0) e in
        let cells = both (width_allowed width && eqb (c_at t row) 1) (entries_exist t mask 1) parts.0 in
        let exist = leb-true (mask + 1) (length t.entries) cells.1 in
        rw (← same_c row h, cells.0, le-leb (mask + 1) (length u.entries) (omega (arith, exist, x.entries)), ← same_entries width mask 1 0 exist) parts.1
    still_fits none e = e

    same_layout_as : (inner : ℕ → Layout) (type : FidlType) → row_fits t row type ≡ true → layout_as t inner type ≡ layout_as u inner type
    unfolding layout_as
    same_layout_as inner bool e = refl
    same_layout_as inner (number width) e = refl
    same_layout_as inner (handle optional) e = refl
    same_layout_as inner (array element count) e = refl
    same_layout_as inner (vector element largest optional) e = refl
    same_layout_as inner (string largest optional) e = refl
    same_layout_as inner (struct first count) e = rw (same_members first count (struct_fits t row first count e).exist)
    same_layout_as inner (box element) e = refl
    same_layout_as inner (table first count) e = refl
    same_layout_as inner (union first count optional flexible) e = ap (λ d. layout (8 + envelope_size d) 8) x.edition
    same_layout_as inner (strict_enum width first count) e = refl
    same_layout_as inner (strict_bits width mask) e = refl
    same_layout_as inner none e = refl

  -- and its layout is the same, where the rows below it fit too.
  same_step : (row : ℕ) → row < row_count t → row_fits t row (type_of t row) ≡ true → layout_below t row ≡ layout_below u row
      → layout_step t (layout_below t row) row ≡ layout_step u (layout_below u row) row
  same_step row h fits inner =
      same_layout_as row h (layout_below t row) (type_of t row) fits
      ∙ ap (layout_as u (layout_below t row)) (same_type row h)
      ∙ ap (λ i. layout_as u i (type_of u row)) inner

  same_below : (bound : ℕ) → bound ≤ row_count t → SoundBelow t bound → (row : ℕ) → layout_below t bound row ≡ layout_below u bound row
  unfolding layout_below below
  same_below zero h sound row = refl
  same_below (suc bound) h sound row =
      let earlier = same_below bound (omega arith) (λ r l. sound r (omega arith)) in
      let here = same_step bound (omega arith) (sound_fits t bound (sound bound (omega arith))) (fun_ext earlier) in
      ap (λ l. if eqb row bound then l else layout_below t bound row) here
      ∙ ap (λ l. if eqb row bound then layout_step u (layout_below u bound) bound else l) (earlier row)

  module _ (bound : ℕ) (within : bound ≤ row_count t) (sound : SoundBelow t bound) (row : ℕ) (h : row < bound) where
    pub same_layout : layout_of t row ≡ layout_of u row
    unfolding layout_of
    same_layout =
        same_step row (omega arith) (sound_fits t row (sound row h)) (fun_ext (same_below row (omega arith) (λ r l. sound r (omega arith))))

    still_sound : row_sound u row ≡ true
    unfolding row_sound
    still_sound =
        let parts = both (row_fits t row (type_of t row)) (leb (size_of t row) 65528) (sound row h) in
        let fits : row_fits u row (type_of u row) ≡ true = rw (same_type row (omega arith)) at (still_fits row (omega arith) (type_of t row) parts.0) in
        let size : leb (size_of u row) 65528 ≡ true = ap (λ l. leb l.size 65528) (sym same_layout) ∙ parts.1 in
        rw (fits, size)

  -- So what is kept of the shorter lists' rows is kept of the longer ones'.
  pub still_kept : (bound : ℕ) → bound ≤ row_count t → {sizes alignments : List ℕ} → KeptBelow t bound sizes alignments
      → KeptBelow u bound sizes alignments
  still_kept bound within k =
      record {
        sound = λ row h. still_sound bound within k.sound row h;
        size = λ row h. k.size row h ∙ ap (λ l. l.size) (same_layout bound within k.sound row h);
        alignment = λ row h. k.alignment row h ∙ ap (λ l. l.alignment) (same_layout bound within k.sound row h);
      }
