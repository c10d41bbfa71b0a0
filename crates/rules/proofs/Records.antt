-- Numbers, presences and counts: what is written is read, and what is read is written.
use Rattle.std.specs.Prelude.{if◌then◌else◌}
use mathlib.Core.Path.{◌≡◌, refl}
use mathlib.Core.Bool.{Bool, true, false}
use mathlib.Core.List.{List}
use Prim.Native.Nat.{ℕ, zero, suc, ◌+◌, ◌≤◌, ◌<◌, ◌^◌}
use native.Mathlib.Omega.{arith}
use lib.Dec.{leb, ltb, eqb}
use borrow.Author.Tests.{ltb-true, lt-ltb, eqb-true, eq-eqb, ne_eqb}
use lib.ListN.{length, length-append}
use Rattle.rules.specs.declared.Fault.{Fault}
use Rattle.rules.specs.Refusals.{required_absent, absent_not_zero, count_over_largest}
use Rattle.rules.specs.Bytes.{Octets, word, bytes_of, ones64}
use Rattle.rules.specs.Decode.{Message, ReadRecord, got, wrong}
use Rattle.rules.specs.Encode.{WriteRecord, put, unfit}
use Rattle.rules.specs.Records.{Judged, passes, fails, read_if, write_if, unless, read_number, write_number, Presence, absent, present, neither, presence, presence_record, read_presence, write_presence, count_record, read_count, count_bytes, write_count, table_record, read_table, write_table}
use Rattle.rules.proofs.Bytes.{octets_bytes_of, octets_append, bytes_of_length, StandsAt, stands_left, stands_right, stands_join, word_standing, standing_word, word_below}
use Rattle.rules.proofs.Claims.{RecordTwins}

pub wrong_not_got : {f : Fault} {v : ℕ} → wrong f ≡ got v → ⊥
wrong_not_got e = let z : ◌≡◌ {A = ℕ} 0 1 = cc in omega arith

unfit_not_put : {bytes : List ℕ} → unfit ≡ put bytes → ⊥
unfit_not_put e = let z : ◌≡◌ {A = ℕ} 0 1 = cc in omega arith

-- ---- tests that were passed

pub read_if_inv : (j : Judged) (at : ℕ) (r : ReadRecord) {v : ℕ} → read_if j at r ≡ got v → (j ≡ passes) × (r ≡ got v)
read_if_inv passes at r e = (refl, e)
read_if_inv (fails number) at r e = absurd (wrong_not_got e)

write_if_inv : (j : Judged) (w : WriteRecord) {bytes : List ℕ} → write_if j w ≡ put bytes → (j ≡ passes) × (w ≡ put bytes)
write_if_inv passes w e = (refl, e)
write_if_inv (fails number) w e = absurd (unfit_not_put e)

if_inv : (b : Bool) (w : WriteRecord) {bytes : List ℕ} → (if b then w else unfit) ≡ put bytes → (b ≡ true) × (w ≡ put bytes)
if_inv true w e = (refl, e)
if_inv false w e = absurd (unfit_not_put e)

unless_inv : (number : ℕ) (b : Bool) → unless number b ≡ passes → b ≡ true
unless_inv number true e = refl
unless_inv number false e = let z : ◌≡◌ {A = ℕ} 0 1 = cc in absurd (omega arith)

-- ---- presences

presence_zero : (ones : ℕ) → presence ones 0 ≡ absent
unfolding presence
presence_zero ones = refl

presence_ones : (ones : ℕ) → 0 < ones → presence ones ones ≡ present
unfolding presence
presence_ones ones h =
    let a : eqb ones 0 ≡ false = ne_eqb ones 0 (omega arith) in
    let b : eqb ones ones ≡ true = eq-eqb ones ones refl in
    rw (a, b)

-- A word with a presence is 0, or all ones.
presence_go : (ones w : ℕ) (b c : Bool) → eqb w 0 ≡ b → eqb w ones ≡ c
    → ((if b then absent else (if c then present else neither)) ≡ absent → w ≡ 0) × ((if b then absent else (if c then present else neither)) ≡ present → w ≡ ones)
presence_go ones w true c e f = (λ q. eqb-true w 0 e, λ q. let z : ◌≡◌ {A = ℕ} 0 1 = cc in absurd (omega arith))
presence_go ones w false true e f = (λ q. let z : ◌≡◌ {A = ℕ} 0 1 = cc in absurd (omega arith), λ q. eqb-true w ones f)
presence_go ones w false false e f =
    (λ q. let z : ◌≡◌ {A = ℕ} 0 1 = cc in absurd (omega arith), λ q. let z : ◌≡◌ {A = ℕ} 0 1 = cc in absurd (omega arith))

absent_zero : (ones w : ℕ) → presence ones w ≡ absent → w ≡ 0
unfolding presence
absent_zero ones w e = (presence_go ones w (eqb w 0) (eqb w ones) refl refl).0 e

pub present_ones : (ones w : ℕ) → presence ones w ≡ present → w ≡ ones
unfolding presence
present_ones ones w e = (presence_go ones w (eqb w 0) (eqb w ones) refl refl).1 e

-- ---- two words side by side

two_words : (a b : ℕ) → (length (count_bytes a b) ≡ 16) × Octets (count_bytes a b)
two_words a b = (simp (length-append, bytes_of_length), octets_append _ _ (octets_bytes_of 8 a) (octets_bytes_of 8 b))

two_standing : (m : List ℕ) (at a b : ℕ) → a < 256 ^ 8 → b < 256 ^ 8 → StandsAt m at (count_bytes a b) → (word m at 8 ≡ a) × (word m (at + 8) 8 ≡ b)
two_standing m at a b x y h = (
  word_standing m at 8 a x (stands_left m at (bytes_of 8 a) (bytes_of 8 b) h),
  word_standing m (at + 8) 8 b y (rw bytes_of_length at (stands_right m at (bytes_of 8 a) (bytes_of 8 b) h)),
)

standing_two : (m : List ℕ) (at : ℕ) → Octets m → at + 16 ≤ length m → StandsAt m at (count_bytes (word m at 8) (word m (at + 8) 8))
standing_two m at o h = stands_join m at _ _ (standing_word m at 8 o (omega arith)) (rw bytes_of_length (standing_word m (at + 8) 8 o (omega arith)))

-- ---- the records

module _ (m : Message) (oct : Octets m.bytes) where
  pub number_twins : (width : ℕ) (judge : ℕ → Judged) → RecordTwins m width (read_number m width judge) (write_number width judge)
  unfolding read_number write_number
  number_twins k judge = record {
    sized = λ {v} {bytes} e.
        let i = if_inv (ltb v (256 ^ k)) (write_if (judge v) (put (bytes_of k v))) e in
        let j = write_if_inv (judge v) (put (bytes_of k v)) i.1 in
        let y : bytes_of k v ≡ bytes = cc in
        rw (← y) (bytes_of_length k v);
    octets = λ {v} {bytes} e.
        let i = if_inv (ltb v (256 ^ k)) (write_if (judge v) (put (bytes_of k v))) e in
        let j = write_if_inv (judge v) (put (bytes_of k v)) i.1 in
        let y : bytes_of k v ≡ bytes = cc in
        rw (← y) (octets_bytes_of k v);
    reads_what_was_written = λ {v} {bytes} {at} e h.
        let i = if_inv (ltb v (256 ^ k)) (write_if (judge v) (put (bytes_of k v))) e in
        let j = write_if_inv (judge v) (put (bytes_of k v)) i.1 in
        let y : bytes ≡ bytes_of k v = cc in
        let w : word m.bytes at k ≡ v = word_standing m.bytes at k v (ltb-true v (256 ^ k) i.0) (rw y at h) in
        rw (w, j.0);
    writes_what_was_read = λ {at} {v} e h.
        let i = read_if_inv (judge (word m.bytes at k)) at (got (word m.bytes at k)) e in
        let y : word m.bytes at k ≡ v = cc in
        let z : ltb v (256 ^ k) ≡ true = lt-ltb v (256 ^ k) (rw y at (word_below m.bytes at k oct h)) in
        let p : judge v ≡ passes = rw y at i.0 in
        (bytes_of k v, rw (z, p), rw y at (standing_word m.bytes at k oct h));
  }

  module _ (k ones : ℕ) (optional : Bool) (positive : 0 < ones) (small : ones < 256 ^ k) where
    presence_form : (v : ℕ) (bytes : List ℕ) → write_presence k ones optional v ≡ put bytes → (length bytes ≡ k) × Octets bytes
    unfolding write_presence
    presence_form zero bytes e =
        let x : put (bytes_of k 0) ≡ put bytes = (if_inv optional (put (bytes_of k 0)) e).1 in
        let y : bytes_of k 0 ≡ bytes = cc in
        rw (← y) (bytes_of_length k 0, octets_bytes_of k 0)
    presence_form (suc zero) bytes e = let y : bytes_of k ones ≡ bytes = cc in rw (← y) (bytes_of_length k ones, octets_bytes_of k ones)
    presence_form (suc (suc v)) bytes e = absurd (unfit_not_put e)

    presence_reads : (v : ℕ) (bytes : List ℕ) (at : ℕ) → write_presence k ones optional v ≡ put bytes → StandsAt m.bytes at bytes → read_presence m k ones optional at ≡ got v
    unfolding write_presence read_presence
    presence_reads zero bytes at e h =
        let i = if_inv optional (put (bytes_of k 0)) e in
        let y : bytes ≡ bytes_of k 0 = cc in
        let w : word m.bytes at k ≡ 0 = word_standing m.bytes at k 0 (omega arith) (rw y at h) in
        rw (w, presence_zero ones, i.0)
    presence_reads (suc zero) bytes at e h =
        let y : bytes ≡ bytes_of k ones = cc in
        let w : word m.bytes at k ≡ ones = word_standing m.bytes at k ones small (rw y at h) in
        rw (w, presence_ones ones positive)
    presence_reads (suc (suc v)) bytes at e h = absurd (unfit_not_put e)

    presence_writes : (at v : ℕ) (p : Presence) → presence ones (word m.bytes at k) ≡ p → presence_record optional at p ≡ got v → at + k ≤ length m.bytes
        → (bytes : List ℕ) × (write_presence k ones optional v ≡ put bytes) × StandsAt m.bytes at bytes
    unfolding write_presence
    presence_writes at v absent q e h =
        let i = read_if_inv (unless required_absent optional) at (got 0) e in
        let y : v ≡ 0 = cc in
        let w : word m.bytes at k ≡ 0 = absent_zero ones _ q in
        (bytes_of k 0, rw (y, unless_inv required_absent optional i.0), rw w at (standing_word m.bytes at k oct h))
    presence_writes at v present q e h =
        let y : v ≡ 1 = cc in
        let w : word m.bytes at k ≡ ones = present_ones ones _ q in
        (bytes_of k ones, rw y, rw w at (standing_word m.bytes at k oct h))
    presence_writes at v neither q e h = absurd (wrong_not_got e)

    pub presence_twins : RecordTwins m k (read_presence m k ones optional) (write_presence k ones optional)
    unfolding read_presence
    presence_twins = record {
      sized = λ {v} {bytes} e. (presence_form v bytes e).0;
      octets = λ {v} {bytes} e. (presence_form v bytes e).1;
      reads_what_was_written = λ {v} {bytes} {at} e h. presence_reads v bytes at e h;
      writes_what_was_read = λ {at} {v} e h. presence_writes at v (presence ones (word m.bytes at k)) refl e h;
    }

  -- A count that is present: vector, string and table alike.
  present_form : (count : ℕ) (bytes : List ℕ) → put (count_bytes count ones64) ≡ put bytes → (length bytes ≡ 16) × Octets bytes
  present_form count bytes x = let y : count_bytes count ones64 ≡ bytes = cc in rw (← y) (two_words count ones64)

  present_reads : (count : ℕ) (bytes : List ℕ) (at : ℕ) → ltb count (256 ^ 8) ≡ true → put (count_bytes count ones64) ≡ put bytes → StandsAt m.bytes at bytes
      → (word m.bytes at 8 ≡ count) × (word m.bytes (at + 8) 8 ≡ ones64)
  present_reads count bytes at b x h =
      let y : bytes ≡ count_bytes count ones64 = cc in
      two_standing m.bytes at count ones64 (ltb-true count (256 ^ 8) b) (omega arith) (rw y at h)

  present_writes : (at : ℕ) → presence ones64 (word m.bytes (at + 8) 8) ≡ present → at + 16 ≤ length m.bytes
      → (ltb (word m.bytes at 8) (256 ^ 8) ≡ true) × StandsAt m.bytes at (count_bytes (word m.bytes at 8) ones64)
  present_writes at q h =
      let w : word m.bytes (at + 8) 8 ≡ ones64 = present_ones ones64 _ q in
      (lt-ltb (word m.bytes at 8) (256 ^ 8) (word_below m.bytes at 8 oct (omega arith)), rw w at (standing_two m.bytes at oct h))

  module _ (optional : Bool) (largest : ℕ) where
    count_inv : (c : ℕ) (bytes : List ℕ) → write_count optional largest (suc c) ≡ put bytes
        → (ltb c (256 ^ 8) ≡ true) × (leb c largest ≡ true) × (put (count_bytes c ones64) ≡ put bytes)
    unfolding write_count
    count_inv c bytes e =
        let i = if_inv (ltb c (256 ^ 8)) (if leb c largest then put (count_bytes c ones64) else unfit) e in
        let j = if_inv (leb c largest) (put (count_bytes c ones64)) i.1 in
        (i.0, j.0, j.1)

    count_form : (v : ℕ) (bytes : List ℕ) → write_count optional largest v ≡ put bytes → (length bytes ≡ 16) × Octets bytes
    unfolding write_count
    count_form zero bytes e =
        let x : put (count_bytes 0 0) ≡ put bytes = (if_inv optional _ e).1 in
        let y : count_bytes 0 0 ≡ bytes = cc in
        rw (← y) (two_words 0 0)
    count_form (suc c) bytes e = present_form c bytes (count_inv c bytes e).2

    count_reads : (v : ℕ) (bytes : List ℕ) (at : ℕ) → write_count optional largest v ≡ put bytes → StandsAt m.bytes at bytes → read_count m optional largest at ≡ got v
    unfolding write_count read_count presence
    count_reads zero bytes at e h =
        let i = if_inv optional (put (count_bytes 0 0)) e in
        let y : bytes ≡ count_bytes 0 0 = cc in
        let w = two_standing m.bytes at 0 0 (omega arith) (omega arith) (rw y at h) in
        rw (w.0, w.1, i.0)
    count_reads (suc c) bytes at e h =
        let i = count_inv c bytes e in
        let w = present_reads c bytes at i.0 i.2 h in
        rw (w.0, w.1, i.1)

    count_writes : (at v : ℕ) (p : Presence) → presence ones64 (word m.bytes (at + 8) 8) ≡ p → count_record optional largest at (word m.bytes at 8) p ≡ got v
        → at + 16 ≤ length m.bytes → (bytes : List ℕ) × (write_count optional largest v ≡ put bytes) × StandsAt m.bytes at bytes
    unfolding write_count
    count_writes at v absent q e h =
        let i = read_if_inv (unless required_absent optional) at (read_if (unless absent_not_zero (eqb (word m.bytes at 8) 0)) at (got 0)) e in
        let j = read_if_inv (unless absent_not_zero (eqb (word m.bytes at 8) 0)) at (got 0) i.1 in
        let y : v ≡ 0 = cc in
        let w₁ : word m.bytes at 8 ≡ 0 = eqb-true _ _ (unless_inv absent_not_zero _ j.0) in
        let w₂ : word m.bytes (at + 8) 8 ≡ 0 = absent_zero ones64 _ q in
        (count_bytes 0 0, rw (y, unless_inv required_absent optional i.0), rw (w₁, w₂) at (standing_two m.bytes at oct h))
    count_writes at v present q e h =
        let j = read_if_inv (unless count_over_largest (leb (word m.bytes at 8) largest)) at (got (suc (word m.bytes at 8))) e in
        let y : v ≡ suc (word m.bytes at 8) = cc in
        let w = present_writes at q h in
        (count_bytes (word m.bytes at 8) ones64, rw (y, w.0, unless_inv count_over_largest (leb (word m.bytes at 8) largest) j.0), w.1)
    count_writes at v neither q e h = absurd (wrong_not_got e)

    pub count_twins : RecordTwins m 16 (read_count m optional largest) (write_count optional largest)
    unfolding read_count
    count_twins = record {
      sized = λ {v} {bytes} e. (count_form v bytes e).0;
      octets = λ {v} {bytes} e. (count_form v bytes e).1;
      reads_what_was_written = λ {v} {bytes} {at} e h. count_reads v bytes at e h;
      writes_what_was_read = λ {at} {v} e h. count_writes at v (presence ones64 (word m.bytes (at + 8) 8)) refl e h;
    }

  table_writes : (at v : ℕ) (p : Presence) → presence ones64 (word m.bytes (at + 8) 8) ≡ p → table_record at (word m.bytes at 8) p ≡ got v → at + 16 ≤ length m.bytes
      → (bytes : List ℕ) × (write_table v ≡ put bytes) × StandsAt m.bytes at bytes
  unfolding write_table
  table_writes at v absent q e h = absurd (wrong_not_got e)
  table_writes at v present q e h =
      let y : v ≡ word m.bytes at 8 = cc in
      let w = present_writes at q h in
      (count_bytes (word m.bytes at 8) ones64, rw (y, w.0), w.1)
  table_writes at v neither q e h = absurd (wrong_not_got e)

  pub table_twins : RecordTwins m 16 (read_table m) write_table
  unfolding read_table write_table presence
  table_twins = record {
    sized = λ {v} {bytes} e. (present_form v bytes (if_inv (ltb v (256 ^ 8)) (put (count_bytes v ones64)) e).1).0;
    octets = λ {v} {bytes} e. (present_form v bytes (if_inv (ltb v (256 ^ 8)) (put (count_bytes v ones64)) e).1).1;
    reads_what_was_written = λ {v} {bytes} {at} e h.
        let i = if_inv (ltb v (256 ^ 8)) (put (count_bytes v ones64)) e in
        let w = present_reads v bytes at i.0 i.1 h in
        rw (w.0, w.1);
    writes_what_was_read = λ {at} {v} e h. table_writes at v (presence ones64 (word m.bytes (at + 8) 8)) refl e h;
  }
