-- Laws of the values that stand in line: bools, numbers, handles, and runs of numbers; a law for each way that a function ends.
-- Assumes nothing.
use Rattle.std.specs.Prelude.{Err, Ok}
use mathlib.Core.Path.{◌≡◌, refl, sym, ap, ◌∙◌}
use mathlib.Core.Bool.{Bool, true, false}
use mathlib.Core.List.{List, [], ◌∷◌, ◌++◌, append_assoc}
use Prim.Native.Nat.{ℕ, zero, suc, ◌+◌, ◌-◌, ◌*◌, ◌≤◌, ◌<◌}
use native.Mathlib.Nat.{add-zero, suc-mul, le-mul_of_pos_right}
use native.Mathlib.Numerals.{add-one}
use native.Mathlib.Omega.{arith}
use mir.Syntax.{w64}
use mir.Val.{Fits}
use borrow.Author.Tests.{le-leb, lt-leb, ne_eqb, eqb-true}
use lib.Dec.{eqb}
use lib.ListN.{length, get_or, set, take, drop}
use lib.Seq.{sets, length-sets, sets-eq, take_all, take-suc, take-suc-set, drop-cons, drop-drop}
use Rattle.rules.specs.declared.Place.TheVariants.{Byte}
use Rattle.rules.specs.Refusals.{fault, bool_not_zero_or_one, presence_wrong, required_absent, too_few_handles}
use Rattle.rules.specs.Bytes.{word, ones32}
use Rattle.rules.specs.Trace.{object_list}
use Rattle.rules.specs.Decode as D
use Rattle.rules.specs.Records.{read_number, presence, read_presence}
use Rattle.rules.specs.Envelope.{decode_word}
use Rattle.words.proofs.Loads.{word_byte}
use Rattle.words.proofs.Stores.{sets_past}
use Rattle.rules.specs.Sound.{width_allowed}
use Rattle.layout.proofs.ByKind.{width_positive}
use Rattle.walk_leaves.specs.declared.cursor.Cursor.{Cursor}
use Rattle.walk_leaves.specs.Doing.{Walked}
use Rattle.walk_leaves.specs.Doing.{message, gave_one}
use Rattle.walk_leaves.specs.Parts.{bool_at, handle_at, numbers_at, words_from, DidValues, DidHandles}
use Rattle.walk_leaves.proofs.Steps.{cursor_same, did_stop, did_one}

-- ---- widths

-- A number of the width that is left is a byte.
pub number_byte : (bytes : List ℕ) (width at : ℕ) {x : ℕ} → width_allowed width ≡ true → (width ≡ 8 → ⊥) → (width ≡ 4 → ⊥) → (width ≡ 2 → ⊥)
    → x ≡ get_or bytes at 0 → x ≡ word bytes at width
number_byte bytes width at {x} allowed not8 not4 not2 read = go (eqb width 1) refl
  where
    go : (b : Bool) → eqb width 1 ≡ b → x ≡ word bytes at width
    go true e = rw (eqb-true width 1 e, word_byte) read
    go false e =
        let z : false ≡ true = simp (e, ne_eqb _ _ not8, ne_eqb _ _ not4, ne_eqb _ _ not2) at allowed in
        absurd (let w : ◌≡◌ {A = ℕ} 0 1 = cc in omega arith)

-- One that is neither of 1, of 2 nor of 4 bytes is of 8.
pub width_eight : {width : ℕ} → width_allowed width ≡ true → (width ≡ 1 → ⊥) → (width ≡ 2 → ⊥) → (width ≡ 4 → ⊥) → width ≡ 8
width_eight {width} allowed not1 not2 not4 = eqb-true width 8 (simp (ne_eqb _ _ not1, ne_eqb _ _ not2, ne_eqb _ _ not4) at allowed)

-- No more numbers than bytes: they can be counted.
pub numbers_counted : (width count at first : ℕ) → at + count * width ≤ 65536 → width_allowed width ≡ true → first < 4294967296 → Fits w64 (first + count)
numbers_counted width count at first inside allowed h =
    record { fits = omega (arith, le-mul_of_pos_right count (width_positive width allowed)) }

-- ---- bools

module _ (bytes values : List ℕ) (at : ℕ) (c : Cursor) {x : ℕ} (read : x ≡ get_or bytes at 0) where
  pub bool_refused : {r : Walked} → 1 < x → r ≡ Err (fault bool_not_zero_or_one (Byte at)) → DidValues bytes values values 1 at c r bool_at
  unfolding bool_at D.record_then read_number
  bool_refused h e t objects handles free held = simp (e, word_byte, ← read, lt-leb _ _ h) did_stop

  pub bool_given : {values' : List ℕ} {d : Cursor} → x ≤ 1 → values' ≡ set values c.values x → d ≡ gave_one c → DidValues bytes values values' 1 at c (Ok d) bool_at
  unfolding bool_at D.record_then read_number
  bool_given h e f t objects handles free held = simp (e, f, word_byte, ← read, le-leb _ _ h) (did_one x (omega arith) free held)

-- ---- numbers

pub number_given : (bytes values : List ℕ) (width at : ℕ) (c : Cursor) {x : ℕ} {values' : List ℕ} {d : Cursor} → x ≡ word bytes at width
    → values' ≡ set values c.values x → d ≡ gave_one c → DidValues bytes values values' 1 at c (Ok d) (λ m. decode_word m width)
unfolding decode_word D.record_then read_number
number_given bytes values width at c read e f t objects handles free held = rw (e, f, ← read) (did_one _ (omega arith) free held)

-- ---- handles

module _ (bytes values : List ℕ) (held optional at : ℕ) (c : Cursor) {x : ℕ} (read : x ≡ word bytes at 4) where
  pub handle_absent : {values' : List ℕ} {d : Cursor} → x ≡ 0 → optional ≡ 1 → values' ≡ set values c.values 0 → d ≡ gave_one c → c.handles ≤ held
      → DidHandles bytes values values' held 1 at c (Ok d) (handle_at (eqb optional 1))
  unfolding handle_at D.record_then read_presence presence
  handle_absent p q e f k t objects free = simp (e, f, ← read, p, q) (did_one 0 (omega arith) free k)

  pub handle_required : {r : Walked} → x ≡ 0 → (optional ≡ 1 → ⊥) → r ≡ Err (fault required_absent (Byte at))
      → DidHandles bytes values values held 1 at c r (handle_at (eqb optional 1))
  unfolding handle_at D.record_then read_presence presence
  handle_required p q e t objects free = simp (e, ← read, p, ne_eqb _ _ q) did_stop

  pub handle_taken : {values' : List ℕ} {d : Cursor} → x ≡ ones32 → values' ≡ set values c.values 1 → d ≡ gave_one c → c.handles < held
      → DidHandles bytes values values' held 1 at c (Ok (record { next = d.next; handles = c.handles + 1; values = d.values; objects = d.objects })) (handle_at (eqb optional 1))
  unfolding handle_at D.record_then read_presence presence D.take_handles object_list
  handle_taken p e f k t objects free = simp (e, f, ← read, p, le-leb (c.handles + 1) held (omega arith)) (record {
    says = cursor_same c.next (c.handles + 1) refl (sym (add-zero c.objects));
    valued = refl;
    listed = refl;
    within = (free, omega arith, omega arith);
    rises = (omega arith, omega arith);
  })

  pub handle_missing : {values' : List ℕ} {r : Walked} → x ≡ ones32 → values' ≡ set values c.values 1 → held ≤ c.handles → r ≡ Err (fault too_few_handles (Byte at))
      → DidHandles bytes values values' held 1 at c r (handle_at (eqb optional 1))
  unfolding handle_at D.record_then read_presence presence D.take_handles object_list
  handle_missing p e k f t objects free =
      simp (e, f, ← read, p, lt-leb (c.handles + 1) held (omega arith)) (record { says = refl; valued = refl; listed = refl; within = tt; rises = tt })

  pub handle_wrong : {r : Walked} → (x ≡ 0 → ⊥) → (x ≡ ones32 → ⊥) → r ≡ Err (fault presence_wrong (Byte at))
      → DidHandles bytes values values held 1 at c r (handle_at (eqb optional 1))
  unfolding handle_at D.record_then read_presence presence
  handle_wrong p q e t objects free = simp (e, ← read, ne_eqb _ _ p, ne_eqb _ _ q) did_stop

-- ---- runs of numbers

length_words_from : (bytes : List ℕ) (width at count : ℕ) → length (words_from bytes width at count) ≡ count
unfolding words_from
length_words_from bytes width at zero = refl
length_words_from bytes width at (suc count) = ap suc (length_words_from bytes width (at + width) count)

-- The rules' run of numbers gives just these.
elements_words : (m : D.Message) (width index count at next used : ℕ)
    → D.elements width (λ i. decode_word m width) index count at next used ≡ D.went next used (words_from m.bytes width at count) []
unfolding D.elements D.sequence decode_word D.record_then read_number words_from
elements_words m width index zero at next used = refl
elements_words m width index (suc count) at next used = ap (D.after (word m.bytes at width ∷ []) []) (elements_words m width (suc index) count (at + width) next used)

-- What `values` holds with the words before `i` stored: to store the rest, up to `end`, is to store them all.
abbrev pub Stored : (bytes before : List ℕ) (width count at first end : ℕ) (values : List ℕ) (i p : ℕ) → Type 0
Stored bytes before width count at first end values i p =
    sets values i (words_from bytes width p (end - i)) ≡ sets before first (words_from bytes width at count)

pub stored_none : (bytes before : List ℕ) (width count at first : ℕ) → Stored bytes before width count at first (first + count) before first at
stored_none bytes before width count at first = let n : first + count - first ≡ count = omega arith in rw n

module _ (bytes before : List ℕ) (width count at first end : ℕ) (values : List ℕ) (i p : ℕ) (stored : Stored bytes before width count at first end values i p) where
  pub stored_more : {x : ℕ} {values' : List ℕ} → i < end → x ≡ word bytes p width → values' ≡ set values i x
      → Stored bytes before width count at first end values' (i + 1) (p + width)
  unfolding words_from
  stored_more h read e =
      let n : end - i ≡ suc (end - (i + 1)) = omega arith in
      rw (add-one i, e, read) (rw (n, add-one i) at stored)

  pub stored_all : end ≤ i → values ≡ sets before first (words_from bytes width at count)
  unfolding words_from
  stored_all h = let n : end - i ≡ 0 = omega arith in rw n at stored

  pub stored_length : length values ≡ length before
  stored_length = simp length-sets at (ap length stored)

-- What is left lies before a place,
abbrev pub Inside : (total width end i p : ℕ) → Type 0
Inside total width end i p = p + (end - i) * width ≤ total

pub all_inside : (total width count at first : ℕ) → at + count * width ≤ total → Inside total width (first + count) first at
all_inside total width count at first h = let n : first + count - first ≡ count = omega arith in rw n h

-- and so does the next number, and what is left after it.
module _ (total width end i p : ℕ) (inside : Inside total width end i p) (more : i < end) where
  next_left : (end - i) * width ≡ (end - (i + 1)) * width + width
  next_left = let n : end - i ≡ suc (end - (i + 1)) = omega arith in rw n (suc-mul (end - (i + 1)) width)

  pub next_fits : Fits w64 total → Fits w64 (p + width)
  next_fits h = record { fits = omega (arith, next_left) }

  pub next_inside : Inside total width end (i + 1) (p + width)
  next_inside = omega (arith, next_left)

-- ---- bytes, which are stored all at once

-- With the first `i` of them stored: one more, and all.
module _ (bytes values : List ℕ) (i : ℕ) (long : length values ≡ length bytes) (copied : take i values ≡ take i bytes) where
  pub copied_more : i < length values → take (i + 1) (set values i (get_or bytes i 0)) ≡ take (i + 1) bytes
  copied_more h = rw (add-one i, take-suc-set values i, copied) (sym (take-suc bytes i 0 (omega arith)))

  pub copied_all : length values ≤ i → values ≡ bytes
  copied_all h = sym (take_all i values h) ∙ copied ∙ take_all i bytes (omega arith)

-- They are the numbers of the width 1.
words_bytes : (bytes : List ℕ) (at count : ℕ) → at + count ≤ length bytes → words_from bytes 1 at count ≡ take count (drop at bytes)
unfolding words_from
words_bytes bytes at zero h = refl
words_bytes bytes at (suc count) h =
    let there : at < length bytes = omega arith in
    rw (drop-cons bytes at 0, word_byte, add-one at) (ap (λ (l : List ℕ). get_or bytes at 0 ∷ l) (words_bytes bytes (suc at) count (omega arith)))

-- A part of each list was lent, and the values' part holds the bytes.
pub part_stored : (bytes values : List ℕ) {part : List ℕ} (width count at first : ℕ) → width ≡ 1 → at + count ≤ length bytes → first + count ≤ length values
    → part ≡ take (at + count - at) (drop at bytes)
    → take first values ++ (part ++ drop (first + count - first) (drop first values)) ≡ sets values first (words_from bytes width at count)
part_stored bytes values {part} width count at first one there room e =
    let n : at + count - at ≡ count = omega arith in
    let m : first + count - first ≡ count = omega arith in
    let long = length_words_from bytes 1 at count in
    let words : part ≡ words_from bytes 1 at count = rw (e, n) (sym (words_bytes bytes at count there)) in
    rw (one, m, drop-drop count first values, words)
    (sym (rw (append_assoc, long) at (sets-eq (words_from bytes 1 at count) values first (rw long room))))

-- ---- the cursor after a run

-- A cursor after so many value numbers.
abbrev pub gave_many : ℕ → Cursor → Cursor
gave_many count c = record { next = c.next; handles = c.handles; values = c.values + count; objects = c.objects }

module _ (bytes values : List ℕ) (width count at : ℕ) (c : Cursor) where
  pub numbers_given : {values' : List ℕ} → values' ≡ sets values c.values (words_from bytes width at count)
      → DidValues bytes values values' count at c (Ok (gave_many count c)) (numbers_at width count)
  unfolding numbers_at object_list
  numbers_given e t objects handles free held = rw (elements_words (message t bytes handles) width 0 count at c.next c.handles) (record {
    says = cursor_same c.next c.handles (ap (λ (n : ℕ). c.values + n) (sym (length_words_from bytes width at count))) (sym (add-zero c.objects));
    valued = e;
    listed = refl;
    within = (free, held, omega arith);
    rises = (omega arith, omega arith);
  })

  -- past the lent list's end
  pub numbers_past : length values ≤ c.values
      → DidValues bytes values values count at c (Ok (gave_many count c)) (numbers_at width count)
  numbers_past h = numbers_given (sym (sets_past values c.values (words_from bytes width at count) h))
