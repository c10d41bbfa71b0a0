-- Runs of ASCII: each number of one is passed, and bytes without their highest bits are ASCII.
-- Assumes nothing.
use Rattle.std.proofs.Common.{◌≡◌, ℕ, zero, suc, ◌+◌, ◌-◌, ◌*◌, ◌/◌, ◌%◌, ◌^◌, ◌≤◌, ◌<◌, ◌⊎◌, inl, inr, List, ◌++◌, map, length, take, drop, get_or, sym, ◌∙◌, ap, arith, lit<, zero-add, length-take, length-drop, length-append}
use Rattle.std.proofs.lemmas.Bool.{cases_lt}
use Rattle.std.proofs.lemmas.List.{length-map, take-map, drop-map, take_rest, take_at, drop_at, drop-drop, get_or-take, get_or-drop, get_or_past}
use native.Mathlib.Nat.{add-zero, mod-eq_of_lt}
use lib.Bits.{bit_and, and_block, and_high}
use Rattle.rules.specs.Bytes.{little_endian, word}
use Rattle.words.proofs.Loads.{part_cons}
use Rattle.text.specs.Sequences.{Passes, AreAscii}
use Rattle.text.proofs.Laws.{byte_passed}

-- What a text has from a place on, as code takes it;
abbrev pub rest : {X : Type 0} (text : List X) (at : ℕ) → List X
rest text at = take (length text - at) (drop at text)

-- a chunk at the front of that, as numbers.
module _ {X : Type 0} (f : X → ℕ) (text : List X) {chunk : List X} (n at : ℕ) where
  pub chunk_numbers : chunk ≡ take n (rest text at) → map f chunk ≡ take n (drop at (map f text))
  chunk_numbers is = ap (map f) (is ∙ ap (take n) (take_rest text at)) ∙ sym (take-map f n (drop at text)) ∙ ap (take n) (sym (drop-map f at text))

pub chunk_inside :
    {X : Type 0} (f : X → ℕ) (text : List X) (n at : ℕ) → n ≤ length (rest text at) → at ≤ length (map f text) → at + n ≤ length (map f text)
chunk_inside f text n at long inside = omega (arith, length-map text f, length-take (length text - at) (drop at text), length-drop at text)

-- Each number of a run of ASCII is passed.
run_passed :
    (numbers : List ℕ) {from at : ℕ} (n : ℕ) → AreAscii (take n (drop at numbers)) → at + n ≤ length numbers → Passes numbers from at →
    (count : ℕ) → count ≤ n → Passes numbers from (at + count)
run_passed numbers {from} {at} n ascii inside p zero within = rw (add-zero at) p
run_passed numbers {from} {at} n ascii inside p (suc count) within =
    let next : at + suc count ≡ at + count + 1 = omega arith in
    let number : get_or (take n (drop at numbers)) count 0 ≡ get_or numbers (at + count) 0 =
    get_or-take n (drop at numbers) count 0 (omega arith) ∙ get_or-drop at numbers count 0 in
    rw next (byte_passed (run_passed numbers n ascii inside p count (omega arith)) (omega arith) (rw number at (ascii count)))

pub chunk_passed :
    {X : Type 0} (f : X → ℕ) (text : List X) {chunk : List X} (n : ℕ) {from at : ℕ} → n ≤ length (rest text at) → chunk ≡ take n (rest text at) →
    AreAscii (map f chunk) → Passes (map f text) from at → Passes (map f text) from (at + n)
chunk_passed f text {chunk} n {from} {at} long is ascii p =
    run_passed (map f text) n (rw (chunk_numbers f text {chunk = chunk} n at is) at ascii) (chunk_inside f text n at long p.within) p n (omega arith)

-- The same of a chunk that is cut off from what is left.
pub cut_passed :
    {X : Type 0} (f : X → ℕ) (text chunk later : List X) (n : ℕ) {from at : ℕ} → drop at text ≡ chunk ++ later → length chunk ≡ n → AreAscii (map f chunk) →
    Passes (map f text) from at → (later ≡ drop (at + n) text) × Passes (map f text) from (at + n)
cut_passed f text chunk later n {from} {at} cut long ascii p =
    let is : chunk ≡ take n (rest text at) = sym (take_at chunk later n long) ∙ ap (take n) (sym cut ∙ sym (take_rest text at)) in
    let inside : n ≤ length (rest text at) = omega (arith, ap length (take_rest text at ∙ cut), length-append chunk later) in
    (sym (drop_at chunk later n long) ∙ ap (drop n) (sym cut) ∙ drop-drop n at text, chunk_passed f text n inside is ascii p)

-- Two runs, one after the other;
joined : (numbers : List ℕ) (n : ℕ) → AreAscii (take n numbers) → AreAscii (drop n numbers) → AreAscii numbers
joined numbers n first second k = go (cases_lt k n)
  where
    go : (k < n) ⊎ (n ≤ k) → get_or numbers k 0 < 0x80
    go (inl less) = rw (get_or-take n numbers k 0 less) at (first k)
    go (inr more) =
        let place : n + (k - n) ≡ k = omega arith in
        rw (get_or-drop n numbers (k - n) 0, place) at (second (k - n))

-- four of eight.
pub four_joined :
    {X : Type 0} (f : X → ℕ) (block : List X) → AreAscii (map f (take 8 block)) → AreAscii (map f (take 8 (drop 8 block))) →
    AreAscii (map f (take 8 (drop 16 block))) → AreAscii (map f (rest block 24)) → AreAscii (map f block)
four_joined f block first second third fourth =
    let numbers = map f block in
    let last = rw (take_rest block 24) at fourth in
    joined numbers 8 (simp take-map first)
    (joined (drop 8 numbers) 8 (simp (take-map, drop-map) second)
    (joined (drop 8 (drop 8 numbers)) 8 (simp (take-map, drop-map, drop-drop) third) (simp (drop-map, drop-drop) last)))

-- Past the end nothing is above.
pub all_ascii : (numbers : List ℕ) → ((k : ℕ) → k < length numbers → get_or numbers k 0 < 0x80) → AreAscii numbers
all_ascii numbers within k = go (cases_lt k (length numbers))
  where
    go : (k < length numbers) ⊎ (length numbers ≤ k) → get_or numbers k 0 < 0x80
    go (inl less) = within k less
    go (inr more) = rw (get_or_past numbers k 0) (lit< tt)

-- ---- bytes without their highest bits

-- The highest bit of each of so many bytes;
abbrev highest : (count : ℕ) → ℕ
highest zero = 0
highest (suc count) = highest count * 2 ^ 8 + 0x80

low_byte : (byte : ℕ) → byte < 256 → bit_and byte 0x80 ≡ 0 → byte < 0x80
low_byte byte small none =
    let high : byte / 128 % 2 * 128 ≡ 0 = sym (and_high byte 1 7) ∙ none in
    let zeroth : byte / 128 % 2 ≡ byte / 128 = mod-eq_of_lt (omega arith) in
    omega arith

-- in a word that has none of these all are ASCII.
pub low_bytes :
    (bytes : List ℕ) → ((i : ℕ) → get_or bytes i 0 < 256) → (count at : ℕ) → at + count ≤ length bytes →
    bit_and (word bytes at count) (highest count) ≡ 0 → (k : ℕ) → k < count → get_or bytes (at + k) 0 < 0x80
unfolding word little_endian
low_bytes bytes octets zero at inside none k h = absurd (omega arith)
low_bytes bytes octets (suc count) at inside none k h =
    let byte = get_or bytes at 0 in
    let later = word bytes (suc at) count in
    let split : word bytes at (suc count) ≡ later * 2 ^ 8 + byte = ap little_endian (part_cons bytes at count (omega arith)) ∙ omega arith in
    let parts =
    sym (and_block 8 later (highest count) byte 0x80 (octets at) (omega arith)) ∙ ap (λ (w : ℕ). bit_and w (highest (suc count))) (sym split) ∙ none in
    go k h (low_byte byte (octets at) (omega arith)) (low_bytes bytes octets count (suc at) (omega arith) (omega arith))
  where
    go :
        (k : ℕ) → k < suc count → get_or bytes at 0 < 0x80 → ((k : ℕ) → k < count → get_or bytes (suc at + k) 0 < 0x80) → get_or bytes (at + k) 0 < 0x80
    go zero h here later = rw (add-zero at) here
    go (suc k) h here later =
        let place : suc at + k ≡ at + suc k = omega arith in
        rw place at (later k (omega arith))

-- Eight bytes are ASCII where none has its highest bit.
pub low_eight : (bytes : List ℕ) → ((i : ℕ) → get_or bytes i 0 < 256) → length bytes ≡ 8 → bit_and (word bytes 0 8) 0x8080808080808080 ≡ 0 → AreAscii bytes
low_eight bytes octets long none = all_ascii bytes (λ k h. rw zero-add at (low_bytes bytes octets 8 0 (omega arith) none k (omega arith)))
