-- Laws of bytes: little-endian words there and back, zero fill, and bytes that stand in a message at a place.
use mathlib.Core.Path.{◌≡◌, refl, sym, ap, ◌∙◌}
use mathlib.Core.List.{List, [], ◌∷◌, ◌++◌}
use Prim.Native.Nat.{ℕ, zero, suc, ◌+◌, ◌*◌, ◌/◌, ◌%◌, ◌^◌, ◌≤◌, ◌<◌}
use native.Mathlib.Nat.{mod-lt, div-lt_iff_lt-mul, suc-add, zero-add, pow-suc}
use native.Mathlib.Omega.{arith}
use lib.ListN.{length, take, drop, get_or, length-append, length-take, length-drop}
use lib.Seq.{take-add, drop-drop, take-append_seam, drop-append_seam}
use Rattle.rules.specs.Bytes.{Octets, little_endian, bytes_of, part, word, zeros, leading_zeros, round_up, padded}

-- ---- bytes below 256
-- Bytes stay bytes when lists of them are put together or cut; the bytes of a number, and zeros, are bytes.

pub octets_nil : Octets []
unfolding Octets
octets_nil = tt

pub octets_append : (a b : List ℕ) → Octets a → Octets b → Octets (a ++ b)
unfolding Octets
octets_append [] b x y = y
octets_append (c ∷ a) b x y = (x.0, octets_append a b x.1 y)

octets_take : (k : ℕ) (l : List ℕ) → Octets l → Octets (take k l)
unfolding Octets
octets_take zero l o = tt
octets_take (suc k) [] o = tt
octets_take (suc k) (x ∷ l) o = (o.0, octets_take k l o.1)

octets_drop : (k : ℕ) (l : List ℕ) → Octets l → Octets (drop k l)
unfolding Octets
octets_drop zero l o = o
octets_drop (suc k) [] o = tt
octets_drop (suc k) (x ∷ l) o = octets_drop k l o.1

pub octets_bytes_of : (k v : ℕ) → Octets (bytes_of k v)
unfolding Octets bytes_of
octets_bytes_of zero v = tt
octets_bytes_of (suc k) v = (mod-lt v (omega arith), octets_bytes_of k (v / 256))

pub octets_zeros : (k : ℕ) → Octets (zeros k)
unfolding Octets zeros
octets_zeros zero = tt
octets_zeros (suc k) = (omega arith, octets_zeros k)

-- Numbers that are below 256 one by one are bytes: what is known of a slice.
pub octets_of : (l : List ℕ) → ((i : ℕ) → i < length l → get_or l i 0 < 256) → Octets l
unfolding Octets
octets_of [] f = tt
octets_of (x ∷ l) f = (f 0 (omega arith), octets_of l (λ i h. f (suc i) (omega arith)))

-- ---- a number and its bytes

pub bytes_of_length : (k v : ℕ) → length (bytes_of k v) ≡ k
unfolding bytes_of
bytes_of_length zero v = refl
bytes_of_length (suc k) v = ap suc (bytes_of_length k (v / 256))

-- A number below 256 ^ k is had back from its k bytes,
pub little_endian_bytes_of : (k v : ℕ) → v < 256 ^ k → little_endian (bytes_of k v) ≡ v
unfolding little_endian bytes_of
little_endian_bytes_of zero v h = omega arith
little_endian_bytes_of (suc k) v h =
    let g : v < 256 ^ k * 256 = rw pow-suc at h in
    rw (little_endian_bytes_of k (v / 256) ((div-lt_iff_lt-mul (omega arith)).1 g)) (omega arith)

-- and bytes are had back from the number that they stand for.
bytes_of_little_endian : (l : List ℕ) → Octets l → bytes_of (length l) (little_endian l) ≡ l
unfolding little_endian bytes_of Octets
bytes_of_little_endian [] o = refl
bytes_of_little_endian (b ∷ l) o =
    let e0 : (b + 256 * little_endian l) % 256 ≡ b = omega (arith, o.0) in
    let e1 : (b + 256 * little_endian l) / 256 ≡ little_endian l = omega (arith, o.0) in
    rw (e0, e1, bytes_of_little_endian l o.1)

-- The number that k bytes stand for is below 256 ^ k.
little_endian_below : (l : List ℕ) → Octets l → little_endian l < 256 ^ length l
unfolding little_endian Octets
little_endian_below [] o = omega arith
little_endian_below (b ∷ l) o = rw pow-suc (omega (arith, little_endian_below l o.1, o.0))

-- The number of bytes in two: that of the low ones, and that of the high ones times 256 for each low one.
little_endian_append : (a b : List ℕ) → little_endian (a ++ b) ≡ little_endian a + 256 ^ length a * little_endian b
unfolding little_endian
little_endian_append [] b = omega arith
little_endian_append (x ∷ a) b = rw (little_endian_append a b, pow-suc) (omega arith)

-- Zero bytes stand for 0, and 0 has zero bytes.
little_endian_zeros : (k : ℕ) → little_endian (zeros k) ≡ 0
unfolding little_endian zeros
little_endian_zeros zero = refl
little_endian_zeros (suc k) = omega (arith, little_endian_zeros k)

bytes_of_zero : (k : ℕ) → bytes_of k 0 ≡ zeros k
unfolding bytes_of zeros
bytes_of_zero zero = refl
bytes_of_zero (suc k) = ap (λ (r : List ℕ). 0 ∷ r) (bytes_of_zero k)

-- ---- zero fill

pub zeros_length : (k : ℕ) → length (zeros k) ≡ k
unfolding zeros
zeros_length zero = refl
zeros_length (suc k) = ap suc (zeros_length k)

pub zeros_add : (j k : ℕ) → zeros (j + k) ≡ zeros j ++ zeros k
unfolding zeros
zeros_add zero k = rw zero-add
zeros_add (suc j) k = rw suc-add (ap (λ (r : List ℕ). 0 ∷ r) (zeros_add j k))

-- Zeros are all leading zeros, and bytes that are all leading zeros are zeros.
pub leading_zeros_zeros : (k : ℕ) → leading_zeros (zeros k) ≡ k
unfolding leading_zeros zeros
leading_zeros_zeros zero = refl
leading_zeros_zeros (suc k) = ap suc (leading_zeros_zeros k)

pub zeros_leading_zeros : (l : List ℕ) → leading_zeros l ≡ length l → l ≡ zeros (length l)
unfolding leading_zeros zeros
zeros_leading_zeros [] h = refl
zeros_leading_zeros (zero ∷ l) h = ap (λ (r : List ℕ). 0 ∷ r) (zeros_leading_zeros l (omega arith))
zeros_leading_zeros (suc x ∷ l) h = absurd (omega arith)

-- ---- parts of a message

-- A part that lies in the message is as long as was asked for.
pub part_length : (m : List ℕ) (p k : ℕ) → p + k ≤ length m → length (part m p k) ≡ k
unfolding part
part_length m p k h = simp (length-take, length-drop) (omega arith)

part_octets : (m : List ℕ) (p k : ℕ) → Octets m → Octets (part m p k)
unfolding part
part_octets m p k o = octets_take k (drop p m) (octets_drop p m o)

-- A part in two: the first so many bytes, and those after them.
part_add : (m : List ℕ) (p j k : ℕ) → part m p (j + k) ≡ part m p j ++ part m (p + j) k
unfolding part
part_add m p j k = rw (take-add, drop-drop)

-- ---- bytes that stand in a message

-- Bytes stand in a message at a place: they lie in it, and are the part of it from there on.
pub record StandsAt (m : List ℕ) (p : ℕ) (xs : List ℕ) : Type 0 where
  pub fits : p + length xs ≤ length m
  pub same : part m p (length xs) ≡ xs

-- A part that lies in the message stands where it was taken; the empty list stands anywhere in it.
pub stands_part : (m : List ℕ) (p k : ℕ) → p + k ≤ length m → StandsAt m p (part m p k)
stands_part m p k h = record { fits = rw (part_length m p k h) h; same = rw (part_length m p k h) }

pub stands_nil : (m : List ℕ) (p : ℕ) → p ≤ length m → StandsAt m p []
unfolding part
stands_nil m p h = record { fits = omega arith; same = refl }

-- Where two lists put together equal two others, and the first ones are equally long, each equals its own.
append_inj : (a b c d : List ℕ) → length a ≡ length b → a ++ c ≡ b ++ d → (a ≡ b) × (c ≡ d)
append_inj a b c d l e =
    let x : take (length a) (a ++ c) ≡ take (length b) (b ++ d) = cc in
    let y : drop (length a) (a ++ c) ≡ drop (length b) (b ++ d) = cc in
    (sym (take-append_seam a c) ∙ x ∙ take-append_seam b d, sym (drop-append_seam a c) ∙ y ∙ drop-append_seam b d)

-- Bytes in two stand at a place exactly when the first stand there and the others right after them.
stands_two : (m : List ℕ) (p : ℕ) (xs ys : List ℕ) → StandsAt m p (xs ++ ys) → (part m p (length xs) ≡ xs) × (part m (p + length xs) (length ys) ≡ ys)
stands_two m p xs ys h =
    let f : p + length xs ≤ length m = omega (arith, simp length-append at h.fits) in
    append_inj _ xs _ ys (part_length m p (length xs) f) (sym (part_add m p (length xs) (length ys)) ∙ rw length-append at h.same)

pub stands_left : (m : List ℕ) (p : ℕ) (xs ys : List ℕ) → StandsAt m p (xs ++ ys) → StandsAt m p xs
stands_left m p xs ys h = record { fits = omega (arith, simp length-append at h.fits); same = (stands_two m p xs ys h).0 }

pub stands_right : (m : List ℕ) (p : ℕ) (xs ys : List ℕ) → StandsAt m p (xs ++ ys) → StandsAt m (p + length xs) ys
stands_right m p xs ys h = record { fits = omega (arith, simp length-append at h.fits); same = (stands_two m p xs ys h).1 }

pub stands_join : (m : List ℕ) (p : ℕ) (xs ys : List ℕ) → StandsAt m p xs → StandsAt m (p + length xs) ys → StandsAt m p (xs ++ ys)
stands_join m p xs ys a b =
    record { fits = rw length-append (omega (arith, b.fits)); same = rw (length-append, part_add, a.same, b.same) }

-- ---- words of a message

-- Where the bytes of a number stand, that number is read,
pub word_standing : (m : List ℕ) (p k v : ℕ) → v < 256 ^ k → StandsAt m p (bytes_of k v) → word m p k ≡ v
unfolding word
word_standing m p k v h a =
    let e : part m p k ≡ bytes_of k v = rw bytes_of_length at a.same in
    rw (e, little_endian_bytes_of k v h)

-- and where a number is read, its bytes stand.
pub standing_word : (m : List ℕ) (p k : ℕ) → Octets m → p + k ≤ length m → StandsAt m p (bytes_of k (word m p k))
unfolding word
standing_word m p k o h =
    let l : length (part m p k) ≡ k = part_length m p k h in
    let e : bytes_of k (little_endian (part m p k)) ≡ part m p k = rw l at (bytes_of_little_endian (part m p k) (part_octets m p k o)) in
    rw e (stands_part m p k h)

-- A number that is read from k bytes is below 256 ^ k.
pub word_below : (m : List ℕ) (p k : ℕ) → Octets m → p + k ≤ length m → word m p k < 256 ^ k
unfolding word
word_below m p k o h = rw (part_length m p k h) at (little_endian_below (part m p k) (part_octets m p k o))

-- A word in two: the low bytes, and the high bytes after them.
pub word_add : (m : List ℕ) (p j k : ℕ) → p + j ≤ length m → word m p (j + k) ≡ word m p j + 256 ^ j * word m (p + j) k
unfolding word
word_add m p j k h = rw (part_add, little_endian_append, part_length m p j h)

-- Where zeros stand 0 is read, and where 0 is read zeros stand.
pub word_zeros : (m : List ℕ) (p k : ℕ) → StandsAt m p (zeros k) → word m p k ≡ 0
unfolding word
word_zeros m p k h = let e : part m p k ≡ zeros k = rw zeros_length at h.same in rw e (little_endian_zeros k)

pub zeros_word : (m : List ℕ) (p k : ℕ) → Octets m → p + k ≤ length m → word m p k ≡ 0 → StandsAt m p (zeros k)
zeros_word m p k o h e = let x : StandsAt m p (bytes_of k 0) = rw e at (standing_word m p k o h) in rw bytes_of_zero at x

-- ---- rounding up to eight

-- A length with its fill is no shorter, is a multiple of 8, and is the same if it was one.
pub padded_above : (n : ℕ) → n ≤ padded n
unfolding padded round_up
padded_above n = omega arith

pub padded_whole : (n : ℕ) → padded n % 8 ≡ 0
unfolding padded round_up
padded_whole n = omega arith

pub padded_multiple : (c : ℕ) → padded (c * 8) ≡ c * 8
unfolding padded round_up
padded_multiple c = omega arith
