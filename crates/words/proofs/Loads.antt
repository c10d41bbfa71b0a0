-- Laws of `part`, so many bytes from a place on, and of `word`, the number that they stand for, at any width.
-- Assumes nothing.
use Rattle.std.proofs.lemmas.Grind.{common_steps}
use Rattle.std.proofs.Common.{set, ◌∙◌, ◌≡◌, ℕ, zero, suc, ◌+◌, ◌*◌, ◌^◌, ◌<◌, ◌≤◌, List, [], ◌∷◌, length, get_or, refl, add-zero, add_comm, mul_comm, add-suc, suc-add, pow-suc, arith, drop_of_length-le, drop-cons, w8, Fits}
use lib.Arith.{digits_lt}
use lib.Seq.{take-nil}
use Rattle.std.specs.Int.{byte_worth, sum_through}
use Rattle.rules.specs.Bytes.{little_endian, part, word}

-- the part's first byte
pub part_cons : (bytes : List ℕ) (at count : ℕ) → at < length bytes → part bytes at (suc count) ≡ get_or bytes at 0 ∷ part bytes (suc at) count
unfolding part
part_cons bytes at count h = rw (drop-cons bytes at 0)

-- past the end
pub part_past : (bytes : List ℕ) (at count : ℕ) → length bytes ≤ at → part bytes at count ≡ []
unfolding part
part_past bytes at count h = rw (drop_of_length-le, take-nil)

-- no bytes
pub word_none : (bytes : List ℕ) (at : ℕ) → word bytes at 0 ≡ 0
unfolding word part little_endian
word_none bytes at = refl

-- by its first byte
pub word_step : (bytes : List ℕ) (at width : ℕ) → word bytes at (suc width) ≡ get_or bytes at 0 + 256 * word bytes (suc at) width
unfolding word part little_endian
word_step [] zero width = rw take-nil
word_step [] (suc at) width = rw take-nil
word_step (byte ∷ bytes) zero width = refl
word_step (byte ∷ bytes) (suc at) width = word_step bytes at width

-- a word of one byte
pub word_byte : (bytes : List ℕ) (at : ℕ) → word bytes at 1 ≡ get_or bytes at 0
word_byte bytes at = omega (arith, word_step bytes at 0, word_none bytes (suc at))

-- a word of a slice of bytes fits its width
pub word_below : (bytes : List ℕ) → ((i : ℕ) → Fits w8 (get_or bytes i 0)) → (at width : ℕ) → word bytes at width < 256 ^ width
word_below bytes known at zero = rw word_none (omega arith)
word_below bytes known at (suc width) =
    let byte : get_or bytes at 0 < 256 = (known at).fits in
    rw (word_step, add_comm, mul_comm 256, pow-suc) (digits_lt (word_below bytes known (suc at) width) byte)

-- the last of a word's bytes, worth the most
spread : (byte low last worth : ℕ) → byte + 256 * (low + last * worth) ≡ byte + 256 * low + last * (worth * 256)
spread byte low last worth = grind arith

word_last : (bytes : List ℕ) (at width : ℕ) → word bytes at (suc width) ≡ word bytes at width + get_or bytes (at + width) 0 * 256 ^ width
word_last bytes at zero = rw (word_byte, word_none, add-zero) (omega arith)
word_last bytes at (suc width) =
    rw (word_step bytes at (suc width), word_last bytes (suc at) width, word_step bytes at width, add-suc, suc-add, pow-suc)
    (spread (get_or bytes at 0) (word bytes (suc at) width) (get_or bytes (suc (at + width)) 0) (256 ^ width))

-- a word as `from_le_bytes` reads it from a chunk of the bytes
pub loaded : (chunk bytes : List ℕ) (at n : ℕ) {r : ℕ} → ((i : ℕ) → i < suc n → get_or chunk i 0 ≡ get_or bytes (at + i) 0)
    → r ≡ sum_through (λ i. byte_worth i (get_or chunk i 0)) n → r ≡ word bytes at (suc n)
loaded chunk bytes at zero same e = e ∙ same 0 (omega arith) ∙ rw (add-zero, word_byte)
loaded chunk bytes at (suc n) same e =
    e ∙ rw (loaded chunk bytes at n (λ i h. same i (omega arith)) refl, same (suc n) (omega arith), word_last bytes at (suc n))

-- one byte more of a chunk
pub filled_more : (chunk bytes : List ℕ) (i : ℕ) {x : ℕ} → ((k : ℕ) → k < i → get_or chunk k 0 ≡ get_or bytes k 0) → i < length chunk → x ≡ get_or bytes i 0
    → (k : ℕ) → k < i + 1 → get_or (set chunk i x) k 0 ≡ get_or bytes k 0
filled_more chunk bytes i before long e k h = grind (arith, common_steps, before k)
