-- A number of so many bytes is the low part of the word of eight bytes at its place.
-- Assumes nothing.
use mathlib.Core.Bool.{true}
use mathlib.Core.List.{List}
use mathlib.Core.Path.{◌≡◌, refl, ap, ◌∙◌}
use Prim.Native.Nat.{ℕ, ◌+◌, ◌-◌, ◌*◌, ◌^◌, ◌≤◌}
use native.Mathlib.Nat.{add_comm, mul_comm, mul-add-mod_self_right, mod-eq_of_lt}
use native.Mathlib.Omega.{arith}
use lib.Bits.{bit_and, and_mask}
use lib.ListN.{length, get_or, take, drop}
use Rattle.std.proofs.lemmas.List.{take-take}
use mir.Syntax.{w8}
use mir.Val.{Fits}
use Rattle.rules.specs.Bytes.{word, part}
use Rattle.rules.specs.Sound.{width_allowed}
use Rattle.rules.proofs.Bytes.{word_add}
use Rattle.words.proofs.Loads.{word_below}
use Rattle.layout.specs.Running.{Alignment, one, two, four, eight}
use Rattle.layout.proofs.Bounds.{alignment_bounds, width_alignment}

-- Numbers of so many bytes, by their bits.
worth : {width : ℕ} → Alignment width → 2 ^ (8 * width) ≡ 256 ^ width
worth one = refl
worth two = refl
worth four = refl
worth eight = refl

pub low_part : (bytes : List ℕ) → ((i : ℕ) → Fits w8 (get_or bytes i 0)) → (at width : ℕ) {whole mask : ℕ} → at + 8 ≤ length bytes → width_allowed width ≡ true
    → whole ≡ word bytes at 8 → mask ≡ 2 ^ (8 * width) - 1 → bit_and whole mask ≡ word bytes at width
low_part bytes known at width {whole} inside allowed read ones =
    let a = width_alignment width allowed in
    let all : 8 ≡ width + (8 - width) = omega (arith, (alignment_bounds a).1) in
    let above = word bytes (at + width) (8 - width) in
    let within : at + width ≤ length bytes = omega (arith, (alignment_bounds a).1) in
    let split : whole ≡ above * 256 ^ width + word bytes at width =
    read ∙ ap (λ k. word bytes at k) all ∙ word_add bytes at width (8 - width) within ∙ rw (mul_comm (256 ^ width) above) (add_comm (word bytes at width) (above * 256 ^ width)) in
    rw (ones, and_mask whole (8 * width), worth a, split, mul-add-mod_self_right) (mod-eq_of_lt (word_below bytes known at width))

-- The word of eight bytes that were lent by themselves.
pub lent_word : (bytes : List ℕ) (at : ℕ) → word (take (at + 8 - at) (drop at bytes)) 0 8 ≡ word bytes at 8
unfolding word part
lent_word bytes at =
    let long : at + 8 - at ≡ 8 = omega arith in
    rw (long, take-take 8 8 (drop at bytes) (omega arith)) refl
