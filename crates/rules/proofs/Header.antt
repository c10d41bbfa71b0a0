-- W-203: an epitaph that was written is read back, and an accepted one is what would be written.
use Rattle.std.specs.Prelude.{if◌then◌else◌}
use mathlib.Core.Path.{◌≡◌, refl, sym, ap, ◌∙◌}
use mathlib.Core.Bool.{Bool, true, false, not, ◌||◌}
use mathlib.Core.List.{List, [], ◌∷◌, ◌++◌}
use Prim.Native.Nat.{ℕ, ◌+◌, ◌-◌, ◌≤◌, ◌<◌}
use native.Mathlib.Omega.{arith}
use lib.Dec.{leb, ltb, eqb}
use borrow.Author.Tests.{lt-ltb, le-ltb, eqb-true}
use lib.ListN.{length, drop, get_or, length-append}
use lib.Seq.{drop-cons}
use lib.IntN.{ℤ, pos, negsuc}
use Rattle.rules.specs.Refusals.{Answer, accepted}
use Rattle.rules.specs.Bytes.{Octets, little_endian, bytes_of, part, word, zeros, leading_zeros, ones32, ones64, Fits32, pattern32, signed32}
use Rattle.rules.specs.Header.{Header, header_of, is_epitaph, require_status, read_header, status, body, header_bytes, epitaph_bytes, epitaph_header, EpitaphIsReadBack, EpitaphHasOneSpelling}
use Rattle.rules.proofs.Bytes.{little_endian_bytes_of, bytes_of_length, zeros_length, zeros_leading_zeros, part_length, StandsAt, stands_part, stands_join, standing_word, word_below}
use Rattle.rules.proofs.Demands.{require_accepted, stands_whole}

-- ---- what was written is read back

signed_pattern : (s : ℤ) → Fits32 s → signed32 (pattern32 s) ≡ s
signed_pattern (pos n) h = let e : ltb n 0x80000000 ≡ true = lt-ltb n 0x80000000 h in rw e
signed_pattern (negsuc n) h =
    let e : ltb (ones32 - n) 0x80000000 ≡ false = le-ltb (ones32 - n) 0x80000000 (omega arith) in
    let q : ones32 - (ones32 - n) ≡ n = omega arith in
    rw (e, q)

pattern_small : (s : ℤ) → Fits32 s → pattern32 s < 4294967296
pattern_small (pos n) h = omega arith
pattern_small (negsuc n) h = omega arith

module _ (a b c : ℕ) (s : ℤ) where
  header_read_lem : read_header (epitaph_bytes a b c s) ≡ accepted (epitaph_header a b c)
  unfolding read_header little_endian bytes_of part word zeros leading_zeros
  header_read_lem = refl

  status_word : word (epitaph_bytes a b c s) 16 4 ≡ little_endian (bytes_of 4 (pattern32 s))
  unfolding little_endian bytes_of part word
  status_word = refl

  body_bytes : drop 16 (epitaph_bytes a b c s) ≡ bytes_of 4 (pattern32 s) ++ zeros 4
  unfolding bytes_of zeros
  body_bytes = refl

  pub epitaph_is_read_back : Fits32 s → EpitaphIsReadBack a b c s
  unfolding status body
  epitaph_is_read_back h = record {
    header_read = header_read_lem;
    status_read = rw header_read_lem (ap signed32 (status_word ∙ little_endian_bytes_of 4 (pattern32 s) (pattern_small s h)) ∙ signed_pattern s h);
    body_read = rw header_read_lem body_bytes;
  }

-- ---- one spelling

pattern_signed : (pattern : ℕ) (small : Bool) → pattern < 4294967296 → pattern32 (if small then pos pattern else negsuc (ones32 - pattern)) ≡ pattern
pattern_signed pattern true h = refl
pattern_signed pattern false h = omega arith

accepted_same : {A : Type 0} {a b : A} → accepted a ≡ accepted b → a ≡ b
accepted_same e = cc

module _ (message : List ℕ) (h : Header) (octets : Octets message) (read : read_header message ≡ accepted h) (epitaph : is_epitaph h ≡ true) where
  -- what stands after the tests of the header
  abbrev body_tests : Bool → Answer Header
  body_tests kind = if kind then require_status message (accepted (header_of message)) else accepted (header_of message)

  tests_passed : (eqb (get_or message 7 0) 1 ≡ true) × ((not (is_epitaph (header_of message)) || eqb (word message 0 4) 0) ≡ true) × (body_tests (is_epitaph (header_of message)) ≡ accepted h)
  unfolding read_header
  tests_passed =
      let short = require_accepted (leb (length message) 65536) _ _ read in
      let whole = require_accepted (leb 16 (length message)) _ _ short.1 in
      let magic = require_accepted (eqb (get_or message 7 0) 1) _ _ whole.1 in
      let nonzero = require_accepted (not (eqb (word message 8 8) 0)) _ _ magic.1 in
      let transaction = require_accepted (not (is_epitaph (header_of message)) || eqb (word message 0 4) 0) _ _ nonzero.1 in
      (magic.0, transaction.0, transaction.1)

  body_passed : require_status message (accepted (header_of message)) ≡ accepted h
      → (eqb (leading_zeros (part message 20 4)) 4 ≡ true) × (eqb (length message) 24 ≡ true) × (header_of message ≡ h)
  body_passed e =
      let whole = require_accepted (leb 24 (length message)) _ _ e in
      let clean = require_accepted (eqb (leading_zeros (part message 20 4)) 4) _ _ whole.1 in
      let all = require_accepted (eqb (length message) 24) _ _ clean.1 in
      (clean.0, all.0, accepted_same all.1)

  same_header : (kind : Bool) → body_tests kind ≡ accepted h → header_of message ≡ h
  same_header true e = (body_passed e).2
  same_header false e = accepted_same e

  -- the message's own header is an epitaph's
  is_header : header_of message ≡ h
  is_header = same_header (is_epitaph (header_of message)) tests_passed.2

  is_epitaph_lem : is_epitaph (header_of message) ≡ true
  is_epitaph_lem = ap is_epitaph is_header ∙ epitaph

  body_tests_lem : (eqb (leading_zeros (part message 20 4)) 4 ≡ true) × (eqb (length message) 24 ≡ true) × (header_of message ≡ h)
  body_tests_lem = body_passed (sym (ap body_tests is_epitaph_lem) ∙ tests_passed.2)

  all_bytes : length message ≡ 24
  all_bytes = eqb-true _ _ body_tests_lem.1

  no_transaction : word message 0 4 ≡ 0
  no_transaction = eqb-true _ _ (sym (ap (λ (kind : Bool). not kind || eqb (word message 0 4) 0) is_epitaph_lem) ∙ tests_passed.1)

  -- each field stands where it is written
  magic_stands : StandsAt message 7 (1 ∷ [])
  unfolding part
  magic_stands =
      let byte : get_or message 7 0 ≡ 1 = eqb-true _ _ tests_passed.0 in
      record { fits = omega (arith, all_bytes); same = rw (drop-cons message 7 0 (omega (arith, all_bytes)), byte) }

  fill_stands : StandsAt message 20 (zeros 4)
  fill_stands =
      let room : 20 + 4 ≤ length message = omega (arith, all_bytes) in
      let long : length (part message 20 4) ≡ 4 = part_length message 20 4 room in
      let clean : leading_zeros (part message 20 4) ≡ 4 = eqb-true _ _ body_tests_lem.0 in
      let e : part message 20 4 ≡ zeros 4 = zeros_leading_zeros (part message 20 4) (clean ∙ sym long) ∙ ap zeros long in
      rw e at (stands_part message 20 4 room)

  status_stands : StandsAt message 16 (bytes_of 4 (pattern32 (signed32 (word message 16 4))))
  status_stands =
      let room : 16 + 4 ≤ length message = omega (arith, all_bytes) in
      let e : pattern32 (signed32 (word message 16 4)) ≡ word message 16 4
      = pattern_signed (word message 16 4) (ltb (word message 16 4) 0x80000000) (word_below message 16 4 octets room) in
      rw e (standing_word message 16 4 octets room)

  ordinal_stands : StandsAt message 8 (bytes_of 8 ones64)
  ordinal_stands =
      let e : word message 8 8 ≡ ones64 = eqb-true _ _ is_epitaph_lem in
      rw e at (standing_word message 8 8 octets (omega (arith, all_bytes)))

  transaction_stands : StandsAt message 0 (bytes_of 4 0)
  transaction_stands = rw no_transaction at (standing_word message 0 4 octets (omega (arith, all_bytes)))

  flags_stand : StandsAt message 4 (get_or message 4 0 ∷ get_or message 5 0 ∷ get_or message 6 0 ∷ [])
  unfolding part
  flags_stand =
      record {
        fits = omega (arith, all_bytes);
        same = rw (drop-cons message 4 0 (omega (arith, all_bytes)), drop-cons message 5 0 (omega (arith, all_bytes)), drop-cons message 6 0 (omega (arith, all_bytes)));
      }

  header_long : length (header_bytes (epitaph_header (get_or message 4 0) (get_or message 5 0) (get_or message 6 0))) ≡ 16
  header_long = simp (length-append, bytes_of_length)

  epitaph_long : length (epitaph_bytes (get_or message 4 0) (get_or message 5 0) (get_or message 6 0) (signed32 (word message 16 4))) ≡ 24
  epitaph_long = simp (length-append, bytes_of_length, zeros_length)

  header_stands : StandsAt message 0 (header_bytes (epitaph_header (get_or message 4 0) (get_or message 5 0) (get_or message 6 0)))
  header_stands =
      let last = stands_join message 7 (1 ∷ []) (bytes_of 8 ones64) magic_stands ordinal_stands in
      let flags = stands_join message 4 (get_or message 4 0 ∷ get_or message 5 0 ∷ get_or message 6 0 ∷ []) (1 ∷ bytes_of 8 ones64) flags_stand last in
      stands_join message 0 (bytes_of 4 0) (get_or message 4 0 ∷ get_or message 5 0 ∷ get_or message 6 0 ∷ 1 ∷ bytes_of 8 ones64) transaction_stands (rw bytes_of_length flags)

  epitaph_stands : StandsAt message 0 (epitaph_bytes (get_or message 4 0) (get_or message 5 0) (get_or message 6 0) (signed32 (word message 16 4)))
  epitaph_stands =
      let pattern = pattern32 (signed32 (word message 16 4)) in
      let body = stands_join message 16 (bytes_of 4 pattern) (zeros 4) status_stands (rw bytes_of_length fill_stands) in
      stands_join message 0 (header_bytes (epitaph_header (get_or message 4 0) (get_or message 5 0) (get_or message 6 0))) (bytes_of 4 pattern ++ zeros 4) header_stands (rw header_long body)

  status_is : status message ≡ signed32 (word message 16 4)
  unfolding status
  status_is = rw (read, epitaph)

  spelled : message ≡ epitaph_bytes h.flag0 h.flag1 h.flag2 (status message)
  spelled =
      let e : epitaph_bytes (get_or message 4 0) (get_or message 5 0) (get_or message 6 0) (signed32 (word message 16 4)) ≡ message
      = stands_whole message (epitaph_bytes (get_or message 4 0) (get_or message 5 0) (get_or message 6 0) (signed32 (word message 16 4))) epitaph_stands (omega (arith, all_bytes, epitaph_long)) in
      sym e ∙ ap (λ (k : Header). epitaph_bytes k.flag0 k.flag1 k.flag2 (signed32 (word message 16 4))) is_header
      ∙ ap (epitaph_bytes h.flag0 h.flag1 h.flag2) (sym status_is)

pub epitaph_has_one_spelling : EpitaphHasOneSpelling
epitaph_has_one_spelling = spelled
