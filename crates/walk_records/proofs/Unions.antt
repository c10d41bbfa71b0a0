-- A union's ordinal, and what it leads to.
-- Assumes nothing.
use Rattle.std.specs.Prelude.{is_some, Some, None, if◌then◌else◌, Err, Ok, Option, Result}
use mathlib.Core.Path.{◌≡◌, refl, sym, ◌∙◌}
use mathlib.Core.Bool.{Bool, true, false, ◌||◌}
use mathlib.Core.List.{List, [], ◌∷◌}
use Prim.Native.Nat.{ℕ, zero, suc, ◌+◌, ◌/◌, ◌%◌, ◌≤◌, ◌<◌}
use native.Mathlib.Omega.{arith}
use mir.Syntax.{w8}
use mir.Val.{Fits}
use borrow.Author.Tests.{eq-eqb, ne_eqb, leb-true, leb-false}
use lib.Dec.{leb, eqb}
use lib.ListN.{length, get_or}
use Rattle.rules.specs.declared.Fault.{Fault}
use Rattle.rules.specs.declared.Place.TheVariants.{Byte}
use Rattle.rules.specs.Refusals.{fault, required_absent, absent_not_zero, ordinal_unknown, present_envelope_zero}
use Rattle.rules.specs.Bytes.{word}
use Rattle.rules.specs.TypeTable.{TypeTable, eight_byte_envelopes, Content, content_of}
use Rattle.rules.specs.Decode as D
use Rattle.rules.specs.Decode.{Decoded, went, stopped, got}
use Rattle.rules.specs.Records.{is_known, read_if, unless, read_number}
use Rattle.rules.specs.Envelope.{content_of_eight_bytes}
use Rattle.rules.specs.Walk as W
use Rattle.ordinals.specs.Ordinals.{ordinal_is, ContentIs, halved, Rising, OrdinalFits}
use Rattle.rules.proofs.Edition.{envelope_size_lem, content_read}
use Rattle.ordinals.proofs.Ordinals.{halved_content}
use Rattle.ordinals.proofs.Members.{MembersRise, ordinal_fits}
use Rattle.walk_leaves.specs.declared.cursor.Cursor.{Cursor}
use Rattle.walk_records.specs.declared.envelopes.Member.{Member}
use Rattle.walk_records.specs.declared.envelopes.Member.TheVariants.{Present}
use Rattle.walk_leaves.specs.Doing.{message, Did, Ask}
use Rattle.walk_records.specs.Opening.{OpensMember, union_at}
use Rattle.walk_records.specs.Promises.{MemberIs}
use Rattle.walk_leaves.proofs.Steps.{did_stop, did_nothing}
use Rattle.walk_records.proofs.Giving.{Gave, did_gave, ask_gave}
use Rattle.walk_records.proofs.Zeros.{zero_word, nonzero_word}

-- A union under a message's bytes and handle count; its form is 1 for optional, 2 for flexible, 3 for both.
abbrev union_of : (t : TypeTable) (bytes : List ℕ) (handles depth row first count form at : ℕ) → Cursor → Decoded
union_of t bytes handles depth row first count form at c =
    union_at (message t bytes handles) depth row (content_of t first count) (eqb (form % 2) 1) (eqb (form / 2) 1) at c.next c.handles

-- ---- without a member

module _ (t : TypeTable) (bytes values objects : List ℕ) (handles depth row first count form at : ℕ) (c : Cursor) {ordinal : ℕ} (e : ordinal ≡ word bytes at 8) (z : ordinal ≡ 0) where
  pub union_required : {f : Fault} → form % 2 ≡ 0 → f ≡ fault required_absent (Byte at)
      → Did (length bytes) handles 16 values values objects objects c (Err f) (union_of t bytes handles depth row first count form at c)
  unfolding D.record_then read_number
  union_required o y = rw (← e, z, ne_eqb (form % 2) 1 (λ q. omega arith), y) did_stop

  module _ (edition : t.edition ≡ eight_byte_envelopes) (ask : Ask (length bytes) handles 16 at c) (o : form % 2 ≡ 0 → ⊥) {envelope : ℕ} (q : envelope ≡ word bytes (at + 8) 8) {values' : List ℕ} {d : Cursor} (g : Gave values values' c d 0) where
    pub union_absent : ((i : ℕ) → Fits w8 (get_or bytes i 0)) → envelope ≡ 0
        → Did (length bytes) handles 16 values values' objects objects c (Ok d) (union_of t bytes handles depth row first count form at c)
    unfolding D.record_then read_number D.zero_envelope
    union_absent known n =
        let a = ask_gave 15 ask g.1 (omega arith) in
        rw (← e, z, eq-eqb (form % 2) 1 (omega (arith, o)), envelope_size_lem edition, zero_word bytes (at + 8) 8 (omega arith) (sym q ∙ n))
        (did_gave {g = 15} 16 0 (λ n u. went n u [] []) g (did_nothing a.free a.held) (omega arith))

    pub union_not_absent : {f : Fault} → (envelope ≡ 0 → ⊥) → f ≡ fault absent_not_zero (Byte at)
        → Did (length bytes) handles 16 values values' objects objects c (Err f) (union_of t bytes handles depth row first count form at c)
    unfolding D.record_then read_number D.zero_envelope
    union_not_absent n y =
        rw (← e, z, eq-eqb (form % 2) 1 (omega (arith, o)), envelope_size_lem edition, nonzero_word bytes (at + 8) 8 (omega arith) (λ w. n (q ∙ w)), y)
        (did_gave {g = 15} 16 0 (λ n u. stopped (fault absent_not_zero (Byte at)) [] []) g did_stop (omega arith))

-- ---- with a member

abbrev member_of : (t : TypeTable) (bytes : List ℕ) (handles depth row : ℕ) → Content → D.Decoder
member_of t bytes handles depth row content =
    D.present_envelope (message t bytes handles) 8 (content_of_eight_bytes (message t bytes handles) (W.levels (message t bytes handles) depth) row content)

-- A flexible union takes any ordinal.
accepts : (form : ℕ) (known : Bool) → form ≤ 3 → (if eqb (form / 2) 1 then true else known) ≡ (leb 2 form || known)
accepts form known h = go (leb 2 form) refl
  where
    go : (b : Bool) → leb 2 form ≡ b → (if eqb (form / 2) 1 then true else known) ≡ (b || known)
    go true q = let l : 2 ≤ form = leb-true 2 form q in rw (eq-eqb (form / 2) 1 (omega arith))
    go false q = let l : form < 2 = leb-false 2 form q in rw (ne_eqb (form / 2) 1 (λ e. omega arith))

-- What an ordinal leads to that is accepted, and what one leads to that is not.
present : (t : TypeTable) (bytes : List ℕ) (handles depth row at n u : ℕ) (content : ℕ → Content) (optional flexible : Bool) (ordinal : ℕ)
    → t.edition ≡ eight_byte_envelopes → (ordinal ≡ 0 → ⊥) → word bytes at 8 ≡ ordinal
    → union_at (message t bytes handles) depth row content optional flexible at n u
    ≡ (if (if flexible then true else is_known (content ordinal))
    then D.after (ordinal ∷ []) [] (member_of t bytes handles depth row (content ordinal) (at + 8) n u)
    else stopped (fault ordinal_unknown (Byte at)) [] [])
unfolding D.record_then read_number
present t bytes handles depth row at n u content optional flexible zero edition z e = absurd (z refl)
present t bytes handles depth row at n u content optional flexible (suc v) edition z e = rw e (go (if flexible then true else is_known (content (suc v))))
  where
    go : (b : Bool)
        → D.record_goes (read_if (unless ordinal_unknown b) at (got (suc v))) (λ ordinal. W.after_union (message t bytes handles) (W.levels (message t bytes handles) depth) row content at ordinal (at + 8) n u)
        ≡ (if b then D.after (suc v ∷ []) [] (member_of t bytes handles depth row (content (suc v)) (at + 8) n u) else stopped (fault ordinal_unknown (Byte at)) [] [])
    go true = rw (envelope_size_lem edition, content_read edition)
    go false = refl

module _ (t : TypeTable) (bytes values objects : List ℕ) (handles depth row first count form at : ℕ) (c : Cursor) (ordinal : ℕ) (what : Option ℕ) (known : Bool) (edition : t.edition ≡ eight_byte_envelopes) {members : List ℕ} (same : t.members ≡ members)
    (ask : Ask (length bytes) handles 16 at c) (small : form ≤ 3) (e : ordinal ≡ word bytes at 8) (n : ordinal ≡ 0 → ⊥)
    (few : first + count ≤ 1024) (rising : Rising members first count) (found : ordinal_is what ≡ halved members ordinal first count) (k : known ≡ is_known (ordinal_is what)) where
  kept : union_of t bytes handles depth row first count form at c
      ≡ (if (leb 2 form || known) then D.after (ordinal ∷ []) [] (member_of t bytes handles depth row (ordinal_is what) (at + 8) c.next c.handles)
      else stopped (fault ordinal_unknown (Byte at)) [] [])
  kept =
      let w = found ∙ halved_content t first count ordinal same few rising in
      present t bytes handles depth row at c.next c.handles (content_of t first count) (eqb (form % 2) 1) (eqb (form / 2) 1) ordinal edition n (sym e)
      ∙ rw (← w, ← k, accepts form known small)

  pub union_unknown : {f : Fault} → leb 2 form || known ≡ false → f ≡ fault ordinal_unknown (Byte at)
      → Did (length bytes) handles 16 values values objects objects c (Err f) (union_of t bytes handles depth row first count form at c)
  union_unknown a y = rw (kept, a, y) did_stop

  module _ {values' : List ℕ} {d : Cursor} {envelope : ℕ} (a : leb 2 form || known ≡ true) (q : envelope ≡ word bytes (at + 8) 8) (g : Gave values values' c d ordinal) where
    pub union_empty : {f : Fault} → ((i : ℕ) → Fits w8 (get_or bytes i 0)) → envelope ≡ 0 → f ≡ fault present_envelope_zero (Byte (at + 8))
        → Did (length bytes) handles 16 values values' objects objects c (Err f) (union_of t bytes handles depth row first count form at c)
    unfolding D.present_envelope
    union_empty b z y =
        rw (kept, a, zero_word bytes (at + 8) 8 (omega arith) (sym q ∙ z), y)
        (did_gave {g = 15} 16 ordinal (λ n u. stopped (fault present_envelope_zero (Byte (at + 8))) [] []) g did_stop (omega arith))

    pub union_member : (envelope ≡ 0 → ⊥)
        → OpensMember (length bytes) handles 16 values values' objects objects c (union_of t bytes handles depth row first count form at c)
        (λ what e. content_of_eight_bytes (message t bytes handles) (W.levels (message t bytes handles) depth) row (ordinal_is what) (at + 8) e.next e.handles) (Ok (Present what d))
    unfolding D.present_envelope
    union_member z =
        rw (kept, a, nonzero_word bytes (at + 8) 8 (omega arith) (λ w. z (q ∙ w)))
        (cc, cc, cc, cc, λ v o r p. did_gave 16 ordinal (λ n u. content_of_eight_bytes (message t bytes handles) (W.levels (message t bytes handles) depth) row (ordinal_is what) (at + 8) n u) g p (omega arith))

pub known_as : (what : Option ℕ) → is_some what ≡ is_known (ordinal_is what)
known_as None = refl
known_as (Some row) = refl

pub member_is : (members : List ℕ) (first count ordinal loaded : ℕ) (what : Option ℕ) → ordinal ≡ loaded → first + count ≤ 1024 → Rising members first count
    → ordinal_is what ≡ halved members ordinal first count → ContentIs members first count loaded what
member_is members first count ordinal loaded what e few rising found t same = rw (← e) (found ∙ halved_content t first count ordinal same few rising)

-- What a union's ordinal stands for is in use.
pub member_fits : {t : TypeTable} {first count : ℕ} → MembersRise t first count → (bytes : List ℕ) (at : ℕ) (r : Result Member Fault) {what : Option ℕ} {d : Cursor}
    → MemberIs bytes t.members first count at r → r ≡ Ok (Present what d) → OrdinalFits t what
member_fits {t} {first} {count} m bytes at r {what} w z =
    let is : ContentIs t.members first count (word bytes at 8) what = rw z at w in
    ordinal_fits m (word bytes at 8) what (is t refl)
