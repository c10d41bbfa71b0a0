-- A union's number, and what it leads to.
-- Assumes nothing.
use Rattle.std.specs.Prelude.{if◌then◌else◌, Err, Ok, Option, Some, None}
use Rattle.std.specs.Option.{is_some}
use mathlib.Core.Path.{◌≡◌, refl, sym, ap, ◌∙◌}
use mathlib.Core.Bool.{Bool, true, false, ◌||◌}
use mathlib.Core.List.{List, ◌++◌}
use Prim.Native.Nat.{ℕ, zero, suc, ◌+◌, ◌/◌, ◌%◌, ◌≤◌, ◌<◌}
use native.Mathlib.Omega.{arith}
use mir.Syntax.{w64}
use mir.Val.{Fits}
use borrow.Author.Tests.{eq-eqb, ne_eqb, lt-ltb, leb-true, leb-false}
use lib.Dec.{leb, ltb, eqb}
use lib.ListN.{length, get_or}
use lib.Seq.{sets}
use Rattle.rules.specs.declared.Fault.{Fault}
use Rattle.rules.specs.declared.Place.TheVariants.{Index}
use Rattle.rules.specs.Refusals.{fault, not_a_value, ordinal_unknown}
use Rattle.rules.specs.Bytes.{bytes_of, zeros}
use Rattle.rules.specs.TypeTable.{TypeTable, Content, content_of}
use Rattle.rules.specs.Encode as E
use Rattle.rules.specs.Encode.{Encoded, wrote, cannot, Encoder, WriteRecord, put, unfit}
use Rattle.rules.specs.Records.{is_known, unless, write_if, ordinal_pattern, write_number}
use Rattle.rules.specs.Envelope.{encode_content, write_content_of_eight_bytes}
use Rattle.rules.specs.Writer as R
use Rattle.ordinals.specs.Ordinals.{ordinal_is, ContentIs}
use Rattle.rules.proofs.Edition.{envelope_size_lem, content_written}
use Rattle.words.proofs.Stores.{sets_append, length_bytes_of}
use Rattle.write_leaves.specs.declared.cursor.Cursor.{Cursor}
use Rattle.write_records.specs.declared.envelopes.Member.TheVariants.{Absent, Present}
use Rattle.write_leaves.specs.Putting.{Puts, took_one, Stands}
use Rattle.write_records.specs.Promises.{UnionOpens}
use Rattle.write_leaves.proofs.InLine.{put_in_line, record_at, record_ended, record_unfit, took_stands}
use Rattle.write_leaves.proofs.Together.{put_then}

-- What is written of a number.
abbrev union_record : (content : ℕ → Content) (form : ℕ) → ℕ → WriteRecord
union_record content form = write_number 8 (ordinal_pattern content (eqb (form % 2) 1) (eqb (form / 2) 1))

module _ (members values out : List ℕ) (at : ℕ) (c : Cursor) (first count form : ℕ) (s : Stands values c) where
  pub union_ended : {f : Fault} → length values ≤ c.index → f ≡ fault not_a_value (Index c.index) → UnionOpens members values out out at c first count form (Err f)
  union_ended h e t depth base edition same ask =
      rw e (record_ended (union_record (content_of t first count) form) (R.after_union t (R.levels t depth) (content_of t first count)) s.left h base)

  module _ {v : ℕ} (h : c.index < length values) (read : v ≡ get_or values c.index 0) where
    unfit_bad : {f : Fault} → ((t : TypeTable) → t.members ≡ members → union_record (content_of t first count) form v ≡ unfit) → f ≡ fault not_a_value (Index c.index)
        → UnionOpens members values out out at c first count form (Err f)
    unfit_bad w e t depth base edition same ask =
        rw e (record_unfit (union_record (content_of t first count) form) (R.after_union t (R.levels t depth) (content_of t first count)) v h read (w t same) base)

    -- ---- without a member

    module _ (z : v ≡ 0) where
      pub union_required : {f : Fault} → form % 2 ≡ 0 → f ≡ fault not_a_value (Index c.index) → UnionOpens members values out out at c first count form (Err f)
      unfolding write_number
      union_required o e = unfit_bad (λ t same. rw (z, ne_eqb (form % 2) 1 (λ q. omega arith))) e

      pub union_absent : {half whole : List ℕ} {d : Cursor} → (form % 2 ≡ 0 → ⊥) → half ≡ sets out at (bytes_of 8 0) → whole ≡ sets half (at + 8) (bytes_of 8 0) → d ≡ took_one c
          → UnionOpens members values out whole at c first count form (Ok (Absent d))
      unfolding write_number zeros bytes_of E.inline_bytes
      union_absent {half} {whole} o p q e t depth base edition same ask =
          let number : 0 ≡ get_or values c.index 0 = sym z ∙ read in
          let place : at + length (bytes_of 8 0) ≡ at + 8 = ap (λ (n : ℕ). at + n) (length_bytes_of 8 0) in
          let stored : whole ≡ sets out at (bytes_of 8 0 ++ zeros 8) = q ∙ rw (p, ← place) (sets_append out at (bytes_of 8 0) (zeros 8)) in
          rw (e, record_at (union_record (content_of t first count) form) (R.after_union t (R.levels t depth) (content_of t first count)) values c.index c.next c.handles h, ← number, eq-eqb (form % 2) 1 (omega (arith, o)), envelope_size_lem edition)
          (put_in_line (took_one c) (bytes_of 8 0 ++ zeros 8) refl stored (took_stands s h) refl (omega arith) (omega arith))

    -- ---- with a member

    module _ (fits : Fits w64 v) (n : v ≡ 0 → ⊥) (small : form ≤ 3) (what : Option ℕ) (known : Bool) (k : known ≡ is_some what)
        (is : ContentIs members first count v what) where
      known_some : (what : Option ℕ) → is_some what ≡ is_known (ordinal_is what)
      known_some (Some row) = refl
      known_some None = refl

      -- A flexible union takes any ordinal.
      accepts : (form : ℕ) (known : Bool) → form ≤ 3 → (if eqb (form / 2) 1 then true else known) ≡ (leb 2 form || known)
      accepts form known h = go (leb 2 form) refl
        where
          go : (b : Bool) → leb 2 form ≡ b → (if eqb (form / 2) 1 then true else known) ≡ (b || known)
          go true q = let l : 2 ≤ form = leb-true 2 form q in rw (eq-eqb (form / 2) 1 (omega arith))
          go false q = let l : form < 2 = leb-false 2 form q in rw (ne_eqb (form / 2) 1 (λ e. omega arith))

      judged : (content : ℕ → Content) (optional flexible : Bool) (v : ℕ) → (v ≡ 0 → ⊥) → v < 18446744073709551616
          → write_number 8 (ordinal_pattern content optional flexible) v ≡ write_if (unless ordinal_unknown (if flexible then true else is_known (content v))) (put (bytes_of 8 v))
      unfolding write_number
      judged content optional flexible zero z l = absurd (z refl)
      judged content optional flexible (suc v) z l = let p : ltb (suc v) 18446744073709551616 ≡ true = lt-ltb (suc v) 18446744073709551616 l in rw p

      written : (t : TypeTable) → t.members ≡ members → union_record (content_of t first count) form v ≡ write_if (unless ordinal_unknown (leb 2 form || known)) (put (bytes_of 8 v))
      written t same = judged (content_of t first count) (eqb (form % 2) 1) (eqb (form / 2) 1) v n fits.fits ∙ rw (← (is t same), ← (known_some what), ← k, accepts form known small)

      pub union_unknown : {f : Fault} → leb 2 form || known ≡ false → f ≡ fault not_a_value (Index c.index) → UnionOpens members values out out at c first count form (Err f)
      union_unknown a e = unfit_bad (λ t same. written t same ∙ rw a) e

      -- The envelope follows the ordinal.
      after_ordinal : (content : ℕ → Content) (t : TypeTable) (below : E.Deeper) (v : ℕ) → (v ≡ 0 → ⊥) → R.after_union t below content v ≡ encode_content t.edition t below (content v)
      after_ordinal content t below zero z = absurd (z refl)
      after_ordinal content t below (suc v) z = refl

      pub union_member : {out' : List ℕ} {d : Cursor} → leb 2 form || known ≡ true → out' ≡ sets out at (bytes_of 8 v) → d ≡ took_one c
          → UnionOpens members values out out' at c first count form (Ok (Present what d))
      union_member {out'} {d} a stored e t depth base edition same ask =
          let below = R.levels t depth in (
            e,
            h,
            λ out'' r p.
                let q : Puts values out' out'' 8 (at + 8) base (took_one c) r (write_content_of_eight_bytes t below (ordinal_is what)) = rw e at p in
                rw (
                  record_at (union_record (content_of t first count) form) (R.after_union t below (content_of t first count)) values c.index c.next c.handles h,
                  ← read,
                  written t same,
                  a,
                  after_ordinal (content_of t first count) t below v n,
                  content_written edition,
                  ← (is t same),
                )
                (put_then (write_content_of_eight_bytes t below (ordinal_is what))
                (put_in_line {base = base} {c = c} (took_one c) (bytes_of 8 v) (length_bytes_of 8 v) stored (took_stands s h) refl (omega arith) (omega arith)) q (omega (arith, ask.inside))),
          )
