-- Writing, as an algebra of parts: a part of the writer is lent the output, and puts its bytes in line at a place of it.
-- Assumes nothing.
use Rattle.std.specs.Prelude.{Err, Ok}
use mathlib.Core.List.{List, [], ◌∷◌}
use mathlib.Core.Path.{◌≡◌, refl, sym, fun_ext}
use Prim.Native.Nat.{ℕ, ◌+◌}
use native.Mathlib.Omega.{arith}
use Rattle.rules.specs.declared.Layout.{Layout}
use Rattle.rules.specs.Bytes.{zeros}
use Rattle.rules.specs.Sizes.{Field, field}
use Rattle.rules.specs.Encode as E
use Rattle.rules.specs.Encode.{Encoder}
use Rattle.rules.specs.Writer as R
use Rattle.nesting.proofs.Algebra.{Grouping, Algebra, Leading, Doing}
use Rattle.nesting.proofs.Items.{items_of}
use Rattle.nesting.proofs.Work.{run}
use Rattle.write_leaves.specs.declared.cursor.Cursor.{Cursor}
use Rattle.write_leaves.specs.Putting.{Wrote, Puts, Ask}
use Rattle.write_leaves.specs.Planning.{PutAsked}
use Rattle.write_leaves.proofs.InLine.{nothing_put}
use Rattle.write_leaves.proofs.Leading.{ask_stands, ask_rest}
use Rattle.write_leaves.proofs.Results.{after_none, then_nothing, then_then}
use Rattle.write_leaves.proofs.Together.{put_then, put_halt}

-- ---- the rules' parts

encoders_same : {p q : Encoder} → ((numbers : List ℕ) (next used : ℕ) → p numbers next used ≡ q numbers next used) → p ≡ q
encoders_same e = fun_ext (λ ns. fun_ext (λ n. fun_ext (λ u. e ns n u)))

pub encoders_grouped : Grouping Encoder E.nothing E.fill (λ size. E.sequence) (λ size. E.elements)
unfolding E.inline_bytes E.sequence E.elements zeros
encoders_grouped = record {
  no_fill = refl;
  nothing_first = λ p. encoders_same (λ ns n u. after_none (p ns n u));
  nothing_last = λ size p. encoders_same (λ ns n u. then_nothing (p ns n u));
  grouped = λ a b p q r. encoders_same (λ ns n u. sym (then_then (p ns n u) q r));
  no_elements = λ size parts i. refl;
  next_element = λ size parts i count. refl;
}

abbrev pub encoders : Algebra
encoders = record { Part = Encoder; nothing = E.nothing; fill = E.fill; sequence = λ size. E.sequence; elements = λ size. E.elements; laws = encoders_grouped }

-- A struct's fields, in order; their sizes are all one.
pub run_fields : (layouts : ℕ → Layout) (inner : ℕ → Encoder) (fs : List Field) → R.fields inner fs ≡ run encoders layouts inner (items_of fs)
unfolding R.fields run items_of
run_fields layouts inner [] = refl
run_fields layouts inner (field row fill ∷ fs) = rw (run_fields layouts inner fs)

-- ---- putting them

abbrev pub PutPart : (values : List ℕ) (base size place : ℕ) (out out' : List ℕ) → Cursor → Wrote → Encoder → Type 0
PutPart values base size place out out' c r p = Puts values out out' size place base c r p

pub put_leads : (values : List ℕ) (base : ℕ) → Leading encoders Cursor (List ℕ) Wrote Ok Err (λ size place c. Ask values size place base c) (PutPart values base)
unfolding E.sequence
put_leads values base = record {
  ask_first = λ first rest a. record { inside = omega (arith, a.inside); free = a.free; held = a.held; left = a.left };
  ask_rest = λ first rest place p a put. ask_rest put rest a.inside;
  did_nothing = λ a. nothing_put (ask_stands a) base;
  did_then = λ first rest place p q a put later. put_then q put later a.inside;
  did_halt = λ first rest place p q put. put_halt (first + rest) q put;
}

abbrev pub writing : (values : List ℕ) (base : ℕ) → Doing encoders
writing values base = record { Cursor = Cursor; Lent = List ℕ; Answer = Wrote; on = Ok; refused = Err; Ask = λ size place c. Ask values size place base c; Did = PutPart values base; laws = put_leads values base }

-- ---- at any place of a message that they are asked for at

abbrev pub PutAny : (values : List ℕ) (size place : ℕ) (out out' : List ℕ) → Cursor → Wrote → Encoder → Type 0
PutAny values size place out out' c r p = PutAsked values out out' size place c r p

pub any_leads : (values : List ℕ) → Leading encoders Cursor (List ℕ) Wrote Ok Err (λ size place c. Ask values size place 0 c) (PutAny values)
any_leads values = record {
  ask_first = λ first rest a. (put_leads values 0).ask_first first rest a;
  ask_rest = λ first rest place p a put. (put_leads values 0).ask_rest first rest place p a (put 0 ((put_leads values 0).ask_first first rest a));
  did_nothing = λ a base asked. (put_leads values base).did_nothing asked;
  did_then = λ first rest place p q a put later base asked.
      let done = put base ((put_leads values base).ask_first first rest asked) in
      (put_leads values base).did_then first rest place p q asked done (later base ((put_leads values base).ask_rest first rest place p asked done));
  did_halt = λ first rest place p q put base asked. (put_leads values base).did_halt first rest place p q (put base ((put_leads values base).ask_first first rest asked));
}

abbrev pub writing_any : (values : List ℕ) → Doing encoders
writing_any values = record { Cursor = Cursor; Lent = List ℕ; Answer = Wrote; on = Ok; refused = Err; Ask = λ size place c. Ask values size place 0 c; Did = PutAny values; laws = any_leads values }
