-- `text::sequences::find_broken` meets its contract.
use Rattle.std.specs.Prelude.{if◌then◌else◌}
use mathlib.Core.Path.{◌≡◌, ap, sym, ◌∙◌}
use mathlib.Core.List.{List, map}
use Prim.Native.Nat.{ℕ, ◌+◌, ◌%◌, ◌<◌}
use native.Mathlib.Omega.{arith}
use borrow.Author.Tests.{eqb-true, eqb-false}
use lib.Dec.{eqb}
use lib.ListN.{length, get_or}
use Rattle.std.proofs.lemmas.List.{length-map, get_or-map}
use Rattle.text.specs.Machine.{At, StepsTo}
use Rattle.text.proofs.Laws.{nothing_passed, ends}
use Rattle.text.proofs.Machine.{begun, stepped, passed, refused, cut_off}
use Rattle.text.proofs.sequences.find_broken.Goals as goal

-- One item on, with the place where its sequence starts.
moved :
    {X : Type 0} (f : X → ℕ) (text : List X) {from at start begun word next : ℕ} {item : X} → At (map f text) from at start word →
    begun ≡ (if eqb (word % 64) 0 then at else start) → at < length text → item ≡ get_or text at item → StepsTo word (f item) next →
    At (map f text) from (at + 1) begun next
moved f text {at = at} {item = item} here from inside is steps =
    let number : f item ≡ get_or (map f text) at 0 = ap f is ∙ sym (get_or-map f text at item 0 inside) in
    rw from (stepped here (omega (arith, length-map text f)) (rw number at steps))

pub loop-at-init : goal.loop-at-init
loop-at-init g c = begun (nothing_passed _ _ (omega (arith, length-map c.args.text.now g.T.Item.number))) c.between-state.ensures

pub returns-then-is_refused : goal.returns-then-is_refused
returns-then-is_refused g c =
    refused (moved g.T.Item.number c.args.text.now c.loop-at.invariant c.begun_at-start.ensures c.loop-at-test.true c.index-text-at.is c.after-state.ensures)
    (eqb-true _ _ (sym c.is_refused.ensures ∙ c.if-is_refused.true))

pub loop-at-preserved : goal.loop-at-preserved
loop-at-preserved g c =
    moved g.T.Item.number c.args.text.now c.loop-at.invariant c.begun_at-start.ensures c.loop-at-test.true c.index-text-at.is c.after-state.ensures

pub returns-then-is_between : goal.returns-then-is_between
returns-then-is_between g c =
    sym ((passed c.loop-at.invariant (eqb-true _ _ (sym c.is_between.ensures ∙ c.if-is_between.true))).alike ∙ ends _ c.loop-at.at (omega (arith, length-map c.args.text.now g.T.Item.number)))

pub returns : goal.returns
returns g c = cut_off c.loop-at.invariant (eqb-false _ _ (sym c.is_between.ensures ∙ c.if-is_between.false)) (omega (arith, length-map c.args.text.now g.T.Item.number))
