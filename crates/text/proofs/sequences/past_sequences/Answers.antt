-- `text::sequences::past_sequences` meets its contract.
use mathlib.Core.Path.{sym, ◌∙◌}
use native.Mathlib.Omega.{arith}
use borrow.Author.Tests.{eqb-true}
use Rattle.std.proofs.lemmas.List.{length-map}
use Rattle.text.proofs.Laws.{nothing_passed, both_passed}
use Rattle.text.proofs.Runs.{chunk_passed}
use Rattle.text.proofs.Machine.{reached, passed, later, over_chunk, over_rest}
use Rattle.text.proofs.sequences.past_sequences.Goals as goal

pub loop-eight-init : goal.loop-eight-init
loop-eight-init g c =
    let here = nothing_passed _ _ (omega (arith, length-map c.args.text.now g.T.Item.number)) in
    (here, reached here c.between-state.ensures)

pub loop-eight-preserved-then-are_ascii : goal.loop-eight-preserved-then-are_ascii
loop-eight-preserved-then-are_ascii g c =
    let inv = c.loop-eight.invariant in
    let chunk = c.in-Some.ensures.lookup.0 in
    let between = eqb-true _ _ (sym c.is_between.ensures ∙ c.if-is_between.true) in
    let ascii = chunk_passed g.T.Item.number c.args.text.now 8 chunk.1 chunk.2 (c.are_ascii.ensures c.if-are_ascii.true) (passed inv.1.there between) in
    (later inv.0 inv.1 c.begun_at-begun.ensures, reached (both_passed ascii c.past_more-at.ensures) between)

pub returns-then-is_refused : goal.returns-then-is_refused
returns-then-is_refused g c = later c.loop-eight.invariant.0 c.loop-eight.invariant.1 c.begun_at-begun.ensures

pub loop-eight-preserved : goal.loop-eight-preserved
loop-eight-preserved g c =
    let inv = c.loop-eight.invariant in
    let chunk = c.in-Some.ensures.lookup.0 in
    (later inv.0 inv.1 c.begun_at-begun.ensures, over_chunk g.T.Item.number c.args.text.now 8 chunk.1 chunk.2 inv.1 c.after_all-state.ensures)

pub returns : goal.returns
returns g c =
    let inv = c.loop-eight.invariant in
    later inv.0 (over_rest g.T.Item.number c.args.text.now inv.1 c.after_all.ensures) c.begun_at.ensures
