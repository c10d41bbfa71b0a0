-- `write_leaves::scalars::numbers` meets its contract: what was judged together is a run, and any other goes one by one.
use native.Mathlib.Omega.{arith}
use borrow.Author.Rules.{rules}
use Rattle.write_leaves.proofs.InLine.{run_past, bytes_put}
use Rattle.write_leaves.proofs.scalars.numbers.Goals as goal

pub took_all-requires : goal.took_all-requires
took_all-requires c = omega (arith, c.are_within.ensures c.if-are_within.true)

pub returns-then-are_within : goal.returns-then-are_within
returns-then-are_within c =
    let judged = c.are_within.ensures c.if-are_within.true in
    search (rules, run_past, judged.0, judged.1)

pub put_bytes-requires : goal.put_bytes-requires
put_bytes-requires c =
    let judged = c.are_within-then-count-out.ensures c.if-are_within-2.true in
    search (rules, judged.0, judged.1)

pub returns-then-are_within-2 : goal.returns-then-are_within-2
returns-then-are_within-2 c = search (rules, bytes_put)
