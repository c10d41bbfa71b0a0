-- `writer::pass::measure` meets its contract: 1, 2, and a pass that stores nothing.
use borrow.Author.Rules.{rules}
use Rattle.rules.proofs.Passing.{err_passed}
use Rattle.writer.proofs.Lent.{table_refused, root_refused, root_ready, measured}
use Rattle.writer.proofs.pass.measure.Goals as goal

pub returns-in_err-climb : goal.returns-in_err-climb
returns-in_err-climb c =
    let f = err_passed c.from_residual.ensures.1 in
    record {
      answer = rw f (table_refused _ _ _ _ _ _ c.climb.ensures.verdict c.in_err-climb.was);
      sizes = c.climb.ensures.sizes;
      alignments = c.climb.ensures.alignments;
    }

pub returns-then-not-root_allowed : goal.returns-then-not-root_allowed
returns-then-not-root_allowed c = search (rules, root_refused, c.in_ok-climb.was)

pub pass-requires : goal.pass-requires
pass-requires c =
    let a = c.args in
    root_ready _ _ _ a.values.now _ _ c.climb.ensures.verdict c.in_ok-climb.was
    c.root_allowed.ensures c.if-not-root_allowed.false _ _ c.climb.ensures.sizes c.climb.ensures.alignments

pub returns : goal.returns
returns c = search (rules, measured, c.in_ok-climb.was)
