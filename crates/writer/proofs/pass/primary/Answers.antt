-- `writer::pass::primary` meets its contract: the root's value, and then its fill.
use borrow.Author.Rules.{rules}
use Rattle.rules.proofs.Passing.{err_passed}
use Rattle.writer.proofs.Passes.{root_asked, fill_asked, primary_refused, primary_put}
use Rattle.writer.proofs.pass.primary.Goals as goal

pub value-requires : goal.value-requires
value-requires c =
    root_asked c.requires c.item_at-size.ensures c.padded-next.ensures _

pub fill_up-requires : goal.fill_up-requires
fill_up-requires c = search (rules, fill_asked)

pub returns-in_err-end : goal.returns-in_err-end
returns-in_err-end c = rw (err_passed c.from_residual.ensures.1) (search (rules, primary_refused, c.in_err-end.was))

pub returns : goal.returns
returns c = search (rules, primary_put, c.in_ok-end.was)
