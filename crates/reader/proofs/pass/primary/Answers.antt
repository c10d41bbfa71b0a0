-- `reader::pass::primary` meets its contract: the claim, and then the root's value.
use borrow.Author.Rules.{rules}
use Rattle.rules.proofs.Passing.{err_passed}
use Rattle.reader.proofs.Passes.{claim_asked, root_asked, primary_refused, primary_walked}
use Rattle.reader.proofs.pass.primary.Goals as goal

pub claim-requires : goal.claim-requires
claim-requires c = claim_asked c.requires c.item_at-size.ensures

pub value-requires : goal.value-requires
value-requires c =
    root_asked c.requires c.item_at-size.ensures c.claim.ensures c.in_ok-c.was

pub returns-in_err-c : goal.returns-in_err-c
returns-in_err-c c = rw (err_passed c.from_residual.ensures.1) (search (rules, primary_refused, c.in_err-c.was))

pub returns : goal.returns
returns c = search (rules, primary_walked, c.in_ok-c.was)
