-- `nesting::next_place` meets its contract: a law for each answer.
use borrow.Author.Rules.{rules}
use Rattle.nesting.proofs.Nested.{place_element, place_member}
use Rattle.nesting.proofs.next_place.Goals as goal

pub returns-then-kind_at-eq4 : goal.returns-then-kind_at-eq4
returns-then-kind_at-eq4 c = search (rules, place_element)

pub returns : goal.returns
returns c = search (rules, place_member)
