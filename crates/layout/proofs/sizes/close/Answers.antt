-- `layout::sizes::close` meets its contract. Rounding up asks for an alignment that types have; to which one, only the result tells.
use borrow.Author.Rules.{rules}
use Rattle.layout.specs.Running.{one, two, four, eight}
use Rattle.layout.proofs.sizes.close.Goals as goal

pub round_up-requires : goal.round_up-requires
round_up-requires c = search (rules, one, two, four, eight)
