-- `walk::cycle::run_of_numbers` meets its contract.
use Rattle.walk.proofs.Numbers.{numbers_ask, numbers_done}
use Rattle.walk.proofs.cycle.run_of_numbers.Goals as goal

pub numbers-requires : goal.numbers-requires
numbers-requires c = numbers_ask c.requires.0 c.requires.1 c.a_at-width.ensures _ c.requires.2

pub returns : goal.returns
returns c objects = numbers_done c.requires.0 c.requires.1 c.a_at-width.ensures _ _ _ _ _ _ objects _ _ c.requires.2 c.numbers.ensures
