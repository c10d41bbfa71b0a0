-- `object_of_numbers` meets its contract: the numbers are put in the rest of the output from the object's offset on, and then the fill.
use mathlib.Core.Path.{refl}
use native.Mathlib.Omega.{arith}
use Rattle.write_leaves.specs.InLine.{numbers_as}
use Rattle.write_records.proofs.Objects.{object_few, object_written}
use Rattle.write_records.proofs.records.object_of_numbers.Goals as goal

pub numbers-wrote-requires : goal.numbers-wrote-requires
numbers-wrote-requires c =
    (c.requires.0, c.requires.1.stands, omega (arith, object_few _ _ c.requires.1))

pub overflow_mul-x : goal.overflow_mul-x
overflow_mul-x c =
    record { fits = omega (arith, object_few _ _ c.requires.1) }

pub fill_up-requires : goal.fill_up-requires
fill_up-requires c =
    object_few _ _ c.requires.1

pub returns : goal.returns
returns c =
    let x = c.args.x in
    object_written _ c.args.out.now _ _ _ x (numbers_as c.args.width x.count) c.requires.1 (c.numbers-wrote.ensures x.start) c.rest_from-from.ensures refl c.fill_up.ensures refl
