-- `walk_leaves::planned::one_width` meets its contract. The loop's invariant: the parts passed are of the first one's width, without fill.
use Rattle.std.proofs.Common.{◌≡◌, ◌<◌, ℕ}
use Rattle.rules.specs.Sizes.{field}
use Rattle.plans.specs.Plans.{no_part, width_row, part_field}
use lib.ListN.{get_or}
use Rattle.walk_leaves.proofs.planned.one_width.Given as goal

abbrev pub invariant-loop-p : goal.invariant-loop-p
invariant-loop-p l = (k : ℕ) → k < l.p-index → part_field (get_or l.parts k no_part) ≡ field (width_row l.first.width) 0
