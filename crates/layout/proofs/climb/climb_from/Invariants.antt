-- `layout::climb::climb_from` meets its contract: a turn judges one row and keeps its layout.
use Rattle.rules.specs.TypeTable.{type_table}
use Rattle.layout.proofs.Climbing.{Going}
use Rattle.layout.proofs.climb.climb_from.Given as goal

abbrev pub invariant-loop-row : goal.invariant-loop-row
invariant-loop-row l =
    Going (type_table l.rows l.members l.entries) l.row l.initial.sizes l.initial.alignments l.sizes l.alignments
