-- The six functions of cycle.rt that call each other meet their contracts. For each function: what its callees promise, its
-- loop's invariant and measure, and an answer to each need that `search rules` does not find; those that it finds stand at the
-- end, where all is put together, but for some that would take the last declaration past antt's limit of steps.
--
-- What falls at each call: 1,048,576 times the depth left, plus four times the row, plus the elements or envelopes left. What is
-- added last keeps functions apart that call each other on one row and one depth.
use mathlib.Core.Path.{◌≡◌}
use Prim.Native.Nat.{◌+◌, ◌-◌, ◌*◌, ◌≤◌}
use lib.ListN.{length}
use Rattle.layout.specs.Ready.{table_in}
use Rattle.rules.specs.Sizes.{size_of}
use Rattle.rules.specs.Decode as D
use Rattle.layout.specs.Ready.{Ready}
use Rattle.nesting.proofs.Runs.{RunLeft}
use Rattle.nesting.proofs.Steps.{fuel}
use Rattle.walk.specs.Walking.{walk_row}
use Rattle.walk_leaves.specs.Doing.{message}
use Rattle.walk_leaves.proofs.Reading.{reading}
use Rattle.walk.proofs.TableEnvelopes.{EnvelopesLeft}
use Rattle.walk.proofs.Turns.{Walking}
use Rattle.walk.proofs.cycle.+composite_content_elements_envelopes_out_of_line_value.Given as goal

abbrev pub decreases-composite : goal.decreases-composite
decreases-composite l = l.depth * 1048576 + 4 * l.row + 1

abbrev pub decreases-content : goal.decreases-content
decreases-content l = l.depth * 1048576

abbrev pub decreases-elements : goal.decreases-elements
decreases-elements l = l.depth * 1048576 + 4 * l.row + 3 + l.count

abbrev pub decreases-envelopes : goal.decreases-envelopes
decreases-envelopes l = l.depth * 1048576 + 1 + l.count

abbrev pub decreases-out_of_line : goal.decreases-out_of_line
decreases-out_of_line l = l.depth * 1048576 + 4 * l.row + 1

abbrev pub decreases-value : goal.decreases-value
decreases-value l = l.depth * 1048576 + 4 * l.row + 2

abbrev pub invariant-composite-loop-next : goal.invariant-composite-loop-next
invariant-composite-loop-next l = Ready (table_in l.laid) l.laid.sizes.now l.laid.alignments.now l.depth l.row × Walking (table_in l.laid) l.bytes l.held l.depth l.row l.at l.initial.values l.initial.objects l.initial.d (record { row = 0; done = 0; at = 0 }) l.laid.alignments.now l.values l.objects l.kept l.around l.level l.due l.place l.d

abbrev pub decreases-composite-loop-next : goal.decreases-composite-loop-next
decreases-composite-loop-next l = fuel l.laid.rows.now l.level l.due l.place l.around

abbrev pub invariant-elements-loop : goal.invariant-elements-loop
invariant-elements-loop l = RunLeft (reading (message (table_in l.laid) l.bytes l.held)) (size_of (table_in l.laid) l.row) (λ k. walk_row (table_in l.laid) l.bytes l.held l.depth l.row) (l.count * size_of (table_in l.laid) l.row) l.at
    (D.elements (size_of (table_in l.laid) l.row) (λ k. walk_row (table_in l.laid) l.bytes l.held l.depth l.row) 0 l.count) (l.initial.values, l.initial.objects) l.initial.d (l.values, l.objects) l.d 0 (l.count - l.counter) l.place
    × (length l.values ≡ length l.initial.values) × (length l.objects ≡ length l.initial.objects)

abbrev pub invariant-envelopes-loop-i : goal.invariant-envelopes-loop-i
invariant-envelopes-loop-i l = EnvelopesLeft (table_in l.laid) l.bytes l.held l.depth l.row l.count l.at l.initial.values l.values l.initial.objects l.objects l.initial.d l.d l.i × (l.i ≤ l.count)
    × (length l.values ≡ length l.initial.values) × (length l.objects ≡ length l.initial.objects)
