-- `nesting::next_step` meets its contract: a law for each answer, and what the guard says of the level.
use borrow.Author.Rules.{rules}
use Rattle.nesting.proofs.Nested.{level_known, step_impossible, step_fill, step_done, step_out, step_into, step_call}
use Rattle.nesting.proofs.next_step.Goals as goal

pub returns-then-not-possible : goal.returns-then-not-possible
returns-then-not-possible c = search (rules, step_impossible)

pub next_place-requires : goal.next_place-requires
next_place-requires c = level_known c.args.rows.now c.args.members.now c.args.level c.args.place c.if-not-possible.false

pub returns-then-due : goal.returns-then-due
returns-then-due c = search (rules, step_fill)

pub returns-then-around-eq0 : goal.returns-then-around-eq0
returns-then-around-eq0 c = search (rules, step_done)

pub returns-else-around-eq0 : goal.returns-else-around-eq0
returns-else-around-eq0 c = search (rules, step_out)

pub next_part-part-requires : goal.next_part-part-requires
next_part-part-requires c =
    let known = level_known c.args.rows.now c.args.members.now c.args.level c.args.place c.if-not-possible.false in
    (known.0, known.1)

pub returns-then-around-has_parts : goal.returns-then-around-has_parts
returns-then-around-has_parts c = search (rules, step_into)

pub returns : goal.returns
returns c = search (rules, step_call)
