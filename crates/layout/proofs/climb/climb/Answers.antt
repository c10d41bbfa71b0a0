-- `layout::climb::climb` meets its contract: zeros past the rows of a sound table, and everywhere after a refusal.
use Rattle.layout.proofs.Climbing.{given_kept}
use Rattle.layout.proofs.climb.climb.Goals as goal

pub returns-else-is_err : goal.returns-else-is_err
returns-else-is_err c =
    let v = c.climb_from-verdict.ensures in
    let given = given_kept v c.if-is_err.ensures.negation c.requires.0 c.requires.1 in
    record { verdict = v.verdict; sizes = given.0; alignments = given.1 }
