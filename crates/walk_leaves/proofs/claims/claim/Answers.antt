-- `walk_leaves::claims::claim` meets its contract: a law for each way that it ends.
use native.Mathlib.Omega.{arith}
use borrow.Author.Rules.{rules}
use Rattle.rules.proofs.Bytes.{padded_above}
use Rattle.words.proofs.Padding.{padded_fits}
use Rattle.walk_leaves.proofs.Objects.{claim_unfit, claim_unfilled, claim_given}
use Rattle.walk_leaves.proofs.claims.claim.Goals as goal

pub returns-then-bytes-next : goal.returns-then-bytes-next
returns-then-bytes-next c = search (rules, claim_unfit, padded_fits)

pub returns-then-zeros-fill : goal.returns-then-zeros-fill
returns-then-zeros-fill c = search (rules, claim_unfilled, padded_fits)

pub overflow_sub-fill : goal.overflow_sub-fill
overflow_sub-fill c =
    let whole = padded_fits c.requires.4 c.padded-whole.ensures in
    omega (arith, padded_above c.args.size)

pub overflow_cast-size : goal.overflow_cast-size
overflow_cast-size c =
    let whole = padded_fits c.requires.4 c.padded-whole.ensures in
    record { fits = omega (arith, padded_above c.args.size) }

pub returns : goal.returns
returns c =
    claim_given _ _ _ _ _ _ (padded_fits c.requires.4 c.padded-whole.ensures) c.if-bytes-next.false c.zeros_from-zeros.ensures c.if-zeros-fill.false c.put_object.ensures
