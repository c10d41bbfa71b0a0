-- `reader::with_state::check_prepared` meets its contract: 1, 34 and the other tests before the walk, then the walk.
use Rattle.rules.proofs.Passing.{err_passed}
use Rattle.reader.proofs.WithState.{state_refused, state_walkable, state_walk_refused, state_accepted}
use Rattle.reader.proofs.with_state.check_prepared.Goals as goal

pub returns-in_err-before : goal.returns-in_err-before
returns-in_err-before c =
    rw (err_passed c.from_residual.ensures.1) (state_refused _ _ _ _ _ _ _ c.agreement-agreed.ensures.answer c.before-2.ensures c.in_err-before.was)

pub pass-requires : goal.pass-requires
pass-requires c = state_walkable _ _ _ _ _ _ _ c.agreement-agreed.ensures.answer c.before-2.ensures c.in_ok-before.was

pub returns-in_err-pass : goal.returns-in_err-pass
returns-in_err-pass c =
    rw (err_passed c.from_residual-in_err-pass.ensures.1)
    (state_walk_refused _ _ _ _ _ _ _ c.agreement-agreed.ensures.answer c.before-2.ensures c.in_ok-before.was c.pass.ensures c.in_err-pass.was)

pub returns : goal.returns
returns c =
    state_accepted _ _ _ _ _ _ _ c.agreement-agreed.ensures.answer c.before-2.ensures c.in_ok-before.was c.pass.ensures c.in_ok-pass.was
