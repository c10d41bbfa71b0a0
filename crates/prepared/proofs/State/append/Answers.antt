-- `prepared::State::append` meets its contract: the climb goes on from the lists cut to the state's counts.
use Rattle.std.specs.Prelude.{Ok, Err}
use mathlib.Core.Path.{◌≡◌, sym}
use native.Mathlib.Omega.{arith}
use Rattle.rules.proofs.Passing.{err_passed}
use Rattle.rules.specs.Refusals.{accepted}
use Rattle.rules.specs.TypeTable.{TypeTable, type_table}
use Rattle.rules.specs.Sound.{soundness}
use Rattle.layout.proofs.Climbing.{climbed_kept}
use Rattle.prepared.specs.declared.State.{State}
use Rattle.prepared.specs.Operations.{cut_state}
use Rattle.prepared.proofs.States.{Standing, cut_standing}
use Rattle.prepared.proofs.Operations.{told_state, append_goes}
use Rattle.prepared.proofs.State.append.Goals as goal

-- What the climb goes on from.
stands : (s : State) (t : TypeTable) {u : State} → u ≡ cut_state s t → Standing t u
stands s t e = rw e (cut_standing s t)

pub overflow_cast-first : goal.overflow_cast-first
overflow_cast-first c = omega (arith, (stands c.args.self _ c.cut-used.ensures).few)

pub climb_from-requires : goal.climb_from-requires
climb_from-requires c = (stands c.args.self _ c.cut-used.ensures).climbing

pub returns-in_err-require_same : goal.returns-in_err-require_same
returns-in_err-require_same c =
    let a = c.args in
    let t = type_table a.rows.now a.members.now a.entries.now in
    rw (err_passed c.from_residual-in_err-require_same.ensures.1)
    (told_state a.self (Err _) (append_goes a.self t (sym c.in_ok-climb_from.ensures.verdict) c.cut-used.ensures c.in_err-require_same.ensures))

pub returns : goal.returns
returns c =
    let a = c.args in
    let t = type_table a.rows.now a.members.now a.entries.now in
    let climbed = c.in_ok-climb_from.ensures in
    let sound : soundness t ≡ accepted tt = sym climbed.verdict in
    let stands = stands a.self t c.cut-used.ensures in
    let kept = climbed_kept climbed sound _ stands.climbing.within stands.size_zeros stands.alignment_zeros in
    told_state a.self (Ok _)
    (rw (c.of-state.ensures, kept.0, kept.1) (append_goes a.self t sound c.cut-used.ensures c.in_ok-require_same.ensures))
