-- `unknown_in_line` meets its contract: three numbers, then what `taken` did.
use native.Mathlib.Omega.{arith}
use borrow.Author.Rules.{rules}
use Rattle.walk_records.proofs.Giving.{ask_gave}
use Rattle.walk_records.proofs.Levels.{too_deep_lem}
use Rattle.walk_records.proofs.Unknown.{raw_in_line}
use Rattle.walk_records.proofs.envelopes.unknown_in_line.Goals as goal

pub returns-then-depth-eq0 : goal.returns-then-depth-eq0
returns-then-depth-eq0 c = λ t objects. search (rules, too_deep_lem)

pub gave-second-requires : goal.gave-second-requires
gave-second-requires c =
    let ask = ask_gave 6 c.requires c.gave-first.ensures.1 (omega arith) in
    omega arith

pub gave-third-requires : goal.gave-third-requires
gave-third-requires c =
    let ask = ask_gave 5 (ask_gave 6 c.requires c.gave-first.ensures.1 (omega arith)) c.gave-second.ensures.1 (omega arith) in
    omega arith

pub taken-requires : goal.taken-requires
taken-requires c =
    let ask = ask_gave 4 (ask_gave 5 (ask_gave 6 c.requires c.gave-first.ensures.1 (omega arith)) c.gave-second.ensures.1 (omega arith)) c.gave-third.ensures.1 (omega arith) in
    omega arith

pub returns : goal.returns
returns c =
    λ t objects. raw_in_line t _ _ objects _ _ _ _ c.if-depth-eq0.false c.requires.free c.load-low.ensures c.load-handles.ensures
    c.gave-first.ensures c.gave-second.ensures c.gave-third.ensures c.taken.ensures
