-- `unknown_out_of_line` meets its contract: two numbers, then what `raw_words` did.
use native.Mathlib.Omega.{arith}
use borrow.Author.Rules.{rules}
use Rattle.walk_records.proofs.Giving.{ask_gave}
use Rattle.walk_records.proofs.Levels.{too_deep_lem}
use Rattle.walk_records.proofs.Unknown.{raw_out_of_line}
use Rattle.walk_records.proofs.envelopes.unknown_out_of_line.Goals as goal

pub returns-then-depth-eq0 : goal.returns-then-depth-eq0
returns-then-depth-eq0 c = λ t. search (rules, too_deep_lem)

pub gave-second-requires : goal.gave-second-requires
gave-second-requires c =
    let ask = ask_gave 6 c.requires.0 c.gave-first.ensures.1 (omega arith) in
    omega arith

pub raw_words-requires : goal.raw_words-requires
raw_words-requires c =
    (ask_gave 5 (ask_gave 6 c.requires.0 c.gave-first.ensures.1 (omega arith)) c.gave-second.ensures.1 (omega arith), c.requires.1)

pub returns : goal.returns
returns c =
    λ t. raw_out_of_line t _ _ _ _ _ _ _ _ _ c.if-depth-eq0.false c.load-low.ensures c.load-handles.ensures c.gave-first.ensures c.gave-second.ensures c.raw_words.ensures
