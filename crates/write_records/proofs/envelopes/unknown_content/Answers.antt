-- `unknown_content` meets its contract: a law for each way that it ends.
use native.Mathlib.Omega.{arith}
use borrow.Author.Rules.{rules}
use Rattle.write_records.proofs.UnknownContent.{ask_some, content_stands, content_ask, content_deep, content_ended, content_odd, content_large, content_in_line, content_outside}
use Rattle.write_records.proofs.envelopes.unknown_content.Goals as goal

pub returns-then-depth-eq0 : goal.returns-then-depth-eq0
returns-then-depth-eq0 c = search (rules, content_deep)

pub returns-then-values-c : goal.returns-then-values-c
returns-then-values-c c = search (rules, content_ended)

pub returns-then-bytes-ne0 : goal.returns-then-bytes-ne0
returns-then-bytes-ne0 c = search (rules, content_odd)

pub returns-then-bytes-gt4294967295 : goal.returns-then-bytes-gt4294967295
returns-then-bytes-gt4294967295 c = search (rules, content_large)

pub unknown_in_line-requires : goal.unknown_in_line-requires
unknown_in_line-requires c = (search (rules, content_stands), omega arith)

pub returns-then-bytes-eq0 : goal.returns-then-bytes-eq0
returns-then-bytes-eq0 c = search (rules, content_in_line)

pub unknown_out_of_line-requires : goal.unknown_out_of_line-requires
unknown_out_of_line-requires c = (search (rules, content_ask), search (rules, ask_some), search rules, search rules)

pub returns : goal.returns
returns c = search (rules, content_outside)
