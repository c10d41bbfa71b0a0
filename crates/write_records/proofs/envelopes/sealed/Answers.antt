-- `sealed` meets its contract: in line, the fill and two stores; out of line, the envelope.
use borrow.Author.Rules.{rules}
use Rattle.write_records.proofs.Sealing.{in_line_sealed, out_of_line_sealed}
use Rattle.write_records.proofs.envelopes.sealed.Goals as goal

pub returns-then-size-le4 : goal.returns-then-size-le4
returns-then-size-le4 c = search (rules, in_line_sealed)

pub returns : goal.returns
returns c = search (rules, out_of_line_sealed)
