-- `put_envelope` meets its contract: three stores, one after the other.
use borrow.Author.Rules.{rules}
use Rattle.write_records.proofs.Sealing.{envelope_stored}
use Rattle.write_records.proofs.envelopes.put_envelope.Goals as goal

pub returns : goal.returns
returns c = search (rules, envelope_stored)
