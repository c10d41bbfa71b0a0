-- `header::write_epitaph` meets its contract: what it stores are the epitaph's bytes.
use Rattle.std.proofs.Common.{◌≡◌, length, slice_index, arith, rules}
use Rattle.std.proofs.lemmas.Grind.{common_steps}
use Rattle.std.proofs.lemmas.Int.{ints}
use Rattle.rules.specs.Refusals.{accepted}
use Rattle.rules.specs.Header.{write_epitaph, epitaph_bytes}
use Rattle.rules.specs.Bytes.{bytes_of, zeros}
use Rattle.header.specs.Meaning.{epitaph_written}
use Rattle.header.proofs.Writing.{stored_lent}
use Rattle.header.proofs.write_epitaph.Goals as goal

pub returns-clause-output : goal.returns-clause-output
unfolding write_epitaph bytes_of zeros
returns-clause-output c =
    let a = c.args in
    let bytes = epitaph_bytes (slice_index a.flags 0) (slice_index a.flags 1) (slice_index a.flags 2) a.status in
    let written : epitaph_written a.flags a.status (length a.out.now) ≡ accepted bytes = grind (arith, common_steps) in
    stored_lent bytes a.out.now written (omega arith) (search (rules, ints))
