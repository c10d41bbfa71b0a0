-- `header::write_header` meets its contract: what it stores are the header's bytes.
use Rattle.std.proofs.Common.{◌≡◌, length, arith}
use Rattle.std.proofs.lemmas.Grind.{common_steps}
use Rattle.rules.specs.Refusals.{accepted}
use Rattle.rules.specs.Header.{write_header, header_bytes}
use Rattle.rules.specs.Bytes.{bytes_of}
use Rattle.header.specs.Meaning.{header_of}
use Rattle.header.proofs.Writing.{stored_lent}
use Rattle.header.proofs.write_header.Goals as goal

pub returns-clause-output : goal.returns-clause-output
unfolding write_header bytes_of
returns-clause-output c =
    let bytes = header_bytes (header_of c.args.header) in
    let written : write_header (header_of c.args.header) (length c.args.out.now) ≡ accepted bytes = grind (arith, common_steps) in
    stored_lent bytes c.args.out.now written (omega arith) c.store_header.ensures
