-- `write_leaves::scalars::are_within` meets its contract: a number is never above the largest of 8 bytes.
use mathlib.Core.Bool.{false≢true}
use Prim.Native.Nat.{◌+◌}
use native.Mathlib.Omega.{arith}
use borrow.Author.Tests.{leb-true}
use Rattle.write_leaves.proofs.InLine.{bits_within}
use Rattle.write_leaves.proofs.scalars.are_within.Goals as goal

pub returns-then-values-from : goal.returns-then-values-from
returns-then-values-from c e = absurd (false≢true e)

pub returns-then-most-eq18446744073709551615 : goal.returns-then-most-eq18446744073709551615
returns-then-most-eq18446744073709551615 c e =
    (omega arith, record { each = λ i k. omega (arith, c.shared_slice_known-1.given (c.args.from + i)) })

pub returns : goal.returns
returns c e = (omega arith, bits_within (omega arith) c.bits_of.ensures (leb-true _ _ e))
