-- `demands::round_trip` meets its contract: the checker's refusal, 22 of what is lent, or what was read, written and compared.
use native.Mathlib.Omega.{arith}
use Rattle.rules.proofs.Passing.{err_passed}
use Rattle.demands.proofs.Trips.{octets, passed, read_starts, read_written, trip_unchecked, trip_short, trip_unread, trip_back}
use Rattle.demands.proofs.round_trip.Goals as goal

pub returns-in_err-check : goal.returns-in_err-check
returns-in_err-check c =
    rw (err_passed c.from_residual.ensures.1) (trip_unchecked _ _ _ _ _ _ c.check.result c.check.ensures.answer c.in_err-check.was)

pub needed-count-requires : goal.needed-count-requires
needed-count-requires c =
    passed _ _ _ _ _ _ c.check.result c.check.ensures.answer c.in_ok-check.was

pub returns-then-out-message : goal.returns-then-out-message
returns-then-out-message c =
    rw c.at.ensures
    (trip_short _ _ _ _ _ _ c.check.result c.check.ensures.answer c.in_ok-check.was
    (octets c.args.message.now (λ i. omega (arith, c.shared_slice_known-4-1.given i))) (omega arith) c.needed-count.ensures)

pub slice_bounds-back-end : goal.slice_bounds-back-end
slice_bounds-back-end c =
    (read_starts _ _ _ _ _ _ c.check.result c.check.ensures.answer c.in_ok-check.was c.args.values.now _ _ c.read_values.ensures.answer c.read_values.ensures.list c.in_ok-count.was).within

pub slice_bounds-back-end-2 : goal.slice_bounds-back-end-2
slice_bounds-back-end-2 c =
    (read_starts _ _ _ _ _ _ c.check.result c.check.ensures.answer c.in_ok-check.was c.args.values.now _ _ c.read_values.ensures.answer c.read_values.ensures.list c.in_ok-count.was).long

pub back-requires : goal.back-requires
back-requires c = (
  read_written _ _ _ _ _ _ c.check.result c.check.ensures.answer c.in_ok-check.was c.args.values.now _ _ c.read_values.ensures.answer c.read_values.ensures.list
      (octets c.args.message.now (λ i. omega (arith, c.shared_slice_known-4-1.given i))) c.in_ok-count.was,
  omega arith,
)

pub returns-in_err-count : goal.returns-in_err-count
returns-in_err-count c =
    rw (err_passed c.from_residual-in_err-count.ensures.1)
    (trip_unread _ _ _ _ _ _ c.check.result c.check.ensures.answer c.in_ok-check.was c.args.values.now _ _ c.read_values.ensures.answer c.read_values.ensures.list c.in_err-count.was)

pub returns : goal.returns
returns c =
    trip_back _ _ _ _ _ _ c.check.result c.check.ensures.answer c.in_ok-check.was c.args.values.now _ _ c.read_values.ensures.answer c.read_values.ensures.list c.args.out.now _
    (octets c.args.message.now (λ i. omega (arith, c.shared_slice_known-4-1.given i))) (omega arith) c.in_ok-count.was c.back.ensures
