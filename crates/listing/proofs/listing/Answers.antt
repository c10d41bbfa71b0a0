-- `listing::listing` meets its contract: the reader answers what the rules answer, and the lists stand where they were lent.
use Rattle.std.proofs.Common.{arith}
use Rattle.listing.proofs.Answered.{listed, parts, too_long, listing_refused, listing_accepted}
use Rattle.listing.proofs.listing.Goals as goal

pub returns-then-message-gt-LONGEST : goal.returns-then-message-gt-LONGEST
returns-then-message-gt-LONGEST c = too_long _ (omega arith) (rw c.at-too_long.ensures at c.put_refusal.ensures)

pub slice_bounds-objects-end : goal.slice_bounds-objects-end
slice_bounds-objects-end c =
    let e = c.in-Ok.ensures in
    (listed _ _ _ e.answer e.values e.objects).objects_within

pub slice_bounds-values-end : goal.slice_bounds-values-end
slice_bounds-values-end c =
    let e = c.in-Ok.ensures in
    (listed _ _ _ e.answer e.values e.objects).values_within

pub put_lists-requires : goal.put_lists-requires
put_lists-requires c =
    let e = c.in-Ok.ensures in
    let p = parts (listed _ _ _ e.answer e.values e.objects) (omega arith) (omega arith) in
    omega (arith, p.objects, p.values, p.few_objects, p.few_values, c.put_head-next.ensures.within)

pub returns-in-Err : goal.returns-in-Err
returns-in-Err c =
    let e = c.in-Err.ensures in
    listing_refused c.args.message.now c.room-values.result c.room-objects.result (omega arith)
    (c.room-values.ensures, c.room-objects.ensures) e.answer c.put_refusal-in-Err.ensures

pub returns-in-Ok : goal.returns-in-Ok
returns-in-Ok c =
    let e = c.in-Ok.ensures in
    let lists = listed _ c.room-values.result c.room-objects.result e.answer e.values e.objects in
    let p = parts lists (omega arith) (omega arith) in
    listing_accepted c.args.message.now c.room-values.result c.room-objects.result (omega arith)
    (c.room-values.ensures, c.room-objects.ensures) lists
    (omega (arith, p.objects, p.values, p.few_objects, p.few_values)) c.put_head-next.ensures c.put_lists.ensures
