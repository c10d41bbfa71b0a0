-- `demands::back` meets its contract: what the writer accepts is the message, so the comparison never fails.
use mathlib.Core.Path.{refl, ◌∙◌}
use lib.Pointwise.{bytes_decides}
use Rattle.demands.proofs.Trips.{back_output, back_accepted, back_starts, back_handles, never_different}
use Rattle.demands.proofs.back.Goals as goal

pub slice_bounds-eq-end : goal.slice_bounds-eq-end
slice_bounds-eq-end c =
    (back_starts _ _ _ _ _ c.args.out.now _ c.requires _ c.write.ensures.answer c.write.ensures.output c.in_ok-sizes.was).within

pub slice_bounds-eq-end-2 : goal.slice_bounds-eq-end-2
slice_bounds-eq-end-2 c =
    (back_starts _ _ _ _ _ c.args.out.now _ c.requires _ c.write.ensures.answer c.write.ensures.output c.in_ok-sizes.was).long

pub returns-in_err-sizes : goal.returns-in_err-sizes
returns-in_err-sizes c = absurd (back_accepted _ _ _ _ _ c.args.out.now _ c.requires _ c.write.ensures.answer c.write.ensures.output c.in_err-sizes.was)

pub returns-then-same-sizes : goal.returns-then-same-sizes
returns-then-same-sizes c = record {
  answer = refl;
  output = back_output _ _ _ _ _ c.args.out.now _ c.requires c.write.result c.write.ensures.answer c.write.ensures.output;
}

pub returns-else-same-sizes : goal.returns-else-same-sizes
returns-else-same-sizes c =
    absurd (never_different
    (c.eq-same.ensures ∙ (bytes_decides _ _).1 (back_starts _ _ _ _ _ c.args.out.now _ c.requires _ c.write.ensures.answer c.write.ensures.output c.in_ok-sizes.was).same)
    (back_handles _ _ _ _ _ c.args.out.now _ c.requires _ c.write.ensures.answer c.write.ensures.output c.in_ok-sizes.was)
    c.if-same-sizes.false)
