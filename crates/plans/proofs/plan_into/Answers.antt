-- `plans::plan_into` meets its contract: a bool is a plan of one part.
use mathlib.Core.Path.{sym, ap, ◌∙◌}
use native.Mathlib.Omega.{arith}
use borrow.Author.Tests.{lt-leb, eq-eqb}
use Rattle.std.specs.Prelude.{Some}
use Rattle.plans.specs.Plans.{no_part}
use Rattle.plans.proofs.Padding.{first_put}
use Rattle.plans.proofs.plan_into.Goals as goal

pub returns-then-kind-eq1 : goal.returns-then-kind-eq1
returns-then-kind-eq1 c =
    let put = first_put c.args.parts.now no_part (omega (arith, c.told-parts)) in
    (omega arith, rw (lt-leb 256 c.args.row c.if-row-ge256.false, eq-eqb _ 1 (sym c.kind_at-kind.ensures ∙ c.if-kind-eq1.true)) (ap Some (sym put.0)), put.1)
