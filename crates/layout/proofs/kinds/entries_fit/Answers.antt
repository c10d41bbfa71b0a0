-- `layout::kinds::entries_fit` meets its contract.
use Rattle.std.proofs.Common.{◌≡◌, ltb, sym, ◌∙◌, true, ◌<◌, ◌≤◌, ◌^◌, rules, arith}
use Rattle.std.proofs.lemmas.List.Sorted.{answers_always}
use borrow.Author.Tests.{lt-leb}
use Rattle.rules.specs.Sound.{width_allowed}
use Rattle.layout.proofs.Entries.{largest, fit_none, fit_sorted, fit_past}
use Rattle.layout.proofs.kinds.entries_fit.Goals as goal

pub returns-in_default-last : goal.returns-in_default-last
returns-in_default-last c = λ t same.
    let a = c.args in
    let allowed : width_allowed a.width ≡ true = sym c.width_allowed.ensures ∙ c.if-not-width_allowed.false in
    fit_none t a.width a.first a.count c.in-Some.own same allowed c.in-Some.ensures.lookup c.in_default-last.ensures.value

pub returns-then-last-width : goal.returns-then-last-width
returns-then-last-width c = λ t same.
    let a = c.args in
    let allowed : width_allowed a.width ≡ true = sym c.width_allowed.ensures ∙ c.if-not-width_allowed.false in
    let high : c.in-Some-last.last.now < 256 ^ a.width = omega (arith, largest a.width allowed, c.if-last-width.true) in
    fit_sorted t a.width a.first a.count c.in-Some.own same allowed c.in-Some.ensures.lookup c.in-Some-last.last.now c.in-Some-last.ensures.value high c.is_sorted_by.result
    (c.is_sorted_by.ensures.cases ltb (answers_always _ _ _ (λ f a r g h. search rules)))

pub returns-else-last-width : goal.returns-else-last-width
returns-else-last-width c = λ t same.
    let a = c.args in
    let allowed : width_allowed a.width ≡ true = sym c.width_allowed.ensures ∙ c.if-not-width_allowed.false in
    let high : 256 ^ a.width ≤ c.in-Some-last.last.now = omega (arith, largest a.width allowed, c.if-last-width.false) in
    rw (lt-leb c.in-Some-last.last.now _ c.if-last-width.false)
    (fit_past t a.width a.first a.count c.in-Some.own same allowed c.in-Some.ensures.lookup c.in-Some-last.last.now c.in-Some-last.ensures.value high)
