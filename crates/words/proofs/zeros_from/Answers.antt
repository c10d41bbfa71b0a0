-- `words::zeros_from` meets its contract.
use Rattle.std.proofs.Common.{◌≡◌, ◌∙◌, take, drop, nat_eq, tests, rules}
use Rattle.std.proofs.lemmas.Iterator.{YieldsList-from_slice, YieldsList-from_take}
use Rattle.std.proofs.lemmas.Iterator.Search.{YieldsList-from_take_while}
use Rattle.std.proofs.lemmas.Iterator.Consumers.{count_from_yields_List}
use Rattle.std.proofs.lemmas.List.{take_rest}
use Rattle.std.proofs.lemmas.List.Folds.{length-prefix_len}
use Rattle.rules.specs.Bytes.{part}
use Rattle.words.proofs.Fill.{zeros_counted}
use Rattle.words.proofs.zeros_from.Goals as goal

pub returns : goal.returns
unfolding part
returns c =
    let rest : c.in-Some.rest.now ≡ drop c.args.at c.args.bytes.now = c.in-Some.ensures.lookup.0.2 ∙ take_rest c.args.bytes.now c.args.at in
    count_from_yields_List c.take_while.result _ c.count.ensures.ran (YieldsList-from_take_while _ (λ b. nat_eq b 0) (YieldsList-from_take c.args.count (YieldsList-from_slice c.in-Some.rest.now (cc)) (cc)) c.take_while.ensures.closure c.take_while.ensures.done (λ x b q k. search (rules, tests)))
    ∙ length-prefix_len (λ b. nat_eq b 0) (take c.args.count c.in-Some.rest.now)
    ∙ rw (zeros_counted, rest)
