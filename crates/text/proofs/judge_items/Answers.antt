-- `text::judge_items` meets its contract: a text may be judged from after its ASCII on.
use mathlib.Core.Path.{sym}
use native.Mathlib.Omega.{arith}
use Rattle.std.proofs.lemmas.List.{length-map}
use Rattle.text.proofs.Laws.{ends, judged_from}
use Rattle.text.proofs.judge_items.Goals as goal

pub returns-then-at-text : goal.returns-then-at-text
returns-then-at-text g c =
    let ascii = c.past_ascii-at in
    judged_from _ ascii.ensures (sym (ends _ ascii.result (omega (arith, length-map c.args.text.now g.T.Item.number))))
