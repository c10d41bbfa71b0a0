-- `text::judge` meets its contract: bytes are the numbers of a text as they stand.
use mathlib.Core.Path.{ap, ◌∙◌}
use Rattle.std.proofs.lemmas.List.{map-id}
use Rattle.rules.specs.Text.{utf8}
use Rattle.text.proofs.Numbers.{judged}
use Rattle.text.proofs.judge.Goals as goal

pub returns : goal.returns
returns c = judged _ c.judge_items.result (c.judge_items.ensures ∙ ap utf8 (map-id c.args.text.now))
