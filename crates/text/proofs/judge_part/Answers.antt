-- `text::judge_part` meets its contract: the part is a text of its own.
use mathlib.Core.Path.{ap, ◌∙◌}
use Rattle.rules.specs.Text.{utf8}
use Rattle.text.proofs.Numbers.{judged}
use Rattle.text.proofs.judge_part.Goals as goal

pub returns : goal.returns
returns c = judged _ c.judge.result (c.judge.ensures.answer ∙ ap utf8 c.part_of.ensures)
