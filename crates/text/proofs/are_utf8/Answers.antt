-- `text::are_utf8` meets its contract: numbers are UTF-8 where they are text.
use mathlib.Core.Path.{ap, ◌∙◌}
use Rattle.std.proofs.lemmas.List.{map-id}
use Rattle.rules.specs.Text.{utf8}
use Rattle.text.proofs.Numbers.{ok_where_text}
use Rattle.text.proofs.are_utf8.Goals as goal

pub returns : goal.returns
returns c = c.is_ok.ensures.value ∙ ok_where_text _ c.judge_items.result (c.judge_items.ensures ∙ ap utf8 (map-id c.args.numbers.now))
