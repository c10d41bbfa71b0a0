-- `text::is_utf8` meets its contract: bytes are UTF-8 where they are text.
use mathlib.Core.Path.{◌∙◌}
use Rattle.text.proofs.Numbers.{ok_where_text}
use Rattle.text.proofs.is_utf8.Goals as goal

pub returns : goal.returns
returns c = c.is_ok.ensures.value ∙ ok_where_text _ c.judge_part.result c.judge_part.ensures.answer
