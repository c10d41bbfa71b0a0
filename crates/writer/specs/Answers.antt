-- What the answers of this crate's public function mean in the rules.
-- Assumes nothing.
use Rattle.std.specs.Prelude.{List, [], ◌∷◌, ℕ, length}
use Rattle.rules.specs.Refusals.{Answer, accepted, and_then}
use Rattle.rules.specs.Answers as Rules
use Rattle.writer.specs.declared.Sizes.{Sizes}

-- The numbers that are told of a message.
abbrev pub told : Sizes → List ℕ
told sizes = sizes.bytes ∷ sizes.handles ∷ []

-- What is answered of a message that is written: how many bytes and handles it has.
abbrev pub sizes_of : Answer Rules.Written → Answer Sizes
sizes_of answer = and_then answer (λ w. accepted (record { bytes = length w.bytes; handles = w.handles }))
