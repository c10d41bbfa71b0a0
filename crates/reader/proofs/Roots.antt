-- What the tests before the walk show: 1, 2, 3, 4.
-- Assumes nothing.
use Rattle.std.specs.Prelude.{Err, Ok, Result}
use mathlib.Core.Path.{◌≡◌}
use mathlib.Core.Bool.{Bool, true, false}
use mathlib.Core.List.{List}
use Prim.Native.Nat.{ℕ, ◌≤◌, ◌<◌}
use borrow.Author.Tests.{le-leb, lt-leb}
use Rattle.rules.specs.declared.Fault.{Fault}
use Rattle.rules.specs.declared.Place.TheVariants.{Row, Byte, Amount}
use Rattle.rules.specs.Refusals.{fault, root_not_allowed, message_too_long, too_many_handles}
use Rattle.rules.specs.Answers.{answer_of}
use Rattle.layout.specs.Answers.{RootIs}
use Rattle.reader.specs.Passing.{BeforeWalk}

module _ (verdict : Result (Unit {0}) Fault) (rows : List ℕ) (root total handles : ℕ) where
  abbrev Answers : Result (Unit {0}) Fault → Type 0
  Answers r = BeforeWalk (answer_of verdict) rows root total handles r

  pub table_refused : {f : Fault} → verdict ≡ Err f → Answers (Err f)
  table_refused e t same = rw e

  module _ (sound : verdict ≡ (Ok tt)) {allowed : Bool} (read : RootIs rows root allowed) where
    pub root_refused : allowed ≡ false → Answers (Err (fault root_not_allowed (Row root)))
    root_refused e t same = rw (sound, ← read t same, e)

    module _ (e : allowed ≡ true) where
      pub length_refused : {f : Fault} → 65536 < total → f ≡ fault message_too_long (Byte 0) → Answers (Err f)
      length_refused h g t same = rw (sound, ← read t same, e, lt-leb total 65536 h, g)

      pub handles_refused : total ≤ 65536 → 64 < handles → Answers (Err (fault too_many_handles (Amount 0)))
      handles_refused h k t same = rw (sound, ← read t same, e, le-leb total 65536 h, lt-leb handles 64 k)

      pub walk_allowed : total ≤ 65536 → handles ≤ 64 → Answers (Ok tt)
      walk_allowed h k t same = rw (sound, ← read t same, e, le-leb total 65536 h, le-leb handles 64 k)
