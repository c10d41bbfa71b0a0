-- 22: what is asked of the room that is lent, and a list stored there.
-- Assumes nothing.
use mathlib.Core.Path.{◌≡◌}
use mathlib.Core.List.{List, ◌++◌}
use Prim.Native.Nat.{ℕ, ◌≤◌, ◌<◌}
use native.Mathlib.Nat.{zero-add}
use native.Mathlib.Omega.{arith}
use borrow.Author.Tests.{le-leb, lt-leb}
use lib.ListN.{length, drop}
use lib.Seq.{sets, sets-eq}
use Rattle.rules.specs.declared.Place.TheVariants.{Amount}
use Rattle.rules.specs.Refusals.{fault, room_too_small, Answer, refused}
use Rattle.rules.specs.Answers.{require_room}

pub room_short : {A : Type 0} (room : ℕ) {needed count : ℕ} (x : Answer A) → needed ≡ count → room < needed
    → require_room count room x ≡ refused (fault room_too_small (Amount needed))
room_short room {needed} x e h = rw (← e, lt-leb needed room h)

pub room_enough : {A : Type 0} (room : ℕ) {needed count : ℕ} (x : Answer A) → needed ≡ count → needed ≤ room → require_room count room x ≡ x
room_enough room {needed} x e h = rw (← e, le-leb needed room h)

-- A list stored from the start on, where there is room for it.
pub stored_list : (list lent : List ℕ) → length list ≤ length lent → sets lent 0 list ≡ list ++ drop (length list) lent
stored_list list lent h = rw zero-add at (sets-eq list lent 0 (omega arith))
