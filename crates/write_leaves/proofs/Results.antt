-- How the writer's results go together: what came before, and what follows.
-- Assumes nothing.
use mathlib.Core.Path.{◌≡◌, refl, sym}
use mathlib.Core.List.{List, [], ◌++◌, append_assoc, append-nil}
use Prim.Native.Nat.{ℕ}
use Rattle.rules.specs.Encode as E
use Rattle.rules.specs.Encode.{Encoded, wrote, cannot, Encoder}

pub after_none : (e : Encoded) → E.after [] [] e ≡ e
after_none (wrote inline outside next used rest) = refl
after_none (cannot number left) = refl

pub after_after : (a b x y : List ℕ) (e : Encoded) → E.after a x (E.after b y e) ≡ E.after (a ++ b) (x ++ y) e
after_after a b x y (wrote inline outside next used rest) = rw (append_assoc a b inline, append_assoc x y outside)
after_after a b x y (cannot number left) = refl

pub then_nothing : (e : Encoded) → E.and_then e E.nothing ≡ e
then_nothing (wrote inline outside next used rest) = rw (append-nil inline, append-nil outside)
then_nothing (cannot number left) = refl

pub then_same : (e : Encoded) {j k : Encoder} → ((values : List ℕ) (next used : ℕ) → j values next used ≡ k values next used) → E.and_then e j ≡ E.and_then e k
then_same (wrote inline outside next used rest) f = rw (f rest next used)
then_same (cannot number left) f = refl

pub then_then : (e : Encoded) (j k : Encoder) → E.and_then (E.and_then e j) k ≡ E.and_then e (λ values next used. E.and_then (j values next used) k)
then_then (wrote inline outside next used rest) j k = later inline outside (j rest next used)
  where
    later : (a b : List ℕ) (e : Encoded) → E.and_then (E.after a b e) k ≡ E.after a b (E.and_then e k)
    later a b (wrote inline outside next used rest) = sym (after_after a inline b outside (k rest next used))
    later a b (cannot number left) = refl
then_then (cannot number left) j k = refl
