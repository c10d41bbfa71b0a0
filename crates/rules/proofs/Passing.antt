-- What `?` hands on is the refusal that it met.
use mathlib.Core.Path.{◌≡◌, ap, ◌∙◌}
use Rattle.std.specs.Prelude.{Result, Ok, Err, IsErrAnd}
use Rattle.std.proofs.lemmas.Result.{err_from_is_err_and}

pub err_passed : {T E : Type 0} {r : Result T E} {e : E} → IsErrAnd r (λ f. f ≡ e) → r ≡ Err e
err_passed {r = r} p = let q = err_from_is_err_and r p in q.1 ∙ ap Err q.2

-- What went on, and what it then was found to be.
pub ok_is : {T E : Type 0} {r : Result T E} {x y : T} → r ≡ Ok x → x ≡ y → r ≡ Ok y
ok_is p q = p ∙ ap Ok q
