-- `text::part_of` meets its contract: what would lie past the end of the message, or of what it has from the place on, is left out.
use Rattle.std.proofs.Common.{◌≡◌, ℕ, ◌+◌, ◌≤◌, ◌<◌, ◌⊎◌, inl, inr, List, [], length, take, drop, Option, Some, None, Bor, sym, ◌∙◌, ap, refl, arith}
use native.Mathlib.Nat.{sub-zero}
use Rattle.std.proofs.lemmas.List.{drop_all, take_all, take_rest}
use Rattle.std.specs.List.{slice_range}
use Rattle.std.specs.Option.{MatchOption, unwrap_or}
use Rattle.rules.specs.Bytes.{part}
use Rattle.text.proofs.part_of.Goals as goal

from_place :
    (bytes : List ℕ) (at : ℕ) (o : Option (Bor (List ℕ))) (none : Bor (List ℕ)) → none.now ≡ [] →
    MatchOption o ((length bytes < at) ⊎ (length bytes < length bytes))
    (λ x. (at ≤ length bytes) × (length bytes ≤ length bytes) × (x.now ≡ slice_range bytes at (length bytes)) × (length x.now + at ≡ length bytes)) →
    (unwrap_or o none).now ≡ drop at bytes
from_place bytes at (Some x) none empty is = is.2 ∙ take_rest bytes at
from_place bytes at None none empty (inl past) = empty ∙ sym (drop_all at bytes (omega arith))
from_place bytes at None none empty (inr never) = absurd (omega arith)

front :
    (rest : Bor (List ℕ)) (count : ℕ) (o : Option (Bor (List ℕ))) →
    MatchOption o ((count < 0) ⊎ (length rest.now < count))
    (λ x. (0 ≤ count) × (count ≤ length rest.now) × (x.now ≡ slice_range rest.now 0 count) × (length x.now + 0 ≡ count)) →
    (unwrap_or o rest).now ≡ take count rest.now
front rest count (Some x) is = rw sub-zero at is.2
front rest count None (inl never) = absurd (omega arith)
front rest count None (inr short) = sym (take_all count rest.now (omega arith))

pub returns : goal.returns
unfolding part
returns c =
    let rest = ap (λ (b : Bor (List ℕ)). b.now) c.unwrap_or-rest.ensures ∙ from_place c.args.bytes.now c.args.at c.get.result _ refl c.get.ensures.lookup.0 in
    ap (λ (b : Bor (List ℕ)). b.now) c.unwrap_or.ensures ∙ front c.unwrap_or-rest.result c.args.count c.get-2.result c.get-2.ensures.lookup.0 ∙ ap (take c.args.count) rest
