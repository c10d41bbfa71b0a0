-- `raw_words` meets its contract: a claim, then the handles, then the words, which the claimed bytes make room for.
use mathlib.Core.Path.{refl}
use native.Mathlib.Omega.{arith}
use borrow.Author.Rules.{rules}
use Rattle.rules.proofs.Passing.{err_passed}
use Rattle.walk_records.proofs.Unknown.{claim_room, claim_refused, handles_refused, words_room, words_given}
use Rattle.walk_records.proofs.envelopes.raw_words.Goals as goal

pub taken-requires : goal.taken-requires
taken-requires c =
    omega (arith, (claim_room _ _ _ _ _ _ 0 _ _ c.requires.0 c.claim.ensures c.in_ok-d.was).1)

pub numbers-requires : goal.numbers-requires
numbers-requires c =
    let room = words_room _ _ _ _ _ _ _ _ _ c.requires.0 c.claim.ensures c.in_ok-d.was c.taken.ensures c.in_ok-e.was in
    (refl, room.0, room.1)

pub returns : goal.returns
returns c =
    λ t. words_given _ _ _ _ _ _ _ _ _ c.requires.0 c.claim.ensures c.in_ok-d.was c.taken.ensures c.in_ok-e.was t _ _ c.numbers.ensures

pub returns-in_err-e : goal.returns-in_err-e
returns-in_err-e c = λ t. rw (err_passed c.from_residual-in_err-e.ensures.1) (search (rules, handles_refused, c.in_ok-d.was, c.in_err-e.was))

pub returns-in_err-d : goal.returns-in_err-d
returns-in_err-d c = λ t. rw (err_passed c.from_residual.ensures.1) (search (rules, claim_refused, c.in_err-d.was))
