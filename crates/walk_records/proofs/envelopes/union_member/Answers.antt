-- `union_member` meets its contract: one law for each way out.
use mathlib.Core.Path.{◌∙◌}
use borrow.Author.Rules.{rules}
use Rattle.walk_records.proofs.Unions.{union_required, union_absent, union_not_absent, union_unknown, union_empty, union_member, member_is, known_as}
use Rattle.walk_records.proofs.envelopes.union_member.Goals as goal

pub returns-then-form-eq0 : goal.returns-then-form-eq0
returns-then-form-eq0 c = (λ t objects handles depth row edition same ask. search (rules, union_required), search rules)

pub returns-then-envelope-eq0 : goal.returns-then-envelope-eq0
returns-then-envelope-eq0 c =
    (λ t objects handles depth row edition same ask. search (rules, union_absent, c.shared_slice_known-2-1.given), search rules)

pub returns-then-ordinal-eq0 : goal.returns-then-ordinal-eq0
returns-then-ordinal-eq0 c =
    (λ t objects handles depth row edition same ask. union_not_absent t _ _ objects handles depth row _ _ _ _ _ c.load-ordinal.ensures c.if-ordinal-eq0.true edition ask c.if-form-eq0.false c.load-envelope.ensures c.gave-d.ensures c.if-envelope-eq0.false c.at-then-ordinal-eq0.ensures, search rules)

pub returns-then-not-accepted : goal.returns-then-not-accepted
returns-then-not-accepted c =
    (λ t objects handles depth row edition same ask. search (rules, union_unknown, c.ordinal_of-what.ensures, known_as, c.is_some.ensures), search rules)

pub returns-then-envelope-eq0-2 : goal.returns-then-envelope-eq0-2
returns-then-envelope-eq0-2 c = (
  λ t objects handles depth row edition same ask. union_empty t _ _ objects handles depth row _ _ _ _ _ _ c.ordinal_of-what.result _ edition same ask c.requires.1 c.load-ordinal.ensures c.if-ordinal-eq0.false c.requires.2 c.requires.3 c.ordinal_of-what.ensures
      (c.is_some.ensures ∙ known_as _) c.if-not-accepted.false c.load-envelope.ensures c.gave-d-2.ensures c.shared_slice_known-2-1.given c.if-envelope-eq0-2.true c.at-then-envelope-eq0-2.ensures,
  search rules,
)

pub returns : goal.returns
returns c =
    (λ t objects handles depth row edition same ask. search (rules, union_member, c.ordinal_of-what.ensures, c.is_some.ensures ∙ known_as c.ordinal_of-what.result), search (rules, member_is, c.ordinal_of-what.ensures))
