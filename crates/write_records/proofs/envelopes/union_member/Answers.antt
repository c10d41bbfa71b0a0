-- `write_records::envelopes::union_member` meets its contract: one law for each way out.
use mathlib.Core.Path.{◌∙◌}
use native.Mathlib.Omega.{arith}
use borrow.Author.Rules.{rules}
use Rattle.ordinals.proofs.Ordinals.{halved_content}
use Rattle.write_records.proofs.Unions.{union_ended, union_required, union_absent, union_unknown, union_member}
use Rattle.write_records.proofs.envelopes.union_member.Goals as goal

pub returns-then-values-c : goal.returns-then-values-c
returns-then-values-c c = (search (rules, union_ended), search rules)

pub returns-then-form-eq0 : goal.returns-then-form-eq0
returns-then-form-eq0 c = (search (rules, union_required), search rules)

pub returns-then-v-eq0 : goal.returns-then-v-eq0
returns-then-v-eq0 c = (search (rules, union_absent), search rules)

pub returns-then-not-accepted : goal.returns-then-not-accepted
returns-then-not-accepted c =
    (union_unknown _ _ _ _ _ _ _ _ c.requires.0 (omega (arith, c.if-values-c.false)) c.item_at-v.ensures (search rules) c.if-v-eq0.false c.requires.2 c.ordinal_of-what.result _ c.is_some.ensures (λ t same. c.ordinal_of-what.ensures ∙ halved_content t _ _ _ same c.requires.3 c.requires.4) c.if-not-accepted.true c.at-then-not-accepted.ensures, search rules)

pub returns : goal.returns
returns c =
    (union_member _ _ _ _ _ _ _ _ c.requires.0 (omega (arith, c.if-values-c.false)) c.item_at-v.ensures (search rules) c.if-v-eq0.false c.requires.2 c.ordinal_of-what.result _ c.is_some.ensures (λ t same. c.ordinal_of-what.ensures ∙ halved_content t _ _ _ same c.requires.3 c.requires.4) c.if-not-accepted.false c.store-2.ensures c.took-2.ensures, λ t same. rw (← c.item_at-v.ensures) (c.ordinal_of-what.ensures ∙ halved_content t _ _ _ same c.requires.3 c.requires.4))
