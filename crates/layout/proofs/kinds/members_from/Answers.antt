-- `layout::kinds::members_from` meets its contract.
use Rattle.layout.proofs.MemberLists.{members_lem}
use Rattle.layout.proofs.kinds.members_from.Goals as goal

pub returns : goal.returns
returns c = members_lem c.args.members.now c.args.first c.args.count c.get.result c.as_chunks.ensures.front c.as_chunks.ensures.front_len c.get.ensures.lookup
