-- `stream::put_table` meets its contract: each list is stored as it is found.
use Rattle.std.proofs.Common.{◌≡◌, ◌∙◌, ◌+◌, ◌*◌, ◌<◌, refl, arith, length, drop, get_or, length-take, length-drop}
use mathlib.Core.Path.{ap}
use Rattle.stream.specs.Numbers.{list_at, second_place, third_place}
use Rattle.stream.proofs.Laws.{list_of_part, after_part, part_start}
use Rattle.stream.proofs.put_table.Goals as goal

pub returns : goal.returns
returns c =
    let numbers = c.args.numbers.now in
    let from = c.args.numbers.ref_ptr in
    let second = second_place numbers in
    let third = third_place numbers in
    let rows = c.split_list.ensures in
    let members = c.split_list-2.ensures in
    let entries = c.split_list-3.ensures in
    let after_members = members.rest ∙ after_part numbers second rows.rest in
    let row_count : length c.split_list.result.0.now ≡ length (list_at numbers 0) = ap length rows.list in
    let member_count : length c.split_list-2.result.0.now ≡ length (list_at numbers second) = ap length (members.list ∙ list_of_part numbers second rows.rest) in
    let entry_count : length c.split_list-3.result.0.now ≡ length (list_at numbers third) = ap length (entries.list ∙ list_of_part numbers third after_members) in
    let plain : from.1 ≡ 0 * 8 + from.1 = omega arith in
    let begins : from ≡ (from.0, 0 * 8 + from.1) = ap (λ n. (from.0, n)) plain in
    let rows_end = λ (inside : third < length numbers). rows.rest_start ∙ part_start numbers 0 (1 + length c.split_list.result.0.now) {place = second} {part = numbers} {start = from} from refl begins (omega (arith, row_count)) (omega (arith, inside)) in
    let members_end = λ (inside : third < length numbers).
    members.rest_start ∙ part_start numbers second (1 + length c.split_list-2.result.0.now) {place = third} from rows.rest (rows_end inside) (omega (arith, member_count)) (omega (arith, inside)) in
    record {
      put = record {
        rows_put = rw rows.list at c.put_narrow.ensures;
        members_put = rw (members.list ∙ list_of_part numbers second rows.rest) at c.put_narrow-2.ensures;
        third = entries.list ∙ list_of_part numbers third after_members;
        left = entries.rest ∙ after_part numbers third after_members;
        passed = omega (arith, row_count, member_count, entry_count);
        near = omega arith;
      };
      entries = λ inside. entries.list_start ∙ part_start numbers third 1 from after_members (members_end inside) refl (omega (arith, inside));
      rest = λ inside. entries.rest_start ∙ part_start numbers third (1 + length c.split_list-3.result.0.now) from after_members (members_end inside) refl (omega (arith, inside, ap length (entries.list ∙ list_of_part numbers third after_members), length-take (get_or numbers third 0) (drop (third + 1) numbers), length-drop (third + 1) numbers));
    }
