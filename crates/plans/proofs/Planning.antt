-- The plan of a struct, member by member: what each turn leaves to plan.
-- Assumes nothing.
use Rattle.std.specs.Prelude.{Option, Some, None, if◌then◌else◌}
use Rattle.std.specs.Option.{option_map}
use Rattle.std.proofs.lemmas.List.{take_more_set}
use mathlib.Core.List.{List, [], ◌∷◌, ◌++◌, append_assoc, append-nil}
use mathlib.Core.Path.{◌≡◌, refl, sym, ap, ◌∙◌}
use Prim.Native.Nat.{ℕ, suc, ◌+◌, ◌-◌, ◌*◌, ◌≤◌, ◌<◌}
use native.Mathlib.Omega.{arith}
use borrow.Author.Tests.{le-leb, lt-leb}
use lib.Dec.{leb}
use lib.ListN.{length, set, take, drop, length-set}
use Rattle.plans.specs.declared.Width.{Width}
use Rattle.plans.specs.declared.Part.{Part}
use Rattle.nesting.specs.Nesting.{next_part, next_place}
use Rattle.plans.specs.Plans.{width_bytes, flat_width, after, flat_from, PartsPut}
use Rattle.plans.proofs.Padding.{past_more}
use Rattle.plans.proofs.Widths.{bytes_most}

-- The parts so far, and others after them.
abbrev pub with_rest : List Part → Option (List Part) → Option (List Part)
with_rest parts left = option_map (λ rest. parts ++ rest) left

no_parts_before : (left : Option (List Part)) → left ≡ with_rest [] left
no_parts_before None = refl
no_parts_before (Some rest) = refl

one_part_before : (parts : List Part) (part : Part) (left : Option (List Part)) → with_rest parts (option_map (λ rest. part ∷ rest) left) ≡ with_rest (parts ++ (part ∷ [])) left
one_part_before parts part None = refl
one_part_before parts part (Some rest) = ap Some (sym (append_assoc parts (part ∷ []) rest))

module _ (rows members alignments : List ℕ) (row count : ℕ) (lent : List Part) where
  -- What is planned so far, and then what is left, is the whole, unless something is left that is not flat.
  pub record Planning (parts : List Part) (place i : ℕ) : Type 0 where
    pub few : i ≤ count
    pub room : length parts ≡ 16
    pub near : place ≤ i * 16
    pub past : drop i parts ≡ drop i lent
    pub whole : flat_from rows members alignments row 0 0 count ≡ with_rest (take i parts) (flat_from rows members alignments row i place (count - i))

  pub planning_start : length lent ≡ 16 → Planning lent 0 0
  planning_start h =
      let n : count - 0 ≡ count = omega arith in
      record { few = omega arith; room = h; near = omega arith; past = refl; whole = rw n (no_parts_before (flat_from rows members alignments row 0 0 count)) }

  module _ {parts : List Part} {place i : ℕ} (p : Planning parts place i) where
    pub planning_end : i ≡ count → count ≤ 16 → PartsPut (flat_from rows members alignments row 0 0 count) lent (Some count) parts
    unfolding flat_from
    planning_end h few =
        let n : count - i ≡ 0 = omega arith in
        let all : flat_from rows members alignments row 0 0 count ≡ Some (take i parts ++ []) = p.whole ∙ rw n in
        (few, all ∙ rw (append-nil (take i parts), h), rw h at p.past)

    module _ (more : i < count) {part : ℕ} {found : Option Width} (q : part ≡ next_part rows members (after rows members alignments row i)) (w : found ≡ flat_width rows part) where
      pub planning_other : found ≡ None → flat_from rows members alignments row 0 0 count ≡ None
      unfolding flat_from
      planning_other e =
          let n : count - i ≡ suc (count - (i + 1)) = omega arith in
          p.whole ∙ rw (n, ← q, ← w, e)

      module _ {width : Width} (flat : found ≡ Some width) (few : count ≤ 16) {size next fill : ℕ} (s : size ≡ width_bytes width)
          (n : next ≡ next_place rows members (after rows members alignments row i) alignments (place + size)) (f : fill ≡ next - (place + size)) where
        left_flat : flat_from rows members alignments row i place (count - i)
            ≡ (if leb fill 8 then option_map (λ rest. record { width = width; fill = fill } ∷ rest) (flat_from rows members alignments row (i + 1) next (count - (i + 1))) else None)
        unfolding flat_from
        left_flat = let m : count - i ≡ suc (count - (i + 1)) = omega arith in rw (m, ← q, ← w, flat, ← s, ← n, ← f)

        pub planning_far : 8 < fill → flat_from rows members alignments row 0 0 count ≡ None
        planning_far h = p.whole ∙ rw (left_flat, lt-leb fill 8 h)

        pub planning_more : fill ≤ 8 → Planning (set parts i (record { width = width; fill = fill })) next (i + 1)
        planning_more h =
            let made : Part = record { width = width; fill = fill } in
            let left = flat_from rows members alignments row (i + 1) next (count - (i + 1)) in
            record {
              few = omega arith;
              room = rw (length-set) p.room;
              past = past_more parts lent i made p.past;
              near = omega (arith, p.near, s, bytes_most rows part (sym w ∙ flat));
              whole = p.whole ∙ rw (left_flat, le-leb fill 8 h, take_more_set parts i made room) (one_part_before (take i parts) made left);
            }
          where
            room : i < length parts
            room = omega (arith, p.room, few)
