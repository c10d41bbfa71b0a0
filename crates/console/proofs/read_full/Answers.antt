use Rattle.std.proofs.Common.{◌≡◌, ℕ, ◌+◌, ◌-◌, ◌≤◌, List, ◌++◌, rules, length, take, sym, ap, ◌∙◌, subst, length-take-le}
use Rattle.std.proofs.KnownBytes.{Consumes-trans}
use Rattle.std.proofs.Math.Seq.{take-append-add}
use Rattle.std.proofs.lemmas.List.{take-append-le}
use borrow.Rule.Slice.PartMut.{put_mid, post_of}
use Rattle.std.specs.Io.KnownBytes.{Consumes}
use Rattle.console.proofs.read_full.Goals as goal

-- What stands before the part that was read into, and then what was read.
front : (a k n : ℕ) (xs ys : List ℕ) → a ≤ length xs → n ≤ length ys → take (a + n) (put_mid a k xs ys) ≡ take a xs ++ take n ys
front a k n xs ys within fits =
    let before = take a xs in
    let after = post_of a k xs in
    ap (λ m. take (m + n) (before ++ (ys ++ after))) (sym (length-take-le a xs within))
    ∙ take-append-add before (ys ++ after) n ∙ ap (λ l. before ++ l) (take-append-le n ys after fits)

pub loop-done-preserved : goal.loop-done-preserved
loop-done-preserved g c =
    let loop = c.loop-done in
    let read = c.in_ok-count.ensures in
    let same = front loop.done (length loop.buffer - loop.done) c.in_ok-count.count loop.buffer c.read.new.buf loop.invariant.within read.bound.0 in
    record {
      room = search rules;
      within = search rules;
      consumed = subst (Consumes _ _) (sym same) (Consumes-trans _ _ _ _ _ loop.invariant.consumed read.bytes.0);
    }
