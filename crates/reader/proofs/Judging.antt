-- A message judged as a whole: every test of the checker.
-- Assumes nothing.
use Rattle.std.specs.Prelude.{Err, Ok, Result}
use mathlib.Core.Path.{◌≡◌, refl, sym, ap, ◌∙◌}
use mathlib.Core.Bool.{Bool, true, false}
use mathlib.Core.List.{List}
use Prim.Native.Nat.{ℕ}
use native.Mathlib.Omega.{arith}
use borrow.Author.Tests.{leb-true}
use lib.Dec.{leb, eqb}
use lib.ListN.{length}
use Rattle.rules.specs.declared.Fault.{Fault}
use Rattle.rules.specs.declared.Place.TheVariants.{Amount}
use Rattle.rules.specs.Refusals.{fault, too_many_handles, Answer, accepted, refused, require, and_then}
use Rattle.rules.specs.TypeTable.{type_table}
use Rattle.rules.specs.Sound.{soundness, root_allowed, require_row}
use Rattle.rules.specs.Trace.{object_list}
use Rattle.rules.specs.Decode.{Message, Decoded, went, stopped, trace_of}
use Rattle.rules.specs.Answers as A
use Rattle.rules.specs.Answers.{walk, finished, require_length, judged, answer_of}
use Rattle.layout.specs.Answers.{kept_sizes, kept_alignments, given_if_sound}
use Rattle.layout.proofs.Keeping.{given_sound}
use Rattle.layout.proofs.Roots.{root_in_use}
use Rattle.reader.specs.declared.Lengths.{Lengths}
use Rattle.walk_leaves.specs.Doing.{message, values_of}
use Rattle.reader.specs.Answers.{lengths_of}
use Rattle.reader.specs.Passing.{lists_of, BeforeWalk, Walkable, Passed, judged_lengths}

-- ---- the tests before the walk

-- 1, 2, 3 and 4, with nothing after them.
abbrev before : Message → (root : ℕ) → Answer (Unit {0})
before m root =
    and_then (soundness m.table) (λ s. require_row (root_allowed m.table root) root
    (require_length (length m.bytes) (require (leb m.handles 64) (fault too_many_handles (Amount 0)) (accepted tt))))

-- They come first, then the walk.
judged_before : (m : Message) (root : ℕ) → judged m root ≡ and_then (before m root) (λ passed. finished m (walk m root))
unfolding judged
judged_before m root =
    go (soundness m.table) (root_allowed m.table root) (leb (length m.bytes) 65536) (leb m.handles 64) _ _ _ (finished m (walk m root))
  where
    go : (sound : Answer (Unit {0})) (allowed short few : Bool) (f g h : Fault) (x : Answer A.Reading)
        → and_then sound (λ s. require allowed f (require short g (require few h x)))
        ≡ and_then (and_then sound (λ s. require allowed f (require short g (require few h (accepted (tt {0})))))) (λ passed. x)
    go (accepted s) true true true f g h x = refl
    go (accepted s) true true false f g h x = refl
    go (accepted s) true false few f g h x = refl
    go (accepted s) false short few f g h x = refl
    go (refused k) allowed short few f g h x = refl

-- Whoever passes them all passes each.
before_passed : (m : Message) (root : ℕ) → before m root ≡ accepted tt
    → (soundness m.table ≡ accepted tt) × (root_allowed m.table root ≡ true) × (leb (length m.bytes) 65536 ≡ true) × (leb m.handles 64 ≡ true)
before_passed m root e =
    go (soundness m.table) (root_allowed m.table root) (leb (length m.bytes) 65536) (leb m.handles 64) _ _ _ e
  where
    go : (sound : Answer (Unit {0})) (allowed short few : Bool) (f g h : Fault)
        → and_then sound (λ s. require allowed f (require short g (require few h (accepted (tt {0}))))) ≡ accepted tt
        → (sound ≡ accepted tt) × (allowed ≡ true) × (short ≡ true) × (few ≡ true)
    go (accepted s) true true true f g h q = (refl, refl, refl, refl)
    go (accepted s) true true false f g h q = absurd (let w : ◌≡◌ {A = ℕ} 0 1 = cc in omega arith)
    go (accepted s) true false few f g h q = absurd (let w : ◌≡◌ {A = ℕ} 0 1 = cc in omega arith)
    go (accepted s) false short few f g h q = absurd (let w : ◌≡◌ {A = ℕ} 0 1 = cc in omega arith)
    go (refused k) allowed short few f g h q = absurd (let w : ◌≡◌ {A = ℕ} 0 1 = cc in omega arith)

-- Then the message may be walked.
walkable : (rows members entries bytes : List ℕ) (root handles : ℕ) (sizes alignments : List ℕ) {sizes' alignments' : List ℕ}
    → before (message (type_table rows members entries) bytes handles) root ≡ accepted tt
    → sizes' ≡ given_if_sound (type_table rows members entries) (kept_sizes (type_table rows members entries)) sizes
    → alignments' ≡ given_if_sound (type_table rows members entries) (kept_alignments (type_table rows members entries)) alignments
    → Walkable (type_table rows members entries) bytes root handles sizes' alignments'
walkable rows members entries bytes root handles sizes alignments e s a =
    let t = type_table rows members entries in
    let p = before_passed (message t bytes handles) root e in
    record {
      ready = record {
        sound = p.0;
        edition = refl;
        sizes_kept = given_sound t (kept_sizes t) sizes p.0 s;
        alignments_kept = given_sound t (kept_alignments t) alignments p.0 a;
        depth_left = omega arith;
        in_use = root_in_use t root p.1;
      };
      short = leb-true (length bytes) 65536 p.2;
      few = leb-true handles 64 p.3;
    }

-- What the code tested is what the rules test.
tested_as : (rows members entries bytes : List ℕ) (root handles : ℕ) {sound : Answer (Unit {0})} → sound ≡ soundness (type_table rows members entries)
    → (r : Result (Unit {0}) Fault) → BeforeWalk sound rows root (length bytes) handles r → answer_of r ≡ before (message (type_table rows members entries) bytes handles) root
tested_as rows members entries bytes root handles e r tested = tested (type_table rows members entries) refl ∙ rw e

module _ (rows members entries bytes : List ℕ) (root handles : ℕ) {sound : Answer (Unit {0})} (s : sound ≡ soundness (type_table rows members entries))
    {r : Result (Unit {0}) Fault} (tested : BeforeWalk sound rows root (length bytes) handles r) where
  pub judge_refused : {f : Fault} → r ≡ Err f → refused f ≡ judged_lengths (message (type_table rows members entries) bytes handles) root
  judge_refused e = rw (judged_before (message (type_table rows members entries) bytes handles) root, ← tested_as rows members entries bytes root handles s r tested, e)

  module _ (e : r ≡ (Ok tt)) where
    pub judge_walkable : (sizes alignments : List ℕ) {sizes' alignments' : List ℕ}
        → sizes' ≡ given_if_sound (type_table rows members entries) (kept_sizes (type_table rows members entries)) sizes
        → alignments' ≡ given_if_sound (type_table rows members entries) (kept_alignments (type_table rows members entries)) alignments
        → Walkable (type_table rows members entries) bytes root handles sizes' alignments'
    judge_walkable sizes alignments =
        walkable rows members entries bytes root handles sizes alignments (sym (tested_as rows members entries bytes root handles s r tested) ∙ ap answer_of e)

    pub judge_passed : {values values' objects objects' : List ℕ} {reading : Result Lengths Fault}
        → Passed (type_table rows members entries) bytes root handles values values' objects objects' reading
        → answer_of reading ≡ judged_lengths (message (type_table rows members entries) bytes handles) root
    judge_passed p =
        p.answers ∙ rw (judged_before (message (type_table rows members entries) bytes handles) root, ← tested_as rows members entries bytes root handles s r tested, e)

-- ---- a message that is accepted

-- What the rules read of it, and that the lengths are those of its lists.
pub record Held (m : Message) (root : ℕ) (lengths : Lengths) : Type 0 where
  pub reading : A.Reading
  pub held : judged m root ≡ accepted reading
  pub values : lengths.values ≡ length reading.values
  pub objects : lengths.objects ≡ length (object_list reading.trace)

accepted_finished : (m : Message) (root : ℕ) {reading : A.Reading} → judged m root ≡ accepted reading
    → (before m root ≡ accepted tt) × (finished m (walk m root) ≡ accepted reading)
accepted_finished m root {reading} e = go (before m root) (sym (judged_before m root) ∙ e)
  where
    go : (b : Answer (Unit {0})) → and_then b (λ passed. finished m (walk m root)) ≡ accepted reading
        → (b ≡ accepted tt) × (finished m (walk m root) ≡ accepted reading)
    go (accepted s) q = (refl, q)
    go (refused f) q = absurd (let w : ◌≡◌ {A = ℕ} 0 1 = cc in omega arith)

-- Its lists are those of the walk.
finished_lists : (m : Message) (d : Decoded) {reading : A.Reading} → finished m d ≡ accepted reading
    → (values_of d ≡ reading.values) × (trace_of d ≡ reading.trace)
finished_lists m (went n u vs t) {reading} e = go (eqb n (length m.bytes)) (eqb u m.handles) _ _ e
  where
    go : (all used : Bool) (f g : Fault) → require all f (require used g (accepted (record { values = vs; trace = t }))) ≡ accepted reading
        → (vs ≡ reading.values) × (t ≡ reading.trace)
    go true true f g q = (cc, cc)
    go true false f g q = absurd (let w : ◌≡◌ {A = ℕ} 0 1 = cc in omega arith)
    go false used f g q = absurd (let w : ◌≡◌ {A = ℕ} 0 1 = cc in omega arith)
finished_lists m (stopped f vs t) e = absurd (let w : ◌≡◌ {A = ℕ} 0 1 = cc in omega arith)

-- What the answer says of the message.
pub as_refused : (m : Message) (root : ℕ) (a : Result Lengths Fault) {f : Fault} → answer_of a ≡ judged_lengths m root → a ≡ Err f → judged m root ≡ refused f
as_refused m root a {f} e q = go (judged m root) (sym (ap answer_of q) ∙ e)
  where
    go : (j : Answer A.Reading) → refused f ≡ lengths_of (lists_of j) → j ≡ refused f
    go (accepted reading) z = absurd (let w : ◌≡◌ {A = ℕ} 0 1 = cc in omega arith)
    go (refused g) z = let y : f ≡ g = cc in rw y

pub as_held : (m : Message) (root : ℕ) (a : Result Lengths Fault) {lengths : Lengths} → answer_of a ≡ judged_lengths m root → a ≡ Ok lengths → Held m root lengths
as_held m root a {lengths} e q = go (judged m root) refl (sym (ap answer_of q) ∙ e)
  where
    go : (j : Answer A.Reading) → judged m root ≡ j → accepted lengths ≡ lengths_of (lists_of j) → Held m root lengths
    go (accepted reading) y z = record { reading = reading; held = y; values = cc; objects = cc }
    go (refused g) y z = absurd (let w : ◌≡◌ {A = ℕ} 0 1 = cc in omega arith)

pub held_lists : {m : Message} {root : ℕ} {lengths : Lengths} (h : Held m root lengths)
    → (values_of (walk m root) ≡ h.reading.values) × (trace_of (walk m root) ≡ h.reading.trace)
held_lists {m} {root} h = finished_lists m (walk m root) (accepted_finished m root h.held).1

-- It may be walked again.
pub judged_walkable : (rows members entries bytes : List ℕ) (root handles : ℕ) (sizes alignments : List ℕ) {a : Result Lengths Fault} {lengths : Lengths}
    {sizes' alignments' : List ℕ} → answer_of a ≡ judged_lengths (message (type_table rows members entries) bytes handles) root → a ≡ Ok lengths
    → sizes' ≡ given_if_sound (type_table rows members entries) (kept_sizes (type_table rows members entries)) sizes
    → alignments' ≡ given_if_sound (type_table rows members entries) (kept_alignments (type_table rows members entries)) alignments
    → Walkable (type_table rows members entries) bytes root handles sizes' alignments'
judged_walkable rows members entries bytes root handles sizes alignments {a} j e =
    let m = message (type_table rows members entries) bytes handles in
    walkable rows members entries bytes root handles sizes alignments (accepted_finished m root (as_held m root a j e).held).0
