-- A box's word, by the tests that the code makes, and what it leads to.
-- Assumes nothing.
use Rattle.std.specs.Prelude.{Err, Ok, Result}
use mathlib.Core.Path.{◌≡◌, ◌∙◌}
use mathlib.Core.Bool.{true}
use mathlib.Core.List.{List, [], ◌∷◌}
use Prim.Native.Nat.{ℕ, ◌+◌}
use native.Mathlib.Omega.{arith}
use borrow.Author.Tests.{ne_eqb}
use lib.ListN.{length, set}
use Rattle.rules.specs.declared.Fault.{Fault}
use Rattle.rules.specs.declared.Place.TheVariants.{Byte}
use Rattle.rules.specs.Refusals.{fault, presence_wrong}
use Rattle.rules.specs.Bytes.{word, ones64}
use Rattle.rules.specs.TypeTable.{TypeTable}
use Rattle.rules.specs.Sizes.{size_of}
use Rattle.rules.specs.Trace.{boxed_object}
use Rattle.rules.specs.Decode as D
use Rattle.rules.specs.Decode.{Message, got, wrong}
use Rattle.rules.specs.Records.{presence, read_presence}
use Rattle.rules.specs.Walk as W
use Rattle.walk_leaves.specs.declared.cursor.Cursor.{Cursor}
use Rattle.walk_records.specs.declared.records.Opened.{Opened}
use Rattle.walk_records.specs.declared.records.Opened.TheVariants.{Closed}
use Rattle.walk_leaves.specs.Doing.{message, gave_one}
use Rattle.walk_records.specs.Opening.{box_at}
use Rattle.walk_records.specs.Promises.{DeeperOpens, BoxOpens}
use Rattle.walk_leaves.proofs.Steps.{did_stop, did_one}
use Rattle.walk_records.proofs.Openings.{record_got, record_wrong, deeper_anywhere, ask_gave, opens_put}

module _ (m : Message) (at : ℕ) {says : ℕ} (said : says ≡ word m.bytes at 8) where
  box_absent : says ≡ 0 → read_presence m 8 ones64 true at ≡ got 0
  unfolding read_presence presence
  box_absent h = simp (← said, h)

  box_present : says ≡ ones64 → read_presence m 8 ones64 true at ≡ got 1
  unfolding read_presence presence
  box_present h = simp (← said, h)

  box_wrong : (says ≡ 0 → ⊥) → (says ≡ ones64 → ⊥) → read_presence m 8 ones64 true at ≡ wrong (fault presence_wrong (Byte at))
  unfolding read_presence presence
  box_wrong h k = simp (← said, ne_eqb _ _ h, ne_eqb _ _ k)

module _ (bytes : List ℕ) (depth : ℕ) (values objects : List ℕ) (at : ℕ) (c : Cursor) (element size : ℕ) {says : ℕ} (said : says ≡ word bytes at 8) where
  pub box_closed : {values' : List ℕ} {d : Cursor} → says ≡ 0 → values' ≡ set values c.values 0 → d ≡ gave_one c
      → BoxOpens bytes depth values values' objects objects at c element size (Ok (Closed d))
  box_closed h e g t handles sized ask =
      rw (e, g, record_got 8 _ _ at c.next c.handles (box_absent (message t bytes handles) at said h)) (did_one 0 (omega arith) ask.free ask.held)

  pub box_refused : {f : Fault} → (says ≡ 0 → ⊥) → (says ≡ ones64 → ⊥) → f ≡ fault presence_wrong (Byte at)
      → BoxOpens bytes depth values values objects objects at c element size (Err f)
  box_refused h k e t handles sized ask = rw (e, record_wrong 8 _ _ at c.next c.handles (box_wrong (message t bytes handles) at said h k)) did_stop

  box_whole : (t : TypeTable) (handles : ℕ) → size_of t element ≡ size → says ≡ ones64
      → box_at (message t bytes handles) depth element at c.next c.handles
      ≡ D.after (1 ∷ []) [] (D.one_deeper (W.levels (message t bytes handles) depth) at
      (λ deep below. D.claim (message t bytes handles) boxed_object element size (deep element)) at c.next c.handles)
  box_whole t handles sized h =
      let m = message t bytes handles in
      record_got 8 _ _ at c.next c.handles (box_present m at said h)
      ∙ rw (sized, deeper_anywhere m boxed_object element size (W.levels m depth) at (λ deep below. deep element) (at + 8) at)

  pub box_opened : {values' : List ℕ} (objects' : List ℕ) {d : Cursor} (r : Result Opened Fault) → says ≡ ones64 → values' ≡ set values c.values 1 → d ≡ gave_one c
      → DeeperOpens bytes depth objects objects' at d boxed_object element size r
      → BoxOpens bytes depth values values' objects objects' at c element size r
  box_opened objects' r h e g opens t handles sized ask =
      let given = set values c.values 1 in
      rw (e, box_whole t handles sized h)
      (opens_put (length bytes) handles values given objects objects' c _ 4 8 1 _ _ r (omega arith) (rw g at (opens t given handles (λ deep below. deep element) (ask_gave 8 ask (omega arith) g))))
