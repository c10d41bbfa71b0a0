-- The walk from the root on, and the tests after it: 20, 21.
-- Assumes nothing.
use Rattle.std.specs.Prelude.{Err, Ok, Result}
use mathlib.Core.Path.{◌≡◌, refl, ◌∙◌}
use mathlib.Core.Bool.{Bool, true, false}
use mathlib.Core.List.{List}
use Prim.Native.Nat.{ℕ, ◌+◌, ◌≤◌, ◌<◌}
use native.Mathlib.Nat.{zero-add}
use native.Mathlib.Omega.{arith}
use lib.Dec.{eqb}
use lib.ListN.{length, get_or}
use Rattle.rules.specs.declared.Fault.{Fault}
use Rattle.rules.specs.Refusals.{accepted, refused, require}
use Rattle.rules.specs.Bytes.{round_up, padded}
use Rattle.rules.specs.TypeTable.{TypeTable}
use Rattle.rules.specs.Sizes.{size_of}
use Rattle.rules.specs.Trace.{Event, primary_object, object_list}
use Rattle.rules.specs.Decode as D
use Rattle.rules.specs.Decode.{Message, Decoded, went, stopped}
use Rattle.rules.specs.Walk as W
use Rattle.rules.specs.Answers.{walk, finished, answer_of}
use Rattle.layout.proofs.Rows.{sound_rows, sound_size}
use Rattle.layout.proofs.Keeping.{few_rows, kept_size}
use Rattle.layout.specs.Ready.{Ready}
use Rattle.walk_leaves.specs.declared.cursor.Cursor.{Cursor}
use Rattle.walk_leaves.specs.Doing.{Walked}
use Rattle.walk_leaves.specs.Doing.{message, answer, Did, Ask}
use Rattle.walk_leaves.specs.Parts.{claim_at, DidObjects}
use Rattle.walk.specs.Walking.{ValueDid}
use Rattle.reader.specs.declared.Lengths.{Lengths}
use Rattle.reader.specs.Answers.{lengths_of}
use Rattle.reader.specs.Passing.{lists_of, after_walk, start, Walkable, PrimaryDid, Passed}
use Rattle.walk_leaves.proofs.Steps.{did_then, did_halt}
use Rattle.walk_records.proofs.Claiming.{claim_then, claim_on}

-- The walk is the claim of the primary object, and then the root's value.
walk_then : (m : Message) (root : ℕ)
    → walk m root ≡ D.and_then (claim_at primary_object root (size_of m.table root) m 0 0 0) (λ n u. W.decode_row m (W.levels m 32) root 0 n u)
unfolding walk
walk_then m root = claim_then m primary_object root (size_of m.table root) (W.decode_row m (W.levels m 32) root) 0 0 0

-- ---- the primary object

module _ {t : TypeTable} {bytes : List ℕ} {root handles : ℕ} {sizes alignments : List ℕ} (w : Walkable t bytes root handles sizes alignments)
    {size : ℕ} (kept : size ≡ get_or sizes root 0) where
  root_size : size ≡ size_of t root
  root_size = kept ∙ (rw w.ready.sizes_kept (kept_size t w.ready.sound root w.ready.in_use))

  size_bound : size ≤ 65528
  size_bound = omega (arith, root_size, sound_size t root (sound_rows t w.ready.sound root w.ready.in_use))

  pub claim_asked : (length bytes ≤ 65536) × (start.next ≤ length bytes) × (start.objects < 4294967296) × (root < 4294967296) × (size < 281474976710656)
  claim_asked =
      (w.short, omega arith, omega arith, omega (arith, few_rows t w.ready.sound root w.ready.in_use), omega (arith, size_bound))

  module _ {objects objects' : List ℕ} {r : Walked} (claim : DidObjects bytes objects objects' 4 0 start r (claim_at primary_object root size)) where
    claimed_root : (values : List ℕ)
        → Did (length bytes) handles 4 values values objects objects' start r
        (claim_at primary_object root (size_of t root) (message t bytes handles) 0 0 0)
    claimed_root values = rw root_size at (claim t values handles (omega arith) (omega arith))

    pub primary_refused : {values : List ℕ} {f : Fault} → r ≡ Err f → PrimaryDid t bytes root handles values values objects objects' (Err f)
    primary_refused {values} e = rw (walk_then (message t bytes handles) root) (did_halt 4 _ (rw e at (claimed_root values)))

    module _ {c : Cursor} (e : r ≡ Ok c) where
      opened : (values : List ℕ)
          → Did (length bytes) handles 4 values values objects objects' start (Ok c)
          (claim_at primary_object root (size_of t root) (message t bytes handles) 0 0 0)
      opened values = rw e at (claimed_root values)

      fits : (c.next ≡ padded (size_of t root)) × (c.handles ≡ 0) × (c.values ≡ 0) × (c.objects ≡ 4)
          × (padded (size_of t root) ≤ length bytes)
      fits =
          let p = claim_on (message t bytes handles) primary_object root (size_of t root) 0 (opened objects) in
          (omega (arith, p.0), p.1, p.2, omega (arith, p.3), omega (arith, p.4))

      pub root_asked : Ready t sizes alignments 32 root × Ask (length bytes) handles (size_of t root) 0 c
      unfolding padded round_up
      root_asked =
          let p = fits in (
            w.ready,
            record {
              short = w.short;
              few = w.few;
              inside = omega (arith, p.4);
              free = omega (arith, p.0, p.4);
              held = omega (arith, p.1);
              small = omega (arith, p.0, p.2, p.3, p.4, w.short);
            },
          )

      pub primary_walked : {values values' objects'' : List ℕ} {r' : Walked}
          → ValueDid t bytes handles 32 values values' objects' objects'' 0 c root r'
          → PrimaryDid t bytes root handles values values' objects objects'' r'
      unfolding padded round_up
      primary_walked {values} did =
          let p = fits in
          rw (walk_then (message t bytes handles) root) (did_then 4 _ (opened values) did (omega (arith, p.0, p.2, p.3, p.4)))

-- ---- after the walk

module _ (t : TypeTable) (bytes : List ℕ) (root handles : ℕ) {values values' objects objects' : List ℕ} {r : Walked}
    (did : PrimaryDid t bytes root handles values values' objects objects' r) where
  abbrev here : Message
  here = message t bytes handles

  abbrev Ends : Result Lengths Fault → Type 0
  Ends reading = Passed t bytes root handles values values' objects objects' reading

  pub walk_refused : {f : Fault} → r ≡ Err f → Ends (Err f)
  walk_refused {f} e = record { answers = go (walk here root) did.says; valued = did.valued; listed = did.listed }
    where
      go : (d : Decoded) → r ≡ answer start d → refused f ≡ lengths_of (lists_of (finished here d))
      go (went n u vs t) q = absurd (let w : ◌≡◌ {A = ℕ} 0 1 = cc in omega arith)
      go (stopped g vs t) q = let z : f ≡ g = cc in rw z

  pub walk_ended : {end : Cursor} {reading : Result Lengths Fault} → r ≡ Ok end → answer_of reading ≡ after_walk end (length bytes) handles → Ends reading
  walk_ended {end} {reading} e a = record { answers = a ∙ go (walk here root) did.says; valued = did.valued; listed = did.listed }
    where
      -- the lists of the walk are as long as the cursor says
      same : (all used : Bool) (f g : Fault) (vs : List ℕ) (t : List Event) → end.values ≡ 0 + length vs → end.objects ≡ 0 + length (object_list t)
          → require all f (require used g (accepted (record { values = end.values; objects = end.objects })))
          ≡ lengths_of (lists_of (require all f (require used g (accepted (record { values = vs; trace = t })))))
      same true true f g vs t v o = rw (v, o, zero-add (length vs), zero-add (length (object_list t)))
      same true false f g vs t v o = refl
      same false used f g vs t v o = refl

      go : (d : Decoded) → r ≡ answer start d → after_walk end (length bytes) handles ≡ lengths_of (lists_of (finished here d))
      go (went n u vs t) q =
          let z : n ≡ end.next = cc in
          let y : u ≡ end.handles = cc in
          let v : end.values ≡ 0 + length vs = cc in
          let o : end.objects ≡ 0 + length (object_list t) = cc in
          rw (z, y) (same (eqb end.next (length bytes)) (eqb end.handles handles) _ _ vs t v o)
      go (stopped k vs t) q = absurd (let w : ◌≡◌ {A = ℕ} 0 1 = cc in omega arith)
