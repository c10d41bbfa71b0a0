-- The value walk: for each kind, what the functions below it did is what the rules' walk of the row does.
-- Assumes nothing.
use mathlib.Core.List.{List}
use mathlib.Core.Path.{◌≡◌, sym, ◌∙◌}
use Prim.Native.Nat.{ℕ, ◌≤◌, ◌<◌}
use native.Mathlib.Omega.{arith}
use lib.Dec.{eqb}
use lib.ListN.{length}
use Rattle.rules.specs.TypeTable.{TypeTable, kind_at, a_at, b_at, c_at}
use Rattle.rules.specs.Sizes.{size_of}
use Rattle.rules.specs.Envelope.{decode_word}
use Rattle.rules.specs.Walk as W
use Rattle.layout.proofs.ByKind.{size_bool, size_number, size_handle, size_array, size_string}
use Rattle.walk_leaves.specs.declared.cursor.Cursor.{Cursor}
use Rattle.walk_leaves.specs.Doing.{Walked}
use Rattle.walk_leaves.specs.Doing.{message, Ask}
use Rattle.walk_leaves.specs.Parts.{bool_at, handle_at, DidValues, DidHandles}
use Rattle.walk_records.specs.Promises.{StringDid}
use Rattle.walk.specs.Walking.{ValueDid, ElementsDid}
use Rattle.walk_leaves.proofs.Steps.{did_more}
use Rattle.walk.proofs.ByKind.{decode_bool, decode_number, decode_handle, decode_array, decode_string}

module _ (t : TypeTable) (bytes : List ℕ) (handles depth row at : ℕ) (v v' o : List ℕ) (c : Cursor) (r : Walked) {k : ℕ} (e : k ≡ kind_at t row) where
  pub value_bool : k ≡ 1 → c.next ≤ length bytes → c.handles ≤ handles → DidValues bytes v v' 1 at c r bool_at → ValueDid t bytes handles depth v v' o o at c row r
  value_bool q h l d =
      let kind : kind_at t row ≡ 1 = sym e ∙ q in
      rw (decode_bool (message t bytes handles) (W.levels (message t bytes handles) depth) row kind, size_bool t row kind) (d t o handles h l)

  pub value_number : {a : ℕ} → k ≡ 2 → a ≡ a_at t row → 1 ≤ a → c.next ≤ length bytes → c.handles ≤ handles → DidValues bytes v v' 1 at c r (λ m. decode_word m a)
      → ValueDid t bytes handles depth v v' o o at c row r
  value_number {a} q f i h l d =
      let kind : kind_at t row ≡ 2 = sym e ∙ q in
      rw (decode_number (message t bytes handles) (W.levels (message t bytes handles) depth) row kind, size_number t row kind, ← f)
      (did_more a i (d t o handles h l))

  pub value_handle : {a : ℕ} → k ≡ 3 → a ≡ a_at t row → c.next ≤ length bytes → DidHandles bytes v v' handles 1 at c r (handle_at (eqb a 1))
      → ValueDid t bytes handles depth v v' o o at c row r
  value_handle q f h d =
      let kind : kind_at t row ≡ 3 = sym e ∙ q in
      rw (decode_handle (message t bytes handles) (W.levels (message t bytes handles) depth) row kind, size_handle t row kind, ← f)
      (did_more 4 (omega arith) (d t o h))

module _ (t : TypeTable) (bytes : List ℕ) (handles depth row at : ℕ) (v v' o o' : List ℕ) (c : Cursor) (r : Walked) {k : ℕ} (e : k ≡ kind_at t row) where
  pub value_array : {a b : ℕ} → k ≡ 4 → a ≡ a_at t row → b ≡ b_at t row → a < row → ElementsDid t bytes handles depth v v' o o' at c a b r
      → ValueDid t bytes handles depth v v' o o' at c row r
  value_array {a} {b} q f g h d =
      let kind : kind_at t row ≡ 4 = sym e ∙ q in
      let below : a_at t row < row = rw f at h in
      rw (decode_array (message t bytes handles) (W.levels (message t bytes handles) depth) row kind below, size_array t row kind below, ← f, ← g) d

  pub value_string : {b f : ℕ} → k ≡ 6 → b ≡ b_at t row → f ≡ c_at t row → Ask (length bytes) handles (size_of t row) at c → StringDid bytes depth v v' o o' at c row b f r
      → ValueDid t bytes handles depth v v' o o' at c row r
  value_string q g h ask d =
      let kind : kind_at t row ≡ 6 = sym e ∙ q in
      rw (decode_string (message t bytes handles) (W.levels (message t bytes handles) depth) row kind, size_string t row kind, ← g, ← h) (d t handles (rw (size_string t row kind) at ask))
