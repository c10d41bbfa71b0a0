-- A claim, and what is walked in the object.
-- Assumes nothing.
use Rattle.std.specs.Prelude.{Ok}
use mathlib.Core.Path.{◌≡◌, refl, sym, ◌∙◌}
use mathlib.Core.Bool.{Bool, true, false}
use mathlib.Core.List.{List, [], ◌∷◌}
use Prim.Native.Nat.{ℕ, ◌+◌, ◌-◌, ◌≤◌}
use native.Mathlib.Omega.{arith}
use borrow.Author.Tests.{leb-true}
use lib.Dec.{leb}
use lib.ListN.{length}
use Rattle.rules.specs.declared.Fault.{Fault}
use Rattle.rules.specs.declared.Place.TheVariants.{Byte}
use Rattle.rules.specs.Refusals.{fault, object_does_not_fit, fill_not_zero}
use Rattle.rules.specs.Bytes.{part, leading_zeros, padded}
use Rattle.rules.specs.Trace.{claimed, object_list}
use Rattle.rules.specs.Decode as D
use Rattle.rules.specs.Decode.{Message, Decoded, went, Decoder}
use Rattle.walk_leaves.specs.declared.cursor.Cursor.{Cursor}
use Rattle.walk_leaves.specs.Doing.{answer, Did}
use Rattle.walk_leaves.specs.Parts.{claim_at}
use Rattle.walk_leaves.proofs.Results.{then_then}

pub claim_then : (m : Message) (kind row size : ℕ) (f : Decoder) (at n u : ℕ)
    → D.claim m kind row size f at n u ≡ D.and_then (claim_at kind row size m at n u) (λ n' u'. f n n' u')
unfolding D.claim claim_at
claim_then m kind row size f at n u =
    go (leb (n + padded size) (length m.bytes)) (D.is_zero m (n + size) (padded size - size)) (fault object_does_not_fit (Byte n))
    (fault fill_not_zero (Byte (n + size + leading_zeros (part m.bytes (n + size) (padded size - size)))))
  where
    go : (fits zero : Bool) (g h : Fault)
        → D.require fits g (D.require zero h (D.after [] (claimed kind row n size ∷ []) (f n (n + padded size) u)))
        ≡ D.and_then (D.require fits g (D.require zero h (went (n + padded size) u [] (claimed kind row n size ∷ [])))) (λ n' u'. f n n' u')
    go true true g h = refl
    go true false g h = refl
    go false zero g h = refl

-- What follows the walk of the object may as well follow the whole.
pub claim_followed : (m : Message) (kind row size : ℕ) (f : Decoder) (k : ℕ → ℕ → Decoded) (at n u : ℕ)
    → D.claim m kind row size (λ at' n' u'. D.and_then (f at' n' u') k) at n u ≡ D.and_then (D.claim m kind row size f at n u) k
claim_followed m kind row size f k at n u =
    claim_then m kind row size (λ at' n' u'. D.and_then (f at' n' u') k) at n u
    ∙ (sym (then_then (claim_at kind row size m at n u) (λ n' u'. f n n' u') k) ∙ rw (claim_then m kind row size f at n u))

-- Where a claim stands in line does not matter.
pub claim_anywhere : (m : Message) (kind row size at at' n u : ℕ) → claim_at kind row size m at n u ≡ claim_at kind row size m at' n u
unfolding claim_at
claim_anywhere m kind row size at at' n u = refl

-- A claim that went on took the object with its fill, which lie in the message.
pub claim_on : {total handles g : ℕ} {v v' o o' : List ℕ} {c e : Cursor} (m : Message) (kind row size at : ℕ)
    → Did total handles g v v' o o' c (Ok e) (claim_at kind row size m at c.next c.handles)
    → (e.next ≡ c.next + padded size) × (e.handles ≡ c.handles) × (e.values ≡ c.values) × (e.objects ≡ c.objects + 4) × (c.next + padded size ≤ length m.bytes)
unfolding claim_at object_list
claim_on {c = c} {e = e} m kind row size at p =
    go (leb (c.next + padded size) (length m.bytes)) (D.is_zero m (c.next + size) (padded size - size)) _ _ refl p.says
  where
    go : (fits zero : Bool) (g h : Fault) → leb (c.next + padded size) (length m.bytes) ≡ fits
        → Ok e ≡ answer c (D.require fits g (D.require zero h (went (c.next + padded size) c.handles [] (claimed kind row c.next size ∷ []))))
        → (e.next ≡ c.next + padded size) × (e.handles ≡ c.handles) × (e.values ≡ c.values) × (e.objects ≡ c.objects + 4) × (c.next + padded size ≤ length m.bytes)
    go true true g h f q =
        let v : e.values ≡ c.values + 0 = cc in
        (cc, cc, omega arith, cc, leb-true _ _ f)
    go true false g h f q = absurd (let w : ◌≡◌ {A = ℕ} 0 1 = cc in omega arith)
    go false zero g h f q = absurd (let w : ◌≡◌ {A = ℕ} 0 1 = cc in omega arith)
