-- A run of zeros, stored one by one, and that it is the rules' fill.
-- Assumes nothing.
use Rattle.std.specs.Prelude.{Ok}
use mathlib.Core.Path.{◌≡◌, refl, sym, ap, ◌∙◌}
use mathlib.Core.List.{List}
use Prim.Native.Nat.{ℕ, suc, ◌+◌, ◌-◌, ◌≤◌, ◌<◌}
use native.Mathlib.Omega.{arith}
use lib.ListN.{length, set}
use lib.Seq.{sets, length-sets}
use Rattle.rules.specs.Bytes.{zeros, bytes_of}
use Rattle.rules.specs.Encode as E
use Rattle.rules.proofs.Bytes.{zeros_length}
use Rattle.words.proofs.Stores.{sets_past, bytes_of_byte}
use Rattle.write_leaves.specs.declared.cursor.Cursor.{Cursor}
use Rattle.write_leaves.specs.Putting.{PutsInLine, Stands}
use Rattle.write_leaves.proofs.InLine.{put_in_line}

-- An output that ends before the zeros is left as it was.
pub filled_past : (out : List ℕ) (at count : ℕ) → length out ≤ at → out ≡ sets out at (zeros count)
filled_past out at count h = sym (sets_past out at (zeros count) h)

-- With `i` of the zeros stored: to store the rest is to store them all.
pub record Filled (before : List ℕ) (at count : ℕ) (out : List ℕ) (i : ℕ) : Type 0 where
  pub rest : sets out (at + i) (zeros (count - i)) ≡ sets before at (zeros count)

pub filled_none : (before : List ℕ) (at count : ℕ) → Filled before at count before 0
filled_none before at count = record { rest = from (at + 0) (count - 0) (omega arith) (omega arith) }
  where
    from : (p n : ℕ) → p ≡ at → n ≡ count → sets before p (zeros n) ≡ sets before at (zeros count)
    from p n e f = rw (e, f)

module _ (before : List ℕ) (at count : ℕ) (out : List ℕ) (i : ℕ) (filled : Filled before at count out i) where
  pub filled_more : {out' : List ℕ} → i < count → out' ≡ sets out (at + i) (bytes_of 1 0) → Filled before at count out' (i + 1)
  unfolding zeros
  filled_more {out'} h e =
      record { rest = from (at + (i + 1)) (count - i) (count - (i + 1)) (omega arith) (omega arith) (e ∙ ap (sets out (at + i)) (bytes_of_byte 0 (omega arith))) filled.rest }
    where
      from : (q n m : ℕ) → q ≡ suc (at + i) → n ≡ suc m → out' ≡ set out (at + i) 0 → sets out (at + i) (zeros n) ≡ sets before at (zeros count)
          → sets out' q (zeros m) ≡ sets before at (zeros count)
      from q n m a b s r = rw (a, s) (rw b at r)

  pub filled_all : count ≤ i → out ≡ sets before at (zeros count)
  unfolding zeros
  filled_all h = from (count - i) (omega arith) filled.rest
    where
      from : (n : ℕ) → n ≡ 0 → sets out (at + i) (zeros n) ≡ sets before at (zeros count) → out ≡ sets before at (zeros count)
      from n a r = rw a at r

  pub filled_length : length out ≡ length before
  filled_length = simp length-sets at (ap length filled.rest)

-- The cursor stays where it is.
pub fill_put : {values out out' : List ℕ} {at : ℕ} {c : Cursor} (count : ℕ) → Stands values c → out' ≡ sets out at (zeros count) → PutsInLine values out out' count at c (Ok c) (E.fill count)
unfolding E.inline_bytes
fill_put {c = c} count s stored base = put_in_line c (zeros count) (zeros_length count) stored s refl (omega arith) (omega arith)
