-- What reading and writing have in common: the rules' parts, one after the other, each of so many bytes in line, what is asked for
-- before a part is done, and what is left of a whole. walk_leaves and write_leaves each say what it is to them.
-- Assumes nothing.
use mathlib.Core.Path.{◌≡◌}
use Prim.Native.Nat.{ℕ, suc, ◌+◌}
use Rattle.rules.specs.declared.Fault.{Fault}

-- That it is all one how parts are grouped.
pub record Grouping (Part : Type 0) (nothing : Part) (fill : (bytes : ℕ) → Part) (sequence : (size : ℕ) → Part → Part → Part) (elements : (size : ℕ) → (ℕ → Part) → (index count : ℕ) → Part) : Type 0 where
  pub no_fill : fill 0 ≡ nothing
  pub nothing_first : (p : Part) → sequence 0 nothing p ≡ p
  pub nothing_last : (size : ℕ) (p : Part) → sequence size p nothing ≡ p
  pub grouped : (a b : ℕ) (p q r : Part) → sequence a p (sequence b q r) ≡ sequence (a + b) (sequence a p q) r
  pub no_elements : (size : ℕ) (parts : ℕ → Part) (i : ℕ) → elements size parts i 0 ≡ nothing
  pub next_element : (size : ℕ) (parts : ℕ → Part) (i count : ℕ) → elements size parts i (suc count) ≡ sequence size (parts i) (elements size parts (suc i) count)

-- The rules' parts.
pub record Algebra : Type 1 where
  pub Part : Type 0
  pub nothing : Part
  pub fill : (bytes : ℕ) → Part
  pub sequence : (size : ℕ) → Part → Part → Part
  pub elements : (size : ℕ) → (ℕ → Part) → (index count : ℕ) → Part
  pub laws : Grouping Part nothing fill sequence elements

-- That a part goes on to the rest, or is refused and the rest with it; what is asked for the one and the other.
pub record Leading (A : Algebra) (Cursor Lent Answer : Type 0) (on : Cursor → Answer) (refused : Fault → Answer)
    (Ask : (size place : ℕ) → Cursor → Type 0) (Did : (size place : ℕ) (l l' : Lent) → Cursor → Answer → A.Part → Type 0) : Type 0 where
  pub ask_first : (first rest : ℕ) {place : ℕ} {c : Cursor} → Ask (first + rest) place c → Ask first place c
  pub ask_rest : (first rest place : ℕ) (p : A.Part) {l l' : Lent} {c d : Cursor} → Ask (first + rest) place c → Did first place l l' c (on d) p → Ask rest (place + first) d
  pub did_nothing : {place : ℕ} {l : Lent} {c : Cursor} → Ask 0 place c → Did 0 place l l c (on c) A.nothing
  pub did_then : (first rest place : ℕ) (p q : A.Part) {l l' l'' : Lent} {c d : Cursor} {r : Answer}
      → Ask (first + rest) place c → Did first place l l' c (on d) p → Did rest (place + first) l' l'' d r q → Did (first + rest) place l l'' c r (A.sequence first p q)
  pub did_halt : (first rest place : ℕ) (p q : A.Part) {l l' : Lent} {c : Cursor} {f : Fault}
      → Did first place l l' c (refused f) p → Did (first + rest) place l l' c (refused f) (A.sequence first p q)

-- What it is to do them: where one stands, what one is lent, and the answer, on from a cursor or refused; what a part at a place is
-- asked for, and what was done.
pub record Doing (A : Algebra) : Type 1 where
  pub Cursor : Type 0
  pub Lent : Type 0
  pub Answer : Type 0
  pub on : Cursor → Answer
  pub refused : Fault → Answer
  pub Ask : (size place : ℕ) → Cursor → Type 0
  pub Did : (size place : ℕ) (l l' : Lent) → Cursor → Answer → A.Part → Type 0
  pub laws : Leading A Cursor Lent Answer on refused Ask Did

-- ---- what is left

-- Whoever does the rest, from the cursor `d` on, has done the whole, which began at the cursor `c`.
pub record Left {A : Algebra} (D : Doing A) (size at : ℕ) (whole : A.Part) (l : D.Lent) (c : D.Cursor) (l' : D.Lent) (d : D.Cursor) (left : ℕ) (rest : A.Part) (place : ℕ) : Type 0 where
  pub asks : D.Ask left place d
  pub leads : (l'' : D.Lent) (r : D.Answer) → D.Did left place l' l'' d r rest → D.Did size at l l'' c r whole

module _ {A : Algebra} {D : Doing A} {size at : ℕ} {whole : A.Part} {l : D.Lent} {c : D.Cursor} where
  pub left_start : D.Ask size at c → Left D size at whole l c l c size whole at
  left_start a = record { asks = a; leads = λ l' r q. q }

  module _ {l' : D.Lent} {d : D.Cursor} {place : ℕ} where
    module _ (first rest : ℕ) (p q : A.Part) (w : Left D size at whole l c l' d (first + rest) (A.sequence first p q) place) where
      pub first_asks : D.Ask first place d
      first_asks = D.laws.ask_first first rest w.asks

      -- A part went on: what is left is the rest.
      pub left_on : {l'' : D.Lent} {e : D.Cursor} → D.Did first place l' l'' d (D.on e) p → Left D size at whole l c l'' e rest q (place + first)
      left_on did = record { asks = D.laws.ask_rest first rest place p w.asks did; leads = λ l''' r later. w.leads l''' r (D.laws.did_then first rest place p q w.asks did later) }

      -- A part was refused, and so is the whole.
      pub left_refused : {l'' : D.Lent} {f : Fault} → D.Did first place l' l'' d (D.refused f) p → D.Did size at l l'' c (D.refused f) whole
      left_refused did = w.leads _ _ (D.laws.did_halt first rest place p q did)

    -- Nothing is left.
    pub left_end : Left D size at whole l c l' d 0 A.nothing place → D.Did size at l l' c (D.on d) whole
    left_end w = w.leads _ _ (D.laws.did_nothing w.asks)
