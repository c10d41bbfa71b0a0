-- Laws of the machine that goes over text by classes: 13 classes in 9 states, by one test.
-- Assumes nothing.
use Rattle.std.specs.Prelude.{if◌then◌else◌}
use mathlib.Core.Path.{◌≡◌, refl, sym, ◌∙◌, ap}
use mathlib.Core.Bool.{Bool, true, false, ◌&&◌, ◌||◌, false≢true}
use mathlib.Core.List.Memᴰ
use mathlib.Core.List.{List, [], ◌∷◌, ◌++◌, map, Memᴰ}
use Prim.Native.Nat.{ℕ, zero, suc, ◌+◌, ◌-◌, ◌*◌, ◌/◌, ◌%◌, ◌^◌, ◌≤◌, ◌<◌}
use native.Mathlib.Nat.{add-zero}
use native.Mathlib.Numerals.{add-one}
use native.Mathlib.Omega.{arith}
use borrow.Author.Tests.{ltb-true, eqb-true, eq-eqb, ne_eqb}
use lib.Dec.{eqb, ltb}
use lib.ListN.{length, take, drop, get_or, drop_of_length-le}
use Rattle.std.proofs.lemmas.List.{length-take-le, length-take, length-drop, length-map, take_all, take-append-drop, drop-drop, map_more}
use lib.Seq.{drop-cons}
use Rattle.rules.specs.Text.{Range, range, holds, Form, form, forms, Led, led, not_a_lead, leads, broken, follows}
use Rattle.rules.proofs.Tests.{both}
use Rattle.text.specs.Sequences.{text_from, Passes}
use Rattle.text.specs.Classes.{ranges_of, ranges, same_range, is_in, holds_class, class_of, Alike}
use Rattle.text.specs.Machine.{due_in, steps, Stands, due_after, due_over, StepsTo, StepsOver, At, Reached}
use Rattle.text.proofs.Laws.{begins}
use Rattle.text.proofs.Runs.{rest, chunk_numbers, chunk_inside}
use Rattle.text.proofs.Classes.{all_below, below, same, is_same, classes_right}

-- ---- what is due after a number, by what the ranges say of it

abbrev leads_by : (Range → Bool) → List Form → Led
leads_by f [] = not_a_lead
leads_by f (form lead after ∷ fs) = if f lead then led after else leads_by f fs

abbrev due_by : (Range → Bool) → Led → Led
due_by f (led []) = leads_by f forms
due_by f (led (r ∷ due)) = if f r then led due else not_a_lead
due_by f not_a_lead = not_a_lead

leads_by_lem : (number : ℕ) (fs : List Form) → leads fs number ≡ leads_by (λ r. holds r number) fs
leads_by_lem number [] = refl
leads_by_lem number (form lead after ∷ fs) = rw (leads_by_lem number fs)

due_by_lem : (number : ℕ) (due : Led) → due_after number due ≡ due_by (λ r. holds r number) due
due_by_lem number (led []) = leads_by_lem number forms
due_by_lem number (led (r ∷ due)) = refl
due_by_lem number not_a_lead = refl

same_range_lem : (r s : Range) → same_range r s ≡ true → r ≡ s
same_range_lem (range low high) (range low' high') is =
    let parts = both (eqb low low') (eqb high high') is in
    rw (eqb-true low low' parts.0, eqb-true high high' parts.1)

is_in_lem : (rs : List Range) (r : Range) → is_in rs r ≡ true → Memᴰ r rs
is_in_lem [] r is = absurd (false≢true is)
is_in_lem (s ∷ rs) r is = go (same_range r s) refl is (is_in_lem rs r)
  where
    go : (b : Bool) → same_range r s ≡ b → b || is_in rs r ≡ true → (is_in rs r ≡ true → Memᴰ r rs) → Memᴰ r (s ∷ rs)
    go true e is later = Memᴰ.head (same_range_lem r s e)
    go false e is later = Memᴰ.tail (later is)

-- The range due next is one of the grammar's.
abbrev known_due : Led → Bool
known_due (led []) = true
known_due (led (r ∷ due)) = is_in ranges r
known_due not_a_lead = true

module _ (f g : Range → Bool) where
  leads_agree : (fs : List Form) → ((r : Range) → Memᴰ r (ranges_of fs) → f r ≡ g r) → leads_by f fs ≡ leads_by g fs
  leads_agree [] agree = refl
  leads_agree (form lead after ∷ fs) agree =
      rw (agree lead (Memᴰ.head refl), leads_agree fs (λ r m. agree r (Memᴰ.tail (Memᴰ.append_right after m))))

  due_agree : (due : Led) → known_due due ≡ true → ((r : Range) → Memᴰ r ranges → f r ≡ g r) → due_by f due ≡ due_by g due
  due_agree (led []) is agree = leads_agree forms agree
  due_agree (led (r ∷ due)) is agree = rw (agree r (is_in_lem ranges r is))
  due_agree not_a_lead is agree = refl

-- ---- the states and the steps, each by one test

abbrev between : Led → Bool
between (led []) = true
between (led (r ∷ due)) = false
between not_a_lead = false

abbrev same_ranges : List Range → List Range → Bool
same_ranges [] [] = true
same_ranges [] (s ∷ ss) = false
same_ranges (r ∷ rs) [] = false
same_ranges (r ∷ rs) (s ∷ ss) = same_range r s && same_ranges rs ss

same_ranges_lem : (rs ss : List Range) → same_ranges rs ss ≡ true → rs ≡ ss
same_ranges_lem [] [] is = refl
same_ranges_lem [] (s ∷ ss) is = absurd (false≢true is)
same_ranges_lem (r ∷ rs) [] is = absurd (false≢true is)
same_ranges_lem (r ∷ rs) (s ∷ ss) is =
    let parts = both (same_range r s) (same_ranges rs ss) is in
    rw (same_range_lem r s parts.0, same_ranges_lem rs ss parts.1)

abbrev same_led : Led → Led → Bool
same_led (led rs) (led ss) = same_ranges rs ss
same_led (led rs) not_a_lead = false
same_led not_a_lead (led ss) = false
same_led not_a_lead not_a_lead = true

same_led_lem : (l m : Led) → same_led l m ≡ true → l ≡ m
same_led_lem (led rs) (led ss) is = ap led (same_ranges_lem rs ss is)
same_led_lem (led rs) not_a_lead is = absurd (false≢true is)
same_led_lem not_a_lead (led ss) is = absurd (false≢true is)
same_led_lem not_a_lead not_a_lead is = refl

-- Every state has a known range due next, or none; only the first is between sequences.
state_right : (state : ℕ) → Bool
state_right state = known_due (due_in state) && same (between (due_in state)) (eqb state 0)

states_right : all_below 9 state_right ≡ true
unfolding state_right
states_right = refl

state_right_lem : (state : ℕ) → state < 9 → (known_due (due_in state) ≡ true) × (between (due_in state) ≡ eqb state 0)
unfolding state_right
state_right_lem state h =
    let parts = both (known_due (due_in state)) (same (between (due_in state)) (eqb state 0)) (below 9 state_right states_right state h) in
    (parts.0, is_same (between (due_in state)) (eqb state 0) parts.1)

-- A class's word holds what is due after it, in each state.
due_of : (class state : ℕ) → Led
due_of class state = due_by (λ r. holds_class r class) (due_in state)

step_of : (class state : ℕ) → ℕ
step_of class state = get_or steps class 0 / 2 ^ (6 * state) % 64

step_right : (class state : ℕ) → Bool
step_right class state =
    let next = step_of class state / 6 in
    same_led (due_of class state) (due_in next) && (eqb (step_of class state) (6 * next) && ltb next 9)

steps_right : all_below 13 (λ class. all_below 9 (λ state. step_right class state)) ≡ true
unfolding step_right due_of step_of steps
steps_right = refl

step_right_lem :
    (class state word : ℕ) → class < 13 → state < 9 → word % 64 ≡ 6 * state →
    Stands (get_or steps class 0 / 2 ^ (word % 64)) (due_of class state)
unfolding step_right step_of
step_right_lem class state word h k is =
    let next = step_of class state / 6 in
    let at = below 9 (λ s. step_right class s) (below 13 (λ c. all_below 9 (λ s. step_right c s)) steps_right class h) state k in
    let first = both (same_led (due_of class state) (due_in next)) (eqb (step_of class state) (6 * next) && ltb next 9) at in
    let later = both (eqb (step_of class state) (6 * next)) (ltb next 9) first.1 in
    record {
      state = next;
      known = ltb-true next 9 later.1;
      is = rw is (eqb-true (step_of class state) (6 * next) later.0);
      means = same_led_lem _ _ first.0;
    }

-- One byte on, by its class,
pub steps_to : (word byte : ℕ) → byte < 256 → StepsTo word byte (get_or steps (class_of byte) 0 / 2 ^ (word % 64))
unfolding due_of
steps_to word byte small due s =
    let class = class_of byte in
    let known = (state_right_lem s.state s.known).0 in
    let agree = due_agree (λ r. holds r byte) (λ r. holds_class r class) (due_in s.state) known (classes_right.means byte small) in
    rw (due_by_lem byte due, s.means, agree) (step_right_lem class s.state word (classes_right.known byte small) s.known s.is)

-- and one number on, by a byte that the same ranges hold.
pub alike_steps : {number byte word next : ℕ} → Alike number byte → StepsTo word byte next → StepsTo word number next
alike_steps {number} {byte} alike steps due s =
    let known = (state_right_lem s.state s.known).0 in
    let agree = due_agree (λ r. holds r number) (λ r. holds r byte) (due_in s.state) known alike in
    rw (due_by_lem number due, s.means, agree, ← due_by_lem byte (due_in s.state), ← s.means) (steps due s)

-- ---- the machine in a text

stays_broken : (text : List ℕ) (start at : ℕ) → follows text start at not_a_lead ≡ broken start
unfolding follows
stays_broken [] start at = refl
stays_broken (n ∷ text) start at = refl

one_number :
    (number : ℕ) (text : List ℕ) (start at : ℕ) (due : Led) →
    follows (number ∷ text) start at due ≡ follows text (if between due then at else start) (suc at) (due_after number due)
unfolding follows
one_number number text start at (led []) = refl
one_number number text start at (led (r ∷ due)) = go (holds r number)
  where
    go : (b : Bool) → (if b then follows text start (suc at) (led due) else broken start) ≡ follows text start (suc at) (if b then led due else not_a_lead)
    go true = refl
    go false = sym (stays_broken text start (suc at))
one_number number text start at not_a_lead = sym (stays_broken text start (suc at))

open_end : (start at : ℕ) (due : Led) → between due ≡ false → follows [] start at due ≡ broken start
unfolding follows
open_end start at (led []) is = absurd (false≢true (sym is))
open_end start at (led (r ∷ due)) is = refl
open_end start at not_a_lead is = refl

-- The word says whether the machine is between sequences.
between_zero : {word : ℕ} {due : Led} → Stands word due → between due ≡ eqb (word % 64) 0
between_zero {word} s = ap between s.means ∙ (state_right_lem s.state s.known).1 ∙ go s.state s.is
  where
    go : (k : ℕ) → word % 64 ≡ 6 * k → eqb k 0 ≡ eqb (word % 64) 0
    go zero is = sym (eq-eqb (word % 64) 0 (omega arith))
    go (suc k) is = ne_eqb (suc k) 0 (λ e. omega arith) ∙ sym (ne_eqb (word % 64) 0 (λ e. omega arith))

module _ {text : List ℕ} {from at start word : ℕ} (here : At text from at start word) where
  -- one number on
  pub stepped :
      {next : ℕ} → at < length text → StepsTo word (get_or text at 0) next →
      At text from (at + 1) (if eqb (word % 64) 0 then at else start) next
  stepped inside steps =
      let number = get_or text at 0 in
      record {
        onward = omega arith;
        within = omega arith;
        due = due_after number here.due;
        stands = steps here.due here.stands;
        alike =
            here.alike
            ∙ rw (drop-cons text at 0 inside, add-one, ← between_zero here.stands) (one_number number (drop (suc at) text) start at here.due);
      }

  -- between sequences
  pub passed : word % 64 ≡ 0 → Passes text from at
  passed is =
      let zeroth : here.stands.state ≡ 0 = omega (arith, here.stands.is) in
      let first : here.due ≡ led [] = here.stands.means ∙ ap due_in zeroth in
      record {
        onward = here.onward;
        within = here.within;
        alike = here.alike ∙ ap (follows (drop at text) start at) first ∙ begins (drop at text) start at;
      }

  -- never again
  pub refused : word % 64 ≡ 48 → broken start ≡ text_from text from
  refused is =
      let last : here.stands.state ≡ 8 = omega (arith, here.stands.is) in
      sym (here.alike ∙ ap (follows (drop at text) start at) (here.stands.means ∙ ap due_in last) ∙ stays_broken (drop at text) start at)

  -- cut off
  pub cut_off : (word % 64 ≡ 0 → ⊥) → length text ≤ at → broken start ≡ text_from text from
  cut_off due-still ended =
      sym (here.alike ∙ rw (drop_of_length-le text ended) (open_end start at here.due (between_zero here.stands ∙ ne_eqb (word % 64) 0 due-still)))

pub begun : {text : List ℕ} {from at word : ℕ} → Passes text from at → word % 64 ≡ 0 → At text from at at word
begun p is = record {
  onward = p.onward;
  within = p.within;
  due = led [];
  stands = record { state = 0; known = omega arith; is = is; means = refl };
  alike = p.alike;
}

-- Numbers one after the other lead to the same.
over_numbers :
    (numbers rest : List ℕ) (start at : ℕ) (due : Led) →
    (later : ℕ) × (follows (numbers ++ rest) start at due ≡ follows rest later (at + length numbers) (due_over numbers due))
over_numbers [] rest start at due = (start, rw (add-zero at))
over_numbers (n ∷ numbers) rest start at due =
    let next = over_numbers numbers rest (if between due then at else start) (suc at) (due_after n due) in
    let place : suc at + length numbers ≡ at + suc (length numbers) = omega arith in
    (next.0, one_number n (numbers ++ rest) start at due ∙ rw place at next.1)

pub stepped_over :
    {text : List ℕ} {from at word next : ℕ} (n : ℕ) → Reached text from at word → at + n ≤ length text → StepsOver word (take n (drop at text)) next →
    Reached text from (at + n) next
stepped_over {text} {from} {at} n r inside steps =
    let here = r.there in
    let part = take n (drop at text) in
    let over = over_numbers part (drop (at + n) text) r.start at here.due in
    let long : length part ≡ n = length-take-le n (drop at text) (omega (arith, length-drop at text)) in
    let cut : drop at text ≡ part ++ drop (at + n) text =
    sym (take-append-drop n (drop at text)) ∙ ap (λ (rest : List ℕ). part ++ rest) (drop-drop n at text) in
    record {
      start = over.0;
      there = record {
        onward = omega arith;
        within = inside;
        due = due_over part here.due;
        stands = steps here.due here.stands;
        alike = here.alike ∙ ap (λ (rest : List ℕ). follows rest r.start at here.due) cut ∙ rw long at over.1;
      };
    }

-- The same over a chunk of a text, and over all that is left of it.
pub over_chunk :
    {X : Type 0} (f : X → ℕ) (text : List X) {chunk : List X} (n : ℕ) {from at word next : ℕ} → n ≤ length (rest text at) → chunk ≡ take n (rest text at) →
    Reached (map f text) from at word → StepsOver word (map f chunk) next → Reached (map f text) from (at + n) next
over_chunk f text {chunk} n {from} {at} long is r steps =
    stepped_over n r (chunk_inside f text n at long r.there.within) (rw (chunk_numbers f text {chunk = chunk} n at is) at steps)

pub over_rest :
    {X : Type 0} (f : X → ℕ) (text : List X) {from at word next : ℕ} →
    Reached (map f text) from at word → StepsOver word (map f (rest text at)) next → Reached (map f text) from (length text) next
over_rest f text {from} {at} r steps =
    let n = length text - at in
    let whole : at + n ≡ length text = omega (arith, length-map text f, r.there.within) in
    let long : n ≤ length (rest text at) = omega (arith, length-take n (drop at text), length-drop at text) in
    let all : rest text at ≡ take n (rest text at) = sym (take_all n (rest text at) (omega (arith, length-take n (drop at text)))) in
    rw whole at (over_chunk f text n long all r steps)

-- One number more of a part.
due_over_more : (numbers : List ℕ) (n : ℕ) (due : Led) → due_over (numbers ++ n ∷ []) due ≡ due_after n (due_over numbers due)
due_over_more [] n due = refl
due_over_more (m ∷ numbers) n due = due_over_more numbers n (due_after m due)

pub over_more :
    {X : Type 0} (f : X → ℕ) (items : List X) (k : ℕ) (item : X) {word middle next : ℕ} → k < length items → item ≡ get_or items k item →
    StepsOver word (map f (take k items)) middle → StepsTo middle (f item) next → StepsOver word (map f (take (k + 1) items)) next
over_more f items k item h is over steps due s =
    rw (map_more f items k item h, ← is, due_over_more (map f (take k items)) (f item) due) (steps _ (over due s))

pub reached : {text : List ℕ} {from at word : ℕ} → Passes text from at → word % 64 ≡ 0 → Reached text from at word
reached p is = record { start = _; there = begun p is }

-- The last place between sequences that is known.
pub later :
    {text : List ℕ} {from at word begun next : ℕ} → Passes text from begun → Reached text from at word →
    next ≡ (if eqb (word % 64) 0 then at else begun) → Passes text from next
later {text} {from} {at} {word} {begun} p r is = rw is (go (eqb (word % 64) 0) refl)
  where
    go : (b : Bool) → eqb (word % 64) 0 ≡ b → Passes text from (if b then at else begun)
    go true e = passed r.there (eqb-true (word % 64) 0 e)
    go false e = p
