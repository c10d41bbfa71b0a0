-- How parts of the walk go together: the code's answers and the lent lists, along the rules' own ways of putting parts
-- together. Assumes nothing.
use Rattle.std.specs.Prelude.{Err, Ok}
use mathlib.Core.Path.{◌≡◌, refl, sym, ap, ◌∙◌}
use mathlib.Core.List.{List, [], ◌∷◌, ◌++◌}
use Prim.Native.Nat.{ℕ, ◌+◌, ◌≤◌}
use native.Mathlib.Nat.{add-zero}
use native.Mathlib.Omega.{arith}
use lib.ListN.{length, set, length-append}
use lib.Seq.{sets}
use Rattle.rules.specs.declared.Fault.{Fault}
use Rattle.rules.specs.Trace.{Event, object_list}
use Rattle.rules.specs.Decode as D
use Rattle.rules.specs.Decode.{Decoded, went, stopped, trace_of}
use Rattle.rules.proofs.Trace.{objects_append}
use Rattle.words.proofs.Stores.{sets_append}
use Rattle.walk_leaves.specs.declared.cursor.Cursor.{Cursor}
use Rattle.walk_leaves.specs.Doing.{Walked}
use Rattle.walk_leaves.specs.Doing.{values_of, answer, load, Within, Rises, Did}

-- A cursor after so many numbers given.
abbrev pub moved : Cursor → (next used : ℕ) (values : List ℕ) (trace : List Event) → Cursor
moved c next used values trace =
    record { next = next; handles = used; values = c.values + length values; objects = c.objects + length (object_list trace) }

pub cursor_same : (n h : ℕ) {v w o p : ℕ} → v ≡ w → o ≡ p
    → ◌≡◌ {A = Walked} (Ok (record { next = n; handles = h; values = v; objects = o })) (Ok (record { next = n; handles = h; values = w; objects = p }))
cursor_same n h e f = rw (e, f)

answer_after : (c : Cursor) (n u : ℕ) (vs : List ℕ) (t : List Event) (d : Decoded) → answer (moved c n u vs t) d ≡ answer c (D.after vs t d)
answer_after c n u vs t (went n₂ u₂ vs₂ t₂) =
    cursor_same n₂ u₂ (omega (arith, length-append vs vs₂))
    (omega (arith, length-append (object_list t) (object_list t₂), ap length (objects_append t t₂)))
answer_after c n u vs t (stopped f vs₂ t₂) = refl

values_after : (vs : List ℕ) (t : List Event) (d : Decoded) → values_of (D.after vs t d) ≡ vs ++ values_of d
values_after vs t (went n u ws s) = refl
values_after vs t (stopped f ws s) = refl

trace_after : (vs : List ℕ) (t : List Event) (d : Decoded) → object_list (trace_of (D.after vs t d)) ≡ object_list t ++ object_list (trace_of d)
trace_after vs t (went n u ws s) = objects_append t s
trace_after vs t (stopped f ws s) = objects_append t s

within_more : (total handles m n : ℕ) (r : Walked) → m ≤ n → Within total handles m r → Within total handles n r
within_more total handles m n (Ok e) h w = (w.0, w.1, omega arith)
within_more total handles m n (Err f) h w = tt

rises_before : (c e : Cursor) (r : Walked) → c.next ≤ e.next → c.handles ≤ e.handles → Rises e r → Rises c r
rises_before c e (Ok f) h k w = (omega (arith, w.0), omega (arith, w.1))
rises_before c e (Err f) h k w = tt

-- ---- parts that are done at once

pub did_stop : {total handles g : ℕ} {v o : List ℕ} {c : Cursor} {f : Fault} → Did total handles g v v o o c (Err f) (stopped f [] [])
unfolding object_list
did_stop = record { says = refl; valued = refl; listed = refl; within = tt; rises = tt }

pub did_nothing : {total handles g : ℕ} {v o : List ℕ} {c : Cursor} → c.next ≤ total → c.handles ≤ handles → Did total handles g v v o o c (Ok c) (went c.next c.handles [] [])
unfolding object_list
did_nothing {c} h k = record {
  says = cursor_same c.next c.handles (sym (add-zero c.values)) (sym (add-zero c.objects));
  valued = refl;
  listed = refl;
  within = (h, k, omega arith);
  rises = (omega arith, omega arith);
}

-- One value number.
pub did_one : {total handles g : ℕ} {v o : List ℕ} {c : Cursor} (x : ℕ) → 1 ≤ g → c.next ≤ total → c.handles ≤ handles
    → Did total handles g v (set v c.values x) o o c (Ok (record { next = c.next; handles = c.handles; values = c.values + 1; objects = c.objects }))
    (went c.next c.handles (x ∷ []) [])
unfolding object_list
did_one {c} x i h k = record {
  says = cursor_same c.next c.handles refl (sym (add-zero c.objects));
  valued = refl;
  listed = refl;
  within = (h, k, omega arith);
  rises = (omega arith, omega arith);
}

pub did_more : {total handles g : ℕ} (h : ℕ) {v v' o o' : List ℕ} {c : Cursor} {r : Walked} {d : Decoded} → g ≤ h
    → Did total handles g v v' o o' c r d → Did total handles h v v' o o' c r d
did_more h {r} k p = record { says = p.says; valued = p.valued; listed = p.listed; within = within_more _ _ _ _ r (omega arith) p.within; rises = p.rises }

-- ---- what was given, and then what follows

did_after : {total handles g : ℕ} (h : ℕ) (v o : List ℕ) {v' o' : List ℕ} (c : Cursor) (n u : ℕ) (vs : List ℕ) (t : List Event) {r : Walked} {d : Decoded}
    → Did total handles g (sets v c.values vs) v' (sets o c.objects (object_list t)) o' (moved c n u vs t) r d
    → load total (moved c n u vs t) + g ≤ load total c + h → c.next ≤ n → c.handles ≤ u
    → Did total handles h v v' o o' c r (D.after vs t d)
did_after h v o c n u vs t {r} {d} p k a b = record {
  says = p.says ∙ answer_after c n u vs t d;
  valued = p.valued ∙ (sets_append v c.values vs (values_of d) ∙ sym (ap (sets v c.values) (values_after vs t d)));
  listed = p.listed ∙ (sets_append o c.objects (object_list t) (object_list (trace_of d)) ∙ sym (ap (sets o c.objects) (trace_after vs t d)));
  within = within_more _ _ _ _ r k p.within;
  rises = rises_before c (moved c n u vs t) r a b p.rises;
}

-- A value number, and then what follows.
pub did_put : {total handles g : ℕ} (h : ℕ) {v o v' o' : List ℕ} (c : Cursor) (x : ℕ) {r : Walked} {d : Decoded}
    → Did total handles g (set v c.values x) v' o o' (record { next = c.next; handles = c.handles; values = c.values + 1; objects = c.objects }) r d
    → 1 + g ≤ h → Did total handles h v v' o o' c r (D.after (x ∷ []) [] d)
unfolding object_list
did_put {total} {handles} {g} h {v} {o} {v'} {o'} c x {r} {d} p k =
    did_after h v o c c.next c.handles (x ∷ []) [] (at_objects (sym (add-zero c.objects)) p) (omega arith) (omega arith) (omega arith)
  where
    at_objects : {n : ℕ} → c.objects ≡ n
        → Did total handles g (set v c.values x) v' o o' (record { next = c.next; handles = c.handles; values = c.values + 1; objects = c.objects }) r d
        → Did total handles g (set v c.values x) v' o o' (record { next = c.next; handles = c.handles; values = c.values + 1; objects = n }) r d
    at_objects e q = rw e at q

-- A part that went on, and then the rest.
pub did_then : {total handles g h : ℕ} (m : ℕ) {v v' v'' o o' o'' : List ℕ} {c e : Cursor} {r : Walked} {d : Decoded} (k : ℕ → ℕ → Decoded)
    → Did total handles g v v' o o' c (Ok e) d → Did total handles h v' v'' o' o'' e r (k e.next e.handles)
    → load total e + h ≤ load total c + m → Did total handles m v v'' o o'' c r (D.and_then d k)
did_then {total} {handles} {g} {h} m {v} {v'} {v''} {o} {o'} {o''} {c} {e} {r} {d} k p q z = go d p.says p.valued p.listed
  where
    go : (d : Decoded) → Ok e ≡ answer c d → v' ≡ sets v c.values (values_of d) → o' ≡ sets o c.objects (object_list (trace_of d)) → Did total handles m v v'' o o'' c r (D.and_then d k)
    go (went n u vs t) a x y =
        let b : e ≡ moved c n u vs t = cc in
        did_after m v o c n u vs t (rw (b, x, y) at q) (rw b at z) (rw b at p.rises).0 (rw b at p.rises).1
    go (stopped f vs t) a x y = absurd (let w : ◌≡◌ {A = ℕ} 0 1 = cc in omega arith)

-- A part that was stopped, whatever was to follow.
pub did_halt : {total handles g : ℕ} (h : ℕ) {v v' o o' : List ℕ} {c : Cursor} {f : Fault} {d : Decoded} (k : ℕ → ℕ → Decoded)
    → Did total handles g v v' o o' c (Err f) d → Did total handles h v v' o o' c (Err f) (D.and_then d k)
did_halt {total} {handles} {g} h {v} {v'} {o} {o'} {c} {f} {d} k p = go d p.says p.valued p.listed
  where
    go : (d : Decoded) → Err f ≡ answer c d → v' ≡ sets v c.values (values_of d) → o' ≡ sets o c.objects (object_list (trace_of d))
        → Did total handles h v v' o o' c (Err f) (D.and_then d k)
    go (went n u vs t) a x y = absurd (let w : ◌≡◌ {A = ℕ} 0 1 = cc in omega arith)
    go (stopped g vs t) a x y = record { says = a; valued = x; listed = y; within = tt; rises = tt }

-- What a part that went on leaves.
pub went_on : {total handles g : ℕ} {v v' o o' : List ℕ} {c e : Cursor} {x : Walked} {d : Decoded} → Did total handles g v v' o o' c x d → x ≡ Ok e
    → (e.next ≤ total) × (e.handles ≤ handles) × (load total e ≤ load total c + g)
went_on q p = (rw p at q).within
