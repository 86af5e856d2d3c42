-- Laws of the marks on cells: nothing is lost, and what is taken stays so.
use Prim.Native.Nat.{ℕ, ◌+◌, ◌-◌, ◌*◌, ◌≤◌, ◌<◌, min, max}
use mathlib.Core.Path.{◌≡◌, refl, ◌∙◌}
use mathlib.Core.Logic.{◌⊎◌, inl, inr}
use mathlib.Core.List.{List}
use native.Mathlib.Decide.{ℕ_discrete}
use native.Mathlib.Omega.{arith}
use native.Mathlib.Nat.{le_refl, le_trans, eq-or-lt_of_le}
use lib.ListN.{length, get_or, set}
use lib.Seq.{get_or-set_same, get_or-set_other, drop-set-lt}
use Rattle.labels.specs.Permission.{join, only}
use Rattle.labels.proofs.Permissions.{permits_only, join_iff}
use Rattle.line.specs.Cells.{cell_at, cell_bytes, across}
use Rattle.line_labels.specs.declared.Turn.{Turn}
use Rattle.line_labels.specs.declared.Reached.{Reached}
use Rattle.line_labels.specs.Marks.{unmarked, IsMarked, InCells, More, Leads, Taken, AllTaken, Marked, mark}

pub more_none : (t : List ℕ) (r : Reached) → More t r t r
more_none t r = record { values = λ i. refl; marked = λ i h. h; rest = refl; labels = λ x h. h; stage = le_refl r.stage }

pub more_then : {t t' t'' : List ℕ} {r r' r'' : Reached} → More t r t' r' → More t' r' t'' r'' → More t r t'' r''
more_then m n =
    record {
      values = λ i. n.values i ∙ m.values i;
      marked = λ i h. n.marked i (m.marked i h);
      rest = n.rest ∙ m.rest;
      labels = λ x h. n.labels x (m.labels x h);
      stage = le_trans m.stage n.stage;
    }

leads_later : {turn : Turn} {label needed x y : ℕ} {t t' : List ℕ} {r r' : Reached} → More t r t' r' → Leads turn label needed t x y → Leads turn label needed t' x y
leads_later {x = x} {y} m l = record { permitted = l.permitted; some = l.some; near = l.near; value = m.values (x * across + y) ∙ l.value }

pub taken_later : {label x y : ℕ} {t t' : List ℕ} {r r' : Reached} → More t r t' r' → Taken label t r x y → Taken label t' r' x y
taken_later {label} {x} {y} m k = record { marked = m.marked (x * across + y) k.marked; found = m.labels label k.found; stage = le_trans k.stage m.stage }

-- what is taken from t1 to t2 is taken from any earlier time to any later
pub all_later : {turn : Turn} {x y : ℕ} {t t1 t2 t' : List ℕ} {r r1 r2 r' : Reached} → More t r t1 r1 → AllTaken turn t1 x y t2 r2 → More t2 r2 t' r' → AllTaken turn t x y t' r'
all_later {turn} {x} {y} {t} {t1} m a n =
    let e : unmarked (cell_at t1 x y) ≡ unmarked (cell_at t x y) = m.values (x * across + y) in
    record {
      out = λ l. taken_later n (a.out (leads_later m (rw (← e) at l)));
      one = λ f l. taken_later n (a.one f (leads_later m (rw (← e) at l)));
      two = λ f l. taken_later n (a.two f (leads_later m (rw (← e) at l)));
    }

-- ---- cells in turn

pub marked_none : (turn : Turn) (x y : ℕ → ℕ) (from to : ℕ) (t : List ℕ) (r : Reached) → to ≤ from → Marked turn x y from to t r t r
marked_none turn x y from to t r h = record { more = more_none t r; taken = λ k a b. absurd (omega arith) }

pub marked_more : {turn : Turn} {x y : ℕ → ℕ} {from to : ℕ} {t t1 t2 : List ℕ} {r r1 r2 : Reached} → Marked turn x y from to t r t1 r1
    → More t1 r1 t2 r2 → (IsMarked (cell_at t1 (x to) (y to)) → AllTaken turn t1 (x to) (y to) t2 r2) → Marked turn x y from (to + 1) t r t2 r2
marked_more {turn} {x} {y} {from} {to} {t} {t1} {t2} {r} {r1} {r2} m n a = record { more = more_then m.more n; taken = λ k h l. go k h (eq-or-lt_of_le (omega arith)) }
  where
    go : (k : ℕ) → from ≤ k → (k ≡ to) ⊎ (k < to) → IsMarked (cell_at t (x k) (y k)) → AllTaken turn t (x k) (y k) t2 r2
    go k h (inl e) s = rw e (all_later m.more (a (m.more.marked (x to * across + y to) (rw e at s))) (more_none t2 r2))
    go k h (inr l) s = all_later (more_none t r) (m.taken k h l s) n

pub marked_later : {turn : Turn} {x y : ℕ → ℕ} {from to : ℕ} {t t1 t2 t' : List ℕ} {r r1 r2 r' : Reached}
    → More t r t1 r1 → Marked turn x y from to t1 r1 t2 r2 → More t2 r2 t' r' → Marked turn x y from to t r t' r'
marked_later {x = x} {y} m a n =
    record { more = more_then m (more_then a.more n); taken = λ k h l s. all_later m (a.taken k h l (m.marked (x k * across + y k) s)) n }

-- ---- one label

-- a cell is marked, and the label that leads to it found
pub mark_more : {turn : Turn} {label needed x y : ℕ} {t : List ℕ} {r r' : Reached} → InCells x y t → Leads turn label needed t x y
    → r'.labels ≡ join r.labels (only label) → r'.stage ≡ max r.stage (min x y) → More t r (set t (x * across + y) (needed + mark)) r'
mark_more {label = label} {needed} {x} {y} {t} {r} {r'} c l e f =
    record {
      values = λ i. values i (ℕ_discrete i at);
      marked = λ i h. marked i (ℕ_discrete i at) h;
      rest = drop-set-lt cell_bytes t at (needed + mark) (omega arith);
      labels = λ z h. rw e ((join_iff r.labels (only label) z).1 (inl h));
      stage = omega arith;
    }
  where
    at : ℕ
    at = x * across + y

    within : at < length t
    within = omega arith

    values : (i : ℕ) → Dec (i ≡ at) → unmarked (get_or (set t at (needed + mark)) i 0) ≡ unmarked (get_or t i 0)
    values i (yes q) = rw (q, get_or-set_same t at (needed + mark) 0 within) (omega (arith, l.value))
    values i (no n) = rw (get_or-set_other t at i (needed + mark) 0 n) refl

    marked : (i : ℕ) → Dec (i ≡ at) → IsMarked (get_or t i 0) → IsMarked (get_or (set t at (needed + mark)) i 0)
    marked i (yes q) h = rw (q, get_or-set_same t at (needed + mark) 0 within) (omega (arith, l.some))
    marked i (no n) h = rw (get_or-set_other t at i (needed + mark) 0 n) h

pub mark_taken : {turn : Turn} {label needed x y : ℕ} {t : List ℕ} (r : Reached) {r' : Reached} → label ≤ 2 → InCells x y t → Leads turn label needed t x y
    → r'.labels ≡ join r.labels (only label) → r'.stage ≡ max r.stage (min x y) → Taken label (set t (x * across + y) (needed + mark)) r' x y
mark_taken {label = label} {needed} {x} {y} {t} r {r'} h c l e f =
    record {
      marked = rw (get_or-set_same t (x * across + y) (needed + mark) 0 (omega arith)) (omega (arith, l.some));
      found = rw e ((join_iff r.labels (only label) label).1 (inr (permits_only label h)));
      stage = omega arith;
    }

-- ---- the labels that lead from a cell

module _ (turn : Turn) {x y nx ny value one two : ℕ} {t t1 t2 t3 : List ℕ} {r r1 r2 r3 : Reached} where
  pub all_taken : unmarked (cell_at t x y) ≡ value → (x ≡ turn.row → one ≡ value - 1) → (y ≡ turn.row → two ≡ value - 1)
      → nx ≡ max x (turn.row + 1) → ny ≡ max y (turn.row + 1)
      → More t r t1 r1 → (Leads turn 0 value t nx ny → Taken 0 t1 r1 nx ny)
      → More t1 r1 t2 r2 → (Leads turn 1 one t1 turn.next ny → Taken 1 t2 r2 turn.next ny)
      → More t2 r2 t3 r3 → (Leads turn 2 two t2 nx turn.next → Taken 2 t3 r3 nx turn.next)
      → AllTaken turn t x y t3 r3
  all_taken e f g ex ey m1 k1 m2 k2 m3 k3 =
      record {
        out = λ l. rw (← ex, ← ey) (taken_later m3 (taken_later m2 (k1 (rw (e, ← ex, ← ey) at l))));
        one = λ q l. rw (← ey) (taken_later m3 (k2 (rw (f q) (leads_later m1 (rw (e, ← ey) at l)))));
        two = λ q l. rw (← ex) (k3 (rw (g q) (leads_later m2 (leads_later m1 (rw (e, ← ex) at l)))));
      }
