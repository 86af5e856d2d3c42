-- Laws of the turn of a row, over the receiver: the places of cells, and the cells that are made one after the other.
use mathlib.Core.Path.{◌≡◌, refl, sym, ap, ◌∙◌}
use mathlib.Core.Logic.{⊎_elim}
use mathlib.Core.Bool.{Bool, true, false, cond}
use mathlib.Core.List.{List}
use Prim.Native.Nat.{ℕ, ◌+◌, ◌-◌, ◌≤◌, ◌<◌}
use native.Mathlib.Omega.{arith}
use native.Mathlib.Nat.{eq-or-lt_of_le}
use borrow.Author.Count.{below_more}
use borrow.Author.Tests.{le-leb, lt-leb}
use lib.Dec.{leb}
use lib.ListN.{length, get_or, drop, set, length-set}
use lib.Seq.{get_or-set_same, get_or-set_other, drop-set-lt, get_or-drop}
use Rattle.std.proofs.lemmas.List.{drop-drop}
use Rattle.line.specs.declared.Receiver.{Receiver}
use Rattle.line.specs.declared.Receiver.TheVariants.{One, Two}
use Rattle.basics.specs.Limits.{max_rows}
use Rattle.line.specs.Cells.{cell_bytes, line_bytes, cell_at, high_at, next_at}
use Rattle.labels.specs.Permission.{permits}
use Rattle.line.specs.Turns.{label, place, other, side_at, last_heard, Ready, both_value, next_value, new_value, FirstMade, SideMade, SidesMade, TurnMade}

-- ---- places

pub place_same : (x : Receiver) (a b a' b' : ℕ) → a ≤ max_rows → b ≤ max_rows → a' ≤ max_rows → b' ≤ max_rows → place x a b ≡ place x a' b' → (a ≡ a') × (b ≡ b')
place_same One a b a' b' ha hb ha' hb' e = let q : a ≡ a' = omega arith in (q, omega arith)
place_same Two a b a' b' ha hb ha' hb' e = let q : b ≡ b' = omega arith in (omega arith, q)

pub place_below : (x : Receiver) (a b : ℕ) → a ≤ max_rows → b ≤ max_rows → place x a b < cell_bytes
place_below One a b ha hb = omega arith
place_below Two a b ha hb = omega arith

-- ---- bytes that stay

pub drop_later : (t t' : List ℕ) (m n : ℕ) → m ≤ n → drop m t' ≡ drop m t → drop n t' ≡ drop n t
drop_later t t' m n h e =
    let q : m + (n - m) ≡ n = omega arith in
    rw (← q) (sym (drop-drop (n - m) m t') ∙ ap (drop (n - m)) e ∙ drop-drop (n - m) m t)

-- a byte from n on is the same if all from n on are
pub rest_at : (t t' : List ℕ) (n i : ℕ) → drop n t' ≡ drop n t → n ≤ i → get_or t' i 0 ≡ get_or t i 0
rest_at t t' n i e h =
    let q : n + (i - n) ≡ i = omega arith in
    rw (← q) (sym (get_or-drop n t' (i - n) 0) ∙ ap (λ (l : List ℕ). get_or l (i - n) 0) e ∙ get_or-drop n t (i - n) 0)

-- ---- the cells where both are free from row j or the next one on

module _ {p j u : ℕ} {t : List ℕ} where
  pub first_made : {v v1 v2 : ℕ} → cell_bytes ≤ length t → j < max_rows → v ≡ both_value p j u t → v1 ≡ next_value One p j u t → v2 ≡ next_value Two p j u t
      → FirstMade p j u t (set (set (set t (place One j j) v) (place One j (j + 1)) v1) (place Two j (j + 1)) v2)
  first_made {v} {v1} {v2} long few e e1 e2 =
      record {
        both = others j j (λ q. omega arith) (λ q. omega arith) ∙ get_or-set_same t (place One j j) v 0 (omega arith) ∙ e;
        next = next;
        kept = λ x y hx hy wx wy.
            others x y (λ q. omega arith) (λ q. omega arith)
            ∙ get_or-set_other t (place One j j) (place One x y) v 0 (λ q. omega arith);
        rest =
            drop-set-lt cell_bytes second (place Two j (j + 1)) v2 (omega arith)
            ∙ drop-set-lt cell_bytes first (place One j (j + 1)) v1 (omega arith)
            ∙ drop-set-lt cell_bytes t (place One j j) v (omega arith);
      }
    where
      first : List ℕ
      first = set t (place One j j) v

      second : List ℕ
      second = set first (place One j (j + 1)) v1

      -- a cell that is not one of the last two
      others : (x y : ℕ) → (place One x y ≡ place One j (j + 1) → ⊥) → (place One x y ≡ place Two j (j + 1) → ⊥)
          → cell_at (set second (place Two j (j + 1)) v2) x y ≡ cell_at first x y
      others x y n m =
          get_or-set_other second (place Two j (j + 1)) (place One x y) v2 0 m
          ∙ get_or-set_other first (place One j (j + 1)) (place One x y) v1 0 n

      next : (x : Receiver) → side_at x (set second (place Two j (j + 1)) v2) j (j + 1) ≡ next_value x p j u t
      next One =
          get_or-set_other second (place Two j (j + 1)) (place One j (j + 1)) v2 0 (λ q. omega arith)
          ∙ get_or-set_same first (place One j (j + 1)) v1 0 (omega (arith, length-set t (place One j j) v))
          ∙ e1
      next Two =
          get_or-set_same second (place Two j (j + 1)) v2 0 (omega (arith, length-set t (place One j j) v, length-set first (place One j (j + 1)) v1))
          ∙ e2

-- ---- the cells where one receiver is free from row j on

module _ {x : Receiver} {p j u last : ℕ} {t : List ℕ} where
  pub side_none : {m : ℕ} → m ≤ j + 2 → SideMade x p j u last m t t
  side_none h = record { new = λ b k w. absurd (omega arith); kept = λ a b ha hb n. refl; rest = refl }

  pub side_less : (m n : ℕ) {t' : List ℕ} → m ≤ n → SideMade x p j u last n t t' → SideMade x p j u last m t t'
  side_less m n h s = record { new = λ b k w. s.new b k (omega arith); kept = s.kept; rest = s.rest }

  -- one cell more: those that it is made from are not among the cells that are made
  pub side_more : (m : ℕ) {t' t'' : List ℕ} → SideMade x p j u last m t t' → j + 1 < m → m ≤ max_rows → j < u → u ≤ max_rows → cell_bytes ≤ length t'
      → t'' ≡ set t' (place x j m) (new_value x p j u last t' m) → SideMade x p j u last (m + 1) t t''
  side_more m {t'} {t''} s hm hk hu hw hl e =
      rw e
      (record {
        new = λ b k w. below_more (λ b. j + 1 < b → side_at x made j b ≡ new_value x p j u last t b) m before here b w k;
        kept = λ a b ha hb n.
            get_or-set_other t' (place x j m) (place x a b) v 0
            (λ q. let r = place_same x a b j m ha hb (omega arith) hk q in n r.0 (omega (arith, r.1)))
            ∙ s.kept a b ha hb n;
        rest = drop-set-lt cell_bytes t' (place x j m) v (omega (arith, place_below x j m (omega arith) hk)) ∙ s.rest;
      })
    where
      v : ℕ
      v = new_value x p j u last t' m

      made : List ℕ
      made = set t' (place x j m) v

      before : (b : ℕ) → b < m → j + 1 < b → side_at x made j b ≡ new_value x p j u last t b
      before b w k =
          get_or-set_other t' (place x j m) (place x j b) v 0
          (λ q. omega (arith, (place_same x j b j m (omega arith) (omega arith) (omega arith) hk q).1))
          ∙ s.new b k w

      here : j + 1 < m → side_at x made j m ≡ new_value x p j u last t m
      here k =
          get_or-set_same t' (place x j m) v 0 (omega (arith, place_below x j m (omega arith) hk))
          ∙ rw (s.kept (j + 1) m (omega arith) hk (λ q. omega arith), s.kept u m hw hk (λ q. omega arith))

-- where the other receiver is free from the next row on, a row can be heard whenever its permission says so
heard_next : (x : Receiver) (p j u must : ℕ) → j < must → j < max_rows → leb (j + 1) (last_heard x p u must) ≡ permits p (label x)
unfolding last_heard
heard_next x p j u must h k = go (permits p (label x)) (leb u must)
  where
    go : (a b : Bool) → leb (j + 1) (cond a (cond b max_rows must) 0) ≡ a
    go false b = lt-leb (j + 1) 0 (omega arith)
    go true true = le-leb (j + 1) max_rows (omega arith)
    go true false = le-leb (j + 1) must (omega arith)

-- ---- all cells of a turn

module _ (p j must : ℕ) (t t0 t1 t2 : List ℕ) (r : Ready t j) (w : j < must) (first : FirstMade p j (next_at t j) t t0)
    (one : SideMade One p j (next_at t j) (last_heard One p (next_at t j) must) (high_at t 2 j + 1) t0 t1)
    (two : SideMade Two p j (next_at t j) (last_heard Two p (next_at t j) must) (high_at t 1 j + 1) t1 t2) where
  -- where the other receiver is free from the next row on
  next_is : (x : Receiver) → side_at x t2 j (j + 1) ≡ new_value x p j (next_at t j) (last_heard x p (next_at t j) must) t (j + 1)
  next_is x = made x ∙ rw (heard_next x p j (next_at t j) must w r.few) (first.next x)
    where
      i : j + 1 ≤ max_rows
      i = omega (arith, r.few)

      made : (x : Receiver) → side_at x t2 j (j + 1) ≡ side_at x t0 j (j + 1)
      made One = two.kept (j + 1) j i (omega arith) (λ q h. omega arith) ∙ one.kept j (j + 1) (omega arith) i (λ q h. omega arith)
      made Two = two.kept j (j + 1) (omega arith) i (λ q h. omega arith) ∙ one.kept (j + 1) j i (omega arith) (λ q h. omega arith)

  -- where it is free from a later row on
  later_is : (x : Receiver) (b : ℕ) → j + 1 < b → b ≤ high_at t (other x) j
      → side_at x t2 j b ≡ new_value x p j (next_at t j) (last_heard x p (next_at t j) must) t b
  later_is One b h k =
      let v : b ≤ max_rows = omega (arith, r.high Two) in
      let i : j + 1 ≤ max_rows = omega (arith, r) in
      two.kept b j v (omega arith) (λ q _. omega arith)
      ∙ one.new b h (omega (arith, k))
      ∙ rw (first.kept (j + 1) b (omega arith) (omega arith) i v, first.kept (next_at t j) b r.later (omega arith) r.within v)
  later_is Two b h k =
      let v : b ≤ max_rows = omega (arith, r.high One) in
      let i : j + 1 ≤ max_rows = omega (arith, r) in
      two.new b h (omega (arith, k))
      ∙ rw (
        one.kept b (j + 1) v i (λ q _. omega arith),
        first.kept b (j + 1) (omega arith) (omega arith) v i,
        one.kept b (next_at t j) v r.within (λ q _. omega arith),
        first.kept b (next_at t j) (omega arith) r.later v r.within,
      )

  sides_are : TurnMade p j must t t2
  sides_are =
      record {
        both = two.kept j j (omega (arith, r)) (omega (arith, r)) (λ q h. omega arith) ∙ one.kept j j (omega (arith, r)) (omega (arith, r)) (λ q h. omega arith) ∙ first.both;
        sides = λ x b h k.
            let l : j + 1 ≤ b = omega arith in
            ⊎_elim (λ (q : j + 1 ≡ b). rw (← q) (next_is x)) (λ (q : j + 1 < b). later_is x b q k) (eq-or-lt_of_le l);
        kept = λ a b ha hb wa wb.
            two.kept b a wb wa (λ q h. omega arith)
            ∙ one.kept a b wa wb (λ q h. omega arith)
            ∙ first.kept a b ha hb wa wb;
        rest = two.rest ∙ one.rest ∙ first.rest;
      }

module _ {p j must u h1 h2 : ℕ} {t t0 : List ℕ} (r : Ready t j) (w : (j < must) × (must ≤ max_rows)) (e : u ≡ next_at t j) (e1 : h1 ≡ high_at t 1 j) (e2 : h2 ≡ high_at t 2 j)
    (first : FirstMade p j u t t0) where
  pub turn_made : {t2 : List ℕ} → SidesMade p j u must h1 h2 t0 t2 → TurnMade p j must t t2
  turn_made {t2} s = sides_are p j must t t0 s.0 t2 r w.0 (rw e at first) (rw (e, e2) at s.1) (rw (e, e1) at s.2)

  -- where no receiver can be free from a row after the next on
  pub first_alone : h1 ≤ j + 1 → h2 ≤ j + 1 → TurnMade p j must t t0
  first_alone k1 k2 = sides_are p j must t t0 t0 t0 r w.0 (rw e at first) (side_none (omega arith)) (side_none (omega arith))

pub turn_rest : {p j must : ℕ} {t t' : List ℕ} → TurnMade p j must t t' → drop line_bytes t' ≡ drop line_bytes t
turn_rest {t = t} {t' = t'} made = drop_later t t' cell_bytes line_bytes (omega arith) made.rest
