-- The turn of a row: labels that hear the most come by a marked cell, and the row's label is found.
use Prim.Native.Nat.{ℕ, zero, suc, ◌+◌, ◌-◌, ◌*◌, ◌≤◌, ◌<◌, min, max}
use mathlib.Core.Path.{◌≡◌, refl, sym, ap, ◌∙◌}
use mathlib.Core.Logic.{◌≢◌, ⊎_elim}
use mathlib.Core.Bool.{Bool, true, false≢true}
use mathlib.Core.List.{List}
use native.Mathlib.Decide.{ℕ_discrete}
use native.Mathlib.Nat.{le_trans, eq-or-lt_of_le}
use native.Mathlib.Numerals.{add-one}
use native.Mathlib.Omega.{arith}
use lib.ListN.{length, drop, get_or, length-drop}
use lib.Seq.{get_or-take, get_or-drop, length-take-le}
use Rattle.std.proofs.lemmas.List.FromFn.{length-range_with_len}
use Rattle.basics.specs.Lists.{at}
use Rattle.basics.proofs.Tests.{Test, pass, fail, test}
use Rattle.labels.specs.Labels.{hears, heard}
use Rattle.labels.specs.Permission.{permits}
use Rattle.labels.proofs.Heard.{heard_le}
use Rattle.line.specs.Line.{numbers, best_from, Settled}
use Rattle.line.specs.Cells.{cell_at, high_at, next_at, next_from, cell_bytes, across}
use Rattle.line.specs.Filled.{Filled, Highs, nexts_of}
use Rattle.line.proofs.Optimum.{put, put_same, put_other}
use Rattle.line_labels.specs.declared.Turn.{Turn}
use Rattle.line_labels.specs.declared.Reached.{Reached}
use Rattle.line_labels.specs.Added.{NotLeftOut}
use Rattle.line_labels.specs.Marks.{unmarked, IsMarked, Leads, Taken, AllTaken, RowMarked, ColumnMarked, mark}
use Rattle.line.proofs.BestFrom.{best_max}
use Rattle.line_labels.proofs.Paths.{Nexts, Path, Past, past, path_more, path_best, label_allowed, heard_cons}

-- receiver x is free from row e on, as far as the rows before row j can say
pub record Limit (perms t : List ℕ) (x e j : ℕ) : Type 0 where
  pub within : e ≤ length perms
  pub high : j < length perms → e ≤ high_at t x j

limit_later : {perms t : List ℕ} {x e : ℕ} (i : ℕ) {j : ℕ} → Highs perms t x → i ≤ j → i < length perms → Limit perms t x e i → Limit perms t x e j
limit_later i {j} h k u m = record { within = m.within; high = λ w. le_trans (m.high u) (h.rising i j k w) }

limit_next : {perms t : List ℕ} {x : ℕ} (i : ℕ) {j : ℕ} → Filled perms t → Highs perms t x → i < j → i < length perms → permits (at perms i) x ≡ true
    → Limit perms t x (next_at t i) j
limit_next i {j} f h k u m = record { within = f.numbered.within i u; high = λ w. h.next i j k w m }

-- the labels 0, 1 and 2 lead from a cell to the cell that stands for the receivers after them
taken_of : {turn : Turn} {t t' : List ℕ} {r' : Reached} (w : ℕ) (f : ℕ → ℕ) (a : ℕ) → turn.row < turn.next → (a ≢ 0 → f a ≤ turn.row)
    → unmarked (cell_at t (max (f 1) turn.row) (max (f 2) turn.row)) ≡ hears a + w → permits turn.perm a ≡ true
    → AllTaken turn t (max (f 1) turn.row) (max (f 2) turn.row) t' r'
    → Leads turn a w t (max (put f a turn.next 1) (turn.row + 1)) (max (put f a turn.next 2) (turn.row + 1))
    → Taken a t' r' (max (put f a turn.next 1) (turn.row + 1)) (max (put f a turn.next 2) (turn.row + 1))
unfolding hears
taken_of {turn} {t} w f zero h g v p k l =
    let ex : max (max (f 1) turn.row) (turn.row + 1) ≡ max (f 1) (turn.row + 1) = omega arith in
    let ey : max (max (f 2) turn.row) (turn.row + 1) ≡ max (f 2) (turn.row + 1) = omega arith in
    let e : unmarked (cell_at t (max (f 1) turn.row) (max (f 2) turn.row)) ≡ w = omega arith in
    (rw (ex, ey, e) at k.out) l
taken_of {turn} {t} w f (suc zero) h g v p k l =
    let ex : max turn.next (turn.row + 1) ≡ turn.next = omega arith in
    let ey : max (max (f 2) turn.row) (turn.row + 1) ≡ max (f 2) (turn.row + 1) = omega arith in
    let e : unmarked (cell_at t (max (f 1) turn.row) (max (f 2) turn.row)) - 1 ≡ w = omega arith in
    rw ex ((rw (ey, e) at (k.one (omega (arith, g (λ q. omega arith))))) (rw ex at l))
taken_of {turn} {t} w f (suc (suc zero)) h g v p k l =
    let ex : max (max (f 1) turn.row) (turn.row + 1) ≡ max (f 1) (turn.row + 1) = omega arith in
    let ey : max turn.next (turn.row + 1) ≡ turn.next = omega arith in
    let e : unmarked (cell_at t (max (f 1) turn.row) (max (f 2) turn.row)) - 1 ≡ w = omega arith in
    rw ey ((rw (ex, e) at (k.two (omega (arith, g (λ q. omega arith))))) (rw ey at l))
taken_of w f (suc (suc (suc a))) h g v p k l = absurd (false≢true p)

-- cells may have been marked
abbrev pub SameValues : List ℕ → List ℕ → Type 0
SameValues t t' = (i : ℕ) → i < cell_bytes → unmarked (get_or t' i 0) ≡ unmarked (get_or t i 0)

module _ (perms t0 : List ℕ) (filled : Filled perms t0) where
  abbrev pub nexts : List ℕ
  nexts = nexts_of t0 (length perms)

  next_is : (j : ℕ) → j < length perms → at nexts j ≡ next_at t0 j
  next_is j h = get_or-take (length perms) (drop next_from t0) j 0 h ∙ get_or-drop next_from t0 j 0

  pub is_nexts : Nexts perms nexts
  is_nexts =
      record {
        each = length-take-le (length perms) (drop next_from t0) (omega (arith, length-drop next_from t0, filled.numbered.long, filled.numbered.few));
        later = λ j h. rw (next_is j h) (filled.numbered.later j h);
      }

  module _ (l : List ℕ) (a : Settled (numbers (length perms)) nexts perms l) where
    -- The labels come by cell (x, y) before row s: x and y are the rows from which the receivers are free, and no less
    -- than s. One of them is s.
    pub record At (s : ℕ) (f : ℕ → ℕ) : Type 0 where
      pub path : Path perms nexts is_nexts l a s f
      pub within : s ≤ length perms
      pub one_free : min (max (f 1) s) (max (f 2) s) ≡ s
      pub limit_1 : Limit perms t0 1 (f 1) s
      pub limit_2 : Limit perms t0 2 (f 2) s

    -- Before the turn of a row the cell that the labels come by next, in the turn of row `stage`, is marked. The rows
    -- before that are left out.
    pub record On (row reached : ℕ) (t : List ℕ) : Type 0 where
      pub stage : ℕ
      pub free : ℕ → ℕ
      pub cell : At stage free
      pub later : row ≤ stage
      pub marked : IsMarked (cell_at t (max (free 1) stage) (max (free 2) stage))
      pub out : (k : ℕ) → row ≤ k → k < stage → at l k ≡ 0
      pub over : row < stage → stage ≤ reached

    -- the value of a cell that the labels come by
    at_value : (s : ℕ) (f : ℕ → ℕ) → At s f → unmarked (cell_at t0 (max (f 1) s) (max (f 2) s)) ≡ suc (heard (drop s l))
    at_value s f p = omega (arith, e, heard_le (drop s l), length-drop s l, a.each, length-range_with_len 0 (length perms), filled.numbered.few)
      where
        x : ℕ
        x = max (f 1) s

        y : ℕ
        y = max (f 2) s

        high_1 : y < x → x ≤ high_at t0 1 y
        high_1 w = let q : y ≡ s = omega (arith, p.one_free) in rw q (omega (arith, p.limit_1.high (omega (arith, p.limit_1)), filled.highs_1.low s (omega (arith, p.limit_1))))

        high_2 : x < y → y ≤ high_at t0 2 x
        high_2 w = let q : x ≡ s = omega (arith, p.one_free) in rw q (omega (arith, p.limit_2.high (omega (arith, p.limit_2)), filled.highs_2.low s (omega (arith, p.limit_2))))

        e : cell_at t0 x y ≡ suc (heard (drop s l))
        e =
            rw p.one_free at
            (filled.cells x y
            (record { one = omega (arith, p.limit_1.within, p.within); two = omega (arith, p.limit_2.within, p.within); high_1 = high_1; high_2 = high_2 }))
            ∙ best_max nexts perms s (f 1) (f 2) ∙ path_best perms nexts is_nexts l a s f p.within p.path

    -- the same while values stay
    value_now : (s : ℕ) (f : ℕ → ℕ) → At s f → (t : List ℕ) → SameValues t0 t
        → unmarked (cell_at t (max (f 1) s) (max (f 2) s)) ≡ suc (heard (drop s l))
    value_now s f p t v =
        v (max (f 1) s * across + max (f 2) s) (omega (arith, p.limit_1.within, p.limit_2.within, p.within, filled.numbered.few)) ∙ at_value s f p

    -- at first both receivers are free, and the first cell is marked
    pub on_start : suc (heard l) ≡ best_from nexts perms 0 0 0 → (t : List ℕ) → get_or t 0 0 ≡ unmarked (get_or t0 0 0) + mark → On 0 0 t
    on_start m t e =
        record {
          stage = 0;
          free = λ y. 0;
          cell = start;
          later = omega arith;
          marked = omega (arith, at_value 0 (λ y. 0) start);
          out = λ k b c. absurd (omega arith);
          over = λ b. omega arith;
        }
      where
        start : At 0 (λ y. 0)
        start =
            record {
              path = record { free = λ k i b q. omega arith; most = omega arith };
              within = omega arith;
              one_free = refl;
              limit_1 = record { within = omega arith; high = λ b. omega arith };
              limit_2 = record { within = omega arith; high = λ b. omega arith };
            }

    module _ (j e : ℕ) (f : ℕ → ℕ) (p : At j f) (h : j < length perms) (q : at nexts j ≡ e) where
      -- the rows from which the receivers are free after row j
      abbrev after : ℕ → ℕ
      after = put f (at l j) e

      -- the row in whose turn the labels come by a cell next
      abbrev next_stage : ℕ
      next_stage = min (max (after 1) (j + 1)) (max (after 2) (j + 1))

      limit_after : (x m : ℕ) → Highs perms t0 x → Limit perms t0 x (f x) j → j < m → Limit perms t0 x (after x) m
      limit_after x m g i u = go (ℕ_discrete (at l j) x)
        where
          go : Dec (at l j ≡ x) → Limit perms t0 x (after x) m
          go (yes z) = rw (put_same f (at l j) e x z, ← q, next_is j h) (limit_next j filled g u h (rw z at (label_allowed perms nexts is_nexts l a j h)))
          go (no z) = rw (put_other f (at l j) e x z) (limit_later j g (omega arith) h i)

      within : next_stage ≤ length perms
      within = omega (arith, (limit_after 1 next_stage filled.highs_1 p.limit_1 (omega arith)).within, (limit_after 2 next_stage filled.highs_2 p.limit_2 (omega arith)).within)

      past_after : Past perms nexts is_nexts l a (j + 1) next_stage after
      past_after =
          past perms nexts is_nexts l a (next_stage - (j + 1)) (j + 1) next_stage after (omega arith) within (λ u. omega arith) (λ u. omega arith)
          (rw (add-one j) (rw q at (path_more perms nexts is_nexts l a j f h p.path)))

      at_after : At next_stage after
      at_after =
          record {
            path = past_after.path;
            within = within;
            one_free = omega arith;
            limit_1 = limit_after 1 next_stage filled.highs_1 p.limit_1 (omega arith);
            limit_2 = limit_after 2 next_stage filled.highs_2 p.limit_2 (omega arith);
          }

    -- the turn of a row
    module _ (turn : Turn) (perm : turn.perm ≡ at perms turn.row) (next : turn.next ≡ next_at t0 turn.row)
        (must : NotLeftOut perms (turn.row + 1) turn.must) (h : turn.row < length perms) where
      same_next : at nexts turn.row ≡ turn.next
      same_next = next_is turn.row h ∙ sym next

      -- the labels come by cell (max (f 1) row, max (f 2) row)
      module _ (f : ℕ → ℕ) (p : At turn.row f) where
        abbrev freed : ℕ → ℕ
        freed = after turn.row turn.next f p h same_next

        abbrev reach : ℕ
        reach = next_stage turn.row turn.next f p h same_next

        gone : Past perms nexts is_nexts l a (turn.row + 1) reach freed
        gone = past_after turn.row turn.next f p h same_next

        -- the rows that are passed may be left out
        near : reach ≤ turn.must
        near = go (test reach turn.must)
          where
            go : {b : Bool} → Test reach turn.must b → reach ≤ turn.must
            go (pass u) = u
            go (fail u) =
                let i : turn.must < length perms = omega (arith, within turn.row turn.next f p h same_next) in
                absurd (false≢true (sym (must.row i) ∙ rw (gone.out turn.must must.past u) at (label_allowed perms nexts is_nexts l a turn.must i)))

        left : heard (drop turn.row l) ≡ hears (at l turn.row) + heard (drop (turn.row + 1) l)
        left = rw add-one (heard_cons perms nexts is_nexts l a turn.row h)

        label_taken : {t t' : List ℕ} {r' : Reached} → SameValues t0 t
            → AllTaken turn t (max (f 1) turn.row) (max (f 2) turn.row) t' r' → Taken (at l turn.row) t' r' (max (freed 1) (turn.row + 1)) (max (freed 2) (turn.row + 1))
        label_taken {t} v k =
            let permitted : permits turn.perm (at l turn.row) ≡ true = rw perm (label_allowed perms nexts is_nexts l a turn.row h) in
            let ex : max (freed 1) reach ≡ max (freed 1) (turn.row + 1) = omega arith in
            let ey : max (freed 2) reach ≡ max (freed 2) (turn.row + 1) = omega arith in
            taken_of (suc (heard (drop (turn.row + 1) l))) f (at l turn.row) (omega (arith, rw same_next at (is_nexts.later turn.row h))) (p.path.free turn.row (omega arith) h)
            (omega (arith, value_now turn.row f p t v, left)) permitted k
            (record {
              permitted = permitted;
              some = omega arith;
              near = near;
              value = rw (ex, ey) at (value_now reach freed (at_after turn.row turn.next f p h same_next) t v) ∙ ap suc gone.same;
            })

      -- it is one of the cells of the turn
      cell_taken : {t t' : List ℕ} {r r' : Reached} (f : ℕ → ℕ) (p : At turn.row f) → IsMarked (cell_at t (max (f 1) turn.row) (max (f 2) turn.row))
          → RowMarked turn (high_at t0 2 turn.row + 1) t r t' r' → ColumnMarked turn (high_at t0 1 turn.row + 1) t r t' r'
          → AllTaken turn t (max (f 1) turn.row) (max (f 2) turn.row) t' r'
      cell_taken {t} {t'} {r' = r'} f p m rows columns = go (ℕ_discrete (max (f 1) turn.row) turn.row)
        where
          go : Dec (max (f 1) turn.row ≡ turn.row) → AllTaken turn t (max (f 1) turn.row) (max (f 2) turn.row) t' r'
          go (yes z) =
              let i : max (f 2) turn.row < high_at t0 2 turn.row + 1 = omega (arith, p.limit_2.high h, filled.highs_2.low turn.row h) in
              rw z (rows.taken (max (f 2) turn.row) (omega arith) i (rw z at m))
          go (no n) =
              let z : max (f 2) turn.row ≡ turn.row = omega (arith, p.one_free) in
              let i : max (f 1) turn.row < high_at t0 1 turn.row + 1 = omega (arith, p.limit_1.high h, filled.highs_1.low turn.row h) in
              rw z (columns.taken (max (f 1) turn.row) (omega arith) i (rw z at m))

      -- the cells of the turn have been looked at: the labels come by a marked cell again, and the row's label is found
      pub on_more : {reached : ℕ} {t t' t'' : List ℕ} {r r' : Reached} → SameValues t0 t → On turn.row reached t
          → RowMarked turn (high_at t0 2 turn.row + 1) t r t' r' → ColumnMarked turn (high_at t0 1 turn.row + 1) t r t' r'
          → (turn.row < reached → permits r.labels 0 ≡ true) → r.stage ≡ reached → ((i : ℕ) → i < cell_bytes → get_or t'' i 0 ≡ get_or t' i 0)
          → On (turn.row + 1) r'.stage t'' × (permits r'.labels (at l turn.row) ≡ true)
      on_more {t = t} {t'} {t''} {r' = r'} v o rows columns start same kept = ⊎_elim now later (eq-or-lt_of_le o.later)
        where
          still : (s : ℕ) (f : ℕ → ℕ) → At s f → IsMarked (cell_at t' (max (f 1) s) (max (f 2) s)) → IsMarked (cell_at t'' (max (f 1) s) (max (f 2) s))
          still s f p m = rw (kept (max (f 1) s * across + max (f 2) s) (omega (arith, p.limit_1.within, p.limit_2.within, p.within, filled.numbered.few))) m

          later : turn.row < o.stage → On (turn.row + 1) r'.stage t'' × (permits r'.labels (at l turn.row) ≡ true)
          later u = (
            record {
              stage = o.stage;
              free = o.free;
              cell = o.cell;
              later = omega arith;
              marked = still o.stage o.free o.cell (rows.more.marked (max (o.free 1) o.stage * across + max (o.free 2) o.stage) o.marked);
              out = λ k b c. o.out k (omega arith) c;
              over = λ b. omega (arith, o.over u, rows.more.stage);
            },
            rw (o.out turn.row (omega arith) u) (rows.more.labels 0 (start (omega (arith, o.over u)))),
          )

          now : turn.row ≡ o.stage → On (turn.row + 1) r'.stage t'' × (permits r'.labels (at l turn.row) ≡ true)
          now e =
              let f = o.free in
              let p : At turn.row f = rw e o.cell in
              let k : Taken (at l turn.row) t' r' (max (freed f p 1) (turn.row + 1)) (max (freed f p 2) (turn.row + 1)) =
              label_taken f p v (cell_taken f p (rw e o.marked) rows columns)
              in
              let ex : max (freed f p 1) (reach f p) ≡ max (freed f p 1) (turn.row + 1) = omega arith in
              let ey : max (freed f p 2) (reach f p) ≡ max (freed f p 2) (turn.row + 1) = omega arith in
              let q = at_after turn.row turn.next f p h same_next in (
                record {
                  stage = reach f p;
                  free = freed f p;
                  cell = q;
                  later = omega arith;
                  marked = still (reach f p) (freed f p) q (rw (ex, ey) k.marked);
                  out = λ i b c. (gone f p).out i b c;
                  over = λ b. k.stage;
                },
                k.found,
              )
