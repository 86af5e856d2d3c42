-- What the functions that try pairs rest on: what they are lent serves again, the value of a pair, and the pairs that
-- were tried or passed over.
use Prim.Native.Nat.{ℕ, ◌+◌, ◌-◌, ◌≤◌, ◌<◌, max}
use mathlib.Core.Path.{◌≡◌, refl, sym, ap, ◌∙◌}
use mathlib.Core.Logic.{◌⊎◌}
use mathlib.Core.Bool.{false}
use mathlib.Core.List.{List}
use native.Mathlib.Omega.{arith}
use borrow.Author.Count.{below_more}
use lib.ListN.{length, drop, set, get_or, length-drop}
use lib.Seq.{get_or-drop, get_or-set_same, get_or-set_other}
use Rattle.basics.specs.Limits.{max_rows}
use Rattle.std.proofs.lemmas.List.{drop-drop, drop-set-lt}
use Rattle.line.specs.Line.{LineRows, best_from}
use Rattle.line.specs.Cells.{line_bytes, found_from, next_from, worth_at}
use Rattle.line.specs.Filled.{NextRows, Numbered, Filled, nexts_of}
use Rattle.pairs.specs.Ready.{Most, Ready}
use Rattle.pairs.specs.Pairs.{PairFit, SecondFit, Within, LeftAll, twice, with_pair}
use Rattle.pairs.specs.Bounds.{Worth, Bound, PairValue, max_worth}
use Rattle.pairs.proofs.Leaves.{twice_distinct}
use Rattle.pairs.proofs.Classes.{most_none, within_none, within_begun, within_more, within_passed, within_joined}
use Rattle.pairs.proofs.Numbers.{line_rows, numbered, value_le}
use Rattle.pairs.proofs.Value.{pair_most}

-- ---- what is lent

-- what is the same from one place on is so from a later one on, and entry by entry
pub same_later : (a b : ℕ) (s t : List ℕ) → a ≤ b → drop a t ≡ drop a s → drop b t ≡ drop b s
same_later a b s t h e =
    let q : a + (b - a) ≡ b = omega arith in
    rw (← q, ← drop-drop (b - a) a t, ← drop-drop (b - a) a s) (ap (drop (b - a)) e)

pub entry_kept : (a : ℕ) (s t : List ℕ) → drop a t ≡ drop a s → (i : ℕ) → get_or t (a + i) 0 ≡ get_or s (a + i) 0
entry_kept a s t e i = sym (get_or-drop a t i 0) ∙ ap (λ (l : List ℕ). get_or l i 0) e ∙ get_or-drop a s i 0

pub next_rows_again : {starts ends space space' : List ℕ} → NextRows starts ends space → length space' ≡ length space → drop next_from space' ≡ drop next_from space
    → NextRows starts ends space'
next_rows_again {space = space} {space'} N b e =
    record {
      long = omega (arith, N.long);
      within = λ i h. omega (arith, N.within i h, entry_kept next_from space space' e i);
      over = λ i j h k. rw (entry_kept next_from space space' e i) (N.over i j h k);
    }

-- the next pair is lent the same, if the room has kept its length and the next rows
pub ready_again : {positions ends order perms : List ℕ} {m : ℕ} {left space left' space' : List ℕ} → Ready positions ends order perms m left space
    → length left' ≡ length left → length space' ≡ length space → drop next_from space' ≡ drop next_from space → Ready positions ends order perms m left' space'
ready_again R a b e = record { rows = R.rows; each_left = a ∙ R.each_left; next_rows = next_rows_again R.next_rows b e }

module _ (positions ends perms : List ℕ) (m : ℕ) where
  -- the bytes for the first n crossing rows say what receiver 2 could hear with each, and what stands after those bytes
  -- is kept
  pub record Worths (n : ℕ) (space₀ space : List ℕ) : Type 0 where
    pub worth : (w : ℕ) → w < n → Worth positions ends perms m 2 w (worth_at space w)
    pub small : (w : ℕ) → w < n → worth_at space w ≤ max_worth
    pub frame : drop found_from space ≡ drop found_from space₀

module _ {positions ends perms : List ℕ} {m : ℕ} where
  pub worths_none : (space : List ℕ) → Worths positions ends perms m 0 space space
  worths_none space = record { worth = λ w h. absurd (omega arith); small = λ w h. absurd (omega arith); frame = refl }

  pub worths_more : {n r : ℕ} {space₀ space : List ℕ} → Worths positions ends perms m n space₀ space → n ≤ max_rows → line_bytes + n < length space
      → Worth positions ends perms m 2 n r → r ≤ max_worth → Worths positions ends perms m (n + 1) space₀ (set space (line_bytes + n) r)
  worths_more {n} {r} {space₀} {space} W few long worth small =
      record {
        worth = below_more _ n (λ w h. rw (other w h) (W.worth w h)) (rw here worth);
        small = below_more _ n (λ w h. rw (other w h) (W.small w h)) (rw here small);
        frame = drop-set-lt found_from space (line_bytes + n) r (omega arith) ∙ W.frame;
      }
    where
      here : worth_at (set space (line_bytes + n) r) n ≡ r
      here = get_or-set_same space (line_bytes + n) r 0 long

      other : (w : ℕ) → w < n → worth_at (set space (line_bytes + n) r) w ≡ worth_at space w
      other w h = get_or-set_other space (line_bytes + n) (line_bytes + w) r 0 (omega arith)

  -- what the line program leaves
  pub worths_again : {n : ℕ} {space₀ space space' : List ℕ} → Worths positions ends perms m n space₀ space → drop line_bytes space' ≡ drop line_bytes space
      → Worths positions ends perms m n space₀ space'
  worths_again {space = space} {space'} W e =
      record {
        worth = λ w h. rw (entry_kept line_bytes space space' e w) (W.worth w h);
        small = λ w h. rw (entry_kept line_bytes space space' e w) (W.small w h);
        frame = same_later line_bytes found_from space space' (omega arith) e ∙ W.frame;
      }

-- ---- the value of a pair

pub value_none : {positions ends perms left space : List ℕ} {m w1 w2 : ℕ} → ((l : List ℕ) → PairFit positions ends perms m w1 w2 l → ⊥) → PairValue positions ends perms m w1 w2 left space 0
value_none f = record { most = most_none f; leaves = λ h. absurd (omega arith); filled = λ h. absurd (omega arith); value = λ h. absurd (omega arith) }

module _ {positions ends order perms left₀ space₀ : List ℕ} {m : ℕ} (R : Ready positions ends order perms m left₀ space₀) where
  on_line : LineRows (drop m positions) (drop m ends)
  on_line = line_rows R.rows.few R.rows.each_end R.rows.crossing R.rows.ordered

  -- the line program is called on what the pair leaves the rows that do not cross
  module _ {rest : List ℕ} (left : List ℕ) (same : length left ≡ length left₀) (is_rest : rest ≡ drop m left) where
    each_rest : length rest ≡ length (drop m positions)
    each_rest = rw is_rest (simp length-drop (omega (arith, R.each_left)))

    pub line_lent : Numbered rest space₀
    line_lent = numbered on_line R.next_rows rest each_rest

    module _ (space : List ℕ) {v : ℕ} (same_space : length space ≡ length space₀) (kept : drop line_bytes space ≡ drop line_bytes space₀)
        (best : v ≡ best_from (nexts_of space (length rest)) rest 0 0 0) where
      next_rows : NextRows (drop m positions) (drop m ends) space
      next_rows = next_rows_again R.next_rows same_space (same_later line_bytes next_from space₀ space (omega arith) kept)

      pub line_value_le : v ≤ max_rows + 1
      line_value_le = omega (arith, best, value_le on_line next_rows rest each_rest)

      pub value_line : {qs : List ℕ} {w1 w2 r : ℕ} → LeftAll positions ends qs m w1 w2 (length positions) left → twice m w1 w2 ≡ false → Filled rest space → r ≡ with_pair m w1 w2 v
          → PairValue positions ends qs m w1 w2 left space r
      value_line {qs} {w1} {w2} L t F q =
          let is_best = rw is_rest at best in
          record {
            most =
                rw q
                (pair_most positions ends qs left m w1 w2 (same ∙ R.each_left) R.rows.crossing L (twice_distinct m w1 w2 t) on_line next_rows v is_best);
            leaves = λ h. L;
            filled = λ h. rw is_rest at F;
            value = λ h. q ∙ ap (with_pair m w1 w2) is_best;
          }

-- ---- the loops over pairs, from (m, m) downwards

module _ (positions ends perms : List ℕ) (m : ℕ) where
  -- labels of pairs with their first row from n on
  abbrev pub FirstFrom : ℕ → List ℕ → Type 0
  FirstFrom n = Within (SecondFit positions ends perms m) n m

  -- labels of pairs with their first row over w1, or with w1 and their second row from n on
  abbrev pub SecondFrom : ℕ → ℕ → List ℕ → Type 0
  SecondFrom w1 n l = FirstFrom (w1 + 1) l ⊎ Within (PairFit positions ends perms m w1) n m l

  -- the class C is tried, and the space has kept what the next pairs are lent
  pub record Tried (C : List ℕ → Type 0) (space₀ space : List ℕ) (best : ℕ) : Type 0 where
    pub lent : Worths positions ends perms m (m + 1) space₀ space
    pub most : Most C best

module _ {positions ends perms : List ℕ} {m : ℕ} where
  -- no pair
  pub tried_none : {space₀ space : List ℕ} → Worths positions ends perms m (m + 1) space₀ space → Tried positions ends perms m (FirstFrom positions ends perms m (m + 1)) space₀ space 0
  tried_none W = record { lent = W; most = within_none (omega arith) }

  module _ {w1 n best : ℕ} {space₀ space : List ℕ} where
    -- no pair with w1
    pub tried_first : Tried positions ends perms m (FirstFrom positions ends perms m n) space₀ space best → n ≡ w1 + 1
        → Tried positions ends perms m (SecondFrom positions ends perms m w1 (m + 1)) space₀ space best
    tried_first t e = record { lent = t.lent; most = within_begun (rw e at t.most) }

    module _ (t : Tried positions ends perms m (SecondFrom positions ends perms m w1 n) space₀ space best) where
      -- one pair more
      pub tried_more : {v r : ℕ} {space' : List ℕ} → 0 < n → n ≤ m + 1 → Most (PairFit positions ends perms m w1 (n - 1)) v → drop line_bytes space' ≡ drop line_bytes space
          → r ≡ max best v → Tried positions ends perms m (SecondFrom positions ends perms m w1 (n - 1)) space₀ space' r
      tried_more a b M e q = record { lent = worths_again t.lent e; most = rw q (within_more (n - 1) n (omega arith) (omega arith) t.most M) }

      -- one pair passed over
      pub tried_passed : {s : ℕ} → 0 < n → n ≤ m + 1 → Bound positions ends perms m w1 (n - 1) s → s ≤ best
          → Tried positions ends perms m (SecondFrom positions ends perms m w1 (n - 1)) space₀ space best
      tried_passed a b f h = record { lent = t.lent; most = within_passed (n - 1) n (omega arith) (omega arith) t.most (λ l d. omega (arith, f l d)) }

      -- all pairs with w1
      pub tried_all : n ≤ 0 → w1 ≤ m → Tried positions ends perms m (FirstFrom positions ends perms m w1) space₀ space best
      tried_all e h =
          let z : n ≡ 0 = omega arith in
          record { lent = t.lent; most = within_joined w1 h (rw z at t.most) }
