-- Laws of `Narrowed`: what taking the labels found makes of the permissions, after rows were left their first labels
-- and after a label was struck; and that narrowing answers what is asked.
use Prim.Native.Nat.{ℕ, zero, suc, ◌+◌, ◌-◌, ◌≤◌, ◌<◌}
use mathlib.Core.Path.{◌≡◌, refl, sym, ap, ◌∙◌}
use mathlib.Core.Logic.{◌≢◌, ◌⊎◌, inl, inr, ⊎_elim}
use mathlib.Core.Bool.{Bool, true, false}
use mathlib.Core.List.{List, [], ◌∷◌, map}
use native.Mathlib.Omega.{arith}
use native.Mathlib.Decide.{dec_lt, ℕ_discrete}
use native.Mathlib.Nat.{eq-or-lt_of_le, le_of_suc-le-suc}
use lib.ListN.{length, set, length-map, length-set}
use lib.Seq.{ext_get_or, get_or-set_same, get_or-set_other}
use Rattle.basics.specs.Lists.{at}
use Rattle.basics.proofs.Lists.{at_map}
use Rattle.labels.specs.Labels.{heard, place, Earlier}
use Rattle.labels.specs.Permission.{permits, only, label_of}
use Rattle.labels.proofs.Permissions.{permits_label, permits_only, label_only, earlier_at}
use Rattle.tracks.specs.Tracks.{Answered}
use Rattle.tracks.specs.Narrowing.{Reached, OneAt, OneBelow, Narrowed, Taken, Outcome, first_in, Fixed, Advanced}
use Rattle.tracks.proofs.Rows.{Family}
use Rattle.tracks.proofs.Firsts.{first_le, first_permitted, first_before, place_last, alone, small_only, struck_permits, permits_struck}

-- ---- the order of label lists

earlier_trans : (a b c : List ℕ) → Earlier a b → Earlier b c → Earlier a c
earlier_trans [] b c h k = h
earlier_trans (x ∷ a) [] c h k = absurd h
earlier_trans (x ∷ a) (y ∷ b) [] h k = k
earlier_trans (x ∷ a) (y ∷ b) (z ∷ c) (inl h) (inl k) = inl (omega arith)
earlier_trans (x ∷ a) (y ∷ b) (z ∷ c) (inl h) (inr k) = inl (rw (ap place k.0) at h)
earlier_trans (x ∷ a) (y ∷ b) (z ∷ c) (inr h) (inl k) = inl (omega (arith, ap place h.0))
earlier_trans (x ∷ a) (y ∷ b) (z ∷ c) (inr h) (inr k) = inr (h.0 ∙ k.0, earlier_trans a b c h.1 k.1)

-- it is the list, or comes earlier
abbrev NotLater : List ℕ → List ℕ → Type 0
NotLater k l = (k ≡ l) ⊎ Earlier k l

not_later_trans : {a b c : List ℕ} → NotLater a b → NotLater b c → NotLater a c
not_later_trans (inl e) h = rw e h
not_later_trans (inr h) (inl e) = inr (rw e at h)
not_later_trans {a} {b} {c} (inr h) (inr k) = inr (earlier_trans a b c h k)

-- a number below i + 1 is below i or is i
last_or : (i j : ℕ) → j < suc i → (j < i) ⊎ (j ≡ i)
last_or i j h = ⊎_elim inr inl (eq-or-lt_of_le (le_of_suc-le-suc h))

-- two lists have the same first n entries, or differ first at one of them
record Differ (n : ℕ) (a b : List ℕ) : Type 0 where
  row : ℕ
  below : row < n
  same : (j : ℕ) → j < row → at a j ≡ at b j
  other : at a row ≢ at b row

agree_or : (n : ℕ) (a b : List ℕ) → ((j : ℕ) → j < n → at a j ≡ at b j) ⊎ Differ n a b
agree_or zero a b = inl (λ j h. absurd (omega arith))
agree_or (suc n) a b = go (agree_or n a b) (ℕ_discrete (at a n) (at b n))
  where
    go : ((j : ℕ) → j < n → at a j ≡ at b j) ⊎ Differ n a b → Dec (at a n ≡ at b n) → ((j : ℕ) → j < suc n → at a j ≡ at b j) ⊎ Differ (suc n) a b
    go (inr d) e = inr (record { row = d.row; below = omega (arith, d.below); same = d.same; other = d.other })
    go (inl f) (yes e) = inl (λ j h. ⊎_elim (f j) (λ q. rw q e) (last_or n j h))
    go (inl f) (no d) = inr (record { row = n; below = omega arith; same = f; other = d })

-- ---- rows of one label

pub one_at : (perms : List ℕ) (j x : ℕ) → x ≤ 2 → at perms j ≡ only x → OneAt perms j
one_at perms j x h e = rw (e, label_only x h) refl

module _ {n : ℕ} {A : List ℕ → List ℕ → Type 0} (F : Family n A) {cap : ℕ} where
  -- ---- steps one after the other

  module _ {perms : List ℕ} {i : ℕ} where
    pub narrowed_same : OneBelow perms i → Narrowed A cap perms perms i
    narrowed_same f = record { each = refl; within = λ l a. a; covered = λ l a e. (l, a, e, inl refl); one = f }

    pub narrowed_trans : {perms' perms'' : List ℕ} {j : ℕ} → Narrowed A cap perms perms' i → Narrowed A cap perms' perms'' j → Narrowed A cap perms perms'' j
    narrowed_trans N M =
        record {
          each = M.each ∙ N.each;
          within = λ l a. N.within l (M.within l a);
          covered = λ l a e. let v = N.covered l a e in
              let w = M.covered v.0 v.1 v.2 in
              (w.0, w.1, w.2, not_later_trans w.3 v.3);
          one = M.one;
        }

    pub narrowed_more : {perms' : List ℕ} → Narrowed A cap perms perms' i → OneAt perms' i → Narrowed A cap perms perms' (i + 1)
    narrowed_more {perms'} N o =
        record { each = N.each; within = N.within; covered = N.covered; one = λ j h. ⊎_elim (N.one j) (λ e. rw e o) (last_or i j (omega arith)) }

    pub narrowed_fewer : {perms' : List ℕ} {j : ℕ} → i ≤ j → Narrowed A cap perms perms' j → Narrowed A cap perms perms' i
    narrowed_fewer h N = record { each = N.each; within = N.within; covered = N.covered; one = λ j k. N.one j (omega arith) }

    pub narrowed_reached : {perms' : List ℕ} → Reached A cap perms → Narrowed A cap perms perms' i → Reached A cap perms'
    narrowed_reached r N = let w = N.covered r.0 r.1 r.2 in (w.0, w.1, w.2)

  -- ---- the labels found are taken

  module _ {perms perms' : List ℕ} (long : length perms ≡ n) (T : Taken A cap perms perms') where
    -- none are new, and each that reaches the cap stays
    taken_within : {l : List ℕ} → A perms' l → A perms l
    taken_within {l} a = F.other a (λ r h. T.permitted r (at l r) (omega arith) (F.allowed a r h))

    taken_stays : {l : List ℕ} → A perms l → suc (heard l) ≡ cap → A perms' l
    taken_stays {l} a e = F.other a (λ r h. T.labels l a e r (omega arith))

    -- a row of one label keeps it
    taken_one : (j x : ℕ) → j < n → at perms j ≡ only x → OneAt perms' j
    taken_one j x h e =
        one_at perms' j x (permits_label (at perms j) x (rw is at permitted))
        (small_only (at perms' j) x (T.small j (omega arith)) (rw is at stays) (λ y q. alone x y e (T.permitted j y (omega arith) q)))
      where
        l : List ℕ
        l = T.reached.0

        permitted : permits (at perms j) (at l j) ≡ true
        permitted = F.allowed T.reached.1 j h

        stays : permits (at perms' j) (at l j) ≡ true
        stays = T.labels l T.reached.1 T.reached.2 j (omega arith)

        is : at l j ≡ x
        is = alone x (at l j) e permitted

  pub outcome_taken : {perms perms' space : List ℕ} {r : Bool} → Outcome A cap perms perms' space r → Reached A cap perms → Taken A cap perms perms'
  outcome_taken {perms} {perms'} {space} {r} O R = go r refl
    where
      go : (b : Bool) → r ≡ b → Taken A cap perms perms'
      go true e = O.yes e
      go false e = absurd (omega (arith, O.none e R.0 R.1, R.2))

  module _ {perms : List ℕ} (long : length perms ≡ n) (R : Reached A cap perms) where
    -- the first label of a row is permitted
    pub first_allowed : (r : ℕ) → r < n → permits (at perms r) (first_in (at perms r)) ≡ true
    first_allowed r h = first_permitted (at perms r) (at R.0 r) (F.allowed R.1 r h)

    -- ---- rows were left their first labels

    module _ {perms' : List ℕ} {i e : ℕ} (X : Fixed perms perms' i e) where
      pub fixed_within : {l : List ℕ} → A perms' l → A perms l
      fixed_within {l} a = F.other a (λ r h. go r h (dec_lt r i) (dec_lt r e))
        where
          go : (r : ℕ) → r < n → Dec (r < i) → Dec (r < e) → permits (at perms r) (at l r) ≡ true
          go r h (yes p) d = rw (X.lower r p) at (F.allowed a r h)
          go r h (no p) (no q) = rw (X.upper r (omega arith)) at (F.allowed a r h)
          go r h (no p) (yes q) =
              let is : at l r ≡ first_in (at perms r) = alone (first_in (at perms r)) (at l r) (X.first r (omega arith) q) (F.allowed a r h) in
              rw is (first_allowed r h)

      module _ (one : OneBelow perms i) {perms'' : List ℕ} (T : Taken A cap perms' perms'') where
        long' : length perms' ≡ n
        long' = X.each ∙ long

        abbrev w : List ℕ
        w = T.reached.0

        -- a list that agrees with one under the first labels stays
        agreeing : {l : List ℕ} → A perms l → ((j : ℕ) → j < e → at w j ≡ at l j) → A perms' l
        agreeing {l} a f = F.other a (λ r h. go r h (dec_lt r e))
          where
            go : (r : ℕ) → r < n → Dec (r < e) → permits (at perms' r) (at l r) ≡ true
            go r h (yes p) = rw (← f r p) (F.allowed T.reached.1 r h)
            go r h (no p) = rw (X.upper r (omega arith)) (F.allowed a r h)

        -- any other has a later label where it first differs
        later : {l : List ℕ} → A perms l → Differ e w l → Earlier w l
        later {l} a d = earlier_at w l d.row (omega (arith, F.each T.reached.1, inside)) (omega (arith, F.each a, inside)) d.same (go (dec_lt d.row i))
          where
            inside : d.row < n
            inside = omega (arith, d.below, X.inside)

            go : Dec (d.row < i) → place (at w d.row) < place (at l d.row)
            go (yes p) =
                let x : ℕ = label_of (at perms d.row) in
                let own : at perms d.row ≡ only x = one d.row p in
                let mine = alone x (at w d.row) (X.lower d.row p ∙ own) (F.allowed T.reached.1 d.row inside) in
                let its = alone x (at l d.row) own (F.allowed a d.row inside) in
                absurd (d.other (mine ∙ sym its))
            go (no p) =
                let first = alone (first_in (at perms d.row)) (at w d.row) (X.first d.row (omega arith) d.below) (F.allowed T.reached.1 d.row inside) in
                rw first (first_before (at perms d.row) (at l d.row) (F.allowed a d.row inside) (λ q. d.other (first ∙ sym q)))

        pub fixed_narrowed : Narrowed A cap perms perms'' e
        fixed_narrowed =
            record {
              each = T.each ∙ X.each;
              within = λ l a. fixed_within (taken_within long' T a);
              covered = λ l a h. go a h (agree_or e w l);
              one = λ j h. one_of j h (dec_lt j i);
            }
          where
            go : {l : List ℕ} → A perms l → suc (heard l) ≡ cap → ((j : ℕ) → j < e → at w j ≡ at l j) ⊎ Differ e w l → (k : List ℕ) × A perms'' k × (suc (heard k) ≡ cap) × NotLater k l
            go {l} a h (inl f) = (l, taken_stays long' T (agreeing a f) h, h, inl refl)
            go {l} a h (inr d) = (w, taken_stays long' T T.reached.1 T.reached.2, T.reached.2, inr (later a d))

            one_of : (j : ℕ) → j < e → Dec (j < i) → OneAt perms'' j
            one_of j h (yes p) = taken_one long' T j (label_of (at perms j)) (omega (arith, X.inside)) (X.lower j p ∙ one j p)
            one_of j h (no p) = taken_one long' T j (first_in (at perms j)) (omega (arith, X.inside)) (X.first j (omega arith) h)

    -- ---- the first label of a row was struck

    module _ {i : ℕ} (inside : i < n) (none : (l : List ℕ) → A (set perms i (only (first_in (at perms i)))) l → suc (heard l) < cap) where
      abbrev first : ℕ
      first = first_in (at perms i)

      abbrev struck : List ℕ
      struck = set perms i (at perms i - only first)

      here : (x : ℕ) → at (set perms i x) i ≡ x
      here x = get_or-set_same perms i x 0 (omega arith)

      there : (x r : ℕ) → r ≢ i → at (set perms i x) r ≡ at perms r
      there x r d = get_or-set_other perms i r x 0 d

      -- a list that reaches the cap has another label there
      not_first : {l : List ℕ} → A perms l → suc (heard l) ≡ cap → at l i ≢ first
      not_first {l} a e q = omega (arith, none l (F.other a (λ r h. go r h (ℕ_discrete r i))))
        where
          go : (r : ℕ) → r < n → Dec (r ≡ i) → permits (at (set perms i (only first)) r) (at l r) ≡ true
          go r h (yes p) = rw (p, here (only first), q) (permits_only first (first_le (at perms i)))
          go r h (no p) = rw (there (only first) r p) (F.allowed a r h)

      pub struck_within : {l : List ℕ} → A struck l → A perms l
      struck_within {l} a = F.other a (λ r h. go r h (ℕ_discrete r i))
        where
          go : (r : ℕ) → r < n → Dec (r ≡ i) → permits (at perms r) (at l r) ≡ true
          go r h (yes p) = rw p (struck_permits (at perms i) first (first_allowed i inside) (at l i) (rw (here (at perms i - only first)) at (F.allowed a i inside))).0
          go r h (no p) = rw (there (at perms i - only first) r p) at (F.allowed a r h)

      struck_stays : {l : List ℕ} → A perms l → suc (heard l) ≡ cap → A struck l
      struck_stays {l} a e = F.other a (λ r h. go r h (ℕ_discrete r i))
        where
          go : (r : ℕ) → r < n → Dec (r ≡ i) → permits (at struck r) (at l r) ≡ true
          go r h (yes p) = rw (p, here (at perms i - only first)) (permits_struck (at perms i) first (first_allowed i inside) (at l i) (F.allowed a i inside) (not_first a e))
          go r h (no p) = rw (there (at perms i - only first) r p) (F.allowed a r h)

      pub struck_reached : Reached A cap struck
      struck_reached = (R.0, struck_stays R.1 R.2, R.2)

      module _ (one : OneBelow perms i) {perms'' : List ℕ} (T : Taken A cap struck perms'') where
        long_struck : length struck ≡ n
        long_struck = length-set perms i (at perms i - only first) ∙ long

        pub struck_narrowed : Narrowed A cap perms perms'' i
        struck_narrowed =
            record {
              each = T.each ∙ length-set perms i (at perms i - only first);
              within = λ l a. struck_within (taken_within long_struck T a);
              covered = λ l a e. (l, taken_stays long_struck T (struck_stays a e) e, e, inl refl);
              one = λ j h. taken_one long_struck T j (label_of (at perms j)) (omega arith) (there (at perms i - only first) j (λ q. omega arith) ∙ one j h);
            }

        pub struck_advanced : Advanced perms perms'' i
        struck_advanced = inr (T.small i (omega (arith, long_struck)), λ x q. go x (T.permitted i x (omega (arith, long_struck)) q))
          where
            go : (x : ℕ) → permits (at struck i) x ≡ true → place first < place x
            go x q =
                let s = struck_permits (at perms i) first (first_allowed i inside) x (rw (here (at perms i - only first)) at q) in
                first_before (at perms i) x s.0 s.1

  -- ---- a row that advances twice has one label

  module _ {perms perms' perms'' : List ℕ} {i : ℕ} (inside : i < n) (R : Reached A cap perms) (N : Narrowed A cap perms perms' i) (M : Narrowed A cap perms' perms'' i) where
    abbrev reached : Reached A cap perms''
    reached = narrowed_reached (narrowed_reached R N) M

    abbrev label : ℕ
    label = at reached.0 i

    last : permits (at perms'' i) label ≡ true
    last = F.allowed reached.1 i inside

    first_of_it : permits (at perms' i) (first_in (at perms' i)) ≡ true
    first_of_it = first_permitted (at perms' i) label (F.allowed (M.within reached.0 reached.1) i inside)

    twice_one : Advanced perms perms' i → Advanced perms' perms'' i → OneAt perms'' i
    twice_one g (inl o) = o
    twice_one (inl o) (inr h) =
        let x : ℕ = label_of (at perms' i) in
        absurd (omega (arith, h.1 label last, ap place (alone x label o (F.allowed (M.within reached.0 reached.1) i inside)), ap place (alone x (first_in (at perms' i)) o first_of_it)))
    twice_one (inr g) (inr h) = one_at perms'' i 0 (omega arith) (small_only (at perms'' i) 0 h.0 (rw (zero_of label last) at last) zero_of)
      where
        zero_of : (y : ℕ) → permits (at perms'' i) y ≡ true → y ≡ 0
        zero_of y q = place_last y (permits_label (at perms'' i) y q) (omega (arith, g.1 (first_in (at perms' i)) first_of_it, h.1 y q))

    pub narrowed_twice : Advanced perms perms' i → Advanced perms' perms'' i → Narrowed A cap perms perms'' (i + 1)
    narrowed_twice g h = narrowed_more (narrowed_trans N M) (twice_one g h)

  -- ---- at the end

  module _ {perms perms' : List ℕ} (long : length perms ≡ n) (some : 1 ≤ cap)
      (most : (l : List ℕ) → A perms l → suc (heard l) ≤ cap) (R : Reached A cap perms) (N : Narrowed A cap perms perms' n) where
    labels_of : {l : List ℕ} → A perms' l → l ≡ map label_of perms'
    labels_of {l} a =
        ext_get_or 0 l (map label_of perms') (F.each a ∙ sym (N.each ∙ long) ∙ sym (length-map perms' label_of))
        (λ j h. let g : j < n = omega (arith, F.each a) in
        alone (label_of (at perms' j)) (at l j) (N.one j g) (F.allowed a j g) ∙ sym (at_map label_of perms' j (omega (arith, N.each))))

    pub narrowed_answered : Answered (A perms) cap perms'
    narrowed_answered =
        let w = narrowed_reached R N in
        let e : w.0 ≡ map label_of perms' = labels_of w.1 in
        let h : suc (heard (map label_of perms')) ≡ cap = rw e at w.2 in
        record {
          none = λ z. omega arith;
          found = λ z. record {
            member = rw e at (N.within w.0 w.1);
            most = λ l a. omega (arith, most l a, h);
            first = λ l a q d. earlier l d (N.covered l a (omega (arith, h, q)));
          };
          count = λ z. h;
        }
      where
        earlier : (l : List ℕ) → l ≢ map label_of perms' → (k : List ℕ) × A perms' k × (suc (heard k) ≡ cap) × NotLater k l → Earlier (map label_of perms') l
        earlier l d (k, a, e, inl q) = absurd (d (sym q ∙ labels_of a))
        earlier l d (k, a, e, inr q) = rw (labels_of a) at q
