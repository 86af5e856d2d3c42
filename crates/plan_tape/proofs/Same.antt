-- One tape, one plan: two accepted calls write the same tape exactly if they have the same plan.
use Prim.Native.Nat.{ℕ, zero, suc, ◌+◌, ◌≤◌, ◌<◌}
use mathlib.Core.Path.{◌≡◌, refl, sym, ap, ◌∙◌}
use mathlib.Core.Logic.{◌≢◌, ◌↔◌, ⊎_elim}
use mathlib.Core.Bool.{Bool, true, false, cond}
use mathlib.Core.List.Memᴰ
use mathlib.Core.List.{List, [], ◌∷◌, Memᴰ}
use native.Mathlib.Decide.{ℕ_discrete, dec_lt}
use native.Mathlib.Nat.{eq-or-lt_of_le}
use native.Mathlib.Omega.{arith}
use borrow.Author.Tests.{eqb-true, eqb-false, eq-eqb, ne_eqb}
use lib.Dec.{eqb}
use lib.ListN.{length, take, drop, get_or-eq_default}
use lib.Seq.{take-append_seam}
use Rattle.basics.specs.Lists.{at, front}
use Rattle.refusals.specs.Refusals.{number_of, answered, Accepted}
use Rattle.table.specs.Tables.{Table, Plan}
use Rattle.plan_tape.specs.PlanTapes.{insert, rows_by_start, rows_of, listens, plan_tape}
use Rattle.plan_tape.specs.Stated.{Listen, Stated, stated}
use Rattle.plan_tape.specs.Written.{tape_of, write_refusal, Written, writing, written, tape_in, SamePlan}
use Rattle.plan_tape.proofs.Accepted.{Fit, write_fit}
use Rattle.plan_tape.proofs.Order.{rows_member}
use Rattle.plan_tape.proofs.Reading.{Heard, States, tape_states}

-- ---- what states two plans states one

not_heard : (x : ℕ) → x ≤ 2 → x ≢ 1 → x ≢ 2 → x ≡ 0
not_heard x h a b = omega (arith, a, b)

same_label : (x y : ℕ) → x ≤ 2 → y ≤ 2 → (x ≡ 1 → y ≡ 1) → (x ≡ 2 → y ≡ 2) → (y ≡ 1 → x ≡ 1) → (y ≡ 2 → x ≡ 2) → x ≡ y
same_label x y h k f1 f2 g1 g2 = go (ℕ_discrete x 1) (ℕ_discrete x 2) (ℕ_discrete y 1) (ℕ_discrete y 2)
  where
    go : Dec (x ≡ 1) → Dec (x ≡ 2) → Dec (y ≡ 1) → Dec (y ≡ 2) → x ≡ y
    go (yes a) b c d = a ∙ sym (f1 a)
    go (no a) (yes b) c d = b ∙ sym (f2 b)
    go (no a) (no b) (yes c) d = g1 c ∙ sym c
    go (no a) (no b) (no c) (yes d) = g2 d ∙ sym d
    go (no a) (no b) (no c) (no d) = not_heard x h a b ∙ sym (not_heard y k c d)

-- what one plan hears on a receiver, the other does
carry : (starts ends labels starts' ends' labels' : List ℕ) (receiver : ℕ) (listed : List Listen)
    → ((w : Listen) → Memᴰ w listed ↔ Heard starts ends labels receiver w)
    → ((w : Listen) → Memᴰ w listed ↔ Heard starts' ends' labels' receiver w)
    → (i : ℕ) → at labels i ≡ receiver → (at labels' i ≡ receiver) × (at starts i ≡ at starts' i) × (at ends i ≡ at ends' i)
carry starts ends labels starts' ends' labels' receiver listed f h i e =
    let w : Listen = record { row = i; start = at starts i; end = at ends i } in
    (h w).0 ((f w).1 (e, refl, refl))

module _ (t u : Table) (labels labels' : List ℕ) {g : Stated}
    (p : States t.setting.kind t.setting.ticks t.starts t.ends labels g)
    (q : States u.setting.kind u.setting.ticks u.starts u.ends labels' g)
    (known : (i : ℕ) → at labels i ≤ 2) (known' : (i : ℕ) → at labels' i ≤ 2) where
  states_same : SamePlan t labels u labels'
  states_same =
      record {
        kind = sym p.kind_stated ∙ q.kind_stated;
        ticks = sym p.ticks_stated ∙ q.ticks_stated;
        label = λ i.
            same_label (at labels i) (at labels' i) (known i) (known' i)
            (λ e. (ones i e).0) (λ e. (twos i e).0) (λ e. (back1 i e).0) (λ e. (back2 i e).0);
        window = λ i n. windows i n (ℕ_discrete (at labels i) 1) (ℕ_discrete (at labels i) 2);
      }
    where
      ones : (i : ℕ) → at labels i ≡ 1 → (at labels' i ≡ 1) × (at t.starts i ≡ at u.starts i) × (at t.ends i ≡ at u.ends i)
      ones = carry t.starts t.ends labels u.starts u.ends labels' 1 g.first p.first_stated q.first_stated

      twos : (i : ℕ) → at labels i ≡ 2 → (at labels' i ≡ 2) × (at t.starts i ≡ at u.starts i) × (at t.ends i ≡ at u.ends i)
      twos = carry t.starts t.ends labels u.starts u.ends labels' 2 g.second p.second_stated q.second_stated

      back1 : (i : ℕ) → at labels' i ≡ 1 → (at labels i ≡ 1) × (at u.starts i ≡ at t.starts i) × (at u.ends i ≡ at t.ends i)
      back1 = carry u.starts u.ends labels' t.starts t.ends labels 1 g.first q.first_stated p.first_stated

      back2 : (i : ℕ) → at labels' i ≡ 2 → (at labels i ≡ 2) × (at u.starts i ≡ at t.starts i) × (at u.ends i ≡ at t.ends i)
      back2 = carry u.starts u.ends labels' t.starts t.ends labels 2 g.second q.second_stated p.second_stated

      windows : (i : ℕ) → at labels i ≢ 0 → Dec (at labels i ≡ 1) → Dec (at labels i ≡ 2) → (at t.starts i ≡ at u.starts i) × (at t.ends i ≡ at u.ends i)
      windows i n (yes a) b = let o = ones i a in (o.1, o.2)
      windows i n (no a) (yes b) = let o = twos i b in (o.1, o.2)
      windows i n (no a) (no b) = absurd (n (not_heard (at labels i) (known i) a b))

-- two plans with one tape are the same
pub tapes_same : (t u : Table) (labels labels' : List ℕ) → ((i : ℕ) → at labels i ≤ 2) → ((i : ℕ) → at labels' i ≤ 2)
    → tape_of t labels ≡ tape_of u labels' → SamePlan t labels u labels'
unfolding tape_of
tapes_same t u labels labels' known known' e =
    let p : States t.setting.kind t.setting.ticks t.starts t.ends labels (stated (tape_of u labels')) =
    rw e at (tape_states t.starts t.ends labels t.setting.kind t.setting.ticks) in
    let q = tape_states u.starts u.ends labels' u.setting.kind u.setting.ticks in
    states_same t u labels labels' p q known known'

-- ---- and the same plans have one tape

-- rows that start alike are put in alike
insert_same : (starts starts' : List ℕ) (i : ℕ) (rows : List ℕ)
    → at starts i ≡ at starts' i → ((j : ℕ) → Memᴰ j rows → at starts j ≡ at starts' j)
    → insert starts i rows ≡ insert starts' i rows
unfolding insert
insert_same starts starts' i [] e f = refl
insert_same starts starts' i (j ∷ rows) e f =
    rw (e, f j (Memᴰ.head refl), insert_same starts starts' i rows e (λ k m. f k (Memᴰ.tail m))) refl

module _ (starts labels : List ℕ) (label : ℕ) (heard : 1 ≤ label) where
  -- no row past the end of the labels has the label
  rows_past : (n : ℕ) → length labels ≤ n → rows_by_start starts labels label n ≡ rows_of starts labels label
  unfolding rows_by_start
  rows_past zero h = let e : 0 ≡ length labels = omega (arith, h) in ap (rows_by_start starts labels label) e
  rows_past (suc n) h =
      let none : length labels ≤ n → at labels n ≢ label =
      λ l e. omega (arith, heard, get_or-eq_default labels 0 {n = n} l, e) in
      ⊎_elim
      (λ q. ap (rows_by_start starts labels label) (sym q))
      (λ l. rw (ne_eqb (at labels n) label (none (omega arith))) (rows_past n (omega arith)))
      (eq-or-lt_of_le h)

module _ (t u : Table) (labels labels' : List ℕ) (s : SamePlan t labels u labels') where
  rows_alike : (label n : ℕ) → 1 ≤ label → rows_by_start t.starts labels label n ≡ rows_by_start u.starts labels' label n
  unfolding rows_by_start
  rows_alike label zero h = refl
  rows_alike label (suc n) h = go (rows_alike label n h) (ℕ_discrete (at labels n) label)
    where
      start : (i : ℕ) → at labels i ≡ label → at t.starts i ≡ at u.starts i
      start i e = (s.window i (λ z. omega (arith, h, e, z))).0

      go : rows_by_start t.starts labels label n ≡ rows_by_start u.starts labels' label n → Dec (at labels n ≡ label)
          → rows_by_start t.starts labels label (suc n) ≡ rows_by_start u.starts labels' label (suc n)
      go same (yes e) =
          rw (eq-eqb (at labels n) label e, eq-eqb (at labels' n) label (sym (s.label n) ∙ e), ← same)
          (insert_same t.starts u.starts n (rows_by_start t.starts labels label n) (start n e)
          (λ j m. start j (rows_member t.starts labels label j n m).1))
      go same (no d) = rw (ne_eqb (at labels n) label d, ne_eqb (at labels' n) label (λ e. d (s.label n ∙ e))) same

  rows_same : (label : ℕ) → 1 ≤ label → rows_of t.starts labels label ≡ rows_of u.starts labels' label
  rows_same label h =
      let n = length labels + length labels' in
      sym (rows_past t.starts labels label h n (omega arith))
      ∙ rows_alike label n h
      ∙ rows_past u.starts labels' label h n (omega arith)

  listens_alike : (rows : List ℕ) → ((j : ℕ) → Memᴰ j rows → at labels j ≢ 0)
      → listens t.starts t.ends rows ≡ listens u.starts u.ends rows
  unfolding listens
  listens_alike [] f = refl
  listens_alike (j ∷ rows) f =
      let w = s.window j (f j (Memᴰ.head refl)) in
      rw (w.0, w.1, listens_alike rows (λ k m. f k (Memᴰ.tail m))) refl

  parts_same : (label : ℕ) → 1 ≤ label
      → listens t.starts t.ends (rows_of t.starts labels label) ≡ listens u.starts u.ends (rows_of u.starts labels' label)
  parts_same label h =
      listens_alike (rows_of t.starts labels label)
      (λ j m z. omega (arith, h, z, (rows_member t.starts labels label j (length labels) m).1))
      ∙ ap (listens u.starts u.ends) (rows_same label h)

  pub same_tapes : tape_of t labels ≡ tape_of u labels'
  unfolding tape_of plan_tape
  same_tapes = rw (s.kind, s.ticks, parts_same 1 (omega arith), parts_same 2 (omega arith)) refl

-- ---- accepted calls

plan_known : (t : Table) (labels : List ℕ) → Plan t labels → (i : ℕ) → at labels i ≤ 2
plan_known t labels P i = go (dec_lt i (length labels))
  where
    go : Dec (i < length labels) → at labels i ≤ 2
    go (yes h) = (P.allowed i (omega (arith, P.each))).known
    go (no h) = omega (arith, get_or-eq_default labels 0 {n = i} (omega arith))

module _ (t : Table) (labels before : List ℕ) where
  -- an accepted call passed every check, and the bytes of the buffer that it counts are the tape
  pub accepted_tape : (written t labels before).answer.refusal ≡ Accepted
      → Fit t labels (length before) × (take (written t labels before).answer.count (written t labels before).buffer ≡ tape_of t labels)
  unfolding written
  accepted_tape = go (eqb (number_of (write_refusal t labels (length before))) 0) refl
    where
      tape : List ℕ
      tape = tape_of t labels

      yields : Bool → Written
      yields b =
          cond b (writing (answered Accepted (length (tape_of t labels))) (front (tape_of t labels) before))
          (writing (answered (write_refusal t labels (length before)) 0) before)

      go : (b : Bool) → eqb (number_of (write_refusal t labels (length before))) 0 ≡ b → (yields b).answer.refusal ≡ Accepted
          → Fit t labels (length before) × (take (yields b).answer.count (yields b).buffer ≡ tape_of t labels)
      go true e a = (write_fit t labels (length before) (eqb-true (number_of (write_refusal t labels (length before))) 0 e), take-append_seam (tape_of t labels) (drop (length (tape_of t labels)) before))
      go false e a = absurd (eqb-false (number_of (write_refusal t labels (length before))) 0 e (ap number_of a))

-- TWO ACCEPTED CALLS write the same tape exactly if they have the same plan.
pub calls_same : (t u : Table) (labels before labels' before' : List ℕ)
    → (written t labels before).answer.refusal ≡ Accepted → (written u labels' before').answer.refusal ≡ Accepted
    → (tape_in (written t labels before) ≡ tape_in (written u labels' before')) ↔ SamePlan t labels u labels'
calls_same t u labels before labels' before' a b =
    let f = accepted_tape t labels before a in
    let g = accepted_tape u labels' before' b in (
      λ e.
          tapes_same t u labels labels' (plan_known t labels f.0.plan) (plan_known u labels' g.0.plan)
          (sym f.1 ∙ e ∙ g.1),
      λ s. f.1 ∙ same_tapes t u labels labels' s ∙ sym g.1,
    )
