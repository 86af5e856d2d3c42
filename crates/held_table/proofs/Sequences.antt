-- Any sequence of calls: the held plan after each of them; that the promise of a change leaves one answer, table and
-- plan; and that what the lists held before a begin is gone.
use Prim.Native.Nat.{ℕ}
use mathlib.Core.Path.{◌≡◌, refl, sym, ap, subst, ◌∙◌}
use mathlib.Core.List.{List, [], ◌∷◌}
use native.Mathlib.Decide.{ℕ_discrete}
use native.Mathlib.Omega.{arith}
use lib.ListN.{length, take, length-take}
use lib.Seq.{length-take-le}
use Rattle.window.specs.declared.Row.{Row}
use Rattle.refusals.specs.Refusals.{number_of, answered, Accepted, Outcome}
use Rattle.table.specs.Tables.{Table, rows}
use Rattle.table.specs.Planned.{space_bytes, Planned, answering, planned}
use Rattle.table.specs.Changes.{with_row, without_row}
use Rattle.held_table.specs.Held.{HeldTable, held_table, held_plan, Change, added, withdrawn}
use Rattle.held_table.specs.Came.{Came, from_add, from_withdraw, PlanHeld, add_refusal, withdraw_refusal, ChangesHeldTable}
use Rattle.held_table.proofs.Laws.{came_plan, adds_row, withdraws_row}

-- ---- any sequence of calls

pub data Call : Type 0 where
  add : (new : Row) (space : ℕ) → Call
  withdraw : (k space : ℕ) → Call

abbrev pub done : HeldTable → Call → Change
done h (add new space) = added h new space
done h (withdraw k space) = withdrawn h k space

-- what is held after these calls
unfoldable pub after : HeldTable → List Call → HeldTable
after h [] = h
after h (c ∷ calls) = after (done h c).held calls

came_done : {h : HeldTable} → Came h → (c : Call) → Came (done h c).held
came_done p (add new space) = from_add p new space
came_done p (withdraw k space) = from_withdraw p k space

came_after : {h : HeldTable} → Came h → (calls : List Call) → Came (after h calls)
unfolding after
came_after p [] = p
came_after {h = h} p (c ∷ calls) = came_after {h = (done h c).held} (came_done p c) calls

-- the held plan is the one that planning the whole table gives, after every prefix of every sequence of calls
pub every_prefix : {h : HeldTable} → Came h → (calls : List Call) (n : ℕ) → PlanHeld (after h (take n calls))
every_prefix p calls n = came_plan (came_after p (take n calls))

-- ---- what the lists held before a begin is gone: what calls give depends on the table that is held alone

same_plan : {h h' : HeldTable} → PlanHeld h → PlanHeld h' → held_table h ≡ held_table h' → answering (answered Accepted h.numbers.count) (held_plan h) ≡ answering (answered Accepted h'.numbers.count) (held_plan h')
same_plan {h} {h'} p q e =
    let before = held_plan h in
    let l : length before ≡ rows (held_table h) = length-take-le h.numbers.rows h.labels (omega (arith, p.places.labels_64, p.each_row, length-take h.numbers.rows h.starts, p.places.rows_64.starts_64)) ∙ sym p.each_row in
    sym (p.plan before space_bytes l (omega arith)) ∙ ap (λ t. planned t before space_bytes) e ∙ q.plan before space_bytes (l ∙ ap rows e) (omega arith)

same_change : {h h' : HeldTable} {r : Outcome} {t : Table} {c c' : Change} → ChangesHeldTable h r t c → ChangesHeldTable h' r t c' → held_table h ≡ held_table h'
    → (c.answer ≡ c'.answer) × (held_table c.held ≡ held_table c'.held)
same_change {r = r} {c = c} {c' = c'} a b e = go (ℕ_discrete (number_of r) 0)
  where
    go : Dec (number_of r ≡ 0) → (c.answer ≡ c'.answer) × (held_table c.held ≡ held_table c'.held)
    go (yes z) =
        let same = a.accepted z ∙ sym (b.accepted z) in
        let counts = ap (λ (p : Planned). p.answer.count) (same_plan a.plan b.plan same) in
        (λ i. answered ((a.refusal ∙ sym b.refusal) i) ((a.count z ∙ counts ∙ sym (b.count z)) i), same)
    go (no n) = (
      ap (λ (x : Change). x.answer) (a.refused n) ∙ sym (ap (λ (x : Change). x.answer) (b.refused n)),
      ap (λ (x : Change). held_table x.held) (a.refused n) ∙ e ∙ sym (ap (λ (x : Change). held_table x.held) (b.refused n)),
    )

-- WHATEVER KEEPS THE PROMISE of a change gives the same answer, the same table and the same plan.
pub one_change : {h : HeldTable} {r : Outcome} {t : Table} {c c' : Change} → ChangesHeldTable h r t c → ChangesHeldTable h r t c'
    → (c.answer ≡ c'.answer) × (held_table c.held ≡ held_table c'.held) × (held_plan c.held ≡ held_plan c'.held)
one_change a b = let s = same_change a b refl in (s.0, s.1, ap (λ (p : Planned). p.labels) (same_plan a.plan b.plan s.1))

same_done : {h h' : HeldTable} → Came h → Came h' → held_table h ≡ held_table h' → (c : Call)
    → ((done h c).answer ≡ (done h' c).answer) × (held_table (done h c).held ≡ held_table (done h' c).held)
same_done {h' = h'} p q e (add new space) =
    same_change (adds_row p new space)
    (subst (λ (t : Table). ChangesHeldTable h' (add_refusal t new space) (with_row t new) (added h' new space)) (sym e) (adds_row q new space)) e
same_done {h' = h'} p q e (withdraw k space) =
    same_change (withdraws_row p k space)
    (subst (λ (t : Table). ChangesHeldTable h' (withdraw_refusal t k space) (without_row t k) (withdrawn h' k space)) (sym e) (withdraws_row q k space)) e

-- the same calls on two held tables of the same rows give the same answers, the same rows and the same plan, whatever
-- else their lists hold
pub same_calls : {h h' : HeldTable} → Came h → Came h' → held_table h ≡ held_table h' → (calls : List Call) (c : Call)
    → ((done (after h calls) c).answer ≡ (done (after h' calls) c).answer)
    × (held_table (after h calls) ≡ held_table (after h' calls))
    × (held_plan (after h calls) ≡ held_plan (after h' calls))
unfolding after
same_calls p q e [] c =
    ((same_done p q e c).0, e, ap (λ (x : Planned). x.labels) (same_plan (came_plan p) (came_plan q) e))
same_calls {h = h} {h' = h'} p q e (d ∷ calls) c = same_calls {h = (done h d).held} {h' = (done h' d).held} (came_done p d) (came_done q d) (same_done p q e d).1 calls c
