-- What every held table that came from the calls has, and that each change keeps it: the table has passed its checks,
-- and its best plan is held.
use Prim.Native.Nat.{ℕ, ◌≤◌}
use mathlib.Core.Path.{◌≡◌, refl, sym, ap, ◌∙◌}
use mathlib.Core.Bool.{Bool, true, false, cond}
use mathlib.Core.List.{List}
use mathlib.Core.Option.{some}
use native.Mathlib.Omega.{arith}
use borrow.Author.Tests.{eqb-true, eqb-false}
use lib.Dec.{leb}
use lib.ListN.{length, take, drop, length-append, length-drop}
use lib.Seq.{length-take-le, take_at}
use Rattle.basics.specs.Limits.{max_rows}
use Rattle.basics.specs.Lists.{front}
use Rattle.labels.specs.Labels.{heard}
use Rattle.refusals.specs.Refusals.{number_of, answered, passes, ◌then◌, Accepted, Space, Answer, Outcome}
use Rattle.refusals.proofs.Refusals.{Passed, asked_passes, then_passes}
use Rattle.basics.proofs.Tests.{leb_iff}
use Rattle.table.specs.Tables.{Table, table, rows, Plan, Valid}
use Rattle.table.specs.Checks.{lists_refusal, hours_refusal, table_looked}
use Rattle.table.specs.Planned.{space_bytes, space_refusal, checked, best_plan, Planned, answering, given, planned}
use Rattle.table.proofs.Passing.{lists_pass, table_passes}
use Rattle.table.proofs.Rivals.{best_plan_iff, planned_passed}
use Rattle.table.proofs.Calls.{Given, accepted_given, refused_count}
use Rattle.held_table.specs.Held.{HeldTable, held_table, held_plan, Change, change, holding, taken, changed}
use Rattle.held_table.specs.Came.{HasPlaces, PlanHeld, ChangesHeldTable}
use Rattle.held_table.proofs.Planning.{round}

pub record Right (h : HeldTable) : Type 0 where
  pub places : HasPlaces h
  pub most : h.numbers.rows ≤ max_rows
  pub valid : Valid (held_table h)
  pub best : best_plan (held_table h) ≡ some (held_plan h)
  pub count : h.numbers.count ≡ heard (held_plan h)

module _ (h : HeldTable) (right : Right h) where
  pub rows_held : rows (held_table h) ≡ h.numbers.rows
  rows_held = length-take-le h.numbers.rows h.starts (omega (arith, right.most, right.places.rows_64.starts_64))

  -- it passes its checks
  pub right_looked : Passed (table_looked (held_table h)).refusal
  unfolding hours_refusal
  right_looked = table_passes (held_table h) right.valid refl

  right_checked : (before : List ℕ) (space : ℕ) → length before ≡ rows (held_table h) → space_bytes ≤ space → Passed (checked (held_table h) before space)
  unfolding checked space_refusal
  right_checked before space l s =
      let t = held_table h in
      then_passes (lists_refusal t before) (space_refusal space then (table_looked t).refusal) (lists_pass t right.valid before l)
      (then_passes (space_refusal space) (table_looked t).refusal (asked_passes (leb space_bytes space) Space ((leb_iff space_bytes space).1 s)) right_looked)

  -- the held labels are a plan of it
  pub plan_held : Plan (held_table h) (held_plan h)
  plan_held = ((best_plan_iff (held_table h) right.valid (held_plan h)).0 right.best).member

  pub right_plan : PlanHeld h
  unfolding given
  right_plan =
      record {
        places = right.places;
        each_row = rows_held;
        plan = λ before space l s.
            planned_passed (held_table h) before space (right_checked before space l s)
            ∙ ap (λ o. given o before) right.best
            ∙ ap (λ n. answering (answered Accepted n) (held_plan h)) (sym right.count);
      }

module _ (h : HeldTable) (right : Right h) (t : Table) (same : t.setting ≡ round h) where
  fits : (x l : List ℕ) → length x ≤ max_rows → length l ≡ max_rows → length (front x l) ≡ max_rows
  fits x l a b = length-append x (drop (length x) l) ∙ omega (arith, length-drop (length x) l)

  -- a table with its best plan, in the places of h
  module _ (p : Planned) (g : Given t p) where
    plan : Plan t p.labels
    plan = ((best_plan_iff t g.valid p.labels).0 g.best).member

    pub holds : held_table (holding h t p.answer.count p.labels) ≡ t
    holds =
        λ i. table (sym same i)
        (take_at t.starts (drop (rows t) h.starts) (rows t) refl i)
        (take_at t.ends (drop (length t.ends) h.ends) (rows t) g.valid.each_end i)
        (take_at t.marks (drop (length t.marks) h.marks) (rows t) g.valid.each_mark i)

    plan_holds : held_plan (holding h t p.answer.count p.labels) ≡ p.labels
    plan_holds = take_at p.labels (drop (length p.labels) h.labels) (rows t) plan.each

    pub holding_right : Right (holding h t p.answer.count p.labels)
    holding_right =
        let v = g.valid in
        let q = right.places in
        record {
          places = record {
            rows_64 = record {
              starts_64 = fits t.starts h.starts v.few q.rows_64.starts_64;
              ends_64 = fits t.ends h.ends (omega (arith, v.few, v.each_end)) q.rows_64.ends_64;
              marks_64 = fits t.marks h.marks (omega (arith, v.few, v.each_mark)) q.rows_64.marks_64;
            };
            labels_64 = fits p.labels h.labels (omega (arith, v.few, plan.each)) q.labels_64;
          };
          most = v.few;
          valid = rw holds v;
          best = rw (holds, plan_holds) g.best;
          count = rw plan_holds (ap (λ (a : Answer). a.count) g.answer);
        }

  -- ---- a change

  -- what is promised of a change that is refused so or makes t, and that what is then held is right
  abbrev pub Kept : Outcome → Change → Type 0
  Kept r c = ChangesHeldTable h r t c × Right c.held

  kept_refused : (r : Outcome) (c : Change) → (number_of r ≡ 0 → ⊥) → c ≡ change (answered r 0) h → Kept r c
  kept_refused r c n e =
      rw e (record { refusal = refl; refused = λ _. refl; accepted = λ p. absurd (n p); count = λ p. absurd (n p); plan = right_plan h right }, right)

  -- what planning gives is taken over
  pub taken_kept : (before : List ℕ) (space : ℕ) → Kept (planned t before space).answer.refusal (taken h t (planned t before space))
  unfolding taken
  taken_kept before space = go (passes p.answer.refusal) refl
    where
      p : Planned
      p = planned t before space

      go : (x : Bool) → passes p.answer.refusal ≡ x
          → Kept p.answer.refusal (cond x (change p.answer (holding h t p.answer.count p.labels)) (change p.answer h))
      go true e =
          let z = eqb-true (number_of p.answer.refusal) 0 e in
          let g = accepted_given t before space z in
          let r = holding_right p g in
          (record { refusal = refl; refused = λ n. absurd (n z); accepted = λ _. holds p g; count = λ _. refl; plan = right_plan (holding h t p.answer.count p.labels) r }, r)
      go false e =
          let n = eqb-false (number_of p.answer.refusal) 0 e in
          kept_refused p.answer.refusal (change p.answer h) n (ap (λ a. change a h) (refused_count t before space n))

  pub changed_kept : (r : Outcome) (space : ℕ) → Kept (r then (planned t (take (rows t) h.labels) space).answer.refusal) (changed r h t space)
  unfolding changed
  changed_kept r space = go (passes r) refl
    where
      p : Planned
      p = planned t (take (rows t) h.labels) space

      go : (x : Bool) → passes r ≡ x → Kept (cond x p.answer.refusal r) (cond x (taken h t p) (change (answered r 0) h))
      go true e = taken_kept (take (rows t) h.labels) space
      go false e = kept_refused r (change (answered r 0) h) (eqb-false (number_of r) 0 e) refl
