-- What a call gives is what `add_call` and `withdraw_call` say: a refusal of the first checks changes nothing, else
-- the changed rows are planned.
use Prim.Native.Nat.{ℕ}
use mathlib.Core.Path.{◌≡◌, refl, ap, ◌∙◌}
use mathlib.Core.Logic.{◌↔◌}
use mathlib.Core.Bool.{◌&&◌}
use mathlib.Core.List.{List}
use native.Mathlib.Omega.{arith}
use borrow.Author.Tests.{eq-eqb, ne_eqb, ltb-true, leb-true}
use lib.Dec.{leb, ltb, eqb}
use lib.ListN.{length}
use Rattle.basics.specs.Limits.{max_rows, has_places}
use Rattle.std.proofs.lemmas.Bool.Decides.{Decides-eqb}
use Rattle.basics.proofs.Tests.{and_iff}
use Rattle.basics.proofs.Places.{places_iff}
use Rattle.window.specs.declared.Row.{Row}
use Rattle.std.specs.Prelude.{Result, Ok, Err, IsErrAnd}
use Rattle.refusals.specs.declared.Refusal.{Refusal}
use Rattle.refusals.specs.Refusals.{number_of, answered, answer_of, asked, ◌then◌, Lists, Rows, Space, NoRow, Outcome}
use Rattle.refusals.proofs.Refusals.{Passed, err_refuses, asked_passed, asked_passes, then_passed, then_either}
use Rattle.table.specs.Tables.{Table}
use Rattle.table.specs.Changes.{with_row, without_row}
use Rattle.table.specs.Planned.{space_bytes, space_refusal}
use Rattle.table.proofs.Calls.{space_kept}
use Rattle.table.proofs.Checked.{Not8, asked_8}
use Rattle.held_table.specs.Held.{HeldTable, held_table, change, changed, places_refusal, add_checked, withdraw_checked, add_first, withdraw_first, added, withdrawn, HeldCall, gave, called, add_call, withdraw_call}
use Rattle.held_table.specs.Came.{HasPlaces}
use Rattle.held_table.specs.Lent.{RoomFor, RowHeld, plan_rows}

module _ (h : HeldTable) (t : Table) (space : List ℕ) (r : Outcome) where
  call_planned : Passed r → plan_rows h t space ≡ called (changed r h t (length space)) space
  unfolding changed
  call_planned p = rw (eq-eqb (number_of r) 0 p) refl

  changed_refused : (number_of r ≡ 0 → ⊥) → (n : ℕ) → change (answered r 0) h ≡ changed r h t n
  unfolding changed
  changed_refused f n = rw (ne_eqb (number_of r) 0 f) refl

  call_refused : (number_of r ≡ 0 → ⊥) → Not8 r → gave (answered r 0) h space ≡ called (changed r h t (length space)) space
  call_refused f e = ap (gave (answered r 0) h) (space_kept r space f e) ∙ ap (λ c. called c space) (changed_refused f (length space))

-- ---- no check before the planner's gives 8

places_8 : (starts ends marks labels : ℕ) → Not8 (places_refusal starts ends marks labels)
unfolding places_refusal
places_8 starts ends marks labels = asked_8 (has_places starts ends marks && eqb labels max_rows) {r = Lists} (record { not = λ e. omega arith })

add_8 : (starts ends marks labels rows : ℕ) → Not8 (add_checked starts ends marks labels rows)
unfolding add_checked
add_8 starts ends marks labels rows = then_either Not8 (places_8 starts ends marks labels) (asked_8 (ltb rows max_rows) {r = Rows} (record { not = λ e. omega arith }))

withdraw_8 : (starts ends marks labels space rows k : ℕ) → Not8 (withdraw_checked starts ends marks labels space rows k)
unfolding withdraw_checked space_refusal
withdraw_8 starts ends marks labels space rows k =
    then_either Not8 (places_8 starts ends marks labels)
    (then_either Not8 (asked_8 (leb space_bytes space) {r = Space} (record { not = λ e. omega arith }))
    (then_either Not8 (asked_8 (ltb k rows) {r = NoRow} (record { not = λ e. omega arith }))
    (asked_8 (leb rows max_rows) {r = Rows} (record { not = λ e. omega arith }))))

-- ---- what the checks leave known

-- check 1 passes exactly if its lists have 64 places each
abbrev pub places_first : HeldTable → Outcome
places_first h = places_refusal (length h.starts) (length h.ends) (length h.marks) (length h.labels)

pub has_places_iff : (h : HeldTable) → Passed (places_first h) ↔ HasPlaces h
unfolding places_refusal
has_places_iff h =
    let a = length h.starts in
    let b = length h.ends in
    let c = length h.marks in
    let d = length h.labels in
    let x = has_places a b c && eqb d max_rows in
    let test = and_iff (places_iff h.starts h.ends h.marks) (Decides-eqb d max_rows) in (
      λ p. let f = test.0 (asked_passed x Lists (omega arith) p) in record { rows_64 = f.0; labels_64 = f.1 },
      λ p. asked_passes x Lists (test.1 (p.rows_64, p.labels_64)),
    )

pub room_for : (h : HeldTable) → Passed (add_first h) → RoomFor h
unfolding add_checked
room_for h p =
    let room = ltb h.numbers.rows max_rows in
    let f = then_passed (places_first h) (asked room Rows) p in
    record { places = (has_places_iff h).0 f.0; below = ltb-true h.numbers.rows max_rows (asked_passed room Rows (omega arith) f.1) }

pub row_held : (h : HeldTable) (space k : ℕ) → Passed (withdraw_first h k space) → RowHeld h k
unfolding withdraw_checked
row_held h space k p =
    let known = ltb k h.numbers.rows in
    let most = leb h.numbers.rows max_rows in
    let f = then_passed (places_first h) (space_refusal space then asked known NoRow then asked most Rows) p in
    let g = then_passed (asked known NoRow) (asked most Rows) (then_passed (space_refusal space) (asked known NoRow then asked most Rows) f.1).1 in
    record {
      places = (has_places_iff h).0 f.0;
      below = ltb-true k h.numbers.rows (asked_passed known NoRow (omega arith) g.0);
      most = leb-true h.numbers.rows max_rows (asked_passed most Rows (omega arith) g.1);
    }

-- ---- the calls; a refusal of the first checks is handed on

module _ (h : HeldTable) (space : List ℕ) where
  pub add_refused : (row : Row) {e : Refusal} → Err e ≡ add_first h → (r : Result ℕ Refusal) → IsErrAnd r (λ y. y ≡ e) → gave (answer_of r) h space ≡ add_call h row space
  unfolding add_call added
  add_refused row q (Ok n) i = absurd i
  add_refused row {e = e} q (Err y) i =
      ap (λ x. gave (answered x 0) h space) (ap Err i ∙ q)
      ∙ call_refused h (with_row (held_table h) row) space (add_first h) (λ z. err_refuses (Err e) refl (ap number_of q ∙ z)) (add_8 (length h.starts) (length h.ends) (length h.marks) (length h.labels) h.numbers.rows)

  pub add_planned : (row : Row) {c : HeldCall} → Passed (add_first h) → c ≡ plan_rows h (with_row (held_table h) row) space → c ≡ add_call h row space
  unfolding add_call added
  add_planned row p e = e ∙ call_planned h (with_row (held_table h) row) space (add_first h) p

  pub withdraw_refused : (k : ℕ) {e : Refusal} → Err e ≡ withdraw_first h k (length space) → (r : Result ℕ Refusal) → IsErrAnd r (λ y. y ≡ e) → gave (answer_of r) h space ≡ withdraw_call h k space
  unfolding withdraw_call withdrawn
  withdraw_refused k q (Ok n) i = absurd i
  withdraw_refused k {e = e} q (Err y) i =
      ap (λ x. gave (answered x 0) h space) (ap Err i ∙ q)
      ∙ call_refused h (without_row (held_table h) k) space (withdraw_first h k (length space)) (λ z. err_refuses (Err e) refl (ap number_of q ∙ z)) (withdraw_8 (length h.starts) (length h.ends) (length h.marks) (length h.labels) (length space) h.numbers.rows k)

  pub withdraw_planned : (k : ℕ) {c : HeldCall} → Passed (withdraw_first h k (length space)) → c ≡ plan_rows h (without_row (held_table h) k) space → c ≡ withdraw_call h k space
  unfolding withdraw_call withdrawn
  withdraw_planned k p e = e ∙ call_planned h (without_row (held_table h) k) space (withdraw_first h k (length space)) p
