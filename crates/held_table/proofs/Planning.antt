-- What is kept after the changed rows were planned is what `plan_rows` says: the new table with its plan, or after a
-- refusal what was held before.
use Prim.Native.Nat.{ℕ, ◌≤◌}
use mathlib.Core.Path.{◌≡◌, sym, ap, ◌∙◌}
use mathlib.Core.List.{List, ◌++◌}
use native.Mathlib.Omega.{arith}
use borrow.Author.Tests.{eq-eqb, ne_eqb}
use lib.ListN.{length, take, drop, take-append-drop}
use lib.Seq.{length-take-le, take_at}
use Rattle.basics.specs.Limits.{max_rows}
use Rattle.basics.specs.Lists.{front}
use Rattle.window.specs.declared.Kind.TheVariants.{Round}
use Rattle.window.specs.Hours.{no_hours}
use Rattle.refusals.specs.Refusals.{number_of, Answer}
use Rattle.refusals.proofs.Refusals.{Passed}
use Rattle.table.specs.declared.Setting.{Setting}
use Rattle.table.specs.Tables.{Table, table, rows, setting_of}
use Rattle.table.specs.Planned.{Planned, answering, planned, space_after, called, plan_call}
use Rattle.table.proofs.Calls.{call_answer, call_space, refused_kept}
use Rattle.held_table.specs.Held.{HeldTable, kept, numbers_of, gave, taken}
use Rattle.held_table.specs.Lent.{plan_rows}

-- the setting of the round that is held
abbrev pub round : HeldTable → Setting
round h = setting_of Round h.numbers.ticks h.numbers.gap no_hours

-- the new rows stand at the front of the lists
pub record NewRows (h : HeldTable) (t : Table) (n : ℕ) (starts ends marks : List ℕ) : Type 0 where
  pub setting_is : t.setting ≡ round h
  pub each_start : length t.starts ≡ n
  pub each_end : length t.ends ≡ n
  pub each_mark : length t.marks ≡ n
  pub starts_are : starts ≡ front t.starts h.starts
  pub ends_are : ends ≡ front t.ends h.ends
  pub marks_are : marks ≡ front t.marks h.marks

module _ (h : HeldTable) (t : Table) (space : List ℕ) (n : ℕ) (most : n ≤ max_rows) {starts ends marks : List ℕ} (new : NewRows h t n starts ends marks)
    {a : Answer} (labels : List ℕ) {space' : List ℕ}
    (e : called a (take n labels) space' ≡ plan_call (table (round h) (take n starts) (take n ends) (take n marks)) (take n h.labels) space)
    (rest : drop n labels ≡ drop n h.labels) where
  first : (l m x : List ℕ) → length x ≡ n → m ≡ front x l → take n m ≡ x
  first l m x k q = ap (take n) q ∙ take_at x (drop (length x) l) n k

  call : called a (take n labels) space' ≡ plan_call t (take n h.labels) space
  call =
      e ∙ (λ i. plan_call (table (sym new.setting_is i) (first h.starts starts t.starts new.each_start new.starts_are i) (first h.ends ends t.ends new.each_end new.ends_are i) (first h.marks marks t.marks new.each_mark new.marks_are i)) (take n h.labels) space)

  answer : answering a (take n labels) ≡ planned t (take (rows t) h.labels) (length space)
  answer = rw new.each_start (call_answer t (take n h.labels) space call)

  space_is : space' ≡ space_after a.refusal space
  space_is = call_space t (take n h.labels) space call ∙ sym (ap (λ (p : Planned). space_after p.answer.refusal space) (call_answer t (take n h.labels) space call))

  -- a plan was given: the new rows are held
  pub rows_taken : Passed a.refusal → length labels ≡ max_rows
      → gave a (kept (numbers_of h.numbers.ticks h.numbers.gap n a.count) starts ends marks labels) space' ≡ plan_rows h t space
  unfolding taken
  rows_taken p l =
      let front-is : labels ≡ front (take n labels) h.labels =
      sym (take-append-drop n labels) ∙ ap (λ x. take n labels ++ x) rest ∙ ap (λ x. take n labels ++ drop x h.labels) (sym (length-take-le n labels (omega arith))) in
      rw (← answer, eq-eqb (number_of a.refusal) 0 p)
      (λ i. gave a (kept (numbers_of h.numbers.ticks h.numbers.gap (sym new.each_start i) a.count) (new.starts_are i) (new.ends_are i) (new.marks_are i) (front-is i)) (space_is i))

  -- it was refused: what was held is held
  pub rows_kept : (number_of a.refusal ≡ 0 → ⊥) → {starts' ends' marks' : List ℕ} → starts' ≡ h.starts → ends' ≡ h.ends → marks' ≡ h.marks
      → gave a (kept h.numbers starts' ends' marks' labels) space' ≡ plan_rows h t space
  unfolding taken
  rows_kept r s f m =
      let said = call_answer t (take n h.labels) space call in
      let same : take n labels ≡ take n h.labels =
      ap (λ (p : Planned). p.labels) said ∙ refused_kept t (take n h.labels) (length space) (λ z. r (ap (λ (p : Planned). number_of p.answer.refusal) said ∙ z)) in
      let all : labels ≡ h.labels = sym (take-append-drop n labels) ∙ ap (λ x. x ++ drop n labels) same ∙ ap (λ x. take n h.labels ++ x) rest ∙ take-append-drop n h.labels in
      rw (← answer, ne_eqb (number_of a.refusal) 0 r)
      (λ i. gave a (kept h.numbers (s i) (f i) (m i) (all i)) (space_is i))
