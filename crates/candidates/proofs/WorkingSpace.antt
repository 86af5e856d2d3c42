-- The working space that a call for candidates is lent: nothing that is reported or answered depends on it, and it is
-- left as the planner leaves it. The number of bytes is written out, as for the planner.
use Prim.Native.Nat.{ℕ, ◌≤◌}
use mathlib.Core.Path.{◌≡◌, refl, sym, ap, subst, ◌∙◌}
use mathlib.Core.Bool.{Bool, true, false, cond}
use mathlib.Core.List.{List, []}
use borrow.Author.Tests.{le-leb}
use lib.ListN.{length}
use Rattle.refusals.specs.Refusals.{passes}
use Rattle.table.specs.declared.Looked.{Looked}
use Rattle.table.specs.Tables.{Table}
use Rattle.table.specs.Planned.{space_bytes, space_refusal, space_after}
use Rattle.table.proofs.WorkingSpace.{Left, clears}
use Rattle.candidates.specs.Tried.{CandidateLists, numbers_tried, counts_tried, lent_refusal, visit, report, CandidatesCalled, called, answers, candidates_call}

module _ (t : Table) (c : CandidateLists) (numbers counts : List ℕ) where
  reported_anyhow : (space space' : ℕ) → 4608 ≤ space → 4608 ≤ space' → report (visit t c (length numbers) (length counts) space) ≡ report (visit t c (length numbers) (length counts) space')
  unfolding visit lent_refusal space_refusal
  reported_anyhow space space' a b = rw (le-leb space_bytes space a, le-leb space_bytes space' b) refl

  -- what a call that reports r gives: the working space matters to what is left of it alone
  parts : (r : Looked) (space : List ℕ)
      → answers t c r numbers counts space ≡ called r (cond (passes r.refusal) (numbers_tried t c) numbers) (cond (passes r.refusal) (counts_tried t c) counts) (space_after r.refusal space)
  unfolding answers
  parts r space = go (passes r.refusal)
    where
      go : (x : Bool) → cond x (called r (numbers_tried t c) (counts_tried t c) (space_after r.refusal space)) (called r numbers counts (space_after r.refusal space))
          ≡ called r (cond x (numbers_tried t c) numbers) (cond x (counts_tried t c) counts) (space_after r.refusal space)
      go true = refl
      go false = refl

  -- What a call reports, and the answers, do not depend on what lies in the working space, nor on how long it is beyond
  -- 4,608,
  pub any_space : (space space' : List ℕ) → 4608 ≤ length space → 4608 ≤ length space'
      → ((candidates_call t c numbers counts space).reports ≡ (candidates_call t c numbers counts space').reports)
      × ((candidates_call t c numbers counts space).numbers ≡ (candidates_call t c numbers counts space').numbers)
      × ((candidates_call t c numbers counts space).counts ≡ (candidates_call t c numbers counts space').counts)
  unfolding candidates_call
  any_space space space' a b =
      let r = report (visit t c (length numbers) (length counts) (length space)) in
      let e = ap (λ (x : Looked). answers t c x numbers counts space') (reported_anyhow (length space) (length space') a b) in
      let but-space : CandidatesCalled → CandidatesCalled = λ x. called x.reports x.numbers x.counts [] in
      let same = ap but-space (parts r space) ∙ ap but-space (sym (parts r space')) ∙ ap but-space e in
      (ap (λ (x : CandidatesCalled). x.reports) same, ap (λ (x : CandidatesCalled). x.numbers) same, ap (λ (x : CandidatesCalled). x.counts) same)

  -- and a call leaves the working space as the planner does
  pub space_left : (space : List ℕ) → Left (candidates_call t c numbers counts space).reports.refusal space (candidates_call t c numbers counts space).space
  unfolding candidates_call
  space_left space =
      let r = report (visit t c (length numbers) (length counts) (length space)) in
      subst (λ (x : CandidatesCalled). Left x.reports.refusal space x.space) (sym (parts r space)) (clears r.refusal space)
