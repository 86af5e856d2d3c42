-- `find_line_labels`: the rows before row `row` have had their turns.
use mathlib.Core.Path.{refl}
use native.Mathlib.Omega.{arith}
use Prim.Native.Nat.{ℕ}
use lib.ListN.{length-set}
use Rattle.line_labels.proofs.Progress.{progress_none, next_within, highs_within, progress_more, progress_done}
use Rattle.line_labels.proofs.find_line_labels.Goals as goal

pub loop-row-init : goal.loop-row-init
loop-row-init c =
    record { must = c.first_must-must.ensures; progress = λ f. progress_none c.args.perms.now c.args.order.now c.args.space.now f _ refl }

pub invariant_of-turn : goal.invariant_of-turn
invariant_of-turn c =
    let f = c.requires.filled in
    let p = c.loop-row.invariant.progress f in
    record { rows = (omega (arith, f.numbered.few), omega (arith, next_within c.args.perms.now c.args.order.now c.args.space.now f p (omega arith))) }

pub take_turn-reached-requires : goal.take_turn-reached-requires
take_turn-reached-requires c =
    let f = c.requires.filled in
    let p = c.loop-row.invariant.progress f in
    let h = highs_within c.args.perms.now c.args.order.now c.args.space.now f p (omega arith) (omega (arith, f.numbered.long, length-set {A = ℕ})) in
    record { one = omega (arith, h.one); two = omega (arith, h.two); long = h.long }

pub loop-row-preserved : goal.loop-row-preserved
loop-row-preserved c =
    let taken = c.take_turn-reached in
    record {
      must = record { past = omega arith; row = c.must_after-must.ensures.row };
      progress =
          λ f. progress_more c.args.perms.now c.args.order.now c.args.space.now f (omega arith) (c.loop-row.invariant.progress f) refl (omega arith) c.must_after-must.ensures
          (omega arith) (omega arith) taken.ensures.row taken.ensures.column c.passed.ensures refl
          (omega arith) (omega (arith, c.requires.row c.loop-row.row)) (omega (arith, f.numbered.long, length-set {A = ℕ})) c.add_labels.ensures;
    }

pub returns : goal.returns
returns c = progress_done c.args.perms.now c.args.order.now c.args.space.now c.requires.filled (omega arith) (c.loop-row.invariant.progress c.requires.filled)
