-- `line_best`: the cells where both receivers are free from row j or a later one on are made.
use mathlib.Core.Path.{◌≡◌, sym, ◌∙◌}
use Prim.Native.Nat.{◌+◌, ◌*◌, ◌-◌}
use native.Mathlib.Omega.{arith}
use lib.ListN.{length}
use lib.Seq.{drop-set-lt}
use Rattle.line.specs.Cells.{line_bytes, next_from, across}
use Rattle.line.proofs.Turns.{rest_at, turn_rest}
use Rattle.line.proofs.Stages.{numbered_same, filled_first, stage_more, filled_last, filled_value, ready, must_within, must_none, must_same, must_here}
use Rattle.line.proofs.line_best.Goals as goal

pub loop-j-init : goal.loop-j-init
loop-j-init c =
    let highs = c.set_highs.ensures in
    let t = c.set_highs.new.space in
    let n = numbered_same (omega arith) (λ j. rest_at c.args.space.now t line_bytes (next_from + j) highs.rest (omega arith)) c.requires in
    record {
      must = must_none c.args.perms.now;
      filled = filled_first n highs.highs;
      rest = drop-set-lt line_bytes t (length c.args.perms.now * across + length c.args.perms.now) 1 (omega arith) ∙ highs.rest;
    }

pub fill_turn-requires : goal.fill_turn-requires
fill_turn-requires c =
    let i = c.loop-j.invariant in
    record { ready = ready (c.loop-j.j - 1) i.filled (omega arith); must_within = (omega (arith, i.must.from), must_within i.filled i.must) }

pub loop-j-preserved-then-not-may_have : goal.loop-j-preserved-then-not-may_have
loop-j-preserved-then-not-may_have c =
    let i = c.loop-j.invariant in
    record {
      must = must_here (c.loop-j.j - 1) i.must (omega arith) (omega arith) (sym c.may_have.ensures ∙ c.if-not-may_have.true);
      filled = stage_more (c.loop-j.j - 1) (omega arith) i.filled (omega arith) i.must c.fill_turn.ensures (omega arith);
      rest = turn_rest c.fill_turn.ensures ∙ i.rest;
    }

pub loop-j-preserved : goal.loop-j-preserved
loop-j-preserved c =
    let i = c.loop-j.invariant in
    record {
      must = must_same (c.loop-j.j - 1) i.must (omega arith) (sym c.may_have.ensures ∙ c.if-not-may_have.false);
      filled = stage_more (c.loop-j.j - 1) (omega arith) i.filled (omega arith) i.must c.fill_turn.ensures (omega arith);
      rest = turn_rest c.fill_turn.ensures ∙ i.rest;
    }

pub returns-clause-value : goal.returns-clause-value
returns-clause-value c = let l = c.loop-j in let e : l.j ≡ 0 = omega arith in filled_value (rw e at l.invariant.filled)

pub returns-clause-filled : goal.returns-clause-filled
returns-clause-filled c = let l = c.loop-j in let e : l.j ≡ 0 = omega arith in filled_last (rw e at l.invariant.filled)
