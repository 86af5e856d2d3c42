-- `solve_lent` meets its contract: the most of the rows in order is that of the arcs, and narrowing, where it is asked
-- for, finds the best assignment.
use mathlib.Core.Path.{◌∙◌}
use native.Mathlib.Omega.{arith}
use lib.Dec.{lit≤}
use Rattle.line.specs.Cells.{found_from, next_from, core_bytes}
use Rattle.pairs.proofs.Trials.{same_later, next_rows_again}
use Rattle.tracks.proofs.Arranged.{arranged_ready}
use Rattle.tracks.proofs.Answer.{narrow_ready, solved_kept, solved_narrowed}
use Rattle.tracks.proofs.solve_lent.Goals as goal

pub best-best-requires : goal.best-best-requires
best-best-requires c =
    let P = c.prepare-m.ensures in
    arranged_ready c.requires.lent.arcs P.arranged c.args.perms.now c.args.left.now c.requires.lent.each_perm c.requires.order_len.1 P.next_rows

pub narrow-requires : goal.narrow-requires
narrow-requires c =
    let p = c.prepare-m in
    let P = p.ensures in
    let b = c.best-best in
    narrow_ready c.requires.lent.arcs P.arranged c.args.perms.now c.requires.lent.each_perm b.ensures.most b.new.left (omega arith) (omega arith)
    (next_rows_again P.next_rows b.auto.space (same_later found_from next_from p.new.space b.new.space (lit≤ tt) b.ensures.space_unchanged))

pub returns-then-best-gt0 : goal.returns-then-best-gt0
returns-then-best-gt0 c =
    let p = c.prepare-m in
    let b = c.best-best in
    let w = c.narrow in
    record {
      solved = rw c.if-narrowing.true (solved_narrowed c.requires.lent.arcs p.ensures.arranged c.args.perms.now c.requires.lent.each_perm b.ensures.most w.ensures.answered);
      space_unchanged =
          same_later next_from core_bytes b.new.space w.new.space (lit≤ tt) w.ensures.space_unchanged
          ∙ same_later found_from core_bytes p.new.space b.new.space (lit≤ tt) b.ensures.space_unchanged
          ∙ p.ensures.frame;
    }

pub returns-else-narrowing : goal.returns-else-narrowing
returns-else-narrowing c =
    let p = c.prepare-m in
    let b = c.best-best in
    record {
      solved = solved_kept c.requires.lent.arcs p.ensures.arranged c.args.perms.now c.requires.lent.each_perm b.ensures.most c.else-narrowing.either;
      space_unchanged = same_later found_from core_bytes p.new.space b.new.space (lit≤ tt) b.ensures.space_unchanged ∙ p.ensures.frame;
    }
