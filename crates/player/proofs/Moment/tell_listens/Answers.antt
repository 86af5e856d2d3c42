-- `player::Moment::tell_listens` meets its contract: one LISTEN more, and none that stands first.
use Rattle.std.proofs.Common.{rules, sym, ap, cond, ◌∙◌, ◌-◌, length}
use Rattle.plan_tape.specs.Stated.{listens_in, after_listens}
use Rattle.plan_reader.proofs.Items.{rest_stands}
use Rattle.plan_reader.proofs.Listens.{listen_taken, no_listen}
use Rattle.player.specs.declared.Receiver.TheVariants.{Idle, Listening}
use Rattle.player.specs.Told.{telling}
use Rattle.player.proofs.Walking.{one_taken, one_fewer}
use Rattle.player.proofs.Moment.tell_listens.Goals as goal

pub loop-listen-smaller : goal.loop-listen-smaller
loop-listen-smaller c = one_fewer c.loop-listen.rest.now {next = c.in-Some.after.now} (search rules) (search rules)

pub loop-listen-smaller-then-lies_in : goal.loop-listen-smaller-then-lies_in
loop-listen-smaller-then-lies_in c = one_fewer c.loop-listen.rest.now {next = c.in-Some.after.now} (search rules) (search rules)

pub loop-listen-preserved : goal.loop-listen-preserved
unfolding telling
loop-listen-preserved c =
    let l = c.loop-listen in
    let a = c.args.self in
    let w = c.in-Some.listen in
    let next = c.in-Some.after.now in
    let taken = listen_taken l.rest.now {w = w} {rest = next} (search rules) (search rules) (search rules) in (
      l.invariant.0
          ∙ ap (telling a.head.kind a.head.ticks a.tick l.receiver) taken.0
          ∙ ap (λ b. telling a.head.kind a.head.ticks a.tick (cond b (Listening w.row w.window.end) l.receiver) (listens_in next)) (sym c.lies_in.ensures ∙ c.if-lies_in.false),
      l.invariant.1 ∙ taken.1,
      one_taken c.left-left.result.now {rest = l.rest.now} {next = next} l.invariant.2 (search rules) (search rules),
    )

pub loop-listen-preserved-then-lies_in : goal.loop-listen-preserved-then-lies_in
unfolding telling
loop-listen-preserved-then-lies_in c =
    let l = c.loop-listen in
    let a = c.args.self in
    let w = c.in-Some.listen in
    let next = c.in-Some.after.now in
    let taken = listen_taken l.rest.now {w = w} {rest = next} (search rules) (search rules) (search rules) in (
      l.invariant.0
          ∙ ap (telling a.head.kind a.head.ticks a.tick l.receiver) taken.0
          ∙ ap (λ b. telling a.head.kind a.head.ticks a.tick (cond b (Listening w.row w.window.end) l.receiver) (listens_in next)) (sym c.lies_in.ensures ∙ c.if-lies_in.true),
      l.invariant.1 ∙ taken.1,
      one_taken c.left-left.result.now {rest = l.rest.now} {next = next} l.invariant.2 (search rules) (search rules),
    )

pub returns-clause-told : goal.returns-clause-told
unfolding telling
returns-clause-told c =
    let l = c.loop-listen in
    let a = c.args.self in
    let none = no_listen l.rest.now (search rules) in
    ap (telling a.head.kind a.head.ticks a.tick l.receiver) (sym none.0) ∙ sym l.invariant.0 ∙ ap (λ s. telling a.head.kind a.head.ticks a.tick Idle (listens_in s)) c.left-left.ensures

pub returns-clause-rest : goal.returns-clause-rest
returns-clause-rest c =
    let l = c.loop-listen in
    let r = c.args.reader.now in
    let bytes = c.left-left.result.now in
    let none = no_listen l.rest.now (search rules) in
    rest_stands bytes {rest = l.rest.now} (length bytes - length l.rest.now) l.invariant.2.1 r.tape.now r.at c.left-left.ensures
    ∙ sym none.1
    ∙ sym l.invariant.1
    ∙ ap after_listens c.left-left.ensures
