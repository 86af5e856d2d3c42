-- `reply::reply` meets its contract: each way through the tests of the lengths is a way to compute `replied`.
use Rattle.refusals.specs.Refusals.{Form}
use mathlib.Core.Path.{refl, ◌∙◌}
use native.Mathlib.Omega.{arith}
use Rattle.refusals.proofs.Refusals.{number_within}
use Rattle.reply.specs.Replied.{places}
use Rattle.reply.proofs.Replying.{fresh, rows_few, reader_refused, reader_accepted, refusal_replied, out_short, tape_long, tape_read, replied_within}
use Rattle.reply.proofs.reply.Goals as goal

pub returns-then-out-lt-OUT_BYTES : goal.returns-then-out-lt-OUT_BYTES
returns-then-out-lt-OUT_BYTES c =
    let g = c.args in
    let e = out_short g.tape.now g.out.now g.space.now c.if-out-lt-OUT_BYTES.true in
    record {
      replied = e;
      within = replied_within g.tape.now g.out.now g.space.now e;
    }

pub returns-then-tape-gt-TAPE_BYTES : goal.returns-then-tape-gt-TAPE_BYTES
returns-then-tape-gt-TAPE_BYTES c =
    let g = c.args in
    let e = refusal_replied Form g.space.now (λ z. omega arith) (λ z. omega arith) c.if-out-lt-OUT_BYTES.false c.put_refused.ensures
    ∙ tape_long g.tape.now g.out.now g.space.now c.if-out-lt-OUT_BYTES.false c.if-tape-gt-TAPE_BYTES.true in
    record {
      replied = e;
      within = replied_within g.tape.now g.out.now g.space.now e;
    }

pub prove-unreachable-requires : goal.prove-unreachable-requires
unfolding places
prove-unreachable-requires c =
    let lists = fresh c.if-out-lt-OUT_BYTES.false in
    omega (arith, c.if-prove.true, rows_few c.args.tape.now lists c.in-Ok.ensures.read)

pub returns-in-Err : goal.returns-in-Err
unfolding places
returns-in-Err c =
    let g = c.args in
    let lists = fresh c.if-out-lt-OUT_BYTES.false in
    let e = reader_refused g.tape.now lists c.in-Err.ensures.read g.space.now (λ z. absurd (omega (arith, z, (number_within c.in-Err.refusal).0))) c.put_refused-in-Err.ensures
    ∙ tape_read g.tape.now g.out.now g.space.now c.if-out-lt-OUT_BYTES.false c.if-tape-gt-TAPE_BYTES.false in
    record {
      replied = e;
      within = replied_within g.tape.now g.out.now g.space.now e;
    }

pub returns : goal.returns
unfolding places
returns c =
    let g = c.args in
    let lists = fresh c.if-out-lt-OUT_BYTES.false in
    let e = c.reply_table.ensures
    ∙ reader_accepted g.tape.now lists c.in-Ok.ensures.read g.space.now refl
    ∙ tape_read g.tape.now g.out.now g.space.now c.if-out-lt-OUT_BYTES.false c.if-tape-gt-TAPE_BYTES.false in
    record {
      replied = e;
      within = replied_within g.tape.now g.out.now g.space.now e;
    }
