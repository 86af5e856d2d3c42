-- The working space of a reply: whatever lies in it and however long it is from 4,608 bytes on, the reply is the same,
-- and only those bytes are cleared. The number is written out here, so that it is pinned.
use Prim.Native.Nat.{ℕ, ◌≤◌}
use mathlib.Core.Path.{◌≡◌, refl, ap}
use mathlib.Core.Bool.{Bool, true, false, cond}
use mathlib.Core.List.{List}
use borrow.Author.Tests.{le-leb}
use lib.Dec.{leb}
use lib.ListN.{length, take}
use Rattle.basics.specs.Lists.{front}
use Rattle.refusals.specs.Refusals.{passes, Form}
use Rattle.table.specs.Planned.{Planned}
use Rattle.table.proofs.Calls.{planned_anyhow}
use Rattle.table.proofs.WorkingSpace.{Left, clears}
use Rattle.fleet_tape.specs.Reading.{Reading, fleet_read}
use Rattle.reply.specs.Lines.{printed}
use Rattle.reply.specs.Replied.{tape_most, out_bytes, places, table_read, refused_with, read_answer, tape_answer, Replied, replying, replied_with, replied}

module _ (space space' : ℕ) (a : 4608 ≤ space) (b : 4608 ≤ space') where
  read_anyhow : (r : Reading) → read_answer r space ≡ read_answer r space'
  unfolding read_answer
  read_anyhow r = ap (λ p. cond (passes r.report.refusal) p (refused_with r.report.refusal)) (planned_anyhow (table_read r) (take r.report.rows places) space space' a b)

  tape_anyhow : (tape : List ℕ) → tape_answer tape space ≡ tape_answer tape space'
  unfolding tape_answer
  tape_anyhow tape = ap (λ p. cond (leb (length tape) tape_most) p (refused_with Form)) (read_anyhow (fleet_read tape places places places))

-- what is written does not depend on what lies in the working space, nor on how long it is beyond 4,608
pub any_space : (tape out space space' : List ℕ) → 4608 ≤ length space → 4608 ≤ length space'
    → ((replied tape out space).written ≡ (replied tape out space').written) × ((replied tape out space).out ≡ (replied tape out space').out)
unfolding replied replied_with
any_space tape out space space' a b = go (leb out_bytes (length out))
  where
    same : tape_answer tape (length space) ≡ tape_answer tape (length space')
    same = tape_anyhow (length space) (length space') a b tape

    gave : Bool → List ℕ → Replied
    gave x s = cond x (replied_with (tape_answer tape (length s)) out s) (replying 0 out s)

    go : (x : Bool) → ((gave x space).written ≡ (gave x space').written) × ((gave x space).out ≡ (gave x space').out)
    go true = (ap (λ (p : Planned). length (printed p)) same, ap (λ (p : Planned). front (printed p) out) same)
    go false = (refl, refl)

-- a reply that is written leaves the working space as the planner does
pub space_left : (tape out space : List ℕ) → out_bytes ≤ length out → Left (tape_answer tape (length space)).answer.refusal space (replied tape out space).space
unfolding replied replied_with
space_left tape out space long = rw (le-leb out_bytes (length out) long) (clears (tape_answer tape (length space)).answer.refusal space)
