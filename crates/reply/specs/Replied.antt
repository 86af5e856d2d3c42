-- Believed: The right answer of a call of `reply`, whole: how many bytes it writes, and what the output and the working
-- space then hold, on every input.
use Rattle.std.specs.Prelude.{ℕ, ◌≤◌, ◌≡◌, cond, List, [], leb, length, take, replicate}
use Rattle.basics.specs.Limits.{max_rows}
use Rattle.basics.specs.Lists.{front}
use Rattle.refusals.specs.Refusals.{answered, passes, Form, Outcome}
use Rattle.table.specs.Tables.{setting_of, Table, table}
use Rattle.table.specs.Planned.{Planned, answering, planned, space_after}
use Rattle.fleet_tape.specs.Reading.{Reading, fleet_read}
use Rattle.reply.specs.Lines.{printed}

-- the longest tape that is read, in bytes
abbrev pub tape_most : ℕ
tape_most = 400

-- the output that a call needs, in bytes
abbrev pub out_bytes : ℕ
out_bytes = 400

-- the lists that the reader fills have 64 places
unfoldable pub places : List ℕ
places = replicate max_rows 0

-- the table that was read: the rows present, and a gap of 0
abbrev pub table_read : Reading → Table
table_read r =
    table (setting_of r.report.kind r.report.ticks 0 r.report.hours)
    (take r.report.rows r.starts)
    (take r.report.rows r.ends)
    (take r.report.rows r.marks)

abbrev pub refused_with : Outcome → Planned
refused_with refusal = answering (answered refusal 0) []

-- what was read is planned, with so many bytes of working space, unless the reader refuses
unfoldable pub read_answer : Reading → ℕ → Planned
unfolding planned
read_answer r space =
    cond (passes r.report.refusal)
    (planned (table_read r) (take r.report.rows places) space)
    (refused_with r.report.refusal)

-- a tape that is too long is refused 11, even where the reader would give 2; any other is read and planned
unfoldable pub tape_answer : List ℕ → ℕ → Planned
unfolding read_answer fleet_read places
tape_answer tape space =
    cond (leb (length tape) tape_most)
    (read_answer (fleet_read tape places places places) space)
    (refused_with Form)

-- what a call gives
pub record Replied : Type 0 where
  pub written : ℕ
  pub out : List ℕ
  pub space : List ℕ

abbrev pub replying : ℕ → List ℕ → List ℕ → Replied
replying written out space = record { written = written; out = out; space = space }

-- the lines stand at the front of the output, and after them what was there before; the working space is what the
-- refusal leaves
unfoldable pub replied_with : Planned → List ℕ → List ℕ → Replied
unfolding printed space_after
replied_with p out space =
    replying (length (printed p)) (front (printed p) out) (space_after p.answer.refusal space)

-- The reply to a tape, for an output and working space that are lent. Into an output that is too short nothing is
-- written.
unfoldable pub replied : List ℕ → List ℕ → List ℕ → Replied
unfolding tape_answer replied_with
replied tape out space =
    cond (leb out_bytes (length out)) (replied_with (tape_answer tape (length space)) out space) (replying 0 out space)

-- So many bytes stand at the front of the output. The second part follows from the first; both are stated so that a
-- caller that lends `&out[..n]` needs no proof.
abbrev pub InFront : ℕ → List ℕ → Type 0
InFront n out = (n ≤ length out) × (n ≡ length (take n out))
