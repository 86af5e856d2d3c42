-- `narrow_ahead` meets its contract: a row of one label stays, and after an attempt in vain the permissions are as they
-- were.
use mathlib.Core.Path.{◌∙◌}
use Rattle.tracks.proofs.Turns.{row_done, row_back}
use Rattle.tracks.proofs.narrowing.narrow_ahead.Goals as goal

pub returns-then-perms-i-clause-narrowed : goal.returns-then-perms-i-clause-narrowed
returns-then-perms-i-clause-narrowed c = row_done c.requires.row (c.if-perms-i.true ∙ c.first_label.ensures)

pub narrow_row-requires : goal.narrow_row-requires
narrow_row-requires c =
    let t = c.try_ahead in
    row_back c.requires.row (t.ensures.no c.if-try_ahead.false) t.auto.left t.auto.space t.ensures.space_unchanged t.ensures.kept
