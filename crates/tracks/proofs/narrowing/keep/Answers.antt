-- `keep` meets its contract: the bytes of the part are the permissions, those behind it stay.
use mathlib.Core.Path.{◌∙◌}
use native.Mathlib.Omega.{arith}
use Rattle.std.proofs.lemmas.Slice.{between-put_mid, drop-put_mid}
use Rattle.line.specs.Cells.{found_from, next_from}
use Rattle.tracks.proofs.Turns.{kept_between}
use Rattle.tracks.proofs.narrowing.keep.Goals as goal

pub returns-clause-kept : goal.returns-clause-kept
returns-clause-kept c = kept_between c.args.perms.now _ (between-put_mid found_from _ c.args.space.now _ _ (omega arith) (omega arith) ∙ c.copy.ensures)

pub returns-clause-space_unchanged : goal.returns-clause-space_unchanged
returns-clause-space_unchanged c = drop-put_mid found_from _ c.args.space.now _ next_from (omega arith) (omega arith) (omega arith)
