-- `take_found` meets its contract: what `pairs` says of the places holds of the rows, and the permissions are what then
-- stands beside.
use mathlib.Core.Path.{sym}
use Rattle.tracks.proofs.Rows.{places_most, found_outcome}
use Rattle.tracks.proofs.Turns.{kept_between}
use Rattle.tracks.proofs.narrowing.take_found.Goals as goal

pub find_labels-reached-requires-clause-cap_most : goal.find_labels-reached-requires-clause-cap_most
find_labels-reached-requires-clause-cap_most c = places_most c.requires.ready.rows c.requires.permuted c.requires.most

pub returns-clause-kept : goal.returns-clause-kept
returns-clause-kept c = kept_between c.copy.new.to _ (rw c.copy.auto.to (sym c.copy.ensures))

pub returns-clause-found : goal.returns-clause-found
returns-clause-found c =
    let R = c.requires.ready.rows in
    found_outcome R c.requires.permuted R.each_perm c.copy.auto.to R.few c.find_labels-reached.ensures.found (returns-clause-kept c)
