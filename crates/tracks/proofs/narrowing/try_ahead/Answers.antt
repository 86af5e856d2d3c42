-- `try_ahead` meets its contract: the rows that were left their first labels have one label each where the cap is still
-- reached; else the permissions are back.
use native.Mathlib.Omega.{arith}
use Rattle.tracks.proofs.Turns.{fixed_ready, fixed_taken, attempt_back}
use Rattle.tracks.proofs.narrowing.try_ahead.Goals as goal

pub take_found-requires : goal.take_found-requires
take_found-requires c = fixed_ready c.requires c.fix.ensures

pub returns-clause-yes : goal.returns-clause-yes
returns-clause-yes c e = fixed_taken c.requires c.fix.ensures (c.take_found.ensures.found.yes e)

pub returns-clause-no : goal.returns-clause-no
returns-clause-no c e = attempt_back c.requires c.take_found.ensures.found (omega arith) e
