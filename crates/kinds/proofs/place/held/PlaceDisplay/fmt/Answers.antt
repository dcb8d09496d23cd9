use Rattle.kinds.proofs.place.held.PlaceDisplay.fmt.Goals as goal

pub returns-in-Held-clause-writes : goal.returns-in-Held-clause-writes
returns-in-Held-clause-writes g c plain ok = rw c.in-Held.is (c.write-in-Held.ensures.writes plain ok)
