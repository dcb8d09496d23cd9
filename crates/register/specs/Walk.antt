-- A walk over a chain, and how far it came.
use Rattle.std.specs.Prelude.{◌+◌}
use Rattle.register.specs.declared.walk.Walk.{Walk}
use Rattle.ledger.specs.declared.record.Standing.{Standing}
use Rattle.ledger.specs.declared.record.Standing.TheVariants.{Open, Committed, Aborted}

abbrev pub walked : Walk → Standing → Walk
walked k Open = record { place = k.place + 1; sealed = k.sealed; dropped = k.dropped }
walked k Committed = record { place = k.place + 1; sealed = k.sealed + 1; dropped = k.dropped }
walked k Aborted = record { place = k.place; sealed = k.sealed; dropped = k.dropped + 1 }
