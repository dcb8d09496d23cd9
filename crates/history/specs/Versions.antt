-- What is left of a walk over an object's versions.
use Rattle.std.specs.Prelude.{List, drop}
use Rattle.history.specs.declared.item.Version.{Version}
use Rattle.history.specs.declared.alike.Versions.{Versions}
use Rattle.history.specs.Meaning.{Meaning, chain_of}
use Rattle.history.specs.Alike.{versions}

abbrev pub versions_left : {S : Type 0} → (S → Meaning) → Versions S → List Version
versions_left means w = versions (drop w.place (chain_of (means w.store.now) w.object))
