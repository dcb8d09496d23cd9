-- What walks along the chains of records have left.
use Rattle.std.specs.Prelude.{ℕ, List}
use Rattle.layout.specs.declared.walk.Walk.{Walk}
use Rattle.layout.specs.Layout.{walk}

abbrev pub left_of : Walk → List ℕ
left_of w = walk w.bytes.now w.left w.next
