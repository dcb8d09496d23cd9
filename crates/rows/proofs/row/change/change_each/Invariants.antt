use Rattle.std.proofs.Common.{◌≡◌, ℕ, ◌≤◌, get_or, take}
use Rattle.std.specs.List.{AllZip}
use Rattle.history.specs.declared.item.Item.{Item}
use Rattle.rows.proofs.row.change.change_each.Given as goal

abbrev pub invariant-loop-item : goal.invariant-loop-item
invariant-loop-item g l = record {
  done : AllZip (λ x y. g.F.Fn.post l.change (x, tt) y) (take l.item-index l.fn.items) (take l.item-index l.items);
  left : (j : ℕ) (d : Item) → l.item-index ≤ j → get_or l.items j d ≡ get_or l.fn.items j d;
}
