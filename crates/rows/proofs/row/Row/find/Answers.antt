use Rattle.std.proofs.Common.{rules, tests, sym, ap, ◌∙◌}
use Rattle.std.specs.Option.{option_map}
use Rattle.std.specs.Slice.Iter.{iter_rest}
use Rattle.history.proofs.Bounded.{lawful_from}
use Rattle.history.proofs.Chains.{find_some, none_some}
use Rattle.rows.specs.Rowed.{row_chain}
use Rattle.rows.proofs.Items.{found_from_find}
use Rattle.rows.proofs.Rowing.{passed}
use Rattle.rows.proofs.row.Row.find.Goals as goal

pub unreachable-requires : goal.unreachable-requires
unreachable-requires c =
    let found = found_from_find c.args.time (row_chain c.args.self.now) (ap iter_rest c.rev.ensures.source ∙ c.iter.ensures.rest ∙ c.deref.ensures.0) _ _ c.find.result c.find.ensures.ran (λ y b q k. search (rules, tests)) in
    let some = find_some (row_chain c.args.self.now) c.args.time (lawful_from (row_chain c.args.self.now) c.args.self.now.lawful) in
    none_some some.0 (ap (option_map (λ y. y.now)) (sym c.in-None.is) ∙ found ∙ some.1)

pub returns : goal.returns
returns c =
    let found = found_from_find c.args.time (row_chain c.args.self.now) (ap iter_rest c.rev.ensures.source ∙ c.iter.ensures.rest ∙ c.deref.ensures.0) _ _ c.find.result c.find.ensures.ran (λ y b q k. search (rules, tests)) in
    (passed _ c.in_ok-may_find.ensures, sym found ∙ ap (option_map (λ y. y.now)) c.in-Some.is)
