use Rattle.std.proofs.Common.{rules, ap, ◌∙◌}
use Rattle.apl_board.specs.View.{once_below}
use Rattle.apl_board.proofs.Ends.{ends, least_at_end, every_given, none_above}
use Rattle.apl_board.proofs.board.Board.close.Goals as goal

pub returns-clause-given : goal.returns-clause-given
returns-clause-given c =
    let e = ends _ _ _ _ _ _ _ (search rules) c.word-next.ensures c.word-least.ensures c.close_with-closed.ensures.values.2 in
    λ x. e.given x ∙ ap (once_below x) (search rules)

pub returns-clause-every : goal.returns-clause-every
returns-clause-every c = every_given _ _ (returns-clause-given c)

pub returns-clause-below : goal.returns-clause-below
returns-clause-below c = none_above _ _ (returns-clause-given c)

pub returns-clause-least : goal.returns-clause-least
returns-clause-least c =
    let e = ends _ _ _ _ _ _ _ (search rules) c.word-next.ensures c.word-least.ensures c.close_with-closed.ensures.values.2 in
    least_at_end _ _ _ _ _ e c.place_of.ensures

pub returns-clause-seen : goal.returns-clause-seen
returns-clause-seen c = (ends _ _ _ _ _ _ _ (search rules) c.word-next.ensures c.word-least.ensures c.close_with-closed.ensures.values.2).seen
