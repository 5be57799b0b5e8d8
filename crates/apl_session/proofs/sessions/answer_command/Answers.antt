use Rattle.std.proofs.Common.{refl}
use Rattle.apl_syntax.specs.declared.lines.Command.TheVariants.{Origin, Width, Clear, Incorrect}
use Rattle.apl_session.proofs.Steps.{outcome_of_reply, outcome_of_end}
use Rattle.apl_session.proofs.sessions.answer_command.Goals as goal

pub returns-in-Origin-clause-answered : goal.returns-in-Origin-clause-answered
returns-in-Origin-clause-answered g c =
    let writes = rw (c.origin_reply-was.ensures, c.origin.ensures) at c.reply.ensures.writes in
    outcome_of_reply c.args.workspace.now c.set_origin.new.self c.args.line.now _ _ _ (Origin c.in-Origin.origin) c.reply.result c.go_on.result
    c.go_on.ensures (rw c.in-Origin.is at c.requires) c.set_origin.ensures refl refl writes

pub returns-in-Width-clause-answered : goal.returns-in-Width-clause-answered
returns-in-Width-clause-answered g c =
    let writes = rw c.width.ensures.width at c.reply-in-Width.ensures.writes in
    outcome_of_reply c.args.workspace.now c.set_width.new.self c.args.line.now _ _ _ (Width c.in-Width.width) c.reply-in-Width.result c.go_on-in-Width.result
    c.go_on-in-Width.ensures (rw c.in-Width.is at c.requires) c.set_width.ensures refl refl writes

pub returns-in-Clear-clause-answered : goal.returns-in-Clear-clause-answered
returns-in-Clear-clause-answered g c =
    outcome_of_reply c.args.workspace.now c.clear.new.self c.args.line.now _ _ _ Clear c.reply-in-Clear.result c.go_on-in-Clear.result
    c.go_on-in-Clear.ensures (rw c.in-Clear.is at c.requires) c.clear.ensures refl refl c.reply-in-Clear.ensures.writes

pub returns-in-Off-clause-answered : goal.returns-in-Off-clause-answered
returns-in-Off-clause-answered g c = outcome_of_end c.args.workspace.now c.args.line.now _ (rw c.in-Off.is at c.requires)

pub returns-in-Incorrect-clause-answered : goal.returns-in-Incorrect-clause-answered
returns-in-Incorrect-clause-answered g c =
    outcome_of_reply c.args.workspace.now c.args.workspace.now c.args.line.now _ _ _ Incorrect c.reply-in-Incorrect.result c.go_on-in-Incorrect.result
    c.go_on-in-Incorrect.ensures (rw c.in-Incorrect.is at c.requires) refl refl refl c.reply-in-Incorrect.ensures.writes
