use Rattle.std.proofs.Common.{sym, subst, List}
use Rattle.apl_grammar.specs.declared.program.Operation.{Operation}
use Rattle.apl_grammar.specs.Tree.{IsProgramOf}
use Rattle.apl_grammar.proofs.Answered.{is_program_of, is_stop_of}
use Rattle.apl_grammar.proofs.statement.program_of.Goals as goal

pub new-requires : goal.new-requires
new-requires c =
    let p : IsProgramOf c.args.tokens.items c.in-Ok.operations.items = is_program_of c.args.tokens.items c.in-Ok.operations.items c.in-Ok.ensures.ok in
    (p.0, p.1, p.2)

pub returns-in-Ok-clause-program : goal.returns-in-Ok-clause-program
returns-in-Ok-clause-program c =
    subst (λ (ops : List Operation). IsProgramOf c.args.tokens.items ops) (sym c.new.ensures) (is_program_of c.args.tokens.items c.in-Ok.operations.items c.in-Ok.ensures.ok)

pub returns-in-Err-clause-stop : goal.returns-in-Err-clause-stop
returns-in-Err-clause-stop c = is_stop_of c.args.tokens.items c.in-Err.stop c.in-Err.ensures.err
