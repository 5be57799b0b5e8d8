use Rattle.apl_syntax.proofs.Readings.{Laws, one_reading_of}
use Rattle.apl_syntax.proofs.reader.one_reading.Goals as goal

pub returns : goal.returns
returns c =
    let laws : Laws = record {
      fronts = c.front_is_unique.ensures;
      lexings = c.lexing_is_unique.ensures.tokens;
      lexed_or_faulty = c.lexing_is_unique.ensures.no_fault;
      lexed_or_limited = c.lexing_is_unique.ensures.no_limit;
      faulty_or_limited = c.lexing_is_unique.ensures.one_kind;
      faults = c.lexing_is_unique.ensures.fault;
      limits = c.lexing_is_unique.ensures.limit;
      trees = c.one_tree.ensures;
      carets = c.one_caret.ensures;
    } in
    one_reading_of laws
