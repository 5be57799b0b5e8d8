use Rattle.apl_syntax.proofs.Total.{Laws, some_reading_of}
use Rattle.apl_syntax.proofs.reader.some_reading.Goals as goal

pub returns : goal.returns
returns c =
    let laws : Laws = record {
      front = c.front_is_total.ensures;
      lexed = c.lexing_is_total.ensures;
      tree = c.tree_or_caret.ensures;
    } in
    some_reading_of laws
