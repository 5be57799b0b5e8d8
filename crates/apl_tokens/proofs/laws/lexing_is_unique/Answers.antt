use Rattle.apl_tokens.proofs.Unique.{Lexes-unique, one_lexical_fault, one_limit_fault, lexes_no_fault, lexes_no_limit, one_kind_of_fault}
use Rattle.apl_tokens.proofs.laws.lexing_is_unique.Goals as goal

pub returns : goal.returns
returns c = record {
  tokens = Lexes-unique;
  fault = one_lexical_fault;
  limit = one_limit_fault;
  no_fault = lexes_no_fault;
  no_limit = lexes_no_limit;
  one_kind = one_kind_of_fault;
}
