use Rattle.std.specs.Str.Iter.{chars_rest}
use Rattle.apl_tokens.specs.Scans.{ListsUpTo}
use Rattle.apl_tokens.proofs.fronts.listed_front.Given as goal

abbrev pub invariant-loop-c : goal.invariant-loop-c
invariant-loop-c l = ListsUpTo l.text (chars_rest l.c-iterator) l.bytes l.characters
