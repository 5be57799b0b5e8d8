use Rattle.std.proofs.Common.{◌≡◌, ◌++◌}
use Rattle.std.specs.Prelude.{encode_utf8_all}
use Rattle.std.specs.Str.Iter.{chars_rest}
use Rattle.apl_tokens.proofs.fronts.characters_of.Given as goal

abbrev pub invariant-loop-c : goal.invariant-loop-c
invariant-loop-c l = l.text ≡ encode_utf8_all l.characters.items ++ chars_rest l.c-iterator
