use Rattle.std.specs.Prelude.{◌≡◌, take, string_bytes, encode_utf8_all}
use Rattle.apl_tokens.proofs.lexer.name_of.Given as goal

abbrev pub invariant-loop-c : goal.invariant-loop-c
invariant-loop-c l = string_bytes l.text ≡ encode_utf8_all (take l.c-index l.characters)
