use Rattle.std.proofs.Common.{◌≡◌, ◌++◌, replicate, string_bytes, encode_utf8_all}
use Rattle.apl_print.proofs.rows.push_run.Given as goal

abbrev pub invariant-run : goal.invariant-run
invariant-run l = string_bytes l.text ≡ string_bytes l.initial.text ++ encode_utf8_all (replicate l._i l.character)
