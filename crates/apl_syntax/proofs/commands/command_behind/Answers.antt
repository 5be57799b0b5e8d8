use Rattle.std.proofs.Common.{take}
use Rattle.apl_syntax.proofs.Words.{from, word_of_lengths}
use Rattle.apl_syntax.proofs.commands.command_behind.Goals as goal

pub returns : goal.returns
returns c =
    let word = c.split_at.result.0.now in
    let rest = c.split_at.result.1.now in (
      word,
      take c.length_without_blanks.result (from c.blanks_before.result rest),
      word_of_lengths c.args.text.now word rest c.word_length.result c.blanks_before.result c.length_without_blanks.result
          c.split_at.ensures.front c.split_at.ensures.back c.word_length.ensures.word c.word_length.ensures.longest
          c.blanks_before.ensures.blank c.blanks_before.ensures.longest c.length_without_blanks.ensures.ends c.length_without_blanks.ensures.blank,
      c.command_of.ensures,
    )
