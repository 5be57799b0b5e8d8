-- The text of a reply to a command, in bytes.
use Rattle.std.specs.Prelude.{ℕ, List, ◌++◌, codes, decimal}
use Rattle.apl_print.specs.declared.replies.Reply.{Reply}
use Rattle.apl_print.specs.declared.replies.Reply.TheVariants.{Was, Clear, Incorrect}
use Rattle.apl_print.specs.Text.{ended}

-- the line that a command is answered with
abbrev pub reply_text : Reply → List ℕ
reply_text (Was setting) = ended (codes "WAS " ++ decimal setting)
reply_text Clear = ended (codes "CLEAR WS")
reply_text Incorrect = ended (codes "INCORRECT COMMAND")
