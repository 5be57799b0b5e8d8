use Rattle.std.proofs.Common.{◌++◌, [], drop, length, subst, sym}
use Rattle.std.specs.Str.{chars}
use Rattle.apl_tokens.specs.Fronts.{IsFront}
use Rattle.apl_tokens.specs.Stops.{IsFrontStopOf}
use Rattle.apl_tokens.specs.declared.fronts.FrontStop.TheVariants.{Memory}
use Rattle.apl_tokens.proofs.Stopped.{err_is}
use Rattle.apl_tokens.proofs.Texts.{front_of, rest_is_some, whole_front}
use Rattle.apl_tokens.proofs.fronts.front.Goals as goal

pub returns-then-front-line-clause-stop : goal.returns-then-front-line-clause-stop
returns-then-front-line-clause-stop c =
    let line = c.args.line.now in
    let text = c.text_front-text.result.now in
    let front = c.listed_front-front.result in
    let lists = c.listed_front-front.ensures.lists in (
      lists.characters,
      drop front.bytes text ++ drop (length text) line,
      front_of line text front.bytes front.characters c.text_front-text.ensures.front c.text_front-text.ensures.longest lists c.listed_front-front.ensures.ends,
      rest_is_some line text front.bytes front.characters c.text_front-text.ensures.front lists c.if-front-line.true,
      lists.len,
      lists.counted,
    )

pub returns-in_err-characters_of-clause-stop : goal.returns-in_err-characters_of-clause-stop
returns-in_err-characters_of-clause-stop c =
    let text = c.text_front-text.result.now in
    let front = c.listed_front-front.result in
    err_is c.from_residual.result Memory (IsFrontStopOf c.args.line.now) c.from_residual.ensures.1
    (chars text, whole_front c.args.line.now text front.bytes front.characters c.text_front-text.utf8 c.text_front-text.ensures.front c.text_front-text.ensures.longest c.listed_front-front.ensures.lists c.listed_front-front.ensures.ends c.if-front-line.false)

pub returns-clause-listed : goal.returns-clause-listed
returns-clause-listed c =
    let text = c.text_front-text.result.now in
    let front = c.listed_front-front.result in
    subst (λ x. IsFront c.args.line.now x []) (sym c.in_ok-characters_of.ensures)
    (whole_front c.args.line.now text front.bytes front.characters c.text_front-text.utf8 c.text_front-text.ensures.front c.text_front-text.ensures.longest c.listed_front-front.ensures.lists c.listed_front-front.ensures.ends c.if-front-line.false)
