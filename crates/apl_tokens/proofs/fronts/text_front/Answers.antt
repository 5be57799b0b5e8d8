use Rattle.std.proofs.Common.{◌≡◌, sym, ap, subst, length, drop, arith, length-take}
use Rattle.std.specs.Str.{StartsWithNoChar, valid_up_to}
use Rattle.apl_tokens.proofs.Texts.{no_char_at_end, no_char_behind, drop_all}
use Rattle.apl_tokens.proofs.fronts.text_front.Goals as goal

pub returns-in-Ok-clause-longest : goal.returns-in-Ok-clause-longest
returns-in-Ok-clause-longest c =
    subst StartsWithNoChar (sym (drop_all c.args.bytes.now (length c.in-Ok.text.now) (ap length c.in-Ok.ensures.cases.0))) no_char_at_end

pub returns-in-Ok-from_utf8-clause-longest : goal.returns-in-Ok-from_utf8-clause-longest
returns-in-Ok-from_utf8-clause-longest c =
    let bytes = c.args.bytes.now in
    let n = valid_up_to c.in-Err.error in
    let valid = c.in-Err.ensures.cases.1 in
    let len : n ≡ length c.in-Ok-from_utf8.text.now = omega (arith, ap length c.in-Ok-from_utf8.ensures.cases.0, length-take c.valid_up_to.result bytes, valid.short, c.valid_up_to.ensures) in
    subst (λ k. StartsWithNoChar (drop k bytes)) len (no_char_behind bytes n valid)
