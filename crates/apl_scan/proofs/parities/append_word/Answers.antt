use Rattle.std.proofs.Common.{◌≡◌, ◌<◌, ◌++◌, [], ◌∷◌, false, get_or, length, take, sym, ap, ◌∙◌, arith, append_assoc}
use Rattle.std.proofs.lemmas.List.{length_push, take_all}
use Rattle.apl_scan.specs.Parities.{parities, spread}
use Rattle.apl_scan.proofs.ParityWords.{last_is}
use Rattle.apl_scan.proofs.RunningParities.{length_parities, one_more_of}
use Rattle.apl_scan.proofs.parities.append_word.Goals as goal

pub loop-byte-preserved : goal.loop-byte-preserved
loop-byte-preserved c =
    let truths = c.args.truths.now in
    let old = c.args.values.now.items in
    let byte = c.loop-byte.byte in
    let kept = c.loop-byte.invariant in
    let within : byte < 8 = c.loop-byte-test.true in
    record {
      items = λ odd turned.
          let all = parities odd truths in
          let inside : byte < length all = omega (arith, within, length_parities odd truths, c.requires.word) in
          let value : c.is_odd.result ≡ get_or all byte false = c.is_odd.ensures ∙ c.running_parities-word.ensures odd truths byte false turned c.requires.word c.word_from.ensures within in
          c.push_reserved.ensures.items
          ∙ ap (λ l. l ++ c.is_odd.result ∷ []) (kept.items odd turned)
          ∙ ap (λ b. (old ++ take byte all) ++ b ∷ []) value
          ∙ append_assoc old (take byte all) (get_or all byte false ∷ [])
          ∙ ap (λ l. old ++ l) (sym (one_more_of all byte false inside));
      len = ap length c.push_reserved.ensures.items ∙ length_push c.loop-byte.values.items c.is_odd.result ∙ omega (arith, kept.len);
      capacity = c.push_reserved.ensures.capacity ∙ kept.capacity;
    }

pub returns-clause-items : goal.returns-clause-items
returns-clause-items c = λ odd turned.
    let all = parities odd c.args.truths.now in
    c.loop-byte.invariant.items odd turned
    ∙ ap (λ l. c.args.values.now.items ++ l) (take_all c.loop-byte.byte all (omega (arith, c.loop-byte-test.false, length_parities odd c.args.truths.now, c.requires.word)))

pub returns-clause-after : goal.returns-clause-after
returns-clause-after c = λ odd turned.
    c.spread.ensures
    ∙ ap spread
    (c.is_odd-2.ensures
    ∙ c.running_parities-word.ensures odd c.args.truths.now 7 false turned c.requires.word c.word_from.ensures (omega arith)
    ∙ last_is odd false c.args.truths.now c.requires.word)
