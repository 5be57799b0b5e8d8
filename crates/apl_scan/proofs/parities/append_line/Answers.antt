use Rattle.std.proofs.Common.{◌≡◌, ◌+◌, ◌-◌, ◌*◌, ◌/◌, ◌++◌, false, length, take, drop, refl, sym, ap, ◌∙◌, rules, arith, length-drop}
use Rattle.std.proofs.Math.Seq.{take-add}
use Rattle.std.proofs.lemmas.List.{take-append-drop, take_all}
use Rattle.apl_scan.specs.Parities.{parity, parities, spread}
use Rattle.apl_scan.proofs.ParityWords.{is_spread}
use Rattle.apl_scan.proofs.RunningParities.{parity_of_both, more_appended}
use Rattle.apl_scan.proofs.parities.append_line.Goals as goal

pub loop-word-preserved : goal.loop-word-preserved
loop-word-preserved c =
    let truths = c.args.truths.now in
    let first = c.loop-word.word * 8 in
    let kept = c.loop-word.invariant in
    let put = c.append_word-before.ensures in
    let odd = parity false (take first truths) in
    let eight = take (first + 8 - first) (drop first truths) in
    let to : (c.loop-word.word + 1) * 8 ≡ first + 8 = omega arith in
    let count : first + 8 - first ≡ 8 = omega arith in
    let more : take ((c.loop-word.word + 1) * 8) truths ≡ take first truths ++ eight =
    ap (λ n. take n truths) to ∙ take-add first 8 truths ∙ ap (λ n. take first truths ++ take n (drop first truths)) (sym count) in
    record {
      parity = put.after odd kept.parity ∙ ap spread (sym (parity_of_both false (take first truths) eight) ∙ ap (parity false) (sym more));
      items = more_appended false odd (take first truths) eight (take ((c.loop-word.word + 1) * 8) truths) c.args.values.items c.loop-word.values.items c.append_word-before.new.values.items
          more refl kept.items (put.items odd kept.parity);
      len = search rules;
      capacity = put.capacity ∙ kept.capacity;
    }

pub returns-clause-items : goal.returns-clause-items
returns-clause-items c =
    let truths = c.args.truths.now in
    let whole = length truths / 8 * 8 in
    let odd = parity false (take whole truths) in
    let rest = take (length truths - whole) (drop whole truths) in
    let kept = c.loop-word.invariant in
    let done : c.loop-word.word * 8 ≡ whole = omega (arith, c.loop-word-test.false, c.loop-word.auto.word-end) in
    let all : truths ≡ take whole truths ++ rest =
    sym (take-append-drop whole truths) ∙ ap (λ l. take whole truths ++ l) (sym (take_all (length truths - whole) (drop whole truths) (omega (arith, length-drop whole truths)))) in
    let at = is_spread c.loop-word.before odd (kept.parity ∙ ap (λ n. spread (parity false (take n truths))) done) in
    more_appended false odd (take whole truths) rest truths c.args.values.items c.loop-word.values.items c.append_each.new.values.items
    all refl (kept.items ∙ ap (λ n. c.args.values.items ++ parities false (take n truths)) done) (c.append_each.ensures.items ∙ ap (λ b. c.loop-word.values.items ++ parities b rest) at)
