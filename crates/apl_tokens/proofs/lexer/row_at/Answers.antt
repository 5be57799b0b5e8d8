use Rattle.std.proofs.Common.{arith, drop, ◌+◌}
use Rattle.apl_tokens.proofs.Rows.{row_init, row_next, some_so_far, goes_on}
use Rattle.apl_tokens.proofs.lexer.row_at.Goals as goal

pub loop-next-init : goal.loop-next-init
loop-next-init c = (
  row_init c.args.text.now c.args.first.length c.args.first.number c.in_ok-beyond.beyond c.new-values.result.items c.add_number.new.values.items c.requires.first c.new-values.ensures.items c.in_ok-beyond.ensures,
  (c.requires.second, omega arith),
)

pub loop-next-preserved : goal.loop-next-preserved
loop-next-preserved c =
    let text = c.args.text.now in
    let n = c.in-Some.field-0 in
    let is = c.loop-next.invariant in (
      row_next text c.loop-next.length c.loop-next.count c.loop-next.beyond c.in_ok-beyond-2.beyond c.loop-next.values.items c.add_number-in-Some.new.values.items c.loop-next.next n c.in-Some.is is.0 is.1 c.in_ok-beyond-2.ensures,
      goes_on text (c.loop-next.length + (n.gap + n.numeral.length)) c.loop-next.count c.next_numeral-next.result (some_so_far c.loop-next.count (drop c.loop-next.length text) c.loop-next.next is.1) c.next_numeral-next.ensures.found c.next_numeral-next.ensures.none,
    )
