use Rattle.std.proofs.Common.{◌≡◌, ℕ, ◌+◌, ◌*◌, ◌<◌, ◌≤◌, length, take, get_or, map, max, ap, sym, subst, ◌∙◌, arith, get_or-take}
use Rattle.std.specs.Prelude.{All}
use Rattle.std.proofs.lemmas.Nat.{mul-add-lt}
use Rattle.std.proofs.lemmas.List.{get_or_append_left, take_all, length-map}
use Rattle.apl_array.specs.Array.{element_in}
use Rattle.apl_print.specs.Shown.{field_of, rows_of, column_width}
use Rattle.apl_print.proofs.TableLemmas.{column_step, short_more, field_at, length-rows_of}
use Rattle.apl_print.proofs.rows.column_widths.Goals as goal

pub rows-preserved : goal.rows-preserved
rows-preserved c =
    let before = c.rows.invariant in
    let a = c.args.array.now in
    let r = c.rows.row in
    let columns = c.args.columns in
    let fields = map field_of a.ravel in
    let row : r < c.args.rows = omega arith in
    let size : length c.as_mut_slice.result.now ≡ columns = omega arith in
    let same_size : length c.widen.new.widths ≡ columns = omega (arith, c.widen.auto.widths) in
    let inside : (k : ℕ) → k < columns → r * columns + k < length a.ravel =
    λ k within. (omega (arith, mul-add-lt r columns k c.args.rows row within, c.requires.whole, c.requires.lawful.len)) in
    let next : r * columns + columns ≡ (r + 1) * columns = omega arith in record {
      each = before.each;
      widths = λ k within.
          let old = get_or c.rows.widths.items k 0 in
          let here : k < length c.widen.new.widths = omega arith in
          let in_room : k < c.rows.widths.len = omega (arith, before.each) in
          let lent : k < length c.as_mut_slice.result.now = omega arith in
          get_or-take c.rows.widths.len _ k 0 in_room
          ∙ get_or_append_left c.widen.new.widths _ 0 k here
          ∙ column_step a c.args.rows columns r k old (get_or c.widen.new.widths k 0) row within (inside k within)
          (c.widen.ensures.widths k lent ∙ ap (λ s. max (get_or s k 0) (length (field_of (element_in a (r * columns + k))))) c.as_mut_slice.ensures.value)
          (before.widths k within);
      short = subst (λ n. All (λ field. length field ≤ 21) (take n fields)) next
          (short_more fields (r * columns) columns before.short (λ k within in_fields.
          let lent : k < length c.as_mut_slice.result.now = omega arith in
          subst (λ f. length f ≤ 21) (sym (field_at a (r * columns + k) (inside k within))) (c.widen.ensures.short k lent)));
    }

pub returns-clause-widths : goal.returns-clause-widths
returns-clause-widths c = λ k within.
    let table = rows_of c.args.rows c.args.columns (map field_of c.args.array.now.ravel) in
    c.rows.invariant.widths k within
    ∙ ap (λ rows. column_width rows k) (take_all c.rows.row table (omega (arith, length-rows_of c.args.rows c.args.columns (map field_of c.args.array.now.ravel))))

pub returns-clause-short : goal.returns-clause-short
returns-clause-short c =
    let e : c.rows.row ≡ c.args.rows = omega arith in
    let fields = map field_of c.args.array.now.ravel in
    let whole : length fields ≤ c.args.rows * c.args.columns = omega (arith, length-map c.args.array.now.ravel field_of, c.requires.whole, c.requires.lawful.len) in
    subst (All (λ field. length field ≤ 21)) (ap (λ n. take (n * c.args.columns) fields) e ∙ take_all (c.args.rows * c.args.columns) fields whole) c.rows.invariant.short
