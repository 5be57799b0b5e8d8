use Rattle.std.proofs.Common.{◌≡◌, ◌+◌, ◌-◌, ◌*◌, ◌/◌, ◌<◌, ◌≤◌, ◌++◌, length, get_or, map, replicate, string_bytes, encode_utf8_all, slice_index, ap, sym, subst, ◌∙◌, arith, append-nil}
use Rattle.std.proofs.lemmas.List.{length-map}
use Rattle.apl_array.specs.Shape.{count_of}
use Rattle.apl_print.specs.Shown.{field_of, row_count, row_length, rows_of, column_width, aligned, empty_lines}
use Rattle.apl_print.specs.Layout.{fields_between}
use Rattle.apl_print.proofs.ShownLemmas.{laid_rows}
use Rattle.apl_print.proofs.TableLemmas.{row_length_is, row_length_pos, rows_are, count_split, length-rows_of, table_row, rows_more, rows_end}
use Rattle.apl_print.proofs.rows.put_rows.Goals as goal
use Rattle.apl_print.proofs.rows.put_rows.Goals.{After-count}

is_shape : (c : After-count) → c.lengths-lengths.result.now ≡ c.args.array.now.shape
is_shape c = c.lengths-lengths.ensures.lengths ∙ c.shape.ensures.shape

is_columns : (c : After-count) → get_or c.lengths-lengths.result.now (length c.lengths-lengths.result.now - 1) 0 ≡ row_length c.args.array.now.shape
is_columns c =
    let some : 0 < length c.args.array.now.shape = omega (arith, c.requires.rank) in
    ap (λ s. get_or s (length s - 1) 0) (is_shape c) ∙ row_length_is c.args.array.now.shape 0 some

is_count : (c : After-count) → c.count.result ≡ count_of c.args.array.now.shape
is_count c = c.count.ensures.count ∙ ap count_of c.shape-2.ensures.shape

is_rows : (c : After-count) → c.count.result / get_or c.lengths-lengths.result.now (length c.lengths-lengths.result.now - 1) 0 ≡ row_count c.args.array.now.shape
is_rows c =
    ap (λ n. n / get_or c.lengths-lengths.result.now (length c.lengths-lengths.result.now - 1) 0) (is_count c)
    ∙ ap (λ n. count_of c.args.array.now.shape / n) (is_columns c) ∙ rows_are c.args.array.now.shape c.requires.some

pub nonzero_div-rows : goal.nonzero_div-rows
nonzero_div-rows c = subst (λ n. 0 < n) (sym (is_columns (goal.at.nonzero_div-rows c).After-count)) (row_length_pos c.args.array.now.shape c.requires.some)

pub column_widths-requires-clause-whole : goal.column_widths-requires-clause-whole
column_widths-requires-clause-whole c =
    let at = (goal.at.column_widths-requires-clause-whole c).After-count in
    ap (λ n. n * get_or c.lengths-lengths.result.now (length c.lengths-lengths.result.now - 1) 0) (is_rows at)
    ∙ ap (λ n. row_count c.args.array.now.shape * n) (is_columns at) ∙ count_split c.args.array.now.shape

pub rows-preserved : goal.rows-preserved
rows-preserved c =
    let at = (goal.at.rows-preserved c).After-count in
    let a = c.args.array.now in
    let r = c.rows.row in
    let columns = get_or c.lengths-lengths.result.now (length c.lengths-lengths.result.now - 1) 0 in
    let rows = c.count.result / columns in
    let fields = map field_of a.ravel in
    let table = rows_of rows columns fields in
    let row : r < rows = c.rows-test.true in
    rows_more c.args.layout.width c.args.layout.gap a.shape r (map (aligned (column_width table) 0) table)
    (string_bytes c.rows.text) (string_bytes c.push_run.new.text) (string_bytes c.put_row.new.text) _
    (aligned (slice_index c.as_slice.result.now) 0 (fields_between a (r * columns) ((r + 1) * columns)))
    (rw (length-map table (aligned (column_width table) 0), length-rows_of rows columns fields) row)
    (table_row a rows columns r (slice_index c.as_slice.result.now) row (λ k within. ap (λ s. slice_index s k) c.as_slice.ensures.value ∙ c.in_ok-widths.ensures.widths k within))
    (c.in_ok-push_run.ensures ∙ ap (λ n. string_bytes c.rows.text ++ encode_utf8_all (replicate n 10)) (c.empty_lines.ensures ∙ ap (λ s. empty_lines s r) (is_shape at)))
    c.in_ok-put_row.ensures.laid
    c.rows.invariant

pub returns-clause-laid : goal.returns-clause-laid
returns-clause-laid c =
    let at = (goal.at.returns-clause-laid c).After-count in
    let a = c.args.array.now in
    let columns = get_or c.lengths-lengths.result.now (length c.lengths-lengths.result.now - 1) 0 in
    let rows = c.count.result / columns in
    let fields = map field_of a.ravel in
    let table = rows_of rows columns fields in
    let past : rows ≤ c.rows.row = c.rows-test.false in
    sym (append-nil (string_bytes c.rows.text))
    ∙ ap (λ text. string_bytes c.rows.text ++ encode_utf8_all text) (sym (rows_end c.args.layout.width c.args.layout.gap a.shape c.rows.row (map (aligned (column_width table) 0) table)
    (rw (length-map table (aligned (column_width table) 0), length-rows_of rows columns fields) past)))
    ∙ c.rows.invariant
    ∙ ap (λ n. string_bytes c.args.text.now ++ encode_utf8_all (laid_rows c.args.layout.width c.args.layout.gap a.shape n columns fields)) (is_rows at)
    ∙ ap (λ n. string_bytes c.args.text.now ++ encode_utf8_all (laid_rows c.args.layout.width c.args.layout.gap a.shape (row_count a.shape) n fields)) (is_columns at)
