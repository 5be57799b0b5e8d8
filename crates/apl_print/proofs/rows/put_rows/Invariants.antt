use Rattle.std.proofs.Common.{◌≡◌, ◌++◌, drop, map, string_bytes, encode_utf8_all}
use Rattle.apl_print.specs.Shown.{field_of, rows_of, column_width, aligned}
use Rattle.apl_print.specs.Layout.{rest_of_rows}
use Rattle.apl_print.proofs.rows.put_rows.Given as goal

-- what was put, and the layout of the rows that are left, is the table
abbrev pub invariant-rows : goal.invariant-rows
invariant-rows l =
    let rows = rows_of l.rows l.columns (map field_of l.array.ravel) in
    let table = map (aligned (column_width rows) 0) rows in
    string_bytes l.text ++ encode_utf8_all (rest_of_rows l.layout.width l.layout.gap l.array.shape l.row (drop l.row table))
    ≡ string_bytes l.initial.text ++ encode_utf8_all (rest_of_rows l.layout.width l.layout.gap l.array.shape 0 table)
