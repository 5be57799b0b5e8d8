use Rattle.std.proofs.Common.{◌≡◌, ℕ, ◌*◌, ◌<◌, ◌≤◌, length, take, get_or, map, vec_len}
use Rattle.std.specs.Prelude.{All}
use Rattle.apl_print.specs.Shown.{field_of, rows_of, column_width}
use Rattle.apl_print.proofs.rows.column_widths.Given as goal

-- the widths of the columns over the rows so far
abbrev pub invariant-rows : goal.invariant-rows
invariant-rows l =
    let fields = map field_of l.array.ravel in record {
      each : vec_len l.widths ≡ l.columns;
      widths : (k : ℕ) → k < l.columns → get_or l.widths.items k 0 ≡ column_width (take l.row (rows_of l.rows l.columns fields)) k;
      short : All (λ field. length field ≤ 21) (take (l.row * l.columns) fields);
    }
