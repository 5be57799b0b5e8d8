use Rattle.std.proofs.Common.{◌≡◌, ◌-◌, ◌≤◌, ◌++◌, length, take, drop, None, string_bytes, encode_utf8_all, slice_index}
use Rattle.std.specs.Prelude.{All, IfSome}
use Rattle.apl_print.specs.Shown.{aligned}
use Rattle.apl_print.specs.Layout.{rest_of_row, fields_between}
use Rattle.apl_print.proofs.rows.Layout.put_row.Given as goal

-- what was put, and the layout of the fields that are left, is the row
abbrev pub invariant-places : goal.invariant-places
invariant-places l =
    let fields = fields_between l.array l.start l.end in
    let k = l.place - l.start in record {
      row : string_bytes l.text ++ encode_utf8_all (rest_of_row l.self.width l.self.gap l.column (aligned (slice_index l.widths) k (drop k fields)))
          ≡ string_bytes l.initial.text ++ encode_utf8_all (rest_of_row l.self.width l.self.gap None (aligned (slice_index l.widths) 0 fields));
      in_bounds : IfSome l.column (λ c. c ≤ 300);
      short : All (λ field. length field ≤ 21) (take k fields);
    }
