use Rattle.std.proofs.Common.{◌≡◌, pos, Ok, ◌+◌, ◌-◌, ◌<◌, length, take, drop, get_or, sym, ap, ◌∙◌, subst, arith}
use Rattle.std.proofs.Math.Logic.{∥∥₁_elim}
use Rattle.std.proofs.lemmas.List.{get_or-take, get_or-drop}
use base.Stored.{Coded-set}
use Rattle.apl_search.specs.Finding.{ArePlaces}
use Rattle.apl_search.specs.Keys.{keys_in}
use Rattle.apl_search.specs.Tables.{place_of, IsTable}
use Rattle.apl_search.proofs.finding.Finder.write_replies.Goals as goal

pub returns-clause-values : goal.returns-clause-values
returns-clause-values g c =
    let numbers = keys_in c.args.self.now.elements in
    let keys = keys_in c.args.elements in
    let from = c.args.from in
    let to = c.args.to in
    let value = g.R.Reply.value c.args.reply in
    record {
      room = omega (arith, c.requires.room, c.write_run_replies.ensures.len);
      each = λ k d inside.
          let within : k < to - from = omega (arith, inside) in
          let key : get_or (take (to - from) (drop from keys)) k (pos 0) ≡ get_or keys (from + k) (pos 0) = get_or-take (to - from) (drop from keys) k (pos 0) within ∙ get_or-drop from keys k (pos 0) in
          let is : value (length numbers) (place_of numbers (get_or keys (from + k) (pos 0))) ≡ get_or c.write_run_replies.new.room k d =
          ∥∥₁_elim c.args.self.now.places_of (Coded-set g.row.R-Value.coded _ _) (λ places.
          let table : IsTable numbers c.in-InTable.table.least c.in-InTable.table.places.items = subst (ArePlaces numbers) c.in-InTable.is places in
          let written = c.write_run_replies.ensures.values numbers (rw (c.entries.ensures.least, c.entries.ensures.places) table) k d within in
          rw (sym key, sym c.count.ensures.count) (sym written)) in
          ap Ok is;
    }
