use Rattle.std.proofs.Common.{pos, map, refl}
use Rattle.std.proofs.lemmas.List.{map-id}
use Rattle.apl_array.specs.Array.{bit}
use Rattle.apl_search.proofs.ByKeys.{replies_of_part}
use Rattle.apl_search.proofs.replies.write_run_replies.Goals as goal

pub returns-in-Numbers-clause-values : goal.returns-in-Numbers-clause-values
returns-in-Numbers-clause-values g c =
    let a = c.args in
    let list = c.in-Numbers.list.now in
    rw c.in-Numbers.is (
    replies_of_part (g.R.Reply.value a.reply a.count) a.entries.least a.entries.places.now (λ n. n) list list a.from a.to c.write_replies.new.room
    (map-id list) (rw c.in-Numbers.is at c.requires.places) c.write_replies.ensures.values)

pub returns-in-Narrow-clause-values : goal.returns-in-Narrow-clause-values
returns-in-Narrow-clause-values g c =
    let a = c.args in
    let list = c.in-Narrow.list.now in
    rw c.in-Narrow.is (
    replies_of_part (g.R.Reply.value a.reply a.count) a.entries.least a.entries.places.now (λ n. n) list list a.from a.to c.write_replies-in-Narrow.new.room
    (map-id list) (rw c.in-Narrow.is at c.requires.places) c.write_replies-in-Narrow.ensures.values)

pub returns-in-Truths-clause-values : goal.returns-in-Truths-clause-values
returns-in-Truths-clause-values g c =
    let a = c.args in
    let list = c.in-Truths.list.now in
    rw c.in-Truths.is (
    replies_of_part (g.R.Reply.value a.reply a.count) a.entries.least a.entries.places.now bit list (map bit list) a.from a.to c.write_replies-in-Truths.new.room
    refl (rw c.in-Truths.is at c.requires.places) c.write_replies-in-Truths.ensures.values)

pub returns-in-Characters-clause-values : goal.returns-in-Characters-clause-values
returns-in-Characters-clause-values g c =
    let a = c.args in
    let list = c.in-Characters.list.now in
    rw c.in-Characters.is (
    replies_of_part (g.R.Reply.value a.reply a.count) a.entries.least a.entries.places.now pos list (map pos list) a.from a.to c.write_replies-in-Characters.new.room
    refl (rw c.in-Characters.is at c.requires.places) c.write_replies-in-Characters.ensures.values)
