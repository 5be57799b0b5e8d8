use Rattle.std.proofs.Common.{◌≡◌, Some, sym, ◌∙◌, ap}
use Rattle.std.specs.FinMap.{get, insert}
use Rattle.apl_eval.specs.Workspace.{with_names}
use Rattle.apl_eval.specs.Names.{overlaid}
use Rattle.apl_eval.proofs.NameLemmas.{shared_first, only_second, none_second, get-insert_own, insert_same}
use Rattle.apl_eval.proofs.StackLemmas.{staged_in-insert}
use Rattle.apl_eval.proofs.statement.share_array.Goals as goal

pub returns-then-is_some-clause-value : goal.returns-then-is_some-clause-value
returns-then-is_some-clause-value g c =
    shared_first c.args.staged.now c.args.context.now.workspace.now.names c.args.name.now c.get.result c.get.ensures (sym c.is_some.ensures ∙ c.if-is_some.true)

pub returns-in_ok-insert-clause-value : goal.returns-in_ok-insert-clause-value
returns-in_ok-insert-clause-value g c =
    let names = c.args.context.now.workspace.now.names in
    let v = c.in-Some.array.now.value in
    let there : get names c.args.name.now ≡ Some v = rw c.names.ensures at c.in-Some.ensures in
    let both : get (overlaid c.args.staged.now names) c.args.name.now ≡ Some v =
    only_second c.args.staged.now names c.args.name.now v c.get.result c.get.ensures (sym c.is_some.ensures ∙ c.if-is_some.false) there in
    let kept : c.insert.new.self ≡ insert c.args.staged.now c.args.name.now v = c.in_ok-insert.ensures.ok ∙ (λ i. insert c.args.staged.now c.args.name.now (c.in_ok-array.ensures.cases i)) in
    ap (λ names. get names c.args.name.now) kept ∙ get-insert_own c.args.staged.now c.args.name.now v ∙ sym both

pub returns-in_ok-insert-clause-same : goal.returns-in_ok-insert-clause-same
returns-in_ok-insert-clause-same g c =
    let w = c.args.context.now.workspace.now in
    let v = c.in-Some.array.now.value in
    let there : get w.names c.args.name.now ≡ Some v = rw c.names.ensures at c.in-Some.ensures in
    let both : get (overlaid c.args.staged.now w.names) c.args.name.now ≡ Some v =
    only_second c.args.staged.now w.names c.args.name.now v c.get.result c.get.ensures (sym c.is_some.ensures ∙ c.if-is_some.false) there in
    let kept : c.insert.new.self ≡ insert c.args.staged.now c.args.name.now v = c.in_ok-insert.ensures.ok ∙ (λ i. insert c.args.staged.now c.args.name.now (c.in_ok-array.ensures.cases i)) in
    rw kept (staged_in-insert c.args.staged.now w c.args.name.now v
    ∙ ap (λ names. with_names names w) (insert_same (overlaid c.args.staged.now w.names) c.args.name.now v both))

pub returns-in_default-clause-value : goal.returns-in_default-clause-value
returns-in_default-clause-value g c =
    none_second c.args.staged.now c.args.context.now.workspace.now.names c.args.name.now (rw c.names.ensures at c.in_default.ensures)
