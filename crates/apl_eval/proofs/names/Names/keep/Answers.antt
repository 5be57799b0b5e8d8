use Rattle.std.proofs.Common.{◌≡◌, ◌<◌, arith, rules, IsOk}
use Rattle.std.specs.HashMap.{spare}
use Rattle.apl_eval.specs.Names.{names_in}
use Rattle.apl_eval.proofs.NameLemmas.{Keeps-start, Keeps-more, Keeps-all, names_in-reordered}
use Rattle.apl_eval.proofs.names.Names.keep.Goals as goal

pub staged-init : goal.staged-init
staged-init c =
    let gives = c.into_iter-name-iterator.ensures.into_iter_gives in
    let kept : names_in c.reserve.new.self ≡ names_in c.self.inside.values = names_in-reordered c.self.inside.values c.reserve.new.self c.in_ok-reserve.ensures.entries.2 in
    rw (gives.0, ← c.staged-2.view_is, ← c.self.view_is, ← kept)
    (Keeps-start c.staged-2.inside.values c.reserve.new.self (omega (arith, c.in_ok-reserve.ensures.ok, c.len.ensures.len)) c.len.ensures.unique)

pub unreachable-requires : goal.unreachable-requires
unreachable-requires c =
    let kept = rw c.in-Some.ensures.steps at c.staged.invariant in
    let room : 0 < spare c.staged.self-inside.values = omega (arith, kept.room) in
    let is : IsOk c.insert.result = c.insert.ensures.succeeds room in
    absurd (search (rules, is, c.in_default.is))

pub staged-preserved-in-Some-before : goal.staged-preserved-in-Some-before
staged-preserved-in-Some-before c =
    Keeps-more _ c.in-Some.name c.in-Some.value c.next.new.self c.staged.self-inside.values c.insert.new.self
    (rw c.in-Some.ensures.steps at c.staged.invariant) c.in-Ok.ensures.updates c.in-Ok.ensures.spare

pub staged-preserved : goal.staged-preserved
staged-preserved c =
    Keeps-more _ c.in-Some.name c.in-Some.value c.next.new.self c.staged.self-inside.values c.insert.new.self
    (rw c.in-Some.ensures.steps at c.staged.invariant) c.in-Ok.ensures.updates c.in-Ok.ensures.spare

pub returns-clause-ok : goal.returns-clause-ok
returns-clause-ok c = Keeps-all _ c.staged.self-inside.values (rw c.in-None.ensures.steps.0 at c.staged.invariant)
