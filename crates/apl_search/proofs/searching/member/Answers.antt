use Rattle.std.proofs.Common.{◌≡◌, rules}
use Rattle.apl_search.specs.Finding.{member_outcome}
use Rattle.apl_search.proofs.Searches.{no_member}
use Rattle.apl_search.proofs.searching.member.Goals as goal

pub returns-then-ne : goal.returns-then-ne
returns-then-ne g c =
    let a = c.args.a.now in
    let b = c.args.b.now in
    let differ : b.kind ≡ a.kind → ⊥ = λ e. search rules in
    c.same_everywhere.ensures (member_outcome a b.ravel) (λ place inside.
    no_member b a c.kind-2.ensures.lawful c.kind.ensures.lawful differ place inside (c.places_match_index_lists.ensures.same_place a.shape place inside))
