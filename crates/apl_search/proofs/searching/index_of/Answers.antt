use Rattle.std.proofs.Common.{◌≡◌, ◌==◌, ◌+◌, true, to_z, of_z, w64, eq-eqb, rules}
use Rattle.std.specs.Prelude.{unsigned_abs}
use Rattle.apl_array.specs.Axes.{origin_number}
use Rattle.apl_array.specs.Shape.{count_of}
use Rattle.apl_answer.specs.Arguments.{rank_of}
use Rattle.apl_search.specs.Finding.{found_outcome}
use Rattle.apl_search.proofs.Origins.{origin_cast}
use Rattle.apl_search.proofs.Searches.{past_the_end}
use Rattle.apl_search.proofs.searching.index_of.Goals as goal

pub returns-then-ne : goal.returns-then-ne
returns-then-ne g c =
    let a = c.args.a.now in
    let b = c.args.b.now in
    let vector : (rank_of a == 1) ≡ true = eq-eqb (rank_of a) 1 (search rules) in
    let differ : a.kind ≡ b.kind → ⊥ = λ e. search rules in
    let first = origin_cast c.args.origin c.number.result c.number.ensures.value in
    let past : unsigned_abs (to_z w64 (of_z w64 c.number.result)) + c.count.result ≡ origin_number c.args.origin + count_of a.shape = rw (first, c.count.ensures.count) (search rules) in
    rw vector
    (c.same_everywhere.ensures (found_outcome a.ravel b c.args.origin) (λ place inside.
    let same = c.places_match_index_lists.ensures.same_place b.shape place inside in
    rw past (past_the_end a b c.kind.ensures.lawful c.kind-2.ensures.lawful differ place inside same c.args.origin)))

pub returns : goal.returns
returns g c =
    let a = c.args.a.now in
    let vector : (rank_of a == 1) ≡ true = eq-eqb (rank_of a) 1 (search rules) in
    rw vector c.first_places.ensures
