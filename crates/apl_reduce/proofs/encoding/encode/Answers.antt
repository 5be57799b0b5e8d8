use Rattle.std.proofs.Common.{◌≡◌, ◌≤◌, true, ◌++◌, ◌*◌, length, sym, ap, ◌∙◌, rules}
use Rattle.apl_array.specs.declared.array.Kind.TheVariants.{Number}
use Rattle.apl_array.specs.Array.{number_array}
use Rattle.apl_array.specs.Shape.{is_shape, count_of, index_at}
use Rattle.apl_answer.specs.Arguments.{is_list, rank_of}
use Rattle.apl_reduce.proofs.Numbers.{count_of_numbers}
use Rattle.apl_reduce.proofs.Encoded.{refused_left, refused_right, digit_there, encoded_at}
use Rattle.apl_reduce.proofs.encoding.encode.Goals as goal

pub encode_numbers-requires-clause-places : goal.encode_numbers-requires-clause-places
encode_numbers-requires-clause-places g c κs within =
    let a = c.args.a.now in
    let b = c.args.b.now in
    let shape : c.in_ok-shape.shape ≡ a.shape ++ b.shape = search rules in
    let radices : a ≡ number_array a.shape c.as_slice.result.now = search rules in
    let numbers : b ≡ number_array b.shape c.as_slice-2.result.now = search rules in
    let left = count_of_numbers a c.as_slice.result.now c.numbers_of.ensures.lawful radices in
    let right = count_of_numbers b c.as_slice-2.result.now c.numbers_of-2.ensures.lawful numbers in
    ap count_of shape ∙ c.joined_index_has_place.ensures.count a.shape b.shape ∙ ap (λ n. n * count_of b.shape) (sym left) ∙ ap (λ n. length c.as_slice.result.now * n) (sym right)

pub returns : goal.returns
returns g c =
    let a = c.args.a.now in
    let b = c.args.b.now in
    let law = c.places_match_index_lists.ensures in
    let join = c.joined_index_has_place.ensures in
    let shape : c.in_ok-shape.shape ≡ a.shape ++ b.shape = search rules in
    let lawful : is_shape (a.shape ++ b.shape) ≡ true = search rules in
    let list : is_list a ≡ true = search rules in
    let few : rank_of a ≤ 1 = search rules in
    let radices : a ≡ number_array a.shape c.as_slice.result.now = search rules in
    let numbers : b ≡ number_array b.shape c.as_slice-2.result.now = search rules in
    let main = rw shape at c.encode_numbers.ensures in
    rw (list, lawful)
    (main (encoded_at a b)
    (λ place inside.
    digit_there law.below law.lawful law.same_place join.count join.back join.index a b c.as_slice.result.now c.as_slice-2.result.now place c.numbers_of-2.ensures.lawful radices numbers few inside))

pub returns-in_default-2 : goal.returns-in_default-2
returns-in_default-2 g c =
    let a = c.args.a.now in
    let b = c.args.b.now in
    let law = c.places_match_index_lists.ensures in
    let join = c.joined_index_has_place.ensures in
    let shape : c.in_ok-shape.shape ≡ a.shape ++ b.shape = search rules in
    let lawful : is_shape (a.shape ++ b.shape) ≡ true = search rules in
    let list : is_list a ≡ true = search rules in
    let other : b.kind ≡ Number → ⊥ = search rules in
    let main = rw shape at c.refuse-in_default-2.ensures in
    rw (list, lawful)
    (main (encoded_at a b)
    (λ place inside. refused_right law.below law.lawful law.same_place join.count join.back join.index a b place c.numbers_of-2.ensures.lawful inside other))

pub returns-in_default : goal.returns-in_default
returns-in_default g c =
    let a = c.args.a.now in
    let b = c.args.b.now in
    let shape : c.in_ok-shape.shape ≡ a.shape ++ b.shape = search rules in
    let lawful : is_shape (a.shape ++ b.shape) ≡ true = search rules in
    let list : is_list a ≡ true = search rules in
    let other : a.kind ≡ Number → ⊥ = search rules in
    let main = rw shape at c.refuse.ensures in
    rw (list, lawful)
    (main (encoded_at a b)
    (λ place inside. refused_left a b (index_at (a.shape ++ b.shape) place) other))
