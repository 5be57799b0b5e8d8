-- A worked history of a board of 3 pieces with two seats: the first seat is given 0 and 2, the second is given 1 and then told the end.
use Rattle.std.proofs.Common.{◌≡◌, ℕ, true, false, List, [], ◌∷◌, refl}
use Rattle.apl_board.specs.declared.view.View.{View}
use Rattle.apl_board.specs.View.{times, once_below, blank, with_given, with_told, with_reported, with_seen, after_none, rest_of, part_of, joined}
use Rattle.apl_board.specs.Rule.{total, given_in, reported_in, seen_in}

abbrev first : View
first = with_given (with_given (blank 3 2 1) 0) 2

abbrev second : View
second = with_told (with_given (blank 3 2 1) 1)

abbrev seats : List View
seats = first ∷ second ∷ []

-- ---- each number below the pieces was given once, and no other

zero_was_given_once : given_in 0 seats ≡ once_below 0 3
zero_was_given_once = refl

one_was_given_once : given_in 1 seats ≡ once_below 1 3
one_was_given_once = refl

two_was_given_once : given_in 2 seats ≡ once_below 2 3
two_was_given_once = refl

three_is_no_piece : given_in 3 seats ≡ once_below 3 3
three_is_no_piece = refl

shares_are_the_seats : total (λ v. v.share) seats ≡ 2
shares_are_the_seats = refl

-- the next number passes the pieces by the steps past the end
steps_past_the_end : total (λ v. v.past) seats ≡ 1
steps_past_the_end = refl

-- a seat that was told makes no further step
told_once : after_none second ≡ second
told_once = refl

not_told_before : after_none first ≡ with_told first
not_told_before = refl

-- ---- places: the first seat reports 7 and 5, and the second sees 5

reported_by_the_first : reported_in 5 (with_reported (with_reported first 7) 5 ∷ second ∷ []) ≡ 1
reported_by_the_first = refl

seen_by_the_second : seen_in 5 (with_reported first 5 ∷ with_seen second 5 ∷ []) ≡ 1
seen_by_the_second = refl

-- ---- a seat of share 2, told by two steps past the end, is cut, and its parts are joined again

abbrev whole : View
whole = with_told (with_told (with_given (blank 3 2 2) 0))

rest_has_what_was_given : rest_of whole 1 ≡ with_told (with_given (blank 3 2 1) 0)
rest_has_what_was_given = refl

part_is_told_and_was_given_nothing : part_of whole 1 ≡ with_told (blank 3 2 1)
part_is_told_and_was_given_nothing = refl

parts_make_the_whole : joined (rest_of whole 1) (part_of whole 1) ≡ whole
parts_make_the_whole = refl

-- ---- how often a number is in a list

twice_in_the_list : times 4 (4 ∷ 1 ∷ 4 ∷ []) ≡ 2
twice_in_the_list = refl
