-- Worked examples of the rows, in origin 1 where nothing else is said, with short names for their arrays.
use Rattle.std.proofs.Common.{◌≡◌, ℕ, ℤ, pos, neg_ℤ, List, [], ◌∷◌, length, map, replicate, Ok, Err, refl, Some, None}
use Rattle.std.specs.Prelude.{Result}
use Rattle.apl_array.specs.Shape.{count_of}
use Rattle.apl_array.specs.Array.{ArrayValue, number_array, character_array}
use Rattle.apl_answer.specs.declared.fault.OpFault.{OpFault}
use Rattle.apl_answer.specs.Rows.{Row, result_of}
use Rattle.apl_answer.specs.declared.fault.OpFault.TheVariants.{Rank, Length, Domain, Limit, Index}
use Rattle.apl_struct.specs.Axes.{axis_number_of}
use Rattle.apl_array.specs.declared.axis.Origin.TheVariants.{Zero, One}
use Rattle.apl_struct.specs.Building.{shape_of_row, ravel_row, reshape_row, iota_row}
use Rattle.apl_array.specs.declared.axis.Axis.TheVariants.{Last, At, First}
use Rattle.apl_struct.specs.Joining.{catenate_row}
use Rattle.apl_struct.specs.Taking.{take_row, drop_row}
use Rattle.apl_struct.specs.Rearranging.{reverse_row, rotate_row, transpose_row, transpose_by_row}
use Rattle.apl_struct.specs.Compressing.{replicate_row, expand_row}
use Rattle.apl_struct.specs.Indexing.{select_row, replace_row}

-- each row answers what stands beside it
abbrev pub AllAnswer : List (Row × Result ArrayValue OpFault) → Type 0
AllAnswer examples = map (λ e. result_of e.0) examples ≡ map (λ e. e.1) examples

-- numbers from 0 up
abbrev pub numbers : List ℕ → List ℕ → ArrayValue
numbers shape ns = number_array shape (map pos ns)

abbrev pub vector : List ℕ → ArrayValue
vector ns = numbers (length ns ∷ []) ns

abbrev pub scalar : ℕ → ArrayValue
scalar n = numbers [] (n ∷ [])

abbrev pub zeros : List ℕ → ArrayValue
zeros shape = numbers shape (replicate (count_of shape) 0)

-- any numbers
abbrev pub integers : List ℤ → ArrayValue
integers ns = number_array (length ns ∷ []) ns

-- 0 less a number
abbrev pub minus : ℕ → ArrayValue
minus n = number_array [] (neg_ℤ (pos n) ∷ [])

-- characters by their code points
abbrev pub text : List ℕ → ArrayValue
text cs = character_array (length cs ∷ []) cs

abbrev pub letter : ℕ → ArrayValue
letter c = character_array [] (c ∷ [])

abbrev pub two_by_two : ArrayValue
two_by_two = numbers (2 ∷ 2 ∷ []) (1 ∷ 2 ∷ 3 ∷ 4 ∷ [])

abbrev pub two_by_three : ArrayValue
two_by_three = numbers (2 ∷ 3 ∷ []) (1 ∷ 2 ∷ 3 ∷ 4 ∷ 5 ∷ 6 ∷ [])

-- ---- axis arguments

-- the rank is judged first, and then the length, whatever the kind
axes : map axis_number_of (scalar 2 ∷ vector (1 ∷ []) ∷ numbers (1 ∷ 1 ∷ []) (1 ∷ []) ∷ text [] ∷ letter 65 ∷ [])
    ≡ Ok (pos 2) ∷ Ok (pos 1) ∷ Err Rank ∷ Err Length ∷ Err Domain ∷ []
axes = refl

-- ---- ⍴B, ,B, A⍴B and ⍳N

-- the shape
shapes : AllAnswer (
    (shape_of_row two_by_three, Ok (vector (2 ∷ 3 ∷ [])))  -- ⍴2 3⍴⍳6
    ∷ (shape_of_row (text []), Ok (vector (0 ∷ [])))  -- ⍴''
    ∷ (shape_of_row (letter 65), Ok (vector []))  -- ⍴'A'
    ∷ (shape_of_row (numbers (0 ∷ 1073741824 ∷ []) []), Ok (vector (0 ∷ 1073741824 ∷ [])))  -- ⍴0 1073741824⍴0
    ∷ [])
shapes = refl

-- the elements
ravels : AllAnswer (
    (ravel_row two_by_three, Ok (vector (1 ∷ 2 ∷ 3 ∷ 4 ∷ 5 ∷ 6 ∷ [])))  -- ,2 3⍴⍳6
    ∷ [])
ravels = refl

-- reshape
reshapes : AllAnswer (
    (reshape_row (vector (2 ∷ 3 ∷ [])) (vector (1 ∷ 2 ∷ 3 ∷ 4 ∷ 5 ∷ 6 ∷ [])), Ok two_by_three)  -- 2 3⍴1 2 3 4 5 6
    ∷ (reshape_row (vector []) (vector []), Err Length)  -- (⍳0)⍴⍳0
    ∷ (reshape_row (text []) (scalar 5), Ok (scalar 5))  -- ''⍴5
    ∷ (reshape_row (scalar 0) (letter 65), Ok (text []))  -- 0⍴'A'
    ∷ (reshape_row (integers (neg_ℤ (pos 1) ∷ pos 1073741825 ∷ [])) (scalar 0), Err Domain)  -- ¯1 1073741825⍴0
    ∷ (reshape_row (scalar 1073741825) (vector []), Err Limit)  -- 1073741825⍴⍳0
    ∷ (reshape_row (letter 65) (scalar 5), Err Domain)  -- 'A'⍴5
    ∷ (reshape_row (numbers (1 ∷ 1 ∷ []) (1 ∷ [])) (scalar 5), Err Rank)  -- (1 1⍴1)⍴5
    ∷ (reshape_row (scalar 5) (text (65 ∷ 66 ∷ [])), Ok (text (65 ∷ 66 ∷ 65 ∷ 66 ∷ 65 ∷ [])))  -- 5⍴'AB'
    ∷ (reshape_row (vector (2 ∷ 0 ∷ [])) (vector []), Ok (numbers (2 ∷ 0 ∷ []) []))  -- 2 0⍴⍳0
    ∷ (reshape_row (vector (0 ∷ 1073741824 ∷ [])) (scalar 0), Ok (numbers (0 ∷ 1073741824 ∷ []) []))  -- 0 1073741824⍴0
    ∷ (reshape_row (vector (1073741825 ∷ 0 ∷ [])) (scalar 0), Err Limit)  -- 1073741825 0⍴0
    ∷ (reshape_row (vector (32768 ∷ 32769 ∷ [])) (scalar 0), Err Limit)  -- 32768 32769⍴0
    ∷ (reshape_row (vector (1 ∷ 1 ∷ 1 ∷ 1 ∷ 1 ∷ 1 ∷ 1 ∷ 1 ∷ 1 ∷ 1 ∷ 1 ∷ 1 ∷ 1 ∷ 1 ∷ 1 ∷ 1 ∷ [])) (scalar 0), Err Limit)  -- 1 1 1 1 1 1 1 1 1 1 1 1 1 1 1 1⍴0
    ∷ [])
reshapes = refl

-- numbers from the origin
counts : AllAnswer (
    (iota_row (scalar 3) One, Ok (vector (1 ∷ 2 ∷ 3 ∷ [])))  -- ⍳3
    ∷ (iota_row (text []) One, Err Length)  -- ⍳''
    ∷ (iota_row (letter 65) One, Err Domain)  -- ⍳'A'
    ∷ (iota_row (numbers (1 ∷ 1 ∷ []) (3 ∷ [])) One, Err Rank)  -- ⍳1 1⍴3
    ∷ (iota_row (scalar 1073741825) One, Err Limit)  -- ⍳1073741825
    ∷ (iota_row (scalar 3) Zero, Ok (vector (0 ∷ 1 ∷ 2 ∷ [])))  -- ⍳3, in origin 0
    ∷ (iota_row (vector (3 ∷ [])) One, Ok (vector (1 ∷ 2 ∷ 3 ∷ [])))  -- ⍳,3
    ∷ (iota_row (text (65 ∷ 66 ∷ [])) One, Err Length)  -- ⍳'AB'
    ∷ (iota_row (minus 1) One, Err Domain)  -- ⍳¯1
    ∷ [])
counts = refl

-- ---- A,B

joined : AllAnswer (
    (catenate_row two_by_two (scalar 9) Last, Ok (numbers (2 ∷ 3 ∷ []) (1 ∷ 2 ∷ 9 ∷ 3 ∷ 4 ∷ 9 ∷ [])))  -- (2 2⍴⍳4),9
    ∷ (catenate_row two_by_two (vector (8 ∷ 9 ∷ [])) (At (pos 1) One), Ok (numbers (3 ∷ 2 ∷ []) (1 ∷ 2 ∷ 3 ∷ 4 ∷ 8 ∷ 9 ∷ [])))  -- (2 2⍴⍳4),[1]8 9
    ∷ (catenate_row (vector (5 ∷ [])) (zeros (2 ∷ 2 ∷ [])) Last, Err Length)  -- (,5),2 2⍴0
    ∷ (catenate_row (vector (1 ∷ 2 ∷ [])) (zeros (2 ∷ 3 ∷ [])) Last, Ok (numbers (2 ∷ 4 ∷ []) (1 ∷ 0 ∷ 0 ∷ 0 ∷ 2 ∷ 0 ∷ 0 ∷ 0 ∷ [])))  -- 1 2,2 3⍴0
    ∷ (catenate_row (vector (1 ∷ 2 ∷ [])) (zeros (2 ∷ 2 ∷ 2 ∷ [])) Last, Err Rank)  -- 1 2,2 2 2⍴0
    ∷ (catenate_row (scalar 5) (zeros (2 ∷ 1 ∷ 2 ∷ [])) Last, Ok (numbers (2 ∷ 1 ∷ 3 ∷ []) (5 ∷ 0 ∷ 0 ∷ 5 ∷ 0 ∷ 0 ∷ [])))  -- 5,2 1 2⍴0
    ∷ (catenate_row (scalar 5) (numbers (0 ∷ 3 ∷ []) []) (At (pos 1) One), Ok (numbers (1 ∷ 3 ∷ []) (5 ∷ 5 ∷ 5 ∷ [])))  -- 5,[1]0 3⍴0
    ∷ (catenate_row (vector []) (letter 65) Last, Ok (text (65 ∷ [])))  -- (⍳0),'A'
    ∷ (catenate_row (text []) (vector []) Last, Ok (text []))  -- '',⍳0
    ∷ (catenate_row (vector []) (text []) Last, Ok (vector []))  -- (⍳0),''
    ∷ (catenate_row (scalar 5) (character_array (0 ∷ 3 ∷ []) []) Last, Ok (numbers (0 ∷ 4 ∷ []) []))  -- 5,0 3⍴' '
    ∷ (catenate_row (character_array (0 ∷ 3 ∷ []) []) (scalar 5) Last, Ok (numbers (0 ∷ 4 ∷ []) []))  -- (0 3⍴' '),5
    ∷ (catenate_row (zeros (2 ∷ 2 ∷ [])) (text (65 ∷ 66 ∷ 67 ∷ [])) Last, Err Length)  -- (2 2⍴0),'ABC'
    ∷ (catenate_row (zeros (2 ∷ 2 ∷ [])) (text (65 ∷ 66 ∷ [])) Last, Err Domain)  -- (2 2⍴0),'AB'
    ∷ (catenate_row (numbers (0 ∷ 1073741824 ∷ []) []) (numbers (0 ∷ 1 ∷ []) []) Last, Err Limit)  -- (0 1073741824⍴0),0 1⍴0
    ∷ (catenate_row (scalar 1) (scalar 2) (At (pos 1) One), Ok (vector (1 ∷ 2 ∷ [])))  -- 1,[1]2
    ∷ (catenate_row (scalar 1) (scalar 2) (At (pos 2) One), Err Index)  -- 1,[2]2
    ∷ (catenate_row (vector (1 ∷ 2 ∷ [])) (zeros (2 ∷ 2 ∷ 2 ∷ [])) (At (pos 9) One), Err Index)  -- 1 2,[9]2 2 2⍴0
    ∷ (catenate_row (scalar 1) (letter 65) Last, Err Domain)  -- 1,'A'
    ∷ (catenate_row (text []) (scalar 5) Last, Ok (vector (5 ∷ [])))  -- '',5
    ∷ (catenate_row (vector (1 ∷ 2 ∷ 3 ∷ [])) (zeros (2 ∷ 3 ∷ [])) (At (pos 1) One), Ok (numbers (3 ∷ 3 ∷ []) (1 ∷ 2 ∷ 3 ∷ 0 ∷ 0 ∷ 0 ∷ 0 ∷ 0 ∷ 0 ∷ [])))  -- 1 2 3,[1]2 3⍴0
    ∷ [])
joined = refl

-- ---- A↑B and A↓B

-- take
taken : AllAnswer (
    (take_row (scalar 3) (text (65 ∷ 66 ∷ [])), Ok (text (65 ∷ 66 ∷ 32 ∷ [])))  -- 3↑'AB'
    ∷ (take_row (minus 3) (vector (5 ∷ 6 ∷ [])), Ok (vector (0 ∷ 5 ∷ 6 ∷ [])))  -- ¯3↑5 6
    ∷ (take_row (vector (2 ∷ 2 ∷ [])) (scalar 5), Ok (numbers (2 ∷ 2 ∷ []) (5 ∷ 0 ∷ 0 ∷ 0 ∷ [])))  -- 2 2↑5
    ∷ (take_row (vector []) (scalar 5), Ok (scalar 5))  -- (⍳0)↑5
    ∷ (take_row (text (replicate 16 65)) (scalar 5), Err Limit)  -- 'AAAAAAAAAAAAAAAA'↑5
    ∷ (take_row (text (replicate 16 65)) (vector (1 ∷ 2 ∷ [])), Err Length)  -- 'AAAAAAAAAAAAAAAA'↑1 2
    ∷ (take_row (numbers (1 ∷ 1 ∷ []) (1 ∷ [])) (scalar 5), Err Rank)  -- (1 1⍴1)↑5
    ∷ (take_row (text (65 ∷ 66 ∷ [])) (zeros (2 ∷ 3 ∷ [])), Err Domain)  -- 'AB'↑2 3⍴0
    ∷ (take_row (minus 9223372036854775808) (vector (1 ∷ 2 ∷ 3 ∷ [])), Err Limit)  -- ¯9223372036854775808↑1 2 3
    ∷ (take_row (vector (1 ∷ 1073741825 ∷ [])) (numbers (0 ∷ 0 ∷ []) []), Err Limit)  -- 1 1073741825↑0 0⍴0
    ∷ (take_row (integers (pos 1 ∷ neg_ℤ (pos 2) ∷ [])) two_by_three, Ok (numbers (1 ∷ 2 ∷ []) (2 ∷ 3 ∷ [])))  -- 1 ¯2↑2 3⍴⍳6
    ∷ (take_row (scalar 3) (text []), Ok (text (32 ∷ 32 ∷ 32 ∷ [])))  -- 3↑''
    ∷ (take_row (vector (0 ∷ 1073741824 ∷ [])) (numbers (0 ∷ 0 ∷ []) []), Ok (numbers (0 ∷ 1073741824 ∷ []) []))  -- 0 1073741824↑0 0⍴0
    ∷ [])
taken = refl

-- drop
dropped : AllAnswer (
    (drop_row (minus 5) (vector (1 ∷ 2 ∷ 3 ∷ [])), Ok (vector []))  -- ¯5↓1 2 3
    ∷ (drop_row (vector (0 ∷ 0 ∷ [])) (scalar 5), Ok (numbers (1 ∷ 1 ∷ []) (5 ∷ [])))  -- 0 0↓5
    ∷ (drop_row (scalar 1) (scalar 5), Ok (vector []))  -- 1↓5
    ∷ (drop_row (integers (pos 1 ∷ neg_ℤ (pos 1) ∷ [])) two_by_three, Ok (numbers (1 ∷ 2 ∷ []) (4 ∷ 5 ∷ [])))  -- 1 ¯1↓2 3⍴⍳6
    ∷ [])
dropped = refl

-- ---- ⌽B, A⌽B, ⍉B and A⍉B

-- reverse
reversed : AllAnswer (
    (reverse_row two_by_three Last, Ok (numbers (2 ∷ 3 ∷ []) (3 ∷ 2 ∷ 1 ∷ 6 ∷ 5 ∷ 4 ∷ [])))  -- ⌽2 3⍴⍳6
    ∷ (reverse_row two_by_two First, Ok (numbers (2 ∷ 2 ∷ []) (3 ∷ 4 ∷ 1 ∷ 2 ∷ [])))  -- ⊖2 2⍴⍳4
    ∷ (reverse_row (scalar 5) Last, Ok (scalar 5))  -- ⌽5
    ∷ (reverse_row (scalar 5) (At (pos 1) One), Err Index)  -- ⌽[1]5
    ∷ (reverse_row (zeros (2 ∷ 2 ∷ [])) (At (pos 3) One), Err Index)  -- ⌽[3]2 2⍴0
    ∷ (reverse_row (numbers (2 ∷ 2 ∷ []) (0 ∷ 1 ∷ 2 ∷ 3 ∷ [])) (At (pos 0) Zero), Ok (numbers (2 ∷ 2 ∷ []) (2 ∷ 3 ∷ 0 ∷ 1 ∷ [])))  -- ⌽[0]2 2⍴0 1 2 3, in origin 0
    ∷ [])
reversed = refl

-- rotate
rotated : AllAnswer (
    (rotate_row (scalar 2) (vector (1 ∷ 2 ∷ 3 ∷ 4 ∷ 5 ∷ [])) Last, Ok (vector (3 ∷ 4 ∷ 5 ∷ 1 ∷ 2 ∷ [])))  -- 2⌽1 2 3 4 5
    ∷ (rotate_row (scalar 1) two_by_three (At (pos 1) One), Ok (numbers (2 ∷ 3 ∷ []) (4 ∷ 5 ∷ 6 ∷ 1 ∷ 2 ∷ 3 ∷ [])))  -- 1⌽[1]2 3⍴⍳6
    ∷ (rotate_row (numbers (1 ∷ 1 ∷ []) (1 ∷ [])) (vector (1 ∷ 2 ∷ 3 ∷ [])) Last, Ok (vector (2 ∷ 3 ∷ 1 ∷ [])))  -- (1 1⍴1)⌽1 2 3
    ∷ (rotate_row (vector (1 ∷ 2 ∷ [])) (vector (1 ∷ 2 ∷ 3 ∷ [])) Last, Err Rank)  -- 1 2⌽1 2 3
    ∷ (rotate_row (letter 65) (scalar 5) Last, Err Domain)  -- 'A'⌽5
    ∷ (rotate_row (text []) (numbers (0 ∷ 3 ∷ []) []) Last, Ok (numbers (0 ∷ 3 ∷ []) []))  -- ''⌽0 3⍴0
    ∷ (rotate_row (text (65 ∷ 66 ∷ 67 ∷ [])) two_by_three Last, Err Length)  -- 'ABC'⌽2 3⍴⍳6
    ∷ (rotate_row (vector (1 ∷ 2 ∷ [])) two_by_three Last, Ok (numbers (2 ∷ 3 ∷ []) (2 ∷ 3 ∷ 1 ∷ 6 ∷ 4 ∷ 5 ∷ [])))  -- 1 2⌽2 3⍴⍳6
    ∷ (rotate_row (minus 9223372036854775808) (vector (1 ∷ 2 ∷ 3 ∷ [])) Last, Ok (vector (2 ∷ 3 ∷ 1 ∷ [])))  -- ¯9223372036854775808⌽1 2 3
    ∷ (rotate_row (vector (1 ∷ 2 ∷ [])) (vector (1 ∷ 2 ∷ 3 ∷ [])) (At (pos 2) One), Err Index)  -- 1 2⌽[2]1 2 3
    ∷ [])
rotated = refl

-- transpose
transposed : AllAnswer (
    (transpose_row two_by_three, Ok (numbers (3 ∷ 2 ∷ []) (1 ∷ 4 ∷ 2 ∷ 5 ∷ 3 ∷ 6 ∷ [])))  -- ⍉2 3⍴⍳6
    ∷ [])
transposed = refl

-- transpose by axes
transposed_by : AllAnswer (
    (transpose_by_row (vector (1 ∷ 1 ∷ [])) (numbers (3 ∷ 3 ∷ []) (1 ∷ 2 ∷ 3 ∷ 4 ∷ 5 ∷ 6 ∷ 7 ∷ 8 ∷ 9 ∷ [])) One, Ok (vector (1 ∷ 5 ∷ 9 ∷ [])))  -- 1 1⍉3 3⍴1 2 3 4 5 6 7 8 9
    ∷ (transpose_by_row (vector (1 ∷ 2 ∷ 1 ∷ [])) (numbers (2 ∷ 3 ∷ 2 ∷ []) (1 ∷ 2 ∷ 3 ∷ 4 ∷ 5 ∷ 6 ∷ 7 ∷ 8 ∷ 9 ∷ 10 ∷ 11 ∷ 12 ∷ [])) One, Ok (numbers (2 ∷ 3 ∷ []) (1 ∷ 3 ∷ 5 ∷ 8 ∷ 10 ∷ 12 ∷ [])))  -- 1 2 1⍉2 3 2⍴1 2 3 4 5 6 7 8 9 10 11 12
    ∷ (transpose_by_row (text []) (scalar 5) One, Ok (scalar 5))  -- ''⍉5
    ∷ (transpose_by_row (scalar 1) (scalar 5) One, Err Length)  -- 1⍉5
    ∷ (transpose_by_row (vector (1 ∷ 3 ∷ [])) two_by_two One, Err Domain)  -- 1 3⍉2 2⍴⍳4
    ∷ (transpose_by_row (vector (0 ∷ 1 ∷ [])) two_by_two One, Err Domain)  -- 0 1⍉2 2⍴⍳4
    ∷ (transpose_by_row (text (65 ∷ 66 ∷ [])) two_by_two One, Err Domain)  -- 'AB'⍉2 2⍴⍳4
    ∷ [])
transposed_by = refl

-- ---- A/B and A\B

-- replicate by zeros and ones
kept : AllAnswer (
    (replicate_row (vector (1 ∷ 0 ∷ 1 ∷ [])) (text (65 ∷ 66 ∷ 67 ∷ [])) Last, Ok (text (65 ∷ 67 ∷ [])))  -- 1 0 1/'ABC'
    ∷ (replicate_row (vector (1 ∷ 0 ∷ 1 ∷ [])) (numbers (3 ∷ 2 ∷ []) (1 ∷ 2 ∷ 3 ∷ 4 ∷ 5 ∷ 6 ∷ [])) First, Ok (numbers (2 ∷ 2 ∷ []) (1 ∷ 2 ∷ 5 ∷ 6 ∷ [])))  -- 1 0 1⌿3 2⍴1 2 3 4 5 6
    ∷ (replicate_row (vector (1 ∷ 2 ∷ [])) (vector (1 ∷ 2 ∷ 3 ∷ [])) Last, Err Length)  -- 1 2/1 2 3
    ∷ (replicate_row (vector (1 ∷ 0 ∷ [])) (scalar 5) (At (pos 1) One), Ok (vector (5 ∷ [])))  -- 1 0/[1]5
    ∷ (replicate_row (vector (1 ∷ 0 ∷ [])) (scalar 5) (At (pos 2) One), Err Index)  -- 1 0/[2]5
    ∷ (replicate_row (vector (1 ∷ 0 ∷ [])) two_by_two (At (pos 2) One), Ok (numbers (2 ∷ 1 ∷ []) (1 ∷ 3 ∷ [])))  -- 1 0/[2]2 2⍴⍳4
    ∷ (replicate_row (scalar 0) (vector (1 ∷ 2 ∷ 3 ∷ [])) Last, Ok (vector []))  -- 0/1 2 3
    ∷ [])
kept = refl

-- replicate by counts
replicated : AllAnswer (
    (replicate_row (vector (2 ∷ 0 ∷ 3 ∷ [])) (text (65 ∷ 66 ∷ 67 ∷ [])) Last, Ok (text (65 ∷ 65 ∷ 67 ∷ 67 ∷ 67 ∷ [])))  -- 2 0 3/'ABC'
    ∷ (replicate_row (scalar 2) (vector (1 ∷ 2 ∷ 3 ∷ [])) Last, Ok (vector (1 ∷ 1 ∷ 2 ∷ 2 ∷ 3 ∷ 3 ∷ [])))  -- 2/1 2 3
    ∷ (replicate_row (scalar 3) (scalar 5) Last, Ok (vector (5 ∷ 5 ∷ 5 ∷ [])))  -- 3/5
    ∷ (replicate_row (vector (1 ∷ 2 ∷ [])) (scalar 5) Last, Ok (vector (5 ∷ 5 ∷ 5 ∷ [])))  -- 1 2/5
    ∷ (replicate_row (integers (pos 1 ∷ neg_ℤ (pos 1) ∷ [])) (vector (5 ∷ 6 ∷ [])) Last, Err Domain)  -- 1 ¯1/5 6
    ∷ (replicate_row (scalar 1073741825) (vector []) Last, Ok (vector []))  -- 1073741825/⍳0
    ∷ (replicate_row (vector (1073741824 ∷ 1073741824 ∷ [])) (numbers (2 ∷ 0 ∷ []) []) First, Err Limit)  -- 1073741824 1073741824⌿2 0⍴0
    ∷ (replicate_row (vector []) (scalar 5) Last, Ok (vector []))  -- (⍳0)/5
    ∷ (replicate_row (minus 1) (vector []) Last, Err Domain)  -- ¯1/⍳0
    ∷ (replicate_row (vector (9223372036854775807 ∷ 9223372036854775807 ∷ [])) (vector (1 ∷ 2 ∷ [])) Last, Err Limit)  -- 9223372036854775807 9223372036854775807/1 2
    ∷ (replicate_row (text (65 ∷ 66 ∷ [])) (vector (5 ∷ 6 ∷ [])) Last, Err Domain)  -- 'AB'/5 6
    ∷ (replicate_row (scalar 1073741825) (scalar 0) Last, Err Limit)  -- 1073741825/0
    ∷ (replicate_row (integers (pos 1073741825 ∷ neg_ℤ (pos 1) ∷ [])) (vector (5 ∷ 6 ∷ [])) Last, Err Domain)  -- 1073741825 ¯1/5 6
    ∷ (replicate_row (scalar 2) (text []) Last, Ok (text []))  -- 2/''
    ∷ [])
replicated = refl

-- expand
expanded : AllAnswer (
    (expand_row (vector (1 ∷ 0 ∷ 1 ∷ [])) (text (65 ∷ 66 ∷ [])) Last, Ok (text (65 ∷ 32 ∷ 66 ∷ [])))  -- 1 0 1\'AB'
    ∷ (expand_row (scalar 1) (vector (1 ∷ 2 ∷ [])) Last, Err Length)  -- 1\1 2
    ∷ (expand_row (scalar 0) (scalar 5) Last, Ok (vector (0 ∷ [])))  -- 0\5
    ∷ (expand_row (vector (1 ∷ 0 ∷ 1 ∷ [])) (scalar 5) Last, Ok (vector (5 ∷ 0 ∷ 5 ∷ [])))  -- 1 0 1\5
    ∷ (expand_row (vector (1 ∷ 1 ∷ [])) (vector (5 ∷ [])) Last, Err Length)  -- 1 1\,5
    ∷ (expand_row (vector (2 ∷ 1 ∷ [])) (vector (1 ∷ 2 ∷ 3 ∷ [])) Last, Err Domain)  -- 2 1\1 2 3
    ∷ (expand_row (text []) (scalar 5) Last, Ok (vector []))  -- ''\5
    ∷ (expand_row (vector (0 ∷ 0 ∷ [])) (text []) Last, Ok (text (32 ∷ 32 ∷ [])))  -- 0 0\''
    ∷ (expand_row (vector (1 ∷ 0 ∷ [])) (numbers (1 ∷ 2 ∷ []) (3 ∷ 4 ∷ [])) (At (pos 1) One), Ok (numbers (2 ∷ 2 ∷ []) (3 ∷ 4 ∷ 0 ∷ 0 ∷ [])))  -- 1 0\[1]1 2⍴3 4
    ∷ (expand_row (vector (0 ∷ 0 ∷ [])) (numbers (0 ∷ 1073741824 ∷ []) []) First, Err Limit)  -- 0 0⍀0 1073741824⍴0
    ∷ [])
expanded = refl

-- ---- A[I;..] and A[I;..]←B

-- select
selected : AllAnswer (
    (select_row (vector (1 ∷ 2 ∷ 3 ∷ 4 ∷ 5 ∷ [])) (Some (numbers (2 ∷ 3 ∷ []) (1 ∷ 1 ∷ 1 ∷ 1 ∷ 1 ∷ 1 ∷ [])) ∷ []) One, Ok (numbers (2 ∷ 3 ∷ []) (1 ∷ 1 ∷ 1 ∷ 1 ∷ 1 ∷ 1 ∷ [])))  -- 1 2 3 4 5[2 3⍴1]
    ∷ (select_row two_by_two (Some (scalar 2) ∷ None ∷ []) One, Ok (vector (3 ∷ 4 ∷ [])))  -- (2 2⍴⍳4)[2;]
    ∷ (select_row two_by_two (Some (scalar 9) ∷ Some (letter 65) ∷ []) One, Err Domain)  -- (2 2⍴⍳4)[9;'A']
    ∷ (select_row two_by_two (Some (letter 65) ∷ []) One, Err Rank)  -- (2 2⍴⍳4)['A']
    ∷ (select_row two_by_two (Some (text []) ∷ None ∷ []) One, Ok (numbers (0 ∷ 2 ∷ []) []))  -- (2 2⍴⍳4)['';]
    ∷ (select_row two_by_two (Some (scalar 0) ∷ None ∷ []) One, Err Index)  -- (2 2⍴⍳4)[0;]
    ∷ (select_row two_by_two (Some (numbers (replicate 8 1) (1 ∷ [])) ∷ Some (numbers (replicate 8 1) (1 ∷ [])) ∷ []) One, Err Limit)  -- (2 2⍴⍳4)[1 1 1 1 1 1 1 1⍴1;1 1 1 1 1 1 1 1⍴1]
    ∷ (select_row two_by_two (Some (numbers (replicate 8 1) (9 ∷ [])) ∷ Some (numbers (replicate 8 1) (1 ∷ [])) ∷ []) One, Err Index)  -- (2 2⍴⍳4)[1 1 1 1 1 1 1 1⍴9;1 1 1 1 1 1 1 1⍴1]
    ∷ (select_row two_by_two (Some (scalar 2) ∷ Some (scalar 2) ∷ []) One, Ok (scalar 4))  -- (2 2⍴⍳4)[2;2]
    ∷ (select_row two_by_two (Some (scalar 3) ∷ Some (scalar 1) ∷ []) One, Err Index)  -- (2 2⍴⍳4)[3;1]
    ∷ (select_row (text (65 ∷ 66 ∷ 67 ∷ [])) (Some (vector (2 ∷ 0 ∷ [])) ∷ []) Zero, Ok (text (67 ∷ 65 ∷ [])))  -- 'ABC'[2 0], in origin 0
    ∷ [])
selected = refl

-- replace
replaced : AllAnswer (
    (replace_row (vector (1 ∷ 2 ∷ 3 ∷ 4 ∷ 5 ∷ [])) (Some (vector (2 ∷ 2 ∷ [])) ∷ []) (vector (7 ∷ 9 ∷ [])) One, Ok (vector (1 ∷ 9 ∷ 3 ∷ 4 ∷ 5 ∷ [])))  -- A[2 2]←7 9, where A is 1 2 3 4 5
    ∷ (replace_row two_by_two (Some (scalar 2) ∷ None ∷ []) (scalar 9) One, Ok (numbers (2 ∷ 2 ∷ []) (1 ∷ 2 ∷ 9 ∷ 9 ∷ [])))  -- A[2;]←9, where A is 2 2⍴⍳4
    ∷ (replace_row two_by_two (Some (scalar 1) ∷ Some (vector (1 ∷ 2 ∷ [])) ∷ []) (numbers (1 ∷ 2 ∷ []) (5 ∷ 6 ∷ [])) One, Err Rank)  -- A[1;1 2]←1 2⍴5 6, where A is 2 2⍴⍳4
    ∷ (replace_row two_by_two (Some (scalar 1) ∷ None ∷ []) (numbers (1 ∷ 1 ∷ 1 ∷ []) (5 ∷ [])) One, Ok (numbers (2 ∷ 2 ∷ []) (5 ∷ 5 ∷ 3 ∷ 4 ∷ [])))  -- A[1;]←1 1 1⍴5, where A is 2 2⍴⍳4
    ∷ (replace_row two_by_two (Some (vector (1 ∷ 2 ∷ [])) ∷ Some (scalar 1) ∷ []) (text (65 ∷ 66 ∷ 67 ∷ [])) One, Err Length)  -- A[1 2;1]←'ABC', where A is 2 2⍴⍳4
    ∷ (replace_row two_by_two (Some (vector []) ∷ Some (scalar 1) ∷ []) (letter 88) One, Err Domain)  -- A[⍳0;1]←'X', where A is 2 2⍴⍳4
    ∷ (replace_row two_by_two (Some (vector []) ∷ Some (scalar 1) ∷ []) (text []) One, Ok two_by_two)  -- A[⍳0;1]←'', where A is 2 2⍴⍳4
    ∷ (replace_row two_by_two (Some (scalar 1) ∷ Some (vector (1 ∷ [])) ∷ []) (vector []) One, Err Length)  -- A[1;,1]←⍳0, where A is 2 2⍴⍳4
    ∷ (replace_row (vector (1 ∷ 2 ∷ 3 ∷ [])) (Some (scalar 4) ∷ []) (scalar 1) One, Err Index)  -- A[4]←1, where A is 1 2 3
    ∷ (replace_row (vector (7 ∷ 7 ∷ 3 ∷ [])) (Some (vector (1 ∷ 3 ∷ [])) ∷ []) (vector (8 ∷ 9 ∷ [])) One, Ok (vector (8 ∷ 7 ∷ 9 ∷ [])))  -- A[1 3]←8 9, where A is 7 7 3
    ∷ [])
replaced = refl
