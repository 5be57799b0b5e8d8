-- The lines of a text that is put together from lines.
use Rattle.std.proofs.Common.{◌≡◌, ◌≢◌, ℕ, ◌==◌, ◌<◌, false, List, [], ◌∷◌, ◌++◌, length, refl, ap, ◌∙◌, arith, append_assoc}
use Rattle.std.specs.List.{All, flat_map}
use Rattle.std.proofs.lemmas.List.Elements.{All-head, All-tail}
use Rattle.std.proofs.lemmas.Bool.{ne_eqb}
use Rattle.apl_print.specs.Text.{ended}
use Rattle.apl_print.specs.Text.{line_feed}
use Rattle.apl_session.specs.Lines.{lines_of, before_first_line, IsUnbroken}

pub lines_of-line : (line rest : List ℕ) → IsUnbroken line → lines_of (line ++ line_feed ∷ rest) ≡ line ∷ lines_of rest
lines_of-line [] rest unbroken = refl
lines_of-line (byte ∷ line) rest unbroken =
    let other : byte ≢ line_feed = All-head (λ byte. byte ≢ line_feed) byte line unbroken in
    let differs : (byte == line_feed) ≡ false = ne_eqb byte line_feed other in
    let more = lines_of-line line rest (All-tail (λ byte. byte ≢ line_feed) byte line unbroken) in
    rw differs (ap (before_first_line byte) more)

pub lines_of-last : (line : List ℕ) → IsUnbroken line → 0 < length line → lines_of line ≡ line ∷ []
lines_of-last [] unbroken some = absurd (omega arith)
lines_of-last (byte ∷ []) unbroken some =
    let differs : (byte == line_feed) ≡ false = ne_eqb byte line_feed (All-head (λ byte. byte ≢ line_feed) byte [] unbroken) in
    rw differs refl
lines_of-last (byte ∷ next ∷ line) unbroken some =
    let differs : (byte == line_feed) ≡ false = ne_eqb byte line_feed (All-head (λ byte. byte ≢ line_feed) byte (next ∷ line) unbroken) in
    let more = lines_of-last (next ∷ line) (All-tail (λ byte. byte ≢ line_feed) byte (next ∷ line) unbroken) (omega arith) in
    rw differs (ap (before_first_line byte) more)

pub lines_of-joined : (lines : List (List ℕ)) (rest : List ℕ) → All IsUnbroken lines → lines_of (flat_map ended lines ++ rest) ≡ lines ++ lines_of rest
lines_of-joined [] rest unbroken = refl
lines_of-joined (line ∷ lines) rest unbroken =
    let more = lines_of-joined lines rest (All-tail IsUnbroken line lines unbroken) in
    let first = lines_of-line line (flat_map ended lines ++ rest) (All-head IsUnbroken line lines unbroken) in
    let shape : flat_map ended (line ∷ lines) ++ rest ≡ line ++ line_feed ∷ (flat_map ended lines ++ rest) = simp append_assoc in
    ap lines_of shape ∙ first ∙ ap (λ lines. line ∷ lines) more
