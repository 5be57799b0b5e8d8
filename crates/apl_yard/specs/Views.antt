-- What an end of a deque of pieces knows, and how it comes to know more.
use Rattle.std.specs.Prelude.{ℕ, ◌+◌, [], ◌∷◌, ◌++◌}
use Rattle.apl_yard.specs.declared.rule.TakerView.{TakerView}

-- what the owner of a new deque with this number of thieves knows. A new thief knows what the owner of one with no thieves does
abbrev pub opening_view : ℕ → TakerView
opening_view thieves = record { pushed = []; thieves = thieves; taken = [] }

-- one more piece was pushed
abbrev pub with_pushed : TakerView → ℕ → TakerView
with_pushed v piece = record { pushed = v.pushed ++ piece ∷ []; thieves = v.thieves; taken = v.taken }

-- this end took one more piece, which was pushed at that position
abbrev pub with_taken : TakerView → ℕ → ℕ → TakerView
with_taken v position piece = record { pushed = v.pushed; thieves = v.thieves; taken = v.taken ++ (position, piece) ∷ [] }

-- there is one more thief
abbrev pub with_thief : TakerView → TakerView
with_thief v = record { pushed = v.pushed; thieves = v.thieves + 1; taken = v.taken }
