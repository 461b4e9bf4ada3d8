-- What an insert of many documents comes to: what the replies to its batches say, added up.
use Rattle.std.specs.Prelude.{◌≡◌, ℕ, ◌+◌, Bool, true, List, [], ◌∷◌, ◌++◌, length, map, flat_map, sum_by, option_to_list}
use Rattle.mongo_wire.specs.declared.write_error.IndexedWriteError.{IndexedWriteError}
use Rattle.mongo_exec.specs.declared.insert_outcome.InsertOutcome.{InsertOutcome}
use Rattle.mongo_exec.specs.Reply.{Said, errors_in}

-- a batch, its reply and what that says
pub record Answered : Type 0 where
  pub batch : List (List ℕ)
  pub reply : List ℕ
  pub said : Said

-- a refused write of a batch that begins at a place of the list, by its place in the list
abbrev pub shifted : ℕ → IndexedWriteError → IndexedWriteError
shifted place error = record error { index = error.index + place }

-- the refused writes of batches, the first of which begins at the place, in the order of the list
abbrev pub errors_from : ℕ → List Answered → List IndexedWriteError
errors_from place [] = []
errors_from place (first ∷ more) = map (shifted place) (errors_in first.said) ++ errors_from (place + length first.batch) more

abbrev pub outcome_of : List Answered → InsertOutcome
outcome_of answered = record {
  inserted = sum_by (λ a. a.said.count) answered;
  write_errors = errors_from 0 answered;
  write_concern_errors = flat_map (λ a. option_to_list a.said.refused.write_concern_error) answered;
  batches = length answered;
}

-- nothing was inserted
abbrev pub nothing_inserted : InsertOutcome
nothing_inserted = outcome_of []

-- ---- where it stops

-- an ordered insert goes no further than a batch that had write errors
abbrev pub Stops : Bool → Answered → Type 0
Stops ordered answered = (ordered ≡ true) × (errors_in answered.said ≡ [] → ⊥)

-- all batches were sent up to the first that stops the insert, or all of the list
abbrev pub GoesTo : Bool → List Answered → List (List ℕ) → Type 0
GoesTo ordered [] rest = rest ≡ []
GoesTo ordered (last ∷ []) rest = (Stops ordered last → ⊥) → rest ≡ []
GoesTo ordered (first ∷ (second ∷ more)) rest = (Stops ordered first → ⊥) × GoesTo ordered (second ∷ more) rest
