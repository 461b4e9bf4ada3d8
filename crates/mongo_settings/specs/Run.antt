-- A run of a program over settings: what it reads and what it writes its report to.
use Rattle.std.specs.Prelude.{◌≡◌, ℕ, Some, List}
use Rattle.mongo_wire.specs.Outside.{State}

-- a source or a link, and the sink of the report, before a run and after it
pub record Run (S K : Type 0) : Type 0 where
  pub source : S
  pub source_after : S
  pub sink : K
  pub sink_after : K

abbrev pub run_of : {S K : Type 0} → S → S → K → K → Run S K
run_of source source_after sink sink_after = record { source = source; source_after = source_after; sink = sink; sink_after = sink_after }

-- where the source tells its bytes, it had these left
abbrev pub GaveInput : State → (List ℕ → Type 0) → Type 0
GaveInput source P = (input : List ℕ) → source.left ≡ Some input → P input
