-- What a rehearsal tells of an establishment over a link, by all that was written to it and how many bytes were taken of it.
use Rattle.std.specs.Prelude.{◌≡◌, ℕ, None, Some, Result, Ok, Err, List, ◌++◌, ⊤}
use Rattle.std.specs.List.{AllByRecursion, concat}
use Rattle.mongo_wire.specs.declared.error.ErrorKind.{ErrorKind}
use Rattle.mongo_wire.specs.declared.error.ErrorKind.TheVariants.{OutOfMemory}
use Rattle.mongo_command.specs.declared.stream_description.StreamDescription.{StreamDescription}
use Rattle.mongo_establish.specs.declared.establisher.PooledConnection.{PooledConnection}
use Rattle.mongo_establish.specs.declared.establisher.EstablishError.{EstablishError}
use Rattle.mongo_settings.specs.declared.rehearsal.Rehearsal.{Rehearsal}
use Rattle.mongo_settings.specs.declared.rehearsal.RehearsalStatus.TheVariants.{Accepted, Refused}
use Rattle.mongo_settings.specs.Report.{CountsItself, front_length, sent_lines, read_count_line, accepted_lines, refused_lines}

-- The text is what was written, as frames, and how many bytes were taken. What isn't a whole frame at the end of what was written is
-- left out.
pub record AreTrafficLines (written : List ℕ) (taken : ℕ) (text : List ℕ) : Type 0 where
  pub told : (frames : List (List ℕ)) (rest : List ℕ) → AllByRecursion CountsItself frames → front_length rest ≡ None → written ≡ concat frames ++ rest
      → text ≡ sent_lines frames ++ read_count_line taken

-- the text is that, and these last lines
pub record IsReportOver (written : List ℕ) (taken : ℕ) (lines text : List ℕ) : Type 0 where
  pub front : List ℕ
  pub traffic : AreTrafficLines written taken front
  pub text_is : text ≡ front ++ lines

-- of a connection that was made
pub record ReportsMade (written : List ℕ) (taken : ℕ) (pooled : PooledConnection) (rehearsal : Rehearsal) : Type 0 where
  pub status : rehearsal.status ≡ Accepted
  pub text : (description : StreamDescription) → pooled.connection.stream_description ≡ Some description
      → IsReportOver written taken (accepted_lines description pooled.generation pooled.connection.server_id) rehearsal.report.items

-- a cause that a report tells
abbrev pub IsReported : ErrorKind → Type 0
IsReported OutOfMemory = ⊥
IsReported kind = ⊤

-- of a refusal
pub record ReportsRefused (written : List ℕ) (taken : ℕ) (refusal : EstablishError) (rehearsal : Rehearsal) : Type 0 where
  pub status : rehearsal.status ≡ Refused
  pub reported : IsReported refusal.cause.kind
  pub text : IsReportOver written taken (refused_lines refusal.handshake_phase refusal.cause.kind) rehearsal.report.items

-- of either
abbrev pub ReportsOutcome : List ℕ → ℕ → Result PooledConnection EstablishError → Rehearsal → Type 0
ReportsOutcome written taken (Ok pooled) rehearsal = ReportsMade written taken pooled rehearsal
ReportsOutcome written taken (Err refusal) rehearsal = ReportsRefused written taken refusal rehearsal
