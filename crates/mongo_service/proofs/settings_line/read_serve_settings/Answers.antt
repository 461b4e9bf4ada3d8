use Rattle.std.proofs.Common.{rules}
use Rattle.mongo_service.proofs.LineRead.{line_taken_runs_out}
use Rattle.mongo_service.proofs.settings_line.read_serve_settings.Goals as goal

pub returns-in-Ok-clause-none : goal.returns-in-Ok-clause-none
returns-in-Ok-clause-none g c = search rules

pub returns-clause-memory : goal.returns-clause-memory
returns-clause-memory g c = λ is. line_taken_runs_out _ _ _ c.in_ok-line.ensures.line
