-- The names of the commands that a server alone knows.
use Rattle.std.specs.Prelude.{ℕ, List, codes}

abbrev pub ping_command_name : List ℕ
ping_command_name = codes "ping"

-- by its name, and as servers take it too
abbrev pub build_info_command_name : List ℕ
build_info_command_name = codes "buildInfo"

abbrev pub lowercase_build_info_command_name : List ℕ
lowercase_build_info_command_name = codes "buildinfo"

abbrev pub end_sessions_command_name : List ℕ
end_sessions_command_name = codes "endSessions"
