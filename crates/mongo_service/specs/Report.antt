-- What is said of a stream's end, for people.
use Rattle.std.specs.Prelude.{ℕ, Option, None, Some, List, ◌++◌, codes}
use Rattle.mongo_service.specs.declared.fault.ServeFault.{ServeFault}
use Rattle.mongo_service.specs.declared.fault.ServeFault.TheVariants.{ReadFault, WriteFault, CutFrame, NoFrame, NoHello, ReplyTooLong, TooManyRequests, OutOfMemory}
use Rattle.mongo_service.specs.declared.serve.Served.{Served}

-- who was logged in
abbrev pub user_line : Option (List ℕ) → List ℕ
user_line None = codes "nobody was logged in\n"
user_line (Some name) = (codes "logged in: \"" ++ name) ++ codes "\"\n"

-- there was no memory
abbrev pub no_memory : List ℕ
no_memory = codes "out of memory\n"

-- how the stream ended
abbrev pub ending_line : Option ServeFault → List ℕ
ending_line None = codes "the client ended its stream\n"
ending_line (Some ReadFault) = codes "the link failed to give bytes\n"
ending_line (Some WriteFault) = codes "the link failed to take bytes\n"
ending_line (Some CutFrame) = codes "the stream ended within a frame\n"
ending_line (Some NoFrame) = codes "what came is no frame of this protocol\n"
ending_line (Some NoHello) = codes "an OP_QUERY asked for another command than hello\n"
ending_line (Some ReplyTooLong) = codes "a reply is too long\n"
ending_line (Some TooManyRequests) = codes "too many requests came\n"
ending_line (Some OutOfMemory) = no_memory

abbrev pub report_text : Served → List ℕ
report_text served = user_line served.user ++ ending_line served.fault

-- the first line was no settings
abbrev pub no_settings : List ℕ
no_settings = codes "the first line is no settings\n"

-- the link failed within the first line
abbrev pub line_failed : List ℕ
line_failed = codes "the link failed within the first line\n"
