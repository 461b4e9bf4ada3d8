-- The tasks of the benchmark: the words that ask for each, and what it prints.
use Rattle.std.specs.Prelude.{◌≡◌, ◌+◌, ◌≤◌, ◌<◌, ◌^◌, ◌⊎◌, ℕ, List, [], ◌∷◌, ◌++◌, codes, Option}
use Rattle.std.specs.Fmt.{decimal}
use Rattle.std.specs.Io.KnownBytes.{Appends}
use Rattle.hex.specs.Hex.{encode_lower}
use Rattle.mongo_bson.specs.Framed.{IsFramed}
use Rattle.mongo_bson.specs.Document.{IsReadable, maximum_depth}
use Rattle.mongo_mac.specs.Digests.{sha1, sha256}
use Rattle.mongo_mac.specs.Hi.{hi_of}
use Rattle.mongo_bench.specs.declared.run.BenchStatus.{BenchStatus}
use Rattle.mongo_bench.specs.declared.run.BenchStatus.TheVariants.{Done, Usage, SinkFault, NoMemory}
use Rattle.mongo_bench.specs.declared.task.Hash.{Hash}
use Rattle.mongo_bench.specs.declared.task.Hash.TheVariants.{Sha1, Sha256}
use Rattle.mongo_bench.specs.declared.task.Pass.{Pass}
use Rattle.mongo_bench.specs.declared.task.Pass.TheVariants.{Iterate, Readable}
use Rattle.mongo_bench.specs.declared.task.DocumentShape.{DocumentShape}
use Rattle.mongo_bench.specs.declared.task.DocumentShape.TheVariants.{Nested, Flat, TooDeep}
use Rattle.mongo_bench.specs.declared.task.Direction.{Direction}
use Rattle.mongo_bench.specs.declared.task.Direction.TheVariants.{Write, Read, ReadOwned}
use Rattle.mongo_bench.specs.declared.task.FrameSize.{FrameSize}
use Rattle.mongo_bench.specs.declared.task.FrameSize.TheVariants.{Small, Middle, Large}
use Rattle.mongo_bench.specs.declared.task.BenchTask.{BenchTask}
use Rattle.mongo_bench.specs.declared.task.BenchTask.TheVariants.{Derive, Walk, Document, Frames, Insert, Login}

-- the password and the salt of each derivation, those of RFC 5802, section 5
abbrev pub example_password : List ℕ
example_password = codes "pencil"

abbrev pub example_salt : List ℕ
example_salt = 0x41 ∷ 0x25 ∷ 0xC2 ∷ 0x47 ∷ 0xE4 ∷ 0x3A ∷ 0xB1 ∷ 0xE9 ∷ 0x3C ∷ 0x6D ∷ 0xFF ∷ 0x76 ∷ []

-- the text writes a count: a number from 1 to 2 ^ 32 - 1 in decimal digits with no sign and no
-- leading zero
abbrev pub IsTaskCount : List ℕ → ℕ → Type 0
IsTaskCount text count = (1 ≤ count) × (count < 2 ^ 32) × (text ≡ decimal count)

-- the first word of the tasks that have several
abbrev pub document_word : List ℕ
document_word = codes "document"

abbrev pub frames_word : List ℕ
frames_word = codes "frames"

abbrev pub insert_word : List ℕ
insert_word = codes "insert"

abbrev pub login_word : List ℕ
login_word = codes "login"

-- the words for a hash, a pass and a shape
abbrev pub name_of_hash : Hash → List ℕ
name_of_hash Sha1 = codes "hi-sha1"
name_of_hash Sha256 = codes "hi-sha256"

abbrev pub name_of_login : Hash → List ℕ
name_of_login Sha1 = codes "SHA1"
name_of_login Sha256 = codes "SHA256"

abbrev pub name_of_pass : Pass → List ℕ
name_of_pass Iterate = codes "iterate"
name_of_pass Readable = codes "readable"

abbrev pub name_of_shape : DocumentShape → List ℕ
name_of_shape Nested = codes "nested"
name_of_shape Flat = codes "flat"
name_of_shape TooDeep = codes "too-deep"

-- the bytes of a frame, and the words for frames
abbrev pub size_of_frame : FrameSize → ℕ
size_of_frame Small = 100
size_of_frame Middle = 10000
size_of_frame Large = 16777216

abbrev pub name_of_direction : Direction → List ℕ
name_of_direction Write = codes "write"
name_of_direction Read = codes "read"
name_of_direction ReadOwned = codes "read-owned"

abbrev pub name_of_size : FrameSize → List ℕ
name_of_size Small = codes "100"
name_of_size Middle = codes "10000"
name_of_size Large = codes "16777216"

-- how often a task does what it does
abbrev pub task_count : BenchTask → ℕ
task_count (Derive hash count) = count
task_count (Walk pass shape count) = count
task_count (Document shape) = 1
task_count (Frames direction size count) = count
task_count (Insert count) = count
task_count (Login hash count) = count

-- the words that ask for a task
abbrev pub task_words : BenchTask → List (List ℕ)
task_words (Derive hash count) = name_of_hash hash ∷ decimal count ∷ []
task_words (Walk pass shape count) = name_of_pass pass ∷ name_of_shape shape ∷ decimal count ∷ []
task_words (Document shape) = document_word ∷ name_of_shape shape ∷ []
task_words (Frames direction size count) = frames_word ∷ name_of_direction direction ∷ name_of_size size ∷ decimal count ∷ []
task_words (Insert count) = insert_word ∷ decimal count ∷ []
task_words (Login hash count) = login_word ∷ name_of_login hash ∷ decimal count ∷ []

abbrev pub AsksTask : List (List ℕ) → BenchTask → Type 0
AsksTask words task = (words ≡ task_words task) × (1 ≤ task_count task) × (task_count task < 2 ^ 32)

-- the words ask for no task
abbrev pub AsksNothing : List (List ℕ) → Type 0
AsksNothing words = (task : BenchTask) → ¬ (AsksTask words task)

-- the steps that a task counts: those of a derivation; those of logins, the user's key once for the server and once for the
-- client, however many there are
abbrev pub Costs : BenchTask → BenchStatus → ℕ → ℕ → Type 0
Costs (Derive hash count) status old new = new ≡ old + count
Costs (Login hash count) Done old new = new ≡ old + 8192
Costs (Login hash count) Usage old new = new ≡ old
Costs (Login hash count) status old new = old ≤ new
Costs task status old new = new ≡ old

-- the bytes that a derivation gives
abbrev pub derived_by : Hash → ℕ → List ℕ
derived_by Sha1 count = hi_of sha1 example_password example_salt count
derived_by Sha256 count = hi_of sha256 example_password example_salt count

-- the line that a derivation prints: the hex of those bytes
abbrev pub derived_line : Hash → ℕ → List ℕ
derived_line hash count = encode_lower (derived_by hash count) ++ codes "\n"

-- what a pass tells of a document: a number, or whether it is readable
abbrev pub PassFinds : Pass → List ℕ → List ℕ → Type 0
PassFinds Iterate document text = (elements : ℕ) × (text ≡ decimal elements ++ codes "\n")
PassFinds Readable document text =
    (IsReadable maximum_depth document × (text ≡ codes "readable\n")) ⊎ (¬ (IsReadable maximum_depth document) × (text ≡ codes "not readable\n"))

-- what was written grew by what the pass tells of the document
abbrev pub HasPrintedFinding : Pass → List ℕ → Option (List ℕ) → Option (List ℕ) → Type 0
HasPrintedFinding pass document old new = (text : List ℕ) × PassFinds pass document text × Appends old new text

-- what a task prints: a derivation its line, a walk what its pass tells of a document, a document its bytes, frames
-- and commands a number, and logins how many were accepted, all of them
abbrev pub Prints : BenchTask → List ℕ → Type 0
Prints (Derive hash count) text = text ≡ derived_line hash count
Prints (Walk pass shape count) text = (document : List ℕ) × IsFramed document × PassFinds pass document text
Prints (Document shape) text = IsFramed text
Prints (Frames direction size count) text = (length : ℕ) × (text ≡ decimal length ++ codes "\n")
Prints (Insert count) text = (length : ℕ) × (text ≡ decimal length ++ codes "\n")
Prints (Login hash count) text = text ≡ decimal count ++ codes "\n"

-- what was written grew by what the task prints
abbrev pub HasPrinted : BenchTask → Option (List ℕ) → Option (List ℕ) → Type 0
HasPrinted task old new = (text : List ℕ) × Prints task text × Appends old new text

-- the number that the process ends with
abbrev pub bench_code : BenchStatus → ℕ
bench_code Done = 0
bench_code Usage = 3
bench_code SinkFault = 5
bench_code NoMemory = 6
